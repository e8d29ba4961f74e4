-- Outside attribute memory space, index and address matter only through the offset: the same offset means the same in any two maps that answer.
use Rattle.std.proofs.Common.{Err}
use Prim.Native.Nat.{ℕ}
use mathlib.Core.Path.{◌≡◌, sym, ap, ◌∙◌}
use mathlib.Core.Bool.{true, false}
use borrow.Author.Tests.{ne_eqb}
use Rattle.answers.specs.declared.Refusal.TheVariants.{SpaceSilent}
use Rattle.maps.specs.declared.Access.{Access}
use Rattle.maps.specs.declared.Mode.{Mode}
use Rattle.maps.specs.Spaces.{answers_at}
use Rattle.maps.specs.Offsets.{Offset, offset_at}
use Rattle.maps.specs.Places.{offset_place, map_place, place_at}
use Rattle.maps.specs.Rows.{misfits, above_three, stands_as, stands_at}

-- the access at another address, of another space
abbrev pub moved_to : ℕ → ℕ → Access → Access
moved_to space address a = record { space = space; width = a.width; write = a.write; address = address; value = a.value }

-- a space that does not answer
pub silent_stands : (mode : Mode) (index : ℕ) (a : Access) → answers_at a.space mode index ≡ false → stands_at mode index a ≡ Err SpaceSilent
unfolding stands_at place_at
silent_stands mode index a e = simp e

pub by_offset : (mode : Mode) (index : ℕ) (a : Access) → answers_at a.space mode index ≡ true → (a.space ≡ 0 → ⊥) →
    stands_at mode index a ≡ stands_as (offset_place (offset_at a.space index a.address)) a
unfolding stands_at place_at map_place
by_offset mode index a r n = simp (r, ne_eqb _ _ n)

pub same_offset : (m n : Mode) (i j space address : ℕ) (a : Access) →
    answers_at a.space m i ≡ true → (a.space ≡ 0 → ⊥) → answers_at space n j ≡ true → (space ≡ 0 → ⊥) →
    offset_at a.space i a.address ≡ offset_at space j address → stands_at m i a ≡ stands_at n j (moved_to space address a)
unfolding misfits above_three
same_offset m n i j space address a p q r s e =
    by_offset m i a p q ∙ ap (λ (o : Offset). stands_as (offset_place o) a) e ∙ sym (by_offset n j (moved_to space address a) r s)
