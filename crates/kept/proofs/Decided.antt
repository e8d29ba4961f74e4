-- What the refusals before an access leave: an option that may be written, and no register written while SRESET holds.
use Rattle.std.proofs.Common.{Ok, Err}
use Prim.Native.Nat.{ℕ, ◌*◌, ◌%◌, ◌≤◌}
use mathlib.Core.Bool.{Bool, true, false}
use mathlib.Core.Path.{◌≡◌, refl, sym, subst, ◌∙◌}
use native.Mathlib.Omega.{arith}
use lib.Dec.{eqb}
use lib.ListN.{length}
use borrow.Author.Tests.{eqb-true, eq-eqb, ne_eqb, le-leb}
use Rattle.ground.proofs.Picks.{pick-elim, neither}
use Rattle.answers.specs.declared.Refusal.TheVariants.{NotWellMade, StoreLength, MarksLength, TupleBufferLength, HeldBySreset, SpaceSilent}
use Rattle.maps.specs.declared.Access.{Access}
use Rattle.maps.specs.declared.Mode.{Mode}
use Rattle.maps.specs.declared.Mode.TheVariants.{PcCard, TrueIde}
use Rattle.maps.specs.declared.Target.TheVariants.{Tuple, Option, Named, Data}
use Rattle.maps.specs.Spaces.{answers_at}
use Rattle.maps.proofs.SameOffset.{silent_stands}
use Rattle.maps.proofs.Standings.{Known, stands_known}
use Rattle.registers.specs.declared.State.{State}
use Rattle.registers.specs.State.{sreset_in, index_in, total_in}
use Rattle.registers.specs.Machine.{Machine}
use Rattle.registers.specs.WellMade.{well_made, index_fits, sreset_fits}
use Rattle.card.specs.declared.Meaning.{Meaning}
use Rattle.card.specs.Access.{Asked, standing, held_away, decided, meaning}
use Rattle.card.proofs.Decided.{stands, decided_as}
use Rattle.card.proofs.Verdicts.{meaning_as}
use Rattle.kept.specs.Allowed.{Allowed}
use Rattle.maps.specs.Rows.{Standing}

-- rows 8 and 7, then what stands there
pub decided-elim : (P : Meaning → Type 0) (s : State) (a : Asked) → P (Meaning.Refused HeldBySreset) → P (Meaning.Refused SpaceSilent) →
    (held_away s.option a.access ≡ false → answers_at a.access.space s.made.mode (index_in s.option) ≡ true → P (standing (stands s a) a)) →
    P (decided s a)
decided-elim P s a x y f =
    subst P (sym (decided_as s a))
    (pick-elim P (held_away s.option a.access) _ _ (λ h. x) (λ h. by_answer (answers_at a.access.space s.made.mode (index_in s.option)) refl h))
  where
    by_answer : (t : Bool) → answers_at a.access.space s.made.mode (index_in s.option) ≡ t → held_away s.option a.access ≡ false → P (standing (stands s a) a)
    by_answer true e h = f h e
    by_answer false e h = subst (λ (z : Standing). P (standing z a)) (sym (silent_stands s.made.mode (index_in s.option) a.access e)) y

-- rows 12, 2, 3 and 5, then what is decided
pub meaning-elim : (P : Meaning → Type 0) (m : Machine) (a : Asked) →
    P (Meaning.Refused NotWellMade) → P (Meaning.Refused StoreLength) → P (Meaning.Refused MarksLength) → P (Meaning.Refused TupleBufferLength) →
    (well_made m.phase m.state ≡ true → length m.store ≡ 512 * total_in m.state → length m.marks ≡ total_in m.state → length a.tuples ≡ 256 →
    P (decided m.state a)) →
    P (meaning m a)
meaning-elim P m a x y z u f =
    subst P (sym (meaning_as m a))
    (pick-elim P (well_made m.phase m.state) _ _
    (λ w. pick-elim P (eqb (length m.store) _) _ _
    (λ s. pick-elim P (eqb (length m.marks) _) _ _
    (λ k. pick-elim P (eqb (length a.tuples) 256) _ _ (λ t. f w (eqb-true _ _ s) (eqb-true _ _ k) (eqb-true _ _ t)) (λ t. u))
    (λ k. z))
    (λ s. y))
    (λ w. x))

pub meaning-decided : (m : Machine) (a : Asked) → well_made m.phase m.state ≡ true →
    length m.store ≡ 512 * total_in m.state → length m.marks ≡ total_in m.state → length a.tuples ≡ 256 → meaning m a ≡ decided m.state a
meaning-decided m a e s k t = meaning_as m a ∙ rw (e, eq-eqb _ _ s, eq-eqb _ _ k, eq-eqb _ _ t)

-- attribute memory answers in mode 0 only
sreset_fits_lem : (mode : Mode) (space index v : ℕ) → space ≡ 0 → answers_at space mode index ≡ true → sreset_fits mode v ≡ true
unfolding answers_at sreset_fits
sreset_fits_lem PcCard space index v z e = refl
sreset_fits_lem TrueIde space index v z e = let t = eqb-true space 3 e in absurd (omega arith)

index_fits_lem : (v : ℕ) → v % 64 ≤ 3 → index_fits (v % 256) ≡ true
unfolding index_fits
index_fits_lem v h = le-leb (v % 256 % 64) 3 (omega arith)

-- outside attribute memory nothing is reached while SRESET holds
free : (option : ℕ) (a : Access) → (a.space ≡ 0 → ⊥) → held_away option a ≡ false → sreset_in option ≡ false
unfolding held_away
free option a n e = (neither (sreset_in option) false (rw (ne_eqb a.space 0 n) at e)).0

stands_allowed : (t : Standing) (s : State) (a : Asked) → Known a.access t →
    held_away s.option a.access ≡ false →
    answers_at a.access.space s.made.mode (index_in s.option) ≡ true →
    Allowed (standing t a) s
stands_allowed (Ok (Tuple n)) s a f h e = tt
stands_allowed (Ok Option) s a f h e =
    pick-elim (λ (k : Meaning). Allowed k s) a.access.write _ _
    (λ w. (index_fits_lem a.access.value (f.1 w), sreset_fits_lem s.made.mode a.access.space (index_in s.option) (a.access.value % 256) f.0 e))
    (λ w. tt)
stands_allowed (Ok (Named r)) s a f h e =
    pick-elim (λ (k : Meaning). Allowed k s) a.access.write _ _
    (λ w. (free s.option a.access f.0 h, omega arith))
    (λ w. tt)
stands_allowed (Ok (Data port)) s a f h e = pick-elim (λ (k : Meaning). Allowed k s) a.access.write _ _ (λ w. tt) (λ w. tt)
stands_allowed (Err r) s a f h e = tt

pub decided-allowed : (s : State) (a : Asked) → Allowed (decided s a) s
decided-allowed s a =
    decided-elim (λ (k : Meaning). Allowed k s) s a tt tt
    (λ h e. stands_allowed (stands s a) s a (stands_known s.made.mode (index_in s.option) a.access _ refl) h e)

pub meaning-allowed : (m : Machine) (a : Asked) → Allowed (meaning m a) m.state
meaning-allowed m a = meaning-elim (λ (k : Meaning). Allowed k m.state) m a tt tt tt tt (λ w s k t. decided-allowed m.state a)
