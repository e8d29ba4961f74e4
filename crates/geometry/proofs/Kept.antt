-- What the next address keeps: the way of addressing, bits 7..4 of Drive/Head, and registers of 8 bits.
use Prim.Native.Nat.{ℕ, ◌+◌, ◌*◌, ◌/◌, ◌%◌, ◌<◌}
use mathlib.Core.Path.{◌≡◌, refl, ap, ◌∙◌}
use native.Mathlib.Omega.{arith}
use lib.Dec.{ltb, eqb}
use Rattle.ground.proofs.Picks.{pick-elim}
use Rattle.geometry.specs.declared.Geometry.{Geometry}
use Rattle.geometry.specs.declared.Address.{Address}
use Rattle.geometry.specs.Address.{by_lba, head_of, cylinder_of, lba_of}
use Rattle.geometry.specs.Next.{at_lba, at_chs, next_chs, next_of}

-- registers of 8 bits.
abbrev pub Bytes : Address → Type 0
Bytes a = (a.sector < 256) × (a.low < 256) × (a.high < 256) × (a.head < 256)

bit_kept : (d h : ℕ) → (d / 16 * 16 + h % 16) / 64 % 2 ≡ d / 64 % 2
bit_kept d h = omega arith

-- another head nibble is the same way of addressing.
pub same_way : (a b : Address) (h : ℕ) → b.head ≡ a.head / 16 * 16 + h % 16 → by_lba b ≡ by_lba a
unfolding by_lba
same_way a b h e = ap (λ (x : ℕ). eqb (x / 64 % 2) 1) e ∙ ap (λ (x : ℕ). eqb x 1) (bit_kept a.head h)

abbrev pub Kept : Address → Address → Type 0
Kept a b = (by_lba b ≡ by_lba a) × (b.head / 16 ≡ a.head / 16) × (Bytes a → Bytes b)

kept : (a b : Address) (h : ℕ) → b.head ≡ a.head / 16 * 16 + h % 16 → (b.sector < 256) × (b.low < 256) × (b.high < 256) → Kept a b
kept a b h e x = (same_way a b h e, omega arith, λ f. let w = f.3 in (x.0, x.1, x.2, omega arith))

kept_chs : (a : Address) (c h s : ℕ) → Kept a (at_chs a c h s)
kept_chs a c h s = kept a (at_chs a c h s) h refl (omega arith)

pub next_kept : (a : Address) (g : Geometry) → Kept a (next_of a g)
unfolding next_of next_chs
next_kept a g =
    pick-elim (Kept a) (by_lba a) _ _
    (λ t. kept a (at_lba a (lba_of a + 1)) ((lba_of a + 1) / 16777216) refl (omega arith))
    (λ t. pick-elim (Kept a) (ltb a.sector g.sectors) _ _
    (λ u. kept_chs a (cylinder_of a) (head_of a) (a.sector + 1))
    (λ u. pick-elim (Kept a) (ltb (head_of a + 1) g.heads) _ _
    (λ v. kept_chs a (cylinder_of a) (head_of a + 1) 1)
    (λ v. kept_chs a (cylinder_of a + 1) 0 1)))
