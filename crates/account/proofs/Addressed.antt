-- The bridge: what the account reads in the address registers, and decides of them, is what `geometry` does.
use Rattle.std.proofs.Common.{Ok, Err}
use Prim.Native.Nat.{ℕ, ◌+◌, ◌-◌, ◌*◌, ◌/◌, ◌%◌}
use mathlib.Core.Bool.{Bool, true, false, not, ◌||◌, false≢true}
use mathlib.Core.Path.{◌≡◌, refl, sym, ap, ◌∙◌}
use native.Mathlib.Omega.{arith}
use lib.Dec.{ltb, leb, eqb}
use borrow.Author.Tests.{eq-eqb, ne_eqb, lt-ltb, le-ltb, leb-true, leb-false}
use Rattle.ground.proofs.Below.{not_below}
use Rattle.ground.specs.Choice.{pick, every}
use Rattle.ground.proofs.Picks.{both_of}
use Rattle.geometry.specs.declared.Geometry.{Geometry}
use Rattle.geometry.specs.declared.Address.{Address}
use Rattle.geometry.specs.declared.Spot.{Spot}
use Rattle.geometry.specs.Address.{by_lba, head_of, cylinder_of, lba_of, chs_index, room_of, locate_lba, locate_chs, locate, good_at, Located}
use Rattle.account.specs.Numbers.{code_head_or_sector, code_cylinder_or_lba}
use Rattle.account.specs.Addressed.{Addressed, At, Bad, selects_lba, cylinder_number, lba_number, judged, addressed_by}
use Rattle.geometry.specs.declared.BadAddress.{BadAddress}

-- a decision of `geometry` in the account's words
abbrev pub as_addressed : Located → Addressed
as_addressed (Ok spot) = At spot.index
as_addressed (Err BadAddress.HeadOrSector) = Bad code_head_or_sector
as_addressed (Err BadAddress.Cylinder) = Bad code_cylinder_or_lba
as_addressed (Err BadAddress.Lba) = Bad code_cylinder_or_lba

abbrev is_at : Addressed → Bool
is_at (At i) = true
is_at (Bad code) = false

abbrev index_at : Addressed → ℕ
index_at (At i) = i
index_at (Bad code) = 0

-- in a room of so many sectors
pub good_at_lem : (l : Located) (room i : ℕ) → as_addressed l ≡ At i → ((p : Spot) → l ≡ Ok p → l ≡ good_at room p.index) → l ≡ good_at room i
good_at_lem (Ok spot) room i e f = f spot refl ∙ ap (λ (x : Addressed). good_at room (index_at x)) e
good_at_lem (Err BadAddress.HeadOrSector) room i e f = absurd (false≢true (ap is_at e))
good_at_lem (Err BadAddress.Cylinder) room i e f = absurd (false≢true (ap is_at e))
good_at_lem (Err BadAddress.Lba) room i e f = absurd (false≢true (ap is_at e))

-- ---- what the registers say

pub selects_is : (a : Address) → selects_lba a ≡ by_lba a
unfolding selects_lba by_lba
selects_is a = go (leb 64 (a.head % 128)) refl
  where
    go : (b : Bool) → leb 64 (a.head % 128) ≡ b → b ≡ eqb (a.head / 64 % 2) 1
    go true e = let x = leb-true 64 (a.head % 128) e in sym (eq-eqb (a.head / 64 % 2) 1 (omega arith))
    go false e = let x = leb-false 64 (a.head % 128) e in sym (ne_eqb (a.head / 64 % 2) 1 (omega arith))

pub lba_is : (a : Address) → lba_number a ≡ lba_of a
lba_is a = omega arith

pub cylinder_is : (a : Address) → cylinder_number a ≡ cylinder_of a
cylinder_is a = omega arith

-- ---- what is bad is not good

-- s 1..S
abbrev in_track : ℕ → ℕ → Bool
in_track s n = pick (leb 1 s) (pick (leb s n) true false) false

not_in_track : (s n : ℕ) → (eqb s 0 || ltb n s) ≡ not (in_track s n)
not_in_track s n = go (leb 1 s) (leb s n) refl refl
  where
    go : (b c : Bool) → leb 1 s ≡ b → leb s n ≡ c → (eqb s 0 || ltb n s) ≡ not (pick b (pick c true false) false)
    go true true e f = let x = leb-true 1 s e in let y = leb-true s n f in rw (ne_eqb s 0 (omega arith), le-ltb n s y)
    go true false e f = let x = leb-true 1 s e in let y = leb-false s n f in rw (ne_eqb s 0 (omega arith), lt-ltb n s y)
    go false c e f = let x = leb-false 1 s e in rw (eq-eqb s 0 (omega arith))

-- in LBA the room is N: t and r are the one test
addressed_by_lem : (l t r u v w : Bool) (room i j k : ℕ) → (l ≡ true → r ≡ t) → (v ≡ true → j ≡ k) →
    pick l (judged false (not t) Bad (At i)) (judged (not u || not v) (not w) Bad (At j))
    ≡ as_addressed (pick l (pick r (good_at room i) (Err BadAddress.Lba)) (pick (pick u v false) (pick w (good_at room k) (Err BadAddress.Cylinder)) (Err BadAddress.HeadOrSector)))
addressed_by_lem true true r u v w room i j k e h = rw (e refl)
addressed_by_lem true false r u v w room i j k e h = rw (e refl)
addressed_by_lem false t r true true true room i j k e h = ap At (h refl)
addressed_by_lem false t r true true false room i j k e h = refl
addressed_by_lem false t r true false w room i j k e h = refl
addressed_by_lem false t r false v w room i j k e h = refl

pub addressed_is : (a : Address) (g : Geometry) (n : ℕ) → addressed_by a g n ≡ as_addressed (locate a g n)
unfolding addressed_by locate locate_lba locate_chs every
addressed_is a g n =
    rw (selects_is a, lba_is a, cylinder_is a, not_below (lba_of a) n, not_below (head_of a) g.heads, not_in_track a.sector g.sectors, not_below (cylinder_of a) g.cylinders)
    (addressed_by_lem (by_lba a) (ltb (lba_of a) n) (ltb (lba_of a) (room_of a g n)) (ltb (head_of a) g.heads) (in_track a.sector g.sectors) (ltb (cylinder_of a) g.cylinders) (room_of a g n) (lba_of a)
    ((cylinder_of a * g.heads + head_of a) * g.sectors + (a.sector - 1)) (chs_index (cylinder_of a) (head_of a) a.sector g)
    (λ e. unfold room_of in rw e refl)
    (λ e. let x = leb-true 1 a.sector (both_of (leb 1 a.sector) _ e).0 in omega arith))
