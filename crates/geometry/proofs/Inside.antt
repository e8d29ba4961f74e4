-- A good address names a sector inside the store, and inside the room of its way of addressing, of which at least that sector remains.
use Rattle.std.proofs.Common.{Ok, Err}
use Prim.Native.Nat.{ℕ, suc, ◌+◌, ◌-◌, ◌*◌, ◌≤◌, ◌<◌}
use mathlib.Core.Bool.{Bool, true, false, false≢true}
use mathlib.Core.List.{[], ◌∷◌}
use mathlib.Core.Path.{◌≡◌, refl, sym, ap, ◌∙◌}
use native.Mathlib.Nat.{mul-le-mul_right}
use native.Mathlib.Omega.{arith}
use lib.Dec.{ltb, leb}
use borrow.Author.Tests.{ltb-true, leb-true, lt-ltb, le-leb}
use Rattle.ground.specs.Choice.{pick, every}
use Rattle.geometry.specs.declared.Geometry.{Geometry}
use Rattle.geometry.specs.declared.Address.{Address}
use Rattle.geometry.specs.declared.Spot.{Spot}
use Rattle.geometry.specs.Limits.{capacity_of, current_for}
use Rattle.geometry.specs.Address.{by_lba, head_of, cylinder_of, lba_of, chs_index, locate_lba, locate_chs, locate, room_by, room_of, valid_address, index_of, good_at, Located}
use Rattle.ground.proofs.Every.{each}
use Rattle.geometry.proofs.LimitFacts.{current_room}
use Rattle.geometry.specs.declared.BadAddress.{BadAddress}

-- 01's conditions on a CHS address: h<H, s 1..S, c<C.
abbrev pub Chs : ℕ → ℕ → ℕ → Geometry → Type 0
Chs c h s g = (h < g.heads) × (1 ≤ s) × (s ≤ g.sectors) × (c < g.cylinders)

pub chs_less : (c h s : ℕ) (g : Geometry) → Chs c h s g → chs_index c h s g < capacity_of g
chs_less c h s g f =
    let a = f.0 in
    let b = f.2 in
    let p : suc c * g.heads ≤ g.cylinders * g.heads = mul-le-mul_right g.heads f.3 in
    let q : suc (c * g.heads + h) ≤ g.cylinders * g.heads = omega arith in
    let u : suc (c * g.heads + h) * g.sectors ≤ capacity_of g = mul-le-mul_right g.sectors q in
    let d = f.1 in
    omega arith

-- such an address is good, and a good one is such; its spot has what remains of the room.
pub chs-good : (c h s : ℕ) (g : Geometry) (room : ℕ) → Chs c h s g → locate_chs c h s g room ≡ good_at room (chs_index c h s g)
unfolding locate_chs every
chs-good c h s g room f = rw (lt-ltb _ _ f.0, le-leb _ _ f.1, le-leb _ _ f.2, lt-ltb _ _ f.3)

abbrev remain_in : Located → ℕ
remain_in (Ok p) = p.remain
remain_in (Err BadAddress.HeadOrSector) = 0
remain_in (Err BadAddress.Cylinder) = 0
remain_in (Err BadAddress.Lba) = 0

stands : (room i : ℕ) (p : Spot) → good_at room i ≡ Ok p → (p.index ≡ i) × (p.remain ≡ room - p.index)
stands room i p e = let q = sym (ap index_of e) in (q, rw q (sym (ap remain_in e)))

chosen : (t u : Bool) (room i : ℕ) (p : Spot) → pick t (pick u (good_at room i) (Err BadAddress.Cylinder)) (Err BadAddress.HeadOrSector) ≡ Ok p →
    (t ≡ true) × (u ≡ true) × (p.index ≡ i) × (p.remain ≡ room - p.index)
chosen true true room i p e = let k = stands room i p e in (refl, refl, k.0, k.1)
chosen true false room i p e = absurd (false≢true (ap valid_address e))
chosen false u room i p e = absurd (false≢true (ap valid_address e))

pub chs_facts : (c h s : ℕ) (g : Geometry) (room : ℕ) (p : Spot) → locate_chs c h s g room ≡ Ok p → Chs c h s g × (p.index ≡ chs_index c h s g) × (p.remain ≡ room - p.index)
unfolding locate_chs
chs_facts c h s g room p e =
    let k = chosen (every (ltb h g.heads ∷ leb 1 s ∷ leb s g.sectors ∷ [])) (ltb c g.cylinders) room (chs_index c h s g) p e in
    let t = each (ltb h g.heads ∷ leb 1 s ∷ leb s g.sectors ∷ []) k.0 in
    ((ltb-true _ _ (t 0), leb-true _ _ (t 1), leb-true _ _ (t 2), ltb-true _ _ k.1), k.2, k.3)

below : (t : Bool) (room i : ℕ) (p : Spot) → pick t (good_at room i) (Err BadAddress.Lba) ≡ Ok p → (t ≡ true) × (p.index ≡ i) × (p.remain ≡ room - p.index)
below true room i p e = let k = stands room i p e in (refl, k.0, k.1)
below false room i p e = absurd (false≢true (ap valid_address e))

pub lba_facts : (i room : ℕ) (p : Spot) → locate_lba i room ≡ Ok p → (i < room) × (p.index ≡ i) × (p.remain ≡ room - p.index)
unfolding locate_lba
lba_facts i room p e = let k = below (ltb i room) room i p e in (ltb-true i room k.0, k.1, k.2)

-- the decision by either way of addressing.
abbrev pub locate_by : Bool → Address → Geometry → ℕ → Located
locate_by b a g n = pick b (locate_lba (lba_of a) (room_by b g n)) (locate_chs (cylinder_of a) (head_of a) a.sector g (room_by b g n))

spot_by : (b : Bool) (a : Address) (g : Geometry) (n : ℕ) (p : Spot) → locate_by b a g n ≡ Ok p → (p.index < room_by b g n) × (p.remain ≡ room_by b g n - p.index)
spot_by true a g n p e = let f = lba_facts (lba_of a) n p e in let l = f.0 in let q = f.1 in (omega arith, f.2)
spot_by false a g n p e =
    let f = chs_facts (cylinder_of a) (head_of a) a.sector g (capacity_of g) p e in
    (rw f.1 (chs_less (cylinder_of a) (head_of a) a.sector g f.0), f.2)

-- 02, "Six", over any geometry: the room less the index remain, the start among them; so at least 1.
pub remain_room : (a : Address) (g : Geometry) (n : ℕ) (p : Spot) → locate a g n ≡ Ok p → (p.index < room_of a g n) × (p.remain ≡ room_of a g n - p.index)
unfolding locate room_of
remain_room a g n p e = spot_by (by_lba a) a g n p e

pub remain_positive : (a : Address) (g : Geometry) (n : ℕ) (p : Spot) → locate a g n ≡ Ok p → 1 ≤ p.remain
remain_positive a g n p e = let r = remain_room a g n p e in let x = r.0 in let y = r.1 in omega arith

-- the index fixes the whole spot.
pub good_by_index : (a : Address) (g : Geometry) (n : ℕ) (p : Spot) → locate a g n ≡ Ok p → locate a g n ≡ good_at (room_of a g n) p.index
good_by_index a g n p e = e ∙ ap (λ (r : ℕ). Ok (record { index = p.index; remain = r })) (remain_room a g n p e).1

room_most : (b : Bool) (g : Geometry) (n : ℕ) → capacity_of g ≤ n → room_by b g n ≤ n
room_most true g n r = omega arith
room_most false g n r = r

pub inside_room : (a : Address) (g : Geometry) (n : ℕ) (p : Spot) → current_for g n ≡ true → locate a g n ≡ Ok p → (p.index < room_of a g n) × (room_of a g n ≤ n)
unfolding room_of
inside_room a g n p c e = ((remain_room a g n p e).0, room_most (by_lba a) g n (current_room g n c))

pub inside : (a : Address) (g : Geometry) (n : ℕ) (p : Spot) → current_for g n ≡ true → locate a g n ≡ Ok p → p.index < n
inside a g n p c e = let r = inside_room a g n p c e in let x = r.0 in let y = r.1 in omega arith
