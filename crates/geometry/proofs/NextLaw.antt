-- From a good address of index i the next one is good, of index i + 1, or past the end of its room.
use Rattle.std.proofs.Common.{Ok, Err}
use Prim.Native.Nat.{ℕ, ◌+◌, ◌*◌, ◌/◌, ◌%◌, ◌≤◌, ◌<◌}
use mathlib.Core.Bool.{Bool, true, false}
use mathlib.Core.Path.{◌≡◌, refl, ap, ◌∙◌}
use native.Mathlib.Nat.{add-mul}
use native.Mathlib.Omega.{arith}
use lib.Dec.{ltb}
use borrow.Author.Tests.{ltb-true, ltb-false, lt-ltb, le-ltb, le-leb}
use Rattle.ground.specs.Choice.{pick, every}
use Rattle.ground.proofs.Picks.{pick-elim}
use Rattle.geometry.specs.declared.Geometry.{Geometry}
use Rattle.geometry.specs.declared.Address.{Address}
use Rattle.geometry.specs.declared.Spot.{Spot}
use Rattle.geometry.specs.Limits.{capacity_of, current_for}
use Rattle.geometry.specs.Address.{by_lba, head_of, cylinder_of, lba_of, chs_index, locate_lba, locate_chs, locate, room_by, room_of, good_at, Located}
use Rattle.geometry.specs.Next.{at_lba, at_chs, next_chs, next_of}
use Rattle.geometry.specs.Codes.{located_code}
use Rattle.geometry.proofs.LimitFacts.{Small, current_small}
use Rattle.geometry.proofs.Kept.{same_way}
use Rattle.geometry.proofs.Inside.{Chs, chs_less, chs-good, chs_facts, lba_facts, locate_by}
use Rattle.geometry.proofs.Bounds.{row_more}
use Rattle.geometry.specs.declared.BadAddress.{BadAddress}

-- the registers made of a cylinder, head and sector name them.
at_chs_located : (a : Address) (g : Geometry) (n c h s : ℕ) → by_lba a ≡ false → c < 65536 → h < 16 → s < 256 → locate (at_chs a c h s) g n ≡ locate_chs c h s g (capacity_of g)
unfolding locate room_of
at_chs_located a g n c h s b x y z =
    let i : c / 256 % 256 * 256 + c % 256 ≡ c = omega arith in
    let j : (a.head / 16 * 16 + h % 16) % 16 ≡ h = omega arith in
    let k : s % 256 ≡ s = omega arith in
    rw (same_way a (at_chs a c h s) h refl, b, i, j, k)

-- the registers made of a number name it.
at_lba_located : (a : Address) (g : Geometry) (n i : ℕ) → by_lba a ≡ true → i < 268435456 → locate (at_lba a i) g n ≡ locate_lba i n
unfolding locate room_of
at_lba_located a g n i b x =
    let l : lba_of (at_lba a i) ≡ i = omega arith in
    rw (same_way a (at_lba a i) (i / 16777216) refl, b, l)

-- what comes after index i, with room for m sectors.
abbrev After : ℕ → ℕ → Located → Located
After i m bad = pick (ltb (i + 1) m) (good_at m (i + 1)) bad

landed : (i j m : ℕ) (bad : Located) → i + 1 ≡ j → j < m → good_at m j ≡ After i m bad
landed i j m bad e l = rw (e, lt-ltb j m l)

past : (i m : ℕ) (bad : Located) → m ≤ i + 1 → bad ≡ After i m bad
past i m bad l = rw (le-ltb (i + 1) m l)

-- a CHS address one further on is good.
step-chs : (a : Address) (g : Geometry) (n i c h s : ℕ) →
    by_lba a ≡ false →
    Small g →
    Chs c h s g →
    i + 1 ≡ chs_index c h s g →
    locate (at_chs a c h s) g n ≡ After i (capacity_of g) (Err BadAddress.Cylinder)
step-chs a g n i c h s b l f q =
    at_chs_located a g n c h s b (omega arith) (omega arith) (omega arith)
    ∙ chs-good c h s g (capacity_of g) f
    ∙ landed i (chs_index c h s g) (capacity_of g) (Err BadAddress.Cylinder) q (chs_less c h s g f)

-- the last sector of a cylinder: the first of the next one, if there is one.
step_cylinder : (t : Bool) (a : Address) (g : Geometry) (n i c : ℕ) →
    ltb (c + 1) g.cylinders ≡ t →
    by_lba a ≡ false →
    Small g →
    (1 ≤ g.heads) × (1 ≤ g.sectors) × (c < g.cylinders) →
    i + 1 ≡ (c + 1) * g.heads * g.sectors →
    locate (at_chs a (c + 1) 0 1) g n ≡ After i (capacity_of g) (Err BadAddress.Cylinder)
unfolding locate_chs every
step_cylinder true a g n i c t b l f q =
    let z : ((c + 1) * g.heads + 0) * g.sectors ≡ (c + 1) * g.heads * g.sectors = ap (λ (x : ℕ). x * g.sectors) (omega arith) in
    step-chs a g n i (c + 1) 0 1 b l (f.0, omega arith, f.1, ltb-true (c + 1) g.cylinders t) (omega arith)
step_cylinder false a g n i c t b l f q =
    let o = f.2 in
    let y = ltb-false (c + 1) g.cylinders t in
    let e : c + 1 ≡ g.cylinders = omega arith in
    let m : capacity_of g ≤ i + 1 = rw (q, e) (omega arith) in
    let d : locate_chs (c + 1) 0 1 g (capacity_of g) ≡ (Err BadAddress.Cylinder) = rw (lt-ltb 0 g.heads f.0, le-leb 1 g.sectors f.1, t) in
    at_chs_located a g n (c + 1) 0 1 b (omega arith) (omega arith) (omega arith) ∙ d ∙ past i (capacity_of g) (Err BadAddress.Cylinder) m

next-chs : (a : Address) (g : Geometry) (n i : ℕ) →
    by_lba a ≡ false →
    Small g →
    Chs (cylinder_of a) (head_of a) a.sector g →
    i ≡ chs_index (cylinder_of a) (head_of a) a.sector g →
    locate (next_chs a g) g n ≡ After i (capacity_of g) (Err BadAddress.Cylinder)
unfolding next_chs
next-chs a g n i b l f q =
    let c = cylinder_of a in
    let h = head_of a in
    let k = f.0 in
    let u = f.1 in
    let v = f.2 in
    let m = row_more (c * g.heads) h g.sectors in
    pick-elim (λ (x : Address). locate x g n ≡ After i (capacity_of g) (Err BadAddress.Cylinder)) (ltb a.sector g.sectors) _ _
    (λ t. let r = ltb-true a.sector g.sectors t in step-chs a g n i c h (a.sector + 1) b l (k, omega arith, omega arith, f.3) (omega arith))
    (λ t. let r = ltb-false a.sector g.sectors t in
    pick-elim (λ (x : Address). locate x g n ≡ After i (capacity_of g) (Err BadAddress.Cylinder)) (ltb (h + 1) g.heads) _ _
    (λ w. let j = ltb-true (h + 1) g.heads w in step-chs a g n i c (h + 1) 1 b l (j, omega arith, omega arith, f.3) (omega arith))
    (λ w.
    let j = ltb-false (h + 1) g.heads w in
    let e : c * g.heads + (h + 1) ≡ (c + 1) * g.heads = (let z = add-mul c 1 g.heads in omega arith) in
    step_cylinder _ a g n i c refl b l (omega arith, omega arith, f.3) (rw (← e) (omega arith))))

next-lba : (a : Address) (g : Geometry) (n : ℕ) → by_lba a ≡ true → lba_of a < n → n ≤ 65535 → locate (at_lba a (lba_of a + 1)) g n ≡ After (lba_of a) n (Err BadAddress.Lba)
unfolding locate_lba
next-lba a g n b l m = at_lba_located a g n (lba_of a + 1) b (omega arith)

next_by_lem : (b : Bool) (a : Address) (g : Geometry) (n : ℕ) (p : Spot) →
    by_lba a ≡ b →
    current_for g n ≡ true →
    n ≤ 65535 →
    locate_by b a g n ≡ Ok p →
    locate (pick b (at_lba a (lba_of a + 1)) (next_chs a g)) g n ≡ After p.index (room_by b g n) (pick b (Err BadAddress.Lba) (Err BadAddress.Cylinder))
next_by_lem true a g n p b c m e =
    let f = lba_facts (lba_of a) n p e in
    rw f.1 (next-lba a g n b f.0 m)
next_by_lem false a g n p b c m e =
    let f = chs_facts (cylinder_of a) (head_of a) a.sector g (capacity_of g) p e in
    next-chs a g n p.index b (current_small g n c m) f.0 f.1

-- a bad cylinder or LBA, by the way of addressing: past the end of the room, and the decision says 2FH.
abbrev pub past_of : Address → Located
past_of a = pick (by_lba a) (Err BadAddress.Lba) (Err BadAddress.Cylinder)

past_by : (b : Bool) → located_code (pick b (Err BadAddress.Lba) (Err BadAddress.Cylinder)) ≡ 0x2F
past_by true = refl
past_by false = refl

pub past_code : (a : Address) → located_code (past_of a) ≡ 0x2F
past_code a = past_by (by_lba a)

-- "The next CHS address advances sector, head, cylinder": index i + 1 while there is room, else past the end.
pub next_law : (a : Address) (g : Geometry) (n : ℕ) (p : Spot) →
    current_for g n ≡ true →
    n ≤ 65535 →
    locate a g n ≡ Ok p →
    locate (next_of a g) g n ≡ pick (ltb (p.index + 1) (room_of a g n)) (good_at (room_of a g n) (p.index + 1)) (past_of a)
unfolding locate next_of room_of
next_law a g n p c m e = next_by_lem (by_lba a) a g n p refl c m e

pub next_past : (a : Address) (g : Geometry) (n : ℕ) (p : Spot) →
    current_for g n ≡ true →
    n ≤ 65535 →
    locate a g n ≡ Ok p →
    room_of a g n ≤ p.index + 1 →
    locate (next_of a g) g n ≡ past_of a
next_past a g n p c m e l = next_law a g n p c m e ∙ (rw (le-ltb (p.index + 1) (room_of a g n) l))
