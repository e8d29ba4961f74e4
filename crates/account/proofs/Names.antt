-- How the registers name a sector: a good address is the name of its index, and the next address is the name of the next index.
use Rattle.std.proofs.Common.{Ok}
use Prim.Native.Nat.{ℕ, ◌+◌, ◌*◌, ◌-◌, ◌/◌, ◌%◌, ◌≤◌, ◌<◌}
use mathlib.Core.Bool.{Bool, true, false}
use mathlib.Core.Path.{◌≡◌, sym, ap, ◌∙◌}
use native.Mathlib.Nat.{add-mul}
use lib.Arith.{digits_div, digits_mod}
use native.Mathlib.Omega.{arith}
use lib.Dec.{ltb}
use borrow.Author.Tests.{ltb-true, ltb-false}
use Rattle.ground.specs.Choice.{pick}
use Rattle.ground.proofs.Picks.{pick-elim}
use Rattle.geometry.specs.declared.Geometry.{Geometry}
use Rattle.geometry.specs.declared.Address.{Address}
use Rattle.geometry.specs.declared.Spot.{Spot}
use Rattle.geometry.specs.Limits.{capacity_of, current_for}
use Rattle.geometry.specs.Address.{by_lba, head_of, cylinder_of, lba_of, chs_index, room_of, locate}
use Rattle.geometry.specs.Next.{at_lba, at_chs, next_chs, next_of}
use Rattle.geometry.proofs.LimitFacts.{Small, current_small}
use Rattle.geometry.proofs.Inside.{Chs, chs_facts, lba_facts, locate_by}
use Rattle.geometry.proofs.Kept.{Bytes}
use Rattle.geometry.proofs.Bounds.{row_more}
use Rattle.account.specs.Course.{lba_named, chs_named}

-- the name of a cylinder, head and sector
abbrev spelled : ℕ → ℕ → ℕ → ℕ → Address
spelled top c h s = record { sector = s; low = c % 256; high = c / 256; head = top * 16 + h }

spelled_by : (top : ℕ) (g : Geometry) (i c h s : ℕ) → i % g.sectors ≡ s - 1 → i / g.sectors % g.heads ≡ h → i / g.sectors / g.heads ≡ c → 1 ≤ s → chs_named top g i ≡ spelled top c h s
spelled_by top g i c h s x y z o =
    let e : s - 1 + 1 ≡ s = omega arith in
    rw (x, y, z) (ap (spelled top c h) e)

chs_spelled : (top : ℕ) (g : Geometry) (i c h s : ℕ) → h < g.heads → 1 ≤ s → s ≤ g.sectors → i ≡ chs_index c h s g → chs_named top g i ≡ spelled top c h s
chs_spelled top g i c h s x y z e =
    let f : i ≡ (c * g.heads + h) * g.sectors + (s - 1) = omega arith in
    let q : i / g.sectors ≡ c * g.heads + h = ap (λ (n : ℕ). n / g.sectors) f ∙ digits_div (c * g.heads + h) (omega arith) in
    let r : i % g.sectors ≡ s - 1 = ap (λ (n : ℕ). n % g.sectors) f ∙ digits_mod (c * g.heads + h) (omega arith) in
    spelled_by top g i c h s r
    (ap (λ (n : ℕ). n % g.heads) q ∙ digits_mod c x)
    (ap (λ (n : ℕ). n / g.heads) q ∙ digits_div c x)
    y

-- registers of 8 bits are what they name
chs_self : (a : Address) → Bytes a → spelled (a.head / 16) (cylinder_of a) (head_of a) a.sector ≡ a
chs_self a b =
    let y = b.1 in
    let l : (a.high * 256 + a.low) % 256 ≡ a.low = omega arith in
    let h : (a.high * 256 + a.low) / 256 ≡ a.high = omega arith in
    let d : a.head / 16 * 16 + a.head % 16 ≡ a.head = omega arith in
    rw (l, h, d)

lba_self : (a : Address) → Bytes a → lba_named (a.head / 16) (lba_of a) ≡ a
lba_self a b =
    let x = b.0 in
    let y = b.1 in
    let z = b.2 in
    let q : lba_of a / 256 ≡ head_of a * 65536 + a.high * 256 + a.low = omega arith in
    let r : lba_of a / 65536 ≡ head_of a * 256 + a.high = omega arith in
    let t : lba_of a / 16777216 ≡ head_of a = omega arith in
    let s : lba_of a % 256 ≡ a.sector = omega arith in
    let l : (head_of a * 65536 + a.high * 256 + a.low) % 256 ≡ a.low = omega arith in
    let h : (head_of a * 256 + a.high) % 256 ≡ a.high = omega arith in
    let d : a.head / 16 * 16 + a.head % 16 % 16 ≡ a.head = omega arith in
    rw (q, r, t, s, l, h, d)

abbrev pub by : Bool → ℕ → Geometry → ℕ → Address
by b top g i = pick b (lba_named top i) (chs_named top g i)

self_by : (b : Bool) (a : Address) (g : Geometry) (n : ℕ) (p : Spot) →
    Bytes a →
    locate_by b a g n ≡ Ok p →
    by b (a.head / 16) g p.index ≡ a
self_by true a g n p y e = rw (lba_facts (lba_of a) n p e).1 (lba_self a y)
self_by false a g n p y e =
    let f = chs_facts (cylinder_of a) (head_of a) a.sector g (capacity_of g) p e in
    chs_spelled (a.head / 16) g p.index (cylinder_of a) (head_of a) a.sector f.0.0 f.0.1 f.0.2 f.1 ∙ chs_self a y

pub named_self : (a : Address) (g : Geometry) (n : ℕ) (p : Spot) → Bytes a → locate a g n ≡ Ok p → by (by_lba a) (a.head / 16) g p.index ≡ a
unfolding locate room_of
named_self a g n p y e = self_by (by_lba a) a g n p y e

-- a cylinder, head and sector as the next address has them
spelled_at : (a : Address) (c h s : ℕ) → c < 65536 → h < 16 → s < 256 → at_chs a c h s ≡ spelled (a.head / 16) c h s
spelled_at a c h s x y z =
    let i : s % 256 ≡ s = omega arith in
    let j : c / 256 % 256 ≡ c / 256 = omega arith in
    let k : h % 16 ≡ h = omega arith in
    rw (i, j, k)

step_to : (a : Address) (g : Geometry) (i c h s : ℕ) →
    Small g →
    (h < g.heads) × (1 ≤ s) × (s ≤ g.sectors) × (c ≤ g.cylinders) →
    i ≡ chs_index c h s g →
    at_chs a c h s ≡ chs_named (a.head / 16) g i
step_to a g i c h s l f e =
    let x = f.0 in
    let z = f.2 in
    let w = f.3 in
    spelled_at a c h s (omega arith) (omega arith) (omega arith) ∙ sym (chs_spelled (a.head / 16) g i c h s x f.1 z e)

next-chs : (a : Address) (g : Geometry) (i : ℕ) →
    Small g →
    Chs (cylinder_of a) (head_of a) a.sector g →
    i ≡ chs_index (cylinder_of a) (head_of a) a.sector g →
    next_chs a g ≡ chs_named (a.head / 16) g (i + 1)
unfolding next_chs
next-chs a g i l f q =
    let c = cylinder_of a in
    let h = head_of a in
    let k = f.0 in
    let u = f.1 in
    let v = f.2 in
    let w = f.3 in
    let m = row_more (c * g.heads) h g.sectors in
    pick-elim (λ (x : Address). x ≡ chs_named (a.head / 16) g (i + 1)) (ltb a.sector g.sectors) _ _
    (λ t. let r = ltb-true a.sector g.sectors t in step_to a g (i + 1) c h (a.sector + 1) l (k, omega arith, omega arith, omega arith) (omega arith))
    (λ t. let r = ltb-false a.sector g.sectors t in
    pick-elim (λ (x : Address). x ≡ chs_named (a.head / 16) g (i + 1)) (ltb (h + 1) g.heads) _ _
    (λ t. let j = ltb-true (h + 1) g.heads t in step_to a g (i + 1) c (h + 1) 1 l (j, omega arith, omega arith, omega arith) (omega arith))
    (λ t.
    let j = ltb-false (h + 1) g.heads t in
    let e : c * g.heads + (h + 1) ≡ (c + 1) * g.heads + 0 = (let z = add-mul c 1 g.heads in omega arith) in
    step_to a g (i + 1) (c + 1) 0 1 l (omega arith, omega arith, omega arith, omega arith) (rw (← e) (omega arith))))

next_by_lem : (b : Bool) (a : Address) (g : Geometry) (n : ℕ) (p : Spot) →
    current_for g n ≡ true →
    n ≤ 65535 →
    locate_by b a g n ≡ Ok p →
    pick b (at_lba a (lba_of a + 1)) (next_chs a g) ≡ by b (a.head / 16) g (p.index + 1)
next_by_lem true a g n p c m e = rw (lba_facts (lba_of a) n p e).1
next_by_lem false a g n p c m e =
    let f = chs_facts (cylinder_of a) (head_of a) a.sector g (capacity_of g) p e in
    next-chs a g p.index (current_small g n c m) f.0 f.1

pub next-named : (a : Address) (g : Geometry) (n : ℕ) (p : Spot) →
    current_for g n ≡ true →
    n ≤ 65535 →
    locate a g n ≡ Ok p →
    next_of a g ≡ by (by_lba a) (a.head / 16) g (p.index + 1)
unfolding locate next_of room_of
next-named a g n p c m e = next_by_lem (by_lba a) a g n p c m e
