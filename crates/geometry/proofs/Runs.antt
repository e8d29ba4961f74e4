-- 02, "Six": the addresses after a good one, as many as remain there.
use Rattle.std.proofs.Common.{Ok}
use Prim.Native.Nat.{ℕ, zero, suc, ◌+◌, ◌-◌, ◌≤◌, ◌<◌}
use mathlib.Core.Bool.{true}
use mathlib.Core.Path.{◌≡◌, refl, ap, ◌∙◌}
use native.Mathlib.Omega.{arith}
use borrow.Author.Tests.{lt-ltb}
use Rattle.geometry.specs.declared.Geometry.{Geometry}
use Rattle.geometry.specs.declared.Address.{Address}
use Rattle.geometry.specs.declared.Spot.{Spot}
use Rattle.geometry.specs.Limits.{current_for}
use Rattle.geometry.specs.Address.{locate, room_of, spot_at, good_at}
use Rattle.geometry.specs.Next.{next_of, later}
use Rattle.geometry.specs.Codes.{located_code}
use Rattle.geometry.proofs.Inside.{remain_room, remain_positive}
use Rattle.geometry.proofs.Kept.{next_kept}
use Rattle.geometry.proofs.NextLaw.{past_of, past_code, next_law, next_past}

-- the spot so many sectors on, with so many fewer that remain.
abbrev pub on_by : ℕ → Spot → Spot
on_by k p = record { index = p.index + k; remain = p.remain - k }

module _ (g : Geometry) (n : ℕ) (current : current_for g n ≡ true) (most : n ≤ 65535) where
  -- where more than one remains, the next is good, and one fewer remains; where one does, the next is past the end
  next-good : (a : Address) (p : Spot) → locate a g n ≡ Ok p → 1 < p.remain → locate (next_of a g) g n ≡ good_at (room_of a g n) (p.index + 1)
  next-good a p e l =
      let r = remain_room a g n p e in
      let x = r.0 in
      let y = r.1 in
      next_law a g n p current most e ∙ (rw (lt-ltb (p.index + 1) (room_of a g n) (omega arith)))

  next-ends : (a : Address) (p : Spot) → locate a g n ≡ Ok p → p.remain ≡ 1 → locate (next_of a g) g n ≡ past_of a
  next-ends a p e l =
      let r = remain_room a g n p e in
      let x = r.0 in
      let y = r.1 in
      next_past a g n p current most e (omega arith)

  on_more : (k room : ℕ) (p : Spot) → p.remain ≡ room - p.index → on_by k (spot_at room (p.index + 1)) ≡ on_by (suc k) p
  on_more k room p e =
      let i : p.index + 1 + k ≡ p.index + suc k = omega arith in
      let r : room - (p.index + 1) - k ≡ p.remain - suc k = omega arith in
      rw (i, r)

  -- from a good address with r remaining the next r - 1 are good …
  pub run_good : (k : ℕ) (a : Address) (p : Spot) → locate a g n ≡ Ok p → k < p.remain → locate (later k a g) g n ≡ Ok (on_by k p)
  unfolding later
  run_good zero a p e l =
      let i : p.index ≡ p.index + 0 = omega arith in
      let r : p.remain ≡ p.remain - 0 = omega arith in
      rw (← i, ← r) e
  run_good (suc k) a p e l =
      let y = (remain_room a g n p e).1 in
      run_good k (next_of a g) (spot_at (room_of a g n) (p.index + 1)) (next-good a p e (omega arith)) (omega arith)
      ∙ ap (λ (q : Spot). Ok q) (on_more k (room_of a g n) p y)

  -- … and the r-th is past the end
  ends-after : (k : ℕ) (a : Address) (p : Spot) → locate a g n ≡ Ok p → p.remain ≡ suc k → locate (later (suc k) a g) g n ≡ past_of a
  unfolding later
  ends-after zero a p e l = next-ends a p e l
  ends-after (suc k) a p e l =
      let y = (remain_room a g n p e).1 in
      rw (← (next_kept a g).0) (ends-after k (next_of a g) (spot_at (room_of a g n) (p.index + 1)) (next-good a p e (omega arith)) (omega arith))

  past_by : (r : ℕ) (a : Address) (p : Spot) → locate a g n ≡ Ok p → p.remain ≡ r → 1 ≤ r → locate (later r a g) g n ≡ past_of a
  past_by zero a p e q l = absurd (omega arith)
  past_by (suc k) a p e q l = ends-after k a p e q

  pub run_past : (a : Address) (p : Spot) → locate a g n ≡ Ok p → (locate (later p.remain a g) g n ≡ past_of a) × (located_code (locate (later p.remain a g) g n) ≡ 0x2F)
  run_past a p e =
      let z = past_by p.remain a p e refl (remain_positive a g n p e) in
      (z, ap located_code z ∙ past_code a)
