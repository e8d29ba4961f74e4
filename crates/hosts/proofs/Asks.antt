-- The card asks as long as the host has noted less than its command moves.
use Prim.Native.Nat.{ℕ, ◌+◌, ◌-◌, ◌*◌, ◌≤◌, ◌<◌}
use mathlib.Core.Bool.{true, false}
use mathlib.Core.Path.{◌≡◌, refl, sym, ap, ◌∙◌}
use mathlib.Core.List.{List, ◌++◌}
use native.Mathlib.Omega.{arith}
use lib.Dec.{ltb}
use lib.ListN.{length, take, drop, length-append, length-drop}
use lib.Seq.{length-take-le}
use borrow.Author.Tests.{lt-ltb, le-ltb}
use Rattle.registers.specs.declared.Phase.{Phase}
use Rattle.registers.specs.declared.Phase.TheVariants.{Idle, DataIn, DataOut}
use Rattle.registers.specs.State.{runs}
use Rattle.registers.specs.Machine.{Machine}
use Rattle.transfers.specs.declared.Way.{Way}
use Rattle.transfers.specs.declared.Way.TheVariants.{In, Out}
use Rattle.account.specs.Plain.{Plain, Account, moving}
use Rattle.account.specs.CommandRows.{CommandRow}
use Rattle.account.specs.Table.{account}
use Rattle.account.specs.Host.{plain_of, asks}
use Rattle.account.specs.Notes.{Waiting, None, LowByte, HighByte, Notes}
use Rattle.hosts.specs.Live.{waits, noted, plenty, due}
use Rattle.account.proofs.Rest.{rest_at, Waits, Rel}
use Rattle.hosts.proofs.Due.{plenty-length, due_any}

waits-most : (w : Waiting) → waits w ≤ 1
waits-most None = omega arith
waits-most (LowByte b) = omega arith
waits-most (HighByte b) = omega arith

longer : (a b : List ℕ) → 2 ≤ length a → 2 ≤ length (a ++ b)
longer a b h = let k = length-append a b in omega arith

module _ (row : CommandRow) (p : Plain) (c : p.registers.count < 256) (m : Machine) (q : Notes) where
  -- what is still to move
  whole : (f : Phase) → ((d : List ℕ) → account row p (q.done ++ d) ≡ moving q.done (rest_at f (plain_of m) d)) →
      due row p ≡ length q.done + length (rest_at f (plain_of m) plenty).moved
  whole f a =
      let e = length-append q.done plenty in
      let g = plenty-length in
      sym (due_any row p (q.done ++ plenty) c (omega arith)) ∙ ap (λ (x : Account). length x.moved) (a plenty) ∙ length-append q.done (rest_at f (plain_of m) plenty).moved

  over : (f : Phase) → length (rest_at f (plain_of m) plenty).moved ≡ 0 → q.waiting ≡ None → due row p ≡ length q.done + length (rest_at f (plain_of m) plenty).moved →
      ltb (noted q) (due row p) ≡ false
  over f z w e = let k : waits q.waiting ≡ 0 = ap waits w in le-ltb (noted q) (due row p) (omega arith)

  on : (f : Phase) → 2 ≤ length (rest_at f (plain_of m) plenty).moved → due row p ≡ length q.done + length (rest_at f (plain_of m) plenty).moved → ltb (noted q) (due row p) ≡ true
  on f z e = let k = waits-most q.waiting in lt-ltb (noted q) (due row p) (omega arith)

  by_phase : (way : Way) (f : Phase) → Waits way f (plain_of m) q.waiting → due row p ≡ length q.done + length (rest_at f (plain_of m) plenty).moved → ltb (noted q) (due row p) ≡ runs f
  unfolding rest_at
  by_phase In Idle w e = over Idle refl w e
  by_phase In (DataIn t) w e =
      let x = w.0 in
      let y = w.1 in
      let z = length-drop (2 * t.words) m.buffer in
      on (DataIn t) (longer (drop (2 * t.words) m.buffer) _ (omega arith)) e
  by_phase In (DataOut t) w e = absurd w
  by_phase Out Idle w e = over Idle refl w e
  by_phase Out (DataIn t) w e = absurd w
  by_phase Out (DataOut t) w e =
      let x = w.0 in
      let y = plenty-length in
      let z = length-take-le (512 - 2 * t.words) plenty (omega arith) in
      on (DataOut t) (longer (take (512 - 2 * t.words) plenty) _ (omega arith)) e

  pub asks-due : (way : Way) → Rel way (account row p) m q → asks m ≡ ltb (noted q) (due row p)
  asks-due way z = sym (by_phase way m.phase z.waits (whole m.phase z.account))
