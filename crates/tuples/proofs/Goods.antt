-- What a tuple that may be written is known to be, and what an accepted writing says.
use Rattle.std.proofs.Common.{Ok}
use mathlib.Core.Path.{◌≡◌, ap}
use mathlib.Core.Bool.{true, false}
use mathlib.Core.List.{List}
use Prim.Native.Nat.{ℕ, ◌+◌, ◌≤◌}
use native.Mathlib.Omega.{arith}
use lib.ListN.{length, drop, length-drop}
use lib.Seq.{length-take-le}
use lib.Dec.{leb, eqb}
use borrow.Author.Tests.{leb-true}
use Rattle.ground.proofs.Picks.{not_first, un_not}
use Rattle.answers.specs.Answers.{refused}
use Rattle.answers.proofs.Rows.{passed}
use Rattle.tuples.specs.Write.{good, body_of, tuple_bytes, all_good, most_bytes, write_table, write_outcome}
use Rattle.tuples.specs.declared.Entry.{Entry}

pub record Good (bs : List ℕ) (e : Entry) : Type 0 where
  pub not_0 : eqb e.code 0 ≡ false
  pub not_255 : eqb e.code 255 ≡ false
  pub inside : e.start + e.length ≤ length bs

pub is_good : (bs : List ℕ) (e : Entry) → good bs e ≡ true → Good bs e
unfolding good
is_good bs e p =
    let a = not_first (eqb e.code 0) _ p in
    let b = not_first (eqb e.code 255) _ a.1 in
    record { not_0 = a.0; not_255 = b.0; inside = leb-true (e.start + e.length) (length bs) b.1 }

pub long_body : (bs : List ℕ) (e : Entry) → Good bs e → length (body_of bs e) ≡ e.length
long_body bs e g = length-take-le e.length (drop e.start bs) (omega (arith, length-drop e.start bs, g.inside))

-- ---- what an accepted writing says
pub record WrittenWell (bs : List ℕ) (es : List Entry) : Type 0 where
  pub are_good : all_good bs es ≡ true
  pub short : length (tuple_bytes bs es) ≤ 255

pub written_well : (bs : List ℕ) (es : List Entry) (places v : ℕ) → write_outcome bs es places ≡ Ok v → WrittenWell bs es
unfolding write_outcome
written_well bs es places v e =
    let p = (passed (write_table places (all_good bs es) (leb (length (tuple_bytes bs es)) most_bytes)) (Ok 0) (ap refused e)).1 in
    record { are_good = un_not _ _ (p 15); short = leb-true _ _ (un_not _ _ (p 14)) }
