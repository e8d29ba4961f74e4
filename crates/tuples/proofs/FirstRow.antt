-- 01, "Answers": "Tuple reading checks 5, 16, 13. Writing checks 5, 15, 14.": the first that applies is given.
use Rattle.std.proofs.Common.{Err}
use Prim.Native.Nat.{ℕ}
use mathlib.Core.Path.{◌≡◌, refl, ap, ◌∙◌}
use mathlib.Core.Bool.{Bool, true, false}
use mathlib.Core.List.{List, [], ◌∷◌}
use lib.Dec.{eqb, leb}
use lib.ListN.{length}
use borrow.Author.Tests.{eqb-true}
use Rattle.ground.proofs.Picks.{pick-not}
use Rattle.ground.proofs.Below.{below}
use Rattle.ground.specs.Choice.{pick}
use Rattle.answers.specs.Answers.{number_of, outcome_number}
use Rattle.ground.specs.Rows.{first_of}
use Rattle.answers.specs.Rows.{ByRows}
use Rattle.answers.proofs.Rows.{first_of_lem, by_rows}
use Rattle.tuples.specs.declared.Entry.{Entry}
use Rattle.tuples.specs.Chain.{chain_at}
use Rattle.tuples.specs.Read.{read_table, read_outcome}
use Rattle.tuples.specs.Write.{all_good, tuple_bytes, most_bytes, write_table, write_outcome}
use Rattle.tuples.specs.Rows.{bytes_taken, read_rows, write_rows}
use Rattle.tuples.proofs.RowTests.{end_reached, bad_is, taken_is}

-- ---- reading
read_sized : (s : List ℕ) (places : ℕ) (t : Bool) → eqb (length s) 256 ≡ t →
    pick t (pick (leb 127 places) (pick (chain_at s 0).ended 0 13) 16) 5 ≡ first_of (read_rows s places) number_of 0
read_sized s places true e = rw (e, below 127 places, end_reached s (eqb-true _ _ e), pick-not)
read_sized s places false e = rw e refl

read_number : (s : List ℕ) (places : ℕ) → outcome_number (read_outcome s places) ≡ first_of (read_rows s places) number_of 0
unfolding read_outcome
read_number s places = first_of_lem outcome_number (read_table s places) Err _ ∙ read_sized s places (eqb (length s) 256) refl

pub read_first_row : (s : List ℕ) (places : ℕ) → ByRows (5 ∷ 16 ∷ 13 ∷ []) (read_rows s places) (read_outcome s places)
read_first_row s places = by_rows (read_rows s places) (read_outcome s places) refl (read_number s places)

-- ---- writing
write_good : (bs : List ℕ) (es : List Entry) (t : Bool) → all_good bs es ≡ t →
    ◌≡◌ {A = ℕ} (pick t (pick (leb (length (tuple_bytes bs es)) 255) 0 14) 15) (pick t (pick (leb (bytes_taken es) 255) 0 14) 15)
write_good bs es true g = ap (λ (n : ℕ). pick (leb n 255) 0 14) (taken_is bs es g)
write_good bs es false g = refl

write_number : (bs : List ℕ) (es : List Entry) (n : ℕ) → outcome_number (write_outcome bs es n) ≡ first_of (write_rows bs es n) number_of 0
unfolding write_outcome
write_number bs es n =
    first_of_lem outcome_number (write_table n (all_good bs es) (leb (length (tuple_bytes bs es)) most_bytes)) Err _
    ∙ ap (λ (k : ℕ). pick (eqb n 256) k 5) (write_good bs es (all_good bs es) refl ∙ rw (bad_is bs es, below (bytes_taken es) 255, pick-not, pick-not))

pub write_first_row : (bs : List ℕ) (es : List Entry) (n : ℕ) → ByRows (5 ∷ 15 ∷ 14 ∷ []) (write_rows bs es n) (write_outcome bs es n)
write_first_row bs es n = by_rows (write_rows bs es n) (write_outcome bs es n) refl (write_number bs es n)
