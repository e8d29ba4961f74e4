-- Writing told in other words, in one pass over the list: a page is made tuple by tuple and then put into the buffer, or refused by what it notes on the way.
-- `write_tuples` promises this too; proofs/Pages `puts-writes` says that it comes to the writer's promise.
use Rattle.std.specs.Prelude.{ℕ, ◌+◌, ◌≡◌, Bool, true, false, not, List, ◌∷◌, [], length, drop, set, replicate, leb, Ok, Err}
use Rattle.std.proofs.Math.Seq.{paste}
use Rattle.ground.specs.Sizes.{tuple_buffer_bytes}
use Rattle.tuples.specs.Chain.{end_mark}
use Rattle.ground.specs.Rows.{Unless, first_of, first_or}
use Rattle.tuples.specs.declared.Entry.{Entry}
use Rattle.tuples.specs.Read.{unless_refused}
use Rattle.tuples.specs.Write.{most_bytes, good, write_table}
use Rattle.answers.specs.Answers.{Outcome}

-- 256 bytes, of which those before `at` are tuples; whether a tuple was bad, and whether one went beyond 255 bytes
pub record Page : Type 0 where
  pub bytes : List ℕ
  pub at : ℕ
  pub bad : Bool
  pub over : Bool

abbrev pub page : List ℕ → ℕ → Bool → Bool → Page
page bs at bad over = record { bytes = bs; at = at; bad = bad; over = over }

abbrev pub new_page : Page
new_page = page (replicate tuple_buffer_bytes end_mark) 0 false false

-- the page with a tuple's code, link and body at its place
abbrev pub with_tuple : List ℕ → Page → Entry → Page
with_tuple bs w e =
    page (paste (set (set w.bytes w.at e.code) (w.at + 1) e.length) (w.at + 2) (drop e.start bs) e.length) (w.at + 2 + e.length) w.bad w.over

-- one tuple more; a bad one, or one that goes beyond 255 bytes, sets its flag only, so the flags speak of the whole list
unfoldable pub added_to : List ℕ → Page → Entry → Page
added_to bs w e =
    first_or
    (Unless (good bs e) (page w.bytes w.at true w.over)
    ∷ Unless (leb (w.at + 2 + e.length) most_bytes) (page w.bytes w.at w.bad true)
    ∷ [])
    (with_tuple bs w e)

unfoldable pub pages : List ℕ → Page → List Entry → Page
pages bs w [] = w
pages bs w (e ∷ es) = pages bs (added_to bs w e) es

-- "Writing checks 5, 15, 14.": by the flags
unfoldable pub put_outcome : Page → ℕ → Outcome
put_outcome w n = first_of (write_table n (not w.bad) (not w.over)) Err (Ok 0)

abbrev pub put_list : Page → List ℕ → List ℕ
put_list w out = unless_refused (put_outcome w (length out)) w.bytes out

abbrev pub Puts : Page → List ℕ → Outcome → List ℕ → Type 0
Puts w out r z = (r ≡ put_outcome w (length out)) × (z ≡ put_list w out)
