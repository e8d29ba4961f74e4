-- 01, "Tuples" and "Answers": what the reader answers and what it leaves in the lent list.
use Rattle.std.specs.Prelude.{ℕ, ◌≡◌, List, ◌++◌, [], ◌∷◌, Ok, Err, length, drop, leb, eqb}
use Rattle.ground.specs.Sizes.{tuple_buffer_bytes}
use Rattle.answers.specs.Answers.{Says, Outcome}
use Rattle.answers.specs.declared.Refusal.TheVariants.{TupleBufferLength, ListTooShort, ChainBroken}
use Rattle.ground.specs.Rows.{Row, Unless, first_of}
use Rattle.answers.specs.declared.Refusal.{Refusal}
use Rattle.tuples.specs.declared.Entry.{Entry}
use Rattle.tuples.specs.Chain.{Chain, chain_at}

-- "the lent tuple list has fewer than 127 places"
abbrev pub list_places : ℕ
list_places = 127

-- "tuple chain runs past byte 255 or has no end mark"
abbrev pub broken_row : Chain → Row Refusal
broken_row c = Unless c.ended ChainBroken

-- "The reader's value is its entry count"
unfoldable pub counted : Chain → Outcome
counted c = first_of (broken_row c ∷ []) Err (Ok (length c.entries))

-- "Tuple reading checks 5, 16, 13."
abbrev pub read_table : List ℕ → ℕ → List (Row Refusal)
read_table s places =
    Unless (eqb (length s) tuple_buffer_bytes) TupleBufferLength
    ∷ Unless (leb list_places places) ListTooShort
    ∷ broken_row (chain_at s 0)
    ∷ []

unfoldable pub read_outcome : List ℕ → ℕ → Outcome
read_outcome s places = first_of (read_table s places) Err (Ok (length (chain_at s 0).entries))

-- "Every refusal … changes nothing"
abbrev pub unless_refused {ℓ} : {A : Type ℓ} → Outcome → A → A → A
unless_refused (Ok value) new old = new
unless_refused (Err refusal) new old = old

-- "fills a lent list of entries …. Places after the last entry keep what they held."
abbrev pub filled : List Entry → List Entry → List Entry
filled es l = es ++ drop (length es) l

abbrev pub read_list : List ℕ → List Entry → List Entry
read_list s l = unless_refused (read_outcome s (length l)) (filled (chain_at s 0).entries l) l

-- the reader's promise: its answer, with the number and value of 01, and the list that it leaves
abbrev pub Reads : List ℕ → List Entry → Outcome → List Entry → Type 0
Reads s l r z = (r ≡ read_outcome s (length l)) × (z ≡ read_list s l) × Says r (read_outcome s (length l))
