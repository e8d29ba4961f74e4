-- 01, "Tuples" and "Answers": what the writer answers and which bytes it sets.
use Rattle.std.specs.Prelude.{ℕ, zero, suc, ◌+◌, ◌-◌, ◌≡◌, Bool, false, List, ◌∷◌, ◌++◌, map, [], length, take, drop, replicate, leb, eqb, Ok, Err}
use Rattle.ground.specs.Choice.{pick, every}
use Rattle.ground.specs.Sizes.{tuple_buffer_bytes}
use Rattle.answers.specs.Answers.{Says, Outcome}
use Rattle.answers.specs.declared.Refusal.TheVariants.{TupleBufferLength, TuplesTooLong, TupleBad}
use Rattle.ground.specs.Rows.{Row, When, Unless, first_of, first_or}
use Rattle.answers.specs.declared.Refusal.{Refusal}
use Rattle.tuples.specs.declared.Entry.{Entry}
use Rattle.tuples.specs.Chain.{null_code, end_mark}
use Rattle.tuples.specs.Read.{unless_refused}

-- a tuple's body, among the lent bytes
abbrev pub body_of : List ℕ → Entry → List ℕ
body_of bs e = take e.length (drop e.start bs)

-- not "a tuple to be written has code 00H or FFH, or its body lies outside the lent bytes"
unfoldable pub good : List ℕ → Entry → Bool
good bs e =
    first_or (When (eqb e.code null_code) false ∷ When (eqb e.code end_mark) false ∷ []) (leb (e.start + e.length) (length bs))

unfoldable pub all_good : List ℕ → List Entry → Bool
all_good bs es = every (map (good bs) es)

-- "Code, link, then link bytes of body."
unfoldable pub tuple_bytes : List ℕ → List Entry → List ℕ
tuple_bytes bs [] = []
tuple_bytes bs (e ∷ es) = e.code ∷ (e.length ∷ (body_of bs e ++ tuple_bytes bs es))

-- "the tuples to be written take more than 255 bytes"
abbrev pub most_bytes : ℕ
most_bytes = 255

-- "sets all 256 bytes: tuples, then FFH to the end"
abbrev pub filled_up : List ℕ → List ℕ
filled_up ts = ts ++ replicate (tuple_buffer_bytes - length ts) end_mark

-- "Writing checks 5, 15, 14.": by the buffer's length, whether all tuples may be written, and whether they fit
abbrev pub write_table : ℕ → Bool → Bool → List (Row Refusal)
write_table n good fit =
    Unless (eqb n tuple_buffer_bytes) TupleBufferLength
    ∷ Unless good TupleBad
    ∷ Unless fit TuplesTooLong
    ∷ []

unfoldable pub write_outcome : List ℕ → List Entry → ℕ → Outcome
write_outcome bs es n = first_of (write_table n (all_good bs es) (leb (length (tuple_bytes bs es)) most_bytes)) Err (Ok 0)

abbrev pub write_list : List ℕ → List Entry → List ℕ → List ℕ
write_list bs es out = unless_refused (write_outcome bs es (length out)) (filled_up (tuple_bytes bs es)) out

-- the writer's promise: its answer, with the number and value of 01, and the bytes that it leaves
abbrev pub Writes : List ℕ → List Entry → List ℕ → Outcome → List ℕ → Type 0
Writes bs es out r z = (r ≡ write_outcome bs es (length out)) × (z ≡ write_list bs es out) × Says r (write_outcome bs es (length out))

-- "the chain up to its end mark, null (00H) tuples dropped"; the first k bytes are a body
unfoldable pub nulls_dropped : ℕ → List ℕ → List ℕ
nulls_dropped k [] = []
nulls_dropped (suc k) (b ∷ r) = b ∷ nulls_dropped k r
nulls_dropped zero (b ∷ []) = []
nulls_dropped zero (b ∷ (n ∷ r)) = pick (eqb b end_mark) [] (pick (eqb b null_code) (nulls_dropped zero (n ∷ r)) (b ∷ (n ∷ nulls_dropped n r)))

-- "Reading back gives the same codes and bodies, starts apart": of the first places of a list that was read back from the page z
abbrev pub codes : List Entry → List ℕ
codes es = map (λ (e : Entry). e.code) es

abbrev pub SameTuples : List ℕ → List Entry → List ℕ → Outcome → List Entry → Type 0
SameTuples bs es z r zs = (r ≡ Ok (length es)) × ((codes (take (length es) zs) ≡ codes es) × (map (body_of z) (take (length es) zs) ≡ map (body_of bs) es))

-- "writing back equals the chain up to its end mark, null (00H) tuples dropped"
abbrev pub WrittenBack : List ℕ → Outcome → List ℕ → Type 0
WrittenBack s r z = (r ≡ Ok 0) × (z ≡ filled_up (nulls_dropped 0 s))
