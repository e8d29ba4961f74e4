-- 01, "Answers": the rows of the tuple reader and writer, each with its test in 01's words. They share with the definitions of reading and writing
-- only what an entry is; the numbers stand here anew.
use Rattle.std.specs.Prelude.{ℕ, zero, suc, ◌+◌, Bool, true, false, ◌||◌, List, [], ◌∷◌, length, get_or, eqb, leb, ltb}
use Rattle.answers.specs.declared.Refusal.TheVariants.{TupleBufferLength, ListTooShort, ChainBroken, TupleBad, TuplesTooLong}
use Rattle.ground.specs.Rows.{Row, When, Unless, first_or}
use Rattle.answers.specs.declared.Refusal.{Refusal}
use Rattle.tuples.specs.declared.Entry.{Entry}

-- 13: "tuple chain runs past byte 255 or has no end mark": it reaches an end mark in so many steps from byte `at` on, all on bytes 0..255.
-- "Code, link, then link bytes of body. 00H is one byte, skipped; FFH ends the chain."
unfoldable pub reaches_end : ℕ → List ℕ → ℕ → Bool
reaches_end zero s at = false
reaches_end (suc n) s at =
    first_or (Unless (leb at 255) false ∷ When (eqb (get_or s at 0) 0xFF) true ∷ When (eqb (get_or s at 0) 0x00) (reaches_end n s (at + 1)) ∷ [])
    (reaches_end n s (at + 2 + get_or s (at + 1) 0))

-- 15: "a tuple to be written has code 00H or FFH, or its body lies outside the lent bytes"
abbrev pub bad : List ℕ → Entry → Bool
bad bs e = eqb e.code 0x00 || eqb e.code 0xFF || ltb (length bs) (e.start + e.length)

unfoldable pub any_bad : List ℕ → List Entry → Bool
any_bad bs [] = false
any_bad bs (e ∷ es) = bad bs e || any_bad bs es

-- 14: what "the tuples to be written take": a code, a link and a body each
unfoldable pub bytes_taken : List Entry → ℕ
bytes_taken [] = 0
bytes_taken (e ∷ es) = 2 + e.length + bytes_taken es

-- "Tuple reading checks 5, 16, 13."; no step goes back, so 256 are enough
abbrev pub read_rows : List ℕ → ℕ → List (Row Refusal)
read_rows s places =
    Unless (eqb (length s) 256) TupleBufferLength
    ∷ When (ltb places 127) ListTooShort
    ∷ Unless (reaches_end 256 s 0) ChainBroken
    ∷ []

-- "Writing checks 5, 15, 14."
abbrev pub write_rows : List ℕ → List Entry → ℕ → List (Row Refusal)
write_rows bs es n =
    Unless (eqb n 256) TupleBufferLength
    ∷ When (any_bad bs es) TupleBad
    ∷ When (ltb 255 (bytes_taken es)) TuplesTooLong
    ∷ []
