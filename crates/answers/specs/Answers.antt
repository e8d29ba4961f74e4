-- 01, "Answers": each refusal has the number of its row; an accepted access is 0 with its value; every refusal gives value 0.
use Rattle.std.specs.Prelude.{ℕ, Bool, true, false, ◌≡◌, Ok, Err, Result}
use Rattle.answers.specs.declared.Refusal.{Refusal}
use Rattle.answers.specs.declared.Refusal.TheVariants.{GeometryOrMode, StoreLength, MarksLength, MarkAboveTwo, TupleBufferLength, NoRegister, SpaceSilent, HeldBySreset, WidthOrValue, IndexAboveThree, HalfMoved, NotWellMade, ChainBroken, TuplesTooLong, TupleBad, ListTooShort, SessionBroken}

-- in the order of 01's table
abbrev pub number_of : Refusal → ℕ
-- opening: geometry or mode outside the limits
number_of GeometryOrMode = 1
-- access: the card value is not well made
number_of NotWellMade = 12
-- store, marks, tuple buffer of wrong length
number_of StoreLength = 2
number_of MarksLength = 3
number_of TupleBufferLength = 5
-- opening: a mark above 2
number_of MarkAboveTwo = 4
-- held by SRESET, and the access is not to attribute 200H
number_of HeldBySreset = 8
-- the space does not answer
number_of SpaceSilent = 7
-- no register there, or a write to the tuples
number_of NoRegister = 6
-- width not 1 or 2; a word anywhere but an even data address; a byte write above 255
number_of WidthOrValue = 9
-- Configuration Option write with index above 3
number_of IndexAboveThree = 10
-- the half word asked for is already moved, or a word is asked for with one half moved
number_of HalfMoved = 11
-- tuple chain runs past byte 255 or has no end mark
number_of ChainBroken = 13
-- the tuples to be written take more than 255 bytes
number_of TuplesTooLong = 14
-- a tuple to be written has code 00H or FFH, or its body lies outside the lent bytes
number_of TupleBad = 15
-- the lent tuple list has fewer than 127 places
number_of ListTooShort = 16
-- session file broken
number_of SessionBroken = 17

-- what an access, an opening, the reader or the writer comes to: accepted with a value, or refused by one row
abbrev pub Outcome : Type 0
Outcome = Result ℕ Refusal

abbrev pub outcome_number : Outcome → ℕ
outcome_number (Ok value) = 0
outcome_number (Err refusal) = number_of refusal

abbrev pub outcome_value : Outcome → ℕ
outcome_value (Ok value) = value
outcome_value (Err refusal) = 0

abbrev pub refused : Outcome → Bool
refused (Ok value) = false
refused (Err refusal) = true

-- two outcomes have the same number and value of 01
abbrev pub Says : Outcome → Outcome → Type 0
Says a b = (outcome_number a ≡ outcome_number b) × (outcome_value a ≡ outcome_value b)
