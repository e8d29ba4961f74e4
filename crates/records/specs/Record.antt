-- 01, "Session file": "Records: total length (2 bytes), kind (2), body, all little-endian."
use Rattle.std.specs.Prelude.{ℕ, ◌+◌, ◌*◌, ◌-◌, Bool, false, ◌||◌, List, [], ◌∷◌, ◌++◌, eqb, leb, ltb, length, get_or, Result, Ok, Err}
use Rattle.ground.specs.Choice.{pick, within}
use Rattle.ground.specs.Rows.{Row, When, Unless, first_of}
use Rattle.maps.specs.declared.Access.{Access}
use Rattle.records.specs.declared.Break.{Break}
use Rattle.records.specs.declared.Break.TheVariants.{DoesNotFit, Length, Kind, Misplaced, Space, Width, Value}
use Rattle.records.specs.declared.Sizes.{Sizes}

abbrev pub word_at : List ℕ → ℕ → ℕ
word_at file at = get_or file at 0 + 256 * get_or file (at + 1) 0

abbrev pub kind_at : List ℕ → ℕ → ℕ
kind_at file at = word_at file (at + 2)

-- length and kind
abbrev pub head_length : ℕ
head_length = 4

-- "Kind 1, length 12 …: C, H, S, mode."
abbrev pub opening_length : ℕ
opening_length = 12

abbrev pub sizes_in : List ℕ → Sizes
sizes_in file = record { cylinders = word_at file 4; heads = word_at file 6; sectors = word_at file 8; mode = word_at file 10 }

-- "Kind 2, length 10"; "Kind 3, length 8": the length of an access's record
abbrev pub access_length : Bool → ℕ
access_length write = pick write 10 8

-- "Kind 2 …: space, width (a byte each), address, value"; "Kind 3 …: the same without value", which is 0 then
abbrev pub value_at : List ℕ → ℕ → Bool → ℕ
value_at file at write = pick write (word_at file (at + 8)) 0

abbrev pub access_in : List ℕ → ℕ → Bool → Access
access_in file at write =
    record { space = get_or file (at + 4) 0; width = get_or file (at + 5) 0; address = word_at file (at + 6); value = value_at file at write; write = write }

-- "a byte value above 255"
unfoldable pub value_above : ℕ → ℕ → Bool
value_above width value = pick (eqb width 1) (ltb 255 value) false

-- ---- "Broken: …": the tests of a record; what does not fit comes first, since the others read what would not be there

-- "or a record that doesn't fit": it has its length and its kind at least; a length below that leaves no place for a kind
abbrev pub fit_breaks : ℕ → ℕ → List (Row Break)
fit_breaks left size = When (ltb left head_length || ltb left size) DoesNotFit ∷ When (ltb size head_length) Length ∷ []

-- "any other … kind"
abbrev pub kind_break : ℕ → Row Break
kind_break kind = Unless (eqb kind 1 || eqb kind 2 || eqb kind 3) Kind

-- "an opening missing", "any other length": where an opening is due
abbrev pub opening_breaks : ℕ → ℕ → List (Row Break)
opening_breaks kind size = kind_break kind ∷ Unless (eqb kind 1) Misplaced ∷ Unless (eqb size opening_length) Length ∷ []

-- "or not first": where none is due
abbrev pub after_breaks : ℕ → List (Row Break)
after_breaks kind = kind_break kind ∷ When (eqb kind 1) Misplaced ∷ []

-- "any other length, … space or width, a byte value above 255"
abbrev pub field_breaks : Access → List (Row Break)
field_breaks a =
    Unless (leb a.space 3) Space
    ∷ Unless (within 1 2 a.width) Width
    ∷ When (value_above a.width a.value) Value
    ∷ []

abbrev pub access_breaks : ℕ → Access → List (Row Break)
access_breaks size a = Unless (eqb size (access_length a.write)) Length ∷ field_breaks a

-- ---- what stands there

-- "Kind 1, … first and once": at the start of the file
unfoldable pub first_record : List ℕ → Result Sizes Break
first_record file = first_of (fit_breaks (length file) (word_at file 0) ++ opening_breaks (kind_at file 0) (word_at file 0)) Err (Ok (sizes_in file))

-- after the opening: an access, of which kind 2 is a write
unfoldable pub next_record : List ℕ → ℕ → Result Access Break
next_record file at =
    let size = word_at file at in
    let kind = kind_at file at in
    let a = access_in file at (eqb kind 2) in
    first_of (fit_breaks (length file - at) size ++ after_breaks kind ++ access_breaks size a) Err (Ok a)
