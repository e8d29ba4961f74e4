-- 01, "Answers", rows 7, 6, 9 and 10: what an access finds at a place, or a refusal. "The first that applies, in this order, is given".
use Rattle.std.specs.Prelude.{ℕ, ◌%◌, eqb, ltb, Bool, true, false, not, ◌&&◌, List, [], ◌∷◌, Ok, Err, Result}
use Rattle.ground.specs.Choice.{pick}
use Rattle.ground.specs.Rows.{Row, When, first_of}
use Rattle.ground.specs.Tables.{Numbered, lookup}
use Rattle.answers.specs.declared.Refusal.{Refusal}
use Rattle.answers.specs.declared.Refusal.TheVariants.{SpaceSilent, NoRegister, WidthOrValue, IndexAboveThree}
use Rattle.maps.specs.declared.Access.{Access}
use Rattle.maps.specs.declared.Mode.{Mode}
use Rattle.maps.specs.declared.Port.TheVariants.{Even, Word}
use Rattle.maps.specs.declared.Target.{Target}
use Rattle.maps.specs.declared.Target.TheVariants.{Tuple, Option, Named, Data}
use Rattle.maps.specs.declared.Place.{Place}
use Rattle.maps.specs.declared.Place.TheVariants.{Silent, Nothing, Bytes, EvenData}
use Rattle.maps.specs.Places.{place_at}

-- 7: the space does not answer
abbrev pub silent : Place → Bool
silent Silent = true
silent Nothing = false
silent (Bytes target) = false
silent EvenData = false

-- 6: no register there, or a write to the tuples
abbrev pub tuples_at : Target → Bool
tuples_at (Tuple number) = true
tuples_at Option = false
tuples_at (Named register) = false
tuples_at (Data port) = false

abbrev pub unregistered : Place → Bool → Bool
unregistered Silent write = false
unregistered Nothing write = true
unregistered (Bytes target) write = tuples_at target && write
unregistered EvenData write = false

-- 9: width not 1 or 2; a word anywhere but an even data address; a byte write above 255: by the width
abbrev pub even_data : Place → Bool
even_data Silent = false
even_data Nothing = false
even_data (Bytes target) = false
even_data EvenData = true

unfoldable pub misfits : Bool → Access → Bool
misfits even a =
    lookup
    (Numbered.At 1 (a.write && ltb 255 a.value)
    ∷ Numbered.At 2 (not even)
    ∷ [])
    a.width true

-- 10: Configuration Option write with index above 3; the index is bits 5..0
abbrev pub option_at : Target → Bool
option_at (Tuple number) = false
option_at Option = true
option_at (Named register) = false
option_at (Data port) = false

abbrev pub option : Place → Bool
option Silent = false
option Nothing = false
option (Bytes target) = option_at target
option EvenData = false

unfoldable pub above_three : Access → Bool
above_three a = a.write && ltb 3 (a.value % 64)

-- the rows at a place
abbrev pub place_table : Place → Access → List (Row Refusal)
place_table p a =
    When (silent p) SpaceSilent
    ∷ When (unregistered p a.write) NoRegister
    ∷ When (misfits (even_data p) a) WidthOrValue
    ∷ When (option p && above_three a) IndexAboveThree
    ∷ []

-- what an access finds: what is read or written there, or its refusal
abbrev pub Standing : Type 0
Standing = Result Target Refusal

-- what is moved there: at an even data address a word, or the even byte; the first two places have a row above
abbrev pub moved : Place → ℕ → Standing
moved Silent width = Err SpaceSilent
moved Nothing width = Err NoRegister
moved (Bytes target) width = Ok target
moved EvenData width = Ok (Data (pick (eqb width 2) Word Even))

abbrev pub stands_as : Place → Access → Standing
stands_as p a = first_of (place_table p a) Err (moved p a.width)

unfoldable pub stands_at : Mode → ℕ → Access → Standing
stands_at mode index a = stands_as (place_at mode index a) a

-- the access with another value, all else the same
abbrev pub with_value : ℕ → Access → Access
with_value v a = record { space = a.space; width = a.width; address = a.address; value = v; write = a.write }
