-- 01, "Maps": what stands at an address, whatever the width and the value of the access.
use Rattle.std.specs.Prelude.{ℕ, ◌/◌, ◌%◌, eqb, leb, List, [], ◌∷◌, Some, None}
use Rattle.ground.specs.Choice.{pick}
use Rattle.ground.specs.Tables.{Numbered, lookup}
use Rattle.maps.specs.declared.Access.{Access}
use Rattle.maps.specs.declared.Mode.{Mode}
use Rattle.maps.specs.declared.Register.TheVariants.{ErrorFeature, SectorCount, SectorNumber, CylinderLow, CylinderHigh, DriveHead, StatusCommand, AlternateControl, DriveAddress}
use Rattle.maps.specs.declared.Port.TheVariants.{Odd}
use Rattle.maps.specs.declared.Target.TheVariants.{Tuple, Option, Named, Data}
use Rattle.maps.specs.declared.Place.{Place}
use Rattle.maps.specs.declared.Place.TheVariants.{Silent, Nothing, Bytes, EvenData}
use Rattle.maps.specs.Spaces.{answers_at}
use Rattle.maps.specs.Offsets.{Offset, offset_at}

-- Attribute: even 000H..1FEH are tuple bytes 0..255 (read only); 200H the Configuration Option Register.
abbrev pub option_address : ℕ
option_address = 0x200

unfoldable pub attribute_place : ℕ → Place
attribute_place address =
    pick (leb address 0x1FE) (pick (eqb (address % 2) 0) (Bytes (Tuple (address / 2))) Nothing)
    (pick (eqb address option_address) (Bytes Option)
    Nothing)

-- Offsets: 0, 8, 9 data, 0 and 8 even; 1 and D Error/Feature; 2 Sector Count; 3 Sector Number; 4, 5 Cylinder; 6 Drive/Head; 7 Status/Command;
-- E Alternate Status/Device Control; F Drive Address. No register stands at A, B, C.
abbrev pub register_table : List (Numbered Place)
register_table =
    Numbered.At 0 EvenData
    ∷ Numbered.At 8 EvenData
    ∷ Numbered.At 9 (Bytes (Data Odd))
    ∷ Numbered.At 1 (Bytes (Named ErrorFeature))
    ∷ Numbered.At 0xD (Bytes (Named ErrorFeature))
    ∷ Numbered.At 2 (Bytes (Named SectorCount))
    ∷ Numbered.At 3 (Bytes (Named SectorNumber))
    ∷ Numbered.At 4 (Bytes (Named CylinderLow))
    ∷ Numbered.At 5 (Bytes (Named CylinderHigh))
    ∷ Numbered.At 6 (Bytes (Named DriveHead))
    ∷ Numbered.At 7 (Bytes (Named StatusCommand))
    ∷ Numbered.At 0xE (Bytes (Named AlternateControl))
    ∷ Numbered.At 0xF (Bytes (Named DriveAddress))
    ∷ []

unfoldable pub register_place : ℕ → Place
register_place offset = lookup register_table offset Nothing

abbrev pub offset_place : Offset → Place
offset_place (Some offset) = register_place offset
offset_place None = Nothing

-- Attribute memory is decided apart: it answers at every index; the other spaces only by the offset in their map.
unfoldable pub map_place : ℕ → ℕ → ℕ → Place
map_place space index address = pick (eqb space 0) (attribute_place address) (offset_place (offset_at space index address))

unfoldable pub place_at : Mode → ℕ → Access → Place
place_at mode index a = pick (answers_at a.space mode index) (map_place a.space index a.address) Silent
