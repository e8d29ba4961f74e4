-- 01, "Commands": "Address, then mark, is tested before each sector (a write's mark at its last byte)."
use Rattle.std.specs.Prelude.{ℕ, Bool, false, List, ltb, get_or, Ok, Err, Result}
use Rattle.ground.specs.Choice.{pick}
use Rattle.ground.specs.Left.{Left, leaving}
use Rattle.sectors.specs.Marks.{readable, writable}
use Rattle.sectors.specs.Sectors.{StoreMarks, store_marks, stored}
use Rattle.registers.specs.declared.State.{State}
use Rattle.registers.specs.State.{located_in}
use Rattle.transfers.specs.declared.End.{End}
use Rattle.transfers.specs.declared.Way.{Way}
use Rattle.transfers.specs.declared.Way.TheVariants.{In, Out}
use Rattle.geometry.specs.Address.{Located}
use Rattle.geometry.specs.declared.BadAddress.{BadAddress}
use Rattle.geometry.specs.declared.Spot.{Spot}

-- what the tests before a sector say: its spot, or how the command ends
abbrev pub Tested : Type 0
Tested = Result Spot End

-- how a command ends whose address is bad
abbrev pub address_end : BadAddress → End
address_end BadAddress.HeadOrSector = End.BadHeadOrSector
address_end BadAddress.Cylinder = End.BadCylinder
address_end BadAddress.Lba = End.BadLba

abbrev pub tested_of : Located → Tested
tested_of (Ok spot) = Ok spot
tested_of (Err bad) = Err (address_end bad)

-- the address
unfoldable pub address_test : State → Tested
address_test s = tested_of (located_in s)

-- then the mark
abbrev pub mark_tested : (ℕ → Bool) → End → Tested → List ℕ → Tested
mark_tested allows e (Ok spot) marks = pick (allows (get_or marks spot.index 0)) (Ok spot) (Err e)
mark_tested allows e (Err f) marks = Err f

-- of a sector to be read or verified: "mark 1: UNC, 11H"; of a sector to be stored: "mark 2: ABRT and DWF, 03H"
abbrev pub allows : Way → ℕ → Bool
allows In mark = readable mark
allows Out mark = writable mark

abbrev pub mark_end : Way → End
mark_end In = End.Unreadable
mark_end Out = End.WriteFault

unfoldable pub sector_test : Way → State → List ℕ → Tested
sector_test way s marks = mark_tested (allows way) (mark_end way) (address_test s) marks

-- a sector is stored and its mark set to 0, and if that was not 0 the number of such marks lowered with it, unless a test fails
abbrev pub stored_by : Tested → List ℕ → StoreMarks → Left Tested StoreMarks
stored_by (Ok spot) bytes k = leaving (Ok spot) (stored k spot.index bytes)
stored_by (Err e) bytes k = leaving (Err e) k

unfoldable pub sector_stored : State → List ℕ → List ℕ → List ℕ → Left Tested StoreMarks
sector_stored s bytes store marks = stored_by (sector_test Out s marks) bytes (store_marks store marks s.bad)

-- 02, "Six": a run of n sectors is past the end if more are asked for than remain from its start. "A bad start … ends it as before": it is the first
-- sector's test that fails, and nothing remains from there.
abbrev pub run_past : ℕ → Located → Bool
run_past n (Ok spot) = ltb spot.remain n
run_past n (Err bad) = false

unfoldable pub past_end : ℕ → State → Bool
past_end n s = run_past n (located_in s)
