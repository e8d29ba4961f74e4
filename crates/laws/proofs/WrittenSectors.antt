-- A data write changes the sector whose last byte it moves, and nothing else.
use Rattle.std.proofs.Common.{Ok, Err, None, Some}
use Prim.Native.Nat.{ℕ}
use mathlib.Core.Path.{◌≡◌, refl, ap, ◌∙◌}
use mathlib.Core.Bool.{Bool, true, false}
use mathlib.Core.List.{List, [], ◌∷◌}
use lib.Dec.{ltb}
use lib.ListN.{get_or}
use Rattle.ground.specs.Choice.{pick}
use Rattle.geometry.specs.declared.Spot.{Spot}
use Rattle.sectors.specs.Marks.{writable}
use Rattle.sectors.specs.Sectors.{StoreMarks, store_marks}
use Rattle.maps.specs.declared.Port.{Port}
use Rattle.registers.specs.declared.Load.{Load}
use Rattle.registers.specs.declared.Load.TheVariants.{Sectors, Buffer}
use Rattle.registers.specs.declared.Transfer.{Transfer}
use Rattle.registers.specs.declared.Phase.{Phase}
use Rattle.registers.specs.declared.Phase.TheVariants.{Idle, DataIn, DataOut}
use Rattle.registers.specs.State.{located_in}
use Rattle.registers.specs.Machine.{Machine, with_buffer}
use Rattle.transfers.specs.declared.End.TheVariants.{WriteFault}
use Rattle.port.specs.declared.Fill.TheVariants.{Begun, Full}
use Rattle.transfers.specs.Before.{tested_of, address_test, mark_tested, sector_test, stored_by, sector_stored}
use Rattle.transfers.specs.Steps.{load_written, all_moved}
use Rattle.port.specs.Halves.{take_of, with_part, Take}
use Rattle.port.specs.Data.{word_written, taken_written, phase_written}
use Rattle.kept.specs.Lent.{store_marks_in}
use Rattle.laws.specs.Changes.{changed, sector_changes, load_changes, taken_changes, phase_changes}
use Rattle.laws.proofs.SettingsKept.{same_number, sector-written}
use Rattle.geometry.specs.Address.{Located}
use Rattle.geometry.specs.declared.BadAddress.{BadAddress}

by_mark : (b : Bool) (spot : Spot) (bytes : List ℕ) (k : StoreMarks) →
    (stored_by (pick b (Ok spot) (Err WriteFault)) bytes k).next ≡ changed (pick b (record { index = spot.index; bytes = bytes } ∷ []) []) k
unfolding changed
by_mark true spot bytes k = refl
by_mark false spot bytes k = refl

by_address : (l : Located) (bytes : List ℕ) (k : StoreMarks) →
    (stored_by (mark_tested writable WriteFault (tested_of l) k.marks) bytes k).next ≡ changed (sector_changes l k.marks bytes []) k
unfolding changed
by_address (Ok spot) bytes k = by_mark (writable (get_or k.marks spot.index 0)) spot bytes k
by_address (Err BadAddress.HeadOrSector) bytes k = refl
by_address (Err BadAddress.Cylinder) bytes k = refl
by_address (Err BadAddress.Lba) bytes k = refl

load_written_lem : (l : Load) (bytes : List ℕ) (m : Machine) → store_marks_in (load_written l (all_moved (with_buffer bytes m))) ≡ changed (load_changes l bytes m) (store_marks_in m)
unfolding changed sector_stored sector_test address_test
load_written_lem Buffer bytes m = refl
load_written_lem (Sectors left k) bytes m =
    ap (store_marks _ _) (same_number (sector-written left k (all_moved (with_buffer bytes m)))) ∙ by_address (located_in m.state) bytes (store_marks_in m)

by_word : (b : Bool) (l : Load) (bytes : List ℕ) (m x : Machine) → store_marks_in x ≡ store_marks_in m →
    store_marks_in (pick b x (load_written l (all_moved (with_buffer bytes m)))) ≡ changed (pick b [] (load_changes l bytes m)) (store_marks_in m)
unfolding changed
by_word true l bytes m x e = e
by_word false l bytes m x e = load_written_lem l bytes m

taken-written : (k : Take) (v : ℕ) (t : Transfer) (m : Machine) → store_marks_in (taken_written k v t m).next ≡ changed (taken_changes k v t m) (store_marks_in m)
unfolding changed word_written
taken-written None v t m = refl
taken-written (Some (part, Begun)) v t m = refl
taken-written (Some (part, Full)) v t m = by_word (ltb t.words 255) t.load (with_part part t.words v m.buffer) m _ refl

pub phase_written_lem : (p : Phase) (port : Port) (v : ℕ) (m : Machine) → store_marks_in (phase_written p port v m).next ≡ changed (phase_changes p port v m) (store_marks_in m)
unfolding changed
phase_written_lem Idle port v m = refl
phase_written_lem (DataIn t) port v m = refl
phase_written_lem (DataOut t) port v m = taken-written (take_of t.half port) v t m
