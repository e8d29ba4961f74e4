-- Which accesses change sectors, and how many: a data write at most one, C0H at most as many as Count asks for, all else none.
use Rattle.std.proofs.Common.{Ok, Err, None, Some}
use Prim.Native.Nat.{ℕ, zero, suc, ◌≤◌}
use mathlib.Core.Path.{◌≡◌, refl, ap, ◌∙◌}
use mathlib.Core.Bool.{false, true≢false}
use mathlib.Core.List.{List, []}
use native.Mathlib.Omega.{arith}
use lib.Dec.{ltb}
use lib.ListN.{length, get_or, replicate}
use Rattle.ground.proofs.Picks.{pick-elim}
use Rattle.geometry.specs.declared.Address.{Address}
use Rattle.geometry.specs.declared.Geometry.{Geometry}
use Rattle.geometry.specs.Address.{locate, Located}
use Rattle.geometry.specs.Next.{next_of}
use Rattle.sectors.specs.Marks.{writable}
use Rattle.maps.specs.declared.Port.{Port}
use Rattle.maps.specs.declared.Register.{Register}
use Rattle.maps.specs.declared.Register.TheVariants.{ErrorFeature, SectorCount, SectorNumber, CylinderLow, CylinderHigh, DriveHead, StatusCommand, AlternateControl, DriveAddress}
use Rattle.registers.specs.declared.Load.{Load}
use Rattle.registers.specs.declared.Load.TheVariants.{Sectors, Buffer}
use Rattle.registers.specs.declared.Transfer.{Transfer}
use Rattle.registers.specs.declared.Phase.{Phase}
use Rattle.registers.specs.declared.Phase.TheVariants.{Idle, DataIn, DataOut}
use Rattle.registers.specs.declared.State.{State}
use Rattle.registers.specs.State.{located_in}
use Rattle.registers.specs.Machine.{Machine}
use Rattle.port.specs.declared.Fill.TheVariants.{Begun, Full}
use Rattle.commands.specs.declared.Command.{Command}
use Rattle.commands.specs.declared.Command.TheVariants.{Read, Write, Verify, Erase, Identify, ReadBuffer, WriteBuffer, SetGeometry, Diagnose, Recalibrate, Seek, Sense, SetMultiple, ReadMultiple, WriteMultiple, Other}
use Rattle.transfers.specs.Before.{run_past}
use Rattle.port.specs.Halves.{take_of, with_part, Take}
use Rattle.commands.specs.Table.{command_of}
use Rattle.card.specs.declared.Meaning.{Meaning}
use Rattle.card.specs.declared.Meaning.TheVariants.{TupleByte, ReadOption, WriteOption, ReadRegister, WriteRegister, ReadData, WriteData}
use Rattle.card.specs.Access.{Asked, meaning}
use Rattle.card.specs.Perform.{perform}
use Rattle.card.specs.Step.{step}
use Rattle.kept.specs.Lent.{store_marks_in}
use Rattle.laws.specs.Changes.{Change, changed, sector_changes, erasures, run_erasures, command_changes, register_changes, load_changes, taken_changes, phase_changes, changes}
use Rattle.laws.specs.MayChange.{erases, erases_by, may_change}
use Rattle.laws.proofs.BySectors.{meant_sectors}
use Rattle.geometry.specs.declared.BadAddress.{BadAddress}

-- ---- none

of_command : (c : Command) (s : State) (marks : List ℕ) → erases c ≡ false → command_changes c s marks ≡ []
of_command Read s marks e = refl
of_command Write s marks e = refl
of_command Verify s marks e = refl
of_command Erase s marks e = absurd (true≢false e)
of_command Identify s marks e = refl
of_command ReadBuffer s marks e = refl
of_command WriteBuffer s marks e = refl
of_command SetGeometry s marks e = refl
of_command Diagnose s marks e = refl
of_command Recalibrate s marks e = refl
of_command Seek s marks e = refl
of_command Sense s marks e = refl
of_command SetMultiple s marks e = refl
of_command ReadMultiple s marks e = refl
of_command WriteMultiple s marks e = refl
of_command Other s marks e = refl

of_register : (r : Register) (v : ℕ) (m : Machine) → erases_by r v ≡ false → register_changes r v m ≡ []
of_register ErrorFeature v m e = refl
of_register SectorCount v m e = refl
of_register SectorNumber v m e = refl
of_register CylinderLow v m e = refl
of_register CylinderHigh v m e = refl
of_register DriveHead v m e = refl
of_register StatusCommand v m e = pick-elim (λ (l : List Change). l ≡ []) m.state.control.held _ _ (λ h. refl) (λ h. of_command (command_of v) m.state m.marks e)
of_register AlternateControl v m e = refl
of_register DriveAddress v m e = refl

no_change : (k : Meaning) (m : Machine) → may_change k ≡ false → changes k m ≡ []
unfolding changes
no_change (Meaning.Refused r) m e = refl
no_change (TupleByte b) m e = refl
no_change ReadOption m e = refl
no_change (WriteOption v) m e = refl
no_change (ReadRegister r) m e = refl
no_change (WriteRegister r v) m e = of_register r v m e
no_change (ReadData port) m e = refl
no_change (WriteData port v) m e = absurd (true≢false e)

-- an access that is neither a data write nor the command C0H leaves the store, the marks and the number of bad sectors
pub meant_untouched : (x : Meaning) (m : Machine) → may_change x ≡ false → store_marks_in (perform x m).next ≡ store_marks_in m
unfolding changed
meant_untouched x m e = meant_sectors x m ∙ ap (λ (l : List Change). changed l (store_marks_in m)) (no_change x m e)

pub untouched : (m : Machine) (a : Asked) → may_change (meaning m a) ≡ false → store_marks_in (step m a).next ≡ store_marks_in m
unfolding step
untouched m a e = meant_untouched (meaning m a) m e

-- ---- one

abbrev AtMost : ℕ → List Change → Type 0
AtMost n l = length l ≤ n

sector_one : (l : Located) (marks bytes : List ℕ) (rest : List Change) (n : ℕ) → AtMost n rest → AtMost (suc n) (sector_changes l marks bytes rest)
sector_one (Ok spot) marks bytes rest n h = pick-elim (AtMost (suc n)) (writable (get_or marks spot.index 0)) _ _ (λ e. omega arith) (λ e. omega arith)
sector_one (Err BadAddress.HeadOrSector) marks bytes rest n h = omega arith
sector_one (Err BadAddress.Cylinder) marks bytes rest n h = omega arith
sector_one (Err BadAddress.Lba) marks bytes rest n h = omega arith

load_one : (l : Load) (bytes : List ℕ) (m : Machine) → AtMost 1 (load_changes l bytes m)
load_one Buffer bytes m = omega arith
load_one (Sectors left k) bytes m = sector_one (located_in m.state) m.marks bytes [] 0 (omega arith)

taken_one : (k : Take) (v : ℕ) (t : Transfer) (m : Machine) → AtMost 1 (taken_changes k v t m)
taken_one None v t m = omega arith
taken_one (Some (part, Begun)) v t m = omega arith
taken_one (Some (part, Full)) v t m = pick-elim (AtMost 1) (ltb t.words 255) _ _ (λ e. omega arith) (λ e. load_one t.load (with_part part t.words v m.buffer) m)

phase_one : (p : Phase) (port : Port) (v : ℕ) (m : Machine) → AtMost 1 (phase_changes p port v m)
phase_one Idle port v m = omega arith
phase_one (DataIn t) port v m = omega arith
phase_one (DataOut t) port v m = taken_one (take_of t.half port) v t m

-- a data write changes at most one sector
pub one_sector : (m : Machine) (port : Port) (v : ℕ) → length (changes (WriteData port v) m) ≤ 1
unfolding changes
one_sector m port v = pick-elim (AtMost 1) m.state.control.held _ _ (λ e. omega arith) (λ e. phase_one m.phase port v m)

sweep_few : (n : ℕ) (a : Address) (g : Geometry) (total : ℕ) (marks : List ℕ) → AtMost n (erasures n a g total marks)
unfolding erasures
sweep_few zero a g total marks = omega arith
sweep_few (suc n) a g total marks = sector_one (locate a g total) marks (replicate 512 0xFF) (erasures n (next_of a g) g total marks) n (sweep_few n (next_of a g) g total marks)

-- C0H at most as many as Count asks for
pub erasures_few : (n : ℕ) (a : Address) (g : Geometry) (total : ℕ) (marks : List ℕ) → length (run_erasures n a g total marks) ≤ n
unfolding run_erasures
erasures_few n a g total marks = pick-elim (AtMost n) (run_past n (locate a g total)) _ _ (λ e. omega arith) (λ e. sweep_few n a g total marks)
