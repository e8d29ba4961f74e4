-- Every way in which a command or a transfer goes on or ends leaves a code where Status is in error, whatever was there before.
use Rattle.std.proofs.Common.{Ok, Err, Some, None}
use Prim.Native.Nat.{ℕ, ◌-◌}
use mathlib.Core.Path.{◌≡◌, refl}
use mathlib.Core.Bool.{true, false≢true}
use mathlib.Core.List.{List}
use lib.Dec.{eqb}
use borrow.Author.Tests.{eqb-false}
use Rattle.ground.specs.Left.{Left}
use Rattle.sectors.specs.Sectors.{StoreMarks}
use Rattle.ground.proofs.Picks.{pick-elim}
use Rattle.geometry.specs.Shape.{reshaped, Reshaped}
use Rattle.geometry.specs.Address.{seek}
use Rattle.registers.specs.declared.Pace.{Pace}
use Rattle.registers.specs.declared.Load.{Load}
use Rattle.registers.specs.declared.Load.TheVariants.{Sectors, Buffer}
use Rattle.registers.specs.declared.State.{State}
use Rattle.registers.specs.declared.Core.{Core}
use Rattle.laws.specs.Bits.{status_data}
use Rattle.registers.specs.State.{with_bad, total_in}
use Rattle.registers.specs.Machine.{Machine}
use Rattle.transfers.specs.declared.Order.{Order}
use Rattle.transfers.specs.declared.Order.TheVariants.{First, Later}
use Rattle.transfers.specs.declared.End.{End}
use Rattle.transfers.specs.declared.End.TheVariants.{Good, BadHeadOrSector, BadCylinder, BadLba, PastEnd, Unreadable, WriteFault, BadGeometry, NoSuchCommand}
use Rattle.commands.specs.declared.Command.{Command}
use Rattle.commands.specs.declared.Command.TheVariants.{Read, Write, Verify, Erase, Identify, ReadBuffer, WriteBuffer, SetGeometry, Diagnose, Recalibrate, Seek, Sense, SetMultiple, ReadMultiple, WriteMultiple, Other}
use Rattle.transfers.specs.Ends.{end_status, end_code}
use Rattle.transfers.specs.declared.Way.TheVariants.{In}
use Rattle.transfers.specs.Before.{sector_test, address_test, sector_stored, Tested}
use Rattle.transfers.specs.Steps.{read_tested, read_sector, next_read, load_read, ask_tested, ask_sector, next_asked, core_written, load_written}
use Rattle.commands.specs.Sweeps.{verify_run, erase_run}
use Rattle.commands.specs.Table.{obeyed, reshaped_ended, sought_end, command_of, started, dropped, command_given}
use Rattle.registers.specs.Blocks.{block_size, no_block, single, pace_from, pace_after}
use Rattle.commands.specs.Blocks.{block_set, blocks_read, blocks_asked}
use Rattle.kept.proofs.Sweeps.{verify_elim, erase_elim}
use Rattle.laws.specs.Coded.{in_error, Coded}

-- the table of ends: each in error has a code
end_coded : (e : End) (code : ℕ) → in_error (end_status e) ≡ true → end_code e code ≡ 0 → ⊥
end_coded Good code p = absurd (false≢true p)
end_coded BadHeadOrSector code p = eqb-false 0x21 0 refl
end_coded BadCylinder code p = eqb-false 0x2F 0 refl
end_coded BadLba code p = eqb-false 0x2F 0 refl
end_coded PastEnd code p = eqb-false 0x2F 0 refl
end_coded Unreadable code p = eqb-false 0x11 0 refl
end_coded WriteFault code p = eqb-false 0x03 0 refl
end_coded BadGeometry code p = eqb-false 0x21 0 refl
end_coded NoSuchCommand code p = eqb-false 0x20 0 refl

-- 58H is no error
begun_coded : (code : ℕ) → in_error status_data ≡ true → code ≡ 0 → ⊥
begun_coded code p = absurd (false≢true p)

-- ---- reading

read_tested_lem : (t : Tested) (left : ℕ) (k : Pace) (m : Machine) → Coded (read_tested t left k m).state
read_tested_lem (Ok spot) left k m = begun_coded _
read_tested_lem (Err e) left k m = end_coded e _

read_sector_lem : (left : ℕ) (k : Pace) (m : Machine) → Coded (read_sector left k m).state
unfolding read_sector
read_sector_lem left k m = read_tested_lem (sector_test In m.state m.marks) left k m

next_read_lem : (left : ℕ) (k : Pace) (m : Machine) → Coded (next_read left k m).state
unfolding next_read
next_read_lem left k m = pick-elim (λ (n : Machine). Coded n.state) (eqb left 0) _ _ (λ e. end_coded Good _) (λ e. read_sector_lem left k _)

pub load_read_lem : (l : Load) (m : Machine) → Coded (load_read l m).state
load_read_lem Buffer m = end_coded Good _
load_read_lem (Sectors left k) m = next_read_lem (left - 1) (pace_after k) m

-- ---- writing

ask_tested_lem : (t : Tested) (left : ℕ) (k : Pace) (order : Order) (s : State) → Coded (ask_tested t left k order s).state
ask_tested_lem (Ok spot) left k order s = begun_coded _
ask_tested_lem (Err e) left k order s = end_coded e _

ask_sector_lem : (left : ℕ) (k : Pace) (order : Order) (s : State) → Coded (ask_sector left k order s).state
unfolding ask_sector
ask_sector_lem left k order s = ask_tested_lem (address_test s) left k order s

next-asked : (left : ℕ) (k : Pace) (s : State) → Coded (next_asked left k s).state
unfolding next_asked
next-asked left k s = pick-elim (λ (k : Core). Coded k.state) (eqb left 0) _ _ (λ e. end_coded Good _) (λ e. ask_sector_lem left k Later _)

core-written : (t : Tested) (left : ℕ) (k : Pace) (s : State) → Coded (core_written t left k s).state
core-written (Ok spot) left k s = next-asked left k s
core-written (Err e) left k s = end_coded e _

pub load_written_lem : (l : Load) (m : Machine) → Coded (load_written l m).state
load_written_lem Buffer m = end_coded Good _
load_written_lem (Sectors left p) m =
    let k = sector_stored m.state m.buffer m.store m.marks in core-written k.outcome (left - 1) (pace_after p) (with_bad k.next.bad m.state)

-- ---- Verify and Erase

verified : (n : ℕ) (s : State) (marks : List ℕ) → Coded (verify_run n s marks).state
verified n s marks = verify_elim (λ (x : State). Unit {0}) (λ (k : Core). Coded k.state) (λ n s u. tt) (λ e s u. end_coded e _) n s marks tt

erased : (n : ℕ) (s : State) (store marks : List ℕ) → Coded (erase_run n s store marks).outcome.state
erased n s store marks =
    erase_elim (λ (x : State) (st mk : List ℕ). Unit {0}) (λ (k : Left Core StoreMarks). Coded k.outcome.state) (λ s st mk u. tt) (λ n s st mk u. tt) (λ e s st mk u. end_coded e _) n s store marks tt

-- ---- the table

reshaped-ended : (r : Reshaped) (s : State) → Coded (reshaped_ended r s).state
reshaped-ended (Some g) s = end_coded Good _
reshaped-ended None s = end_coded BadGeometry 0

obeys : (c : Command) (s : State) (m : Machine) → Coded (obeyed c s m).state
unfolding block_set blocks_read blocks_asked
obeys Read s m = read_sector_lem _ single _
obeys Write s m = ask_sector_lem _ single First s
obeys Verify s m = verified _ s m.marks
obeys Erase s m = erased _ s m.store m.marks
obeys Identify s m = begun_coded _
obeys ReadBuffer s m = begun_coded _
obeys WriteBuffer s m = begun_coded _
obeys SetGeometry s m = reshaped-ended (reshaped s.registers.count s.registers.address.head (total_in s)) s
obeys Diagnose s m = end_coded Good _
obeys Recalibrate s m = end_coded Good _
obeys Seek s m = end_coded (sought_end (seek s.registers.address s.current (total_in s))) s.code
obeys Sense s m = end_coded Good _
obeys SetMultiple s m = pick-elim (λ (k : Core). Coded k.state) (block_size s.registers.count) _ _ (λ e. end_coded Good _) (λ e. end_coded NoSuchCommand 0)
obeys ReadMultiple s m = pick-elim (λ (x : Machine). Coded x.state) (eqb s.block no_block) _ _ (λ e. end_coded NoSuchCommand 0) (λ e. read_sector_lem _ (pace_from s.block) _)
obeys WriteMultiple s m = pick-elim (λ (k : Core). Coded k.state) (eqb s.block no_block) _ _ (λ e. end_coded NoSuchCommand 0) (λ e. ask_sector_lem _ (pace_from s.block) First s)
obeys Other s m = end_coded NoSuchCommand 0

pub commanded : (v : ℕ) (m : Machine) → Coded (command_given v m).state
unfolding command_given
commanded v m = obeys (command_of v) (started (dropped m).state) (dropped m)
