-- The interrupt mark at a Command write: every row of the table keeps the rule.
use Rattle.std.proofs.Common.{Ok, Err, Some, None}
use Prim.Native.Nat.{ℕ}
use mathlib.Core.Path.{◌≡◌, refl}
use mathlib.Core.Bool.{true, false}
use mathlib.Core.List.{List}
use lib.Dec.{eqb}
use Rattle.ground.specs.Left.{Left}
use Rattle.sectors.specs.Sectors.{StoreMarks}
use Rattle.geometry.specs.Shape.{reshaped, Reshaped}
use Rattle.geometry.specs.Address.{seek}
use Rattle.ground.proofs.Picks.{pick-elim}
use Rattle.registers.specs.declared.Pace.{Pace}
use Rattle.registers.specs.declared.State.{State}
use Rattle.registers.specs.declared.Core.{Core}
use Rattle.laws.specs.Bits.{status_data}
use Rattle.registers.specs.State.{total_in}
use Rattle.registers.specs.Blocks.{block_size, no_block, single_stride, single, pace_from}
use Rattle.registers.specs.Machine.{Machine}
use Rattle.commands.specs.Blocks.{block_set, blocks_read, blocks_asked}
use Rattle.transfers.specs.declared.Order.TheVariants.{First}
use Rattle.transfers.specs.declared.End.{End}
use Rattle.transfers.specs.declared.End.TheVariants.{Good, BadHeadOrSector, BadCylinder, BadLba, PastEnd, Unreadable, WriteFault, BadGeometry, NoSuchCommand}
use Rattle.commands.specs.declared.Command.{Command}
use Rattle.commands.specs.declared.Command.TheVariants.{Read, Write, Verify, Erase, Identify, ReadBuffer, WriteBuffer, SetGeometry, Diagnose, Recalibrate, Seek, Sense, SetMultiple, ReadMultiple, WriteMultiple, Other}
use Rattle.transfers.specs.Ends.{end_status}
use Rattle.transfers.specs.declared.Way.TheVariants.{In}
use Rattle.transfers.specs.Before.{sector_test, address_test, Tested}
use Rattle.transfers.specs.Steps.{read_tested, read_sector, ask_tested, ask_sector}
use Rattle.commands.specs.Sweeps.{verify_run, erase_run}
use Rattle.commands.specs.Table.{count_of, sought_end, reshaped_ended, started, dropped, command_of, obeyed, command_given}
use Rattle.kept.proofs.Sweeps.{verify_elim, erase_elim}
use Rattle.laws.specs.Interrupt.{drq_set, reads_row, InterruptRule}
use Rattle.laws.specs.Acts.{CommandWrite}
use Rattle.laws.proofs.InterruptLaws.{over, ready, asked}

-- no end is 58H
pub end_drq : (e : End) → eqb (end_status e) status_data ≡ false
end_drq Good = refl
end_drq BadHeadOrSector = refl
end_drq BadCylinder = refl
end_drq BadLba = refl
end_drq PastEnd = refl
end_drq Unreadable = refl
end_drq WriteFault = refl
end_drq BadGeometry = refl
end_drq NoSuchCommand = refl

-- the command is over, and the interrupt mark is set
abbrev Over : State → Type 0
Over n = (n.interrupt ≡ true) × (drq_set n ≡ false)

verified : (n : ℕ) (s : State) (marks : List ℕ) → Over (verify_run n s marks).state
verified n s marks = verify_elim (λ (x : State). Unit {0}) (λ (k : Core). Over k.state) (λ n s u. tt) (λ e s u. (refl, end_drq e)) n s marks tt

erased : (n : ℕ) (s : State) (store marks : List ℕ) → Over (erase_run n s store marks).outcome.state
erased n s store marks =
    erase_elim (λ (x : State) (st mk : List ℕ). Unit {0}) (λ (k : Left Core StoreMarks). Over k.outcome.state) (λ s st mk u. tt) (λ n s st mk u. tt) (λ e s st mk u. (refl, end_drq e)) n s store marks tt

reshaped-ended : (r : Reshaped) (s : State) → Over (reshaped_ended r s).state
reshaped-ended (Some g) s = (refl, refl)
reshaped-ended None s = (refl, refl)

-- the rule of a row whose command is over
done : (c : Command) (s n : State) → Over n → InterruptRule (CommandWrite c) s n
done c s n o = over c s n o.0 o.1

-- the first sector of a command is the first of its block; c is the row of 20H or of C4H
read_first : (c : Command) → reads_row c ≡ true → (t : Tested) (left stride : ℕ) (s : State) (m : Machine) → InterruptRule (CommandWrite c) s (read_tested t left (pace_from stride) m).state
read_first c r (Ok spot) left stride s m = ready c s (read_tested (Ok spot) left (pace_from stride) m).state r refl refl
read_first c r (Err e) left stride s m = over c s (read_tested (Err e) left (pace_from stride) m).state refl (end_drq e)

-- … of 30H or of C5H
ask_first : (c : Command) → reads_row c ≡ false → (t : Tested) (left : ℕ) (k : Pace) (s n : State) → n.interrupt ≡ false → InterruptRule (CommandWrite c) s (ask_tested t left k First n).state
ask_first c r (Ok spot) left k s n e = asked c s (ask_tested (Ok spot) left k First n).state r e refl
ask_first c r (Err f) left k s n e = over c s (ask_tested (Err f) left k First n).state refl (end_drq f)

-- s is the state before the Command write, n the state that the command starts with
obeys : (c : Command) (s n : State) (m : Machine) → n.interrupt ≡ false → InterruptRule (CommandWrite c) s (obeyed c n m).state
unfolding read_sector ask_sector block_set blocks_read blocks_asked
obeys Read s n m e = read_first Read refl (sector_test In n m.marks) (count_of n) single_stride s _
obeys Write s n m e = ask_first Write refl (address_test n) (count_of n) single s n e
obeys Verify s n m e = done Verify s _ (verified (count_of n) n m.marks)
obeys Erase s n m e = done Erase s _ (erased (count_of n) n m.store m.marks)
obeys Identify s n m e = ready Identify s (obeyed Identify n m).state refl refl refl
obeys ReadBuffer s n m e = ready ReadBuffer s (obeyed ReadBuffer n m).state refl refl refl
obeys WriteBuffer s n m e = asked WriteBuffer s (obeyed WriteBuffer n m).state refl e refl
obeys SetGeometry s n m e = done SetGeometry s _ (reshaped-ended (reshaped n.registers.count n.registers.address.head (total_in n)) n)
obeys Diagnose s n m e = over Diagnose s (obeyed Diagnose n m).state refl refl
obeys Recalibrate s n m e = over Recalibrate s (obeyed Recalibrate n m).state refl refl
obeys Seek s n m e = over Seek s (obeyed Seek n m).state refl (end_drq (sought_end (seek n.registers.address n.current (total_in n))))
obeys Sense s n m e = over Sense s (obeyed Sense n m).state refl refl
obeys SetMultiple s n m e =
    pick-elim (λ (k : Core). InterruptRule (CommandWrite SetMultiple) s k.state) (block_size n.registers.count) _ _
    (λ b. over SetMultiple s _ refl refl) (λ b. over SetMultiple s _ refl refl)
obeys ReadMultiple s n m e =
    pick-elim (λ (x : Machine). InterruptRule (CommandWrite ReadMultiple) s x.state) (eqb n.block no_block) _ _
    (λ b. over ReadMultiple s _ refl refl)
    (λ b. read_first ReadMultiple refl (sector_test In n m.marks) (count_of n) n.block s _)
obeys WriteMultiple s n m e =
    pick-elim (λ (k : Core). InterruptRule (CommandWrite WriteMultiple) s k.state) (eqb n.block no_block) _ _
    (λ b. over WriteMultiple s _ refl refl)
    (λ b. ask_first WriteMultiple refl (address_test n) (count_of n) (pace_from n.block) s n e)
obeys Other s n m e = over Other s (obeyed Other n m).state refl refl

pub commanded : (v : ℕ) (m : Machine) → InterruptRule (CommandWrite (command_of v)) m.state (command_given v m).state
unfolding command_given
commanded v m = obeys (command_of v) m.state (started (dropped m).state) (dropped m) refl
