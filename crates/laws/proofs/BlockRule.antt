-- 02, "One": after every access the block is what C6H set, or none where a reset was left, or as it was.
use Prim.Native.Nat.{ℕ}
use mathlib.Core.Bool.{Bool, true, false, not, ◌&&◌}
use mathlib.Core.Path.{◌≡◌, refl}
use lib.Dec.{eqb}
use Rattle.ground.specs.Choice.{pick}
use Rattle.ground.proofs.Picks.{any_of}
use Rattle.geometry.specs.Shape.{reshaped}
use Rattle.maps.specs.declared.Register.{Register}
use Rattle.maps.specs.declared.Register.TheVariants.{ErrorFeature, SectorCount, SectorNumber, CylinderLow, CylinderHigh, DriveHead, StatusCommand, AlternateControl, DriveAddress}
use Rattle.registers.specs.declared.Phase.{Phase}
use Rattle.registers.specs.declared.State.{State}
use Rattle.registers.specs.Blocks.{block_size, single}
use Rattle.registers.specs.State.{with_block, total_in}
use Rattle.registers.specs.Machine.{Machine, core_of}
use Rattle.registers.specs.Resets.{turn_of, option_turned, control_turned, bit_one}
use Rattle.transfers.specs.declared.End.{End}
use Rattle.transfers.specs.declared.Order.TheVariants.{First}
use Rattle.transfers.specs.Ends.{ended}
use Rattle.transfers.specs.Steps.{idle_with}
use Rattle.commands.specs.declared.Command.{Command}
use Rattle.commands.specs.declared.Command.TheVariants.{Read, Write, Verify, Erase, Identify, ReadBuffer, WriteBuffer, SetGeometry, Diagnose, Recalibrate, Seek, Sense, SetMultiple, ReadMultiple, WriteMultiple, Other}
use Rattle.commands.specs.Blocks.{block_set}
use Rattle.commands.specs.Table.{command_of, count_of, started, dropped, obeyed, command_given}
use Rattle.port.specs.Data.{Effect}
use Rattle.card.specs.declared.Meaning.{Meaning}
use Rattle.card.specs.declared.Meaning.TheVariants.{TupleByte, ReadOption, WriteOption, ReadRegister, WriteRegister, ReadData, WriteData}
use Rattle.card.specs.Access.{Asked, meaning}
use Rattle.card.specs.Perform.{option_written, register_written, perform}
use Rattle.card.specs.Step.{step}
use Rattle.kept.proofs.RegisterElim.{read_elim}
use Rattle.kept.proofs.DataElim.{data_read_elim, data_written_elim}
use Rattle.laws.specs.Bits.{bit_seven, bit_two}
use Rattle.laws.specs.Blocks.{one_of_five, none, command_block, register_block, block_after}
use Rattle.laws.proofs.SettingsKept.{same_block, plain, read_sector_lem, load_read_lem, ask_sector_lem, block_written, verified, erased, reshaped-ended, blocks_read_lem, blocks_asked_lem}

-- ---- the resets: was the card held, and is the bit set now

option_turned_lem : (was now : Bool) (v : ℕ) (p : Phase) (s : State) → (option_turned (turn_of was now) v p s).state.block ≡ pick (was && not now) none s.block
unfolding turn_of option_turned
option_turned_lem false true v p s = refl
option_turned_lem true false v p s = refl
option_turned_lem false false v p s = refl
option_turned_lem true true v p s = refl

control_turned_lem : (was now masked : Bool) (p : Phase) (s : State) → (control_turned (turn_of was now) masked p s).state.block ≡ pick (was && not now) none s.block
unfolding turn_of control_turned
control_turned_lem false true masked p s = refl
control_turned_lem true false masked p s = refl
control_turned_lem false false masked p s = refl
control_turned_lem true true masked p s = refl

-- ---- commands

five : (n : ℕ) → one_of_five n ≡ block_size n
unfolding block_size
five n = any_of (eqb n 1) (eqb n 2) (eqb n 4) (eqb n 8) (eqb n 16)

set_by : (v : Bool) (n : ℕ) (s : State) → (pick v (ended End.Good (with_block n s)) (ended End.NoSuchCommand s)).state.block ≡ pick v n s.block
set_by true n s = refl
set_by false n s = refl

obeys : (c : Command) (m : Machine) → let s = started (dropped m).state in (obeyed c s (dropped m)).state.block ≡ command_block c m.state.registers.count m.state.block
unfolding block_set
obeys Read m = let s = started (dropped m).state in same_block (read_sector_lem (count_of s) single (idle_with s m))
obeys Write m = let s = started (dropped m).state in same_block (ask_sector_lem (count_of s) single First s)
obeys Verify m = let s = started (dropped m).state in same_block (verified (count_of s) s m.marks)
obeys Erase m = let s = started (dropped m).state in same_block (erased (count_of s) s m.store m.marks)
obeys Identify m = refl
obeys ReadBuffer m = refl
obeys WriteBuffer m = refl
obeys SetGeometry m = let s = started (dropped m).state in same_block (reshaped-ended (reshaped s.registers.count s.registers.address.head (total_in s)) s)
obeys Diagnose m = refl
obeys Recalibrate m = refl
obeys Seek m = refl
obeys Sense m = refl
obeys SetMultiple m = let s = started (dropped m).state in rw (five m.state.registers.count) (set_by (block_size s.registers.count) s.registers.count s)
obeys ReadMultiple m = let s = started (dropped m).state in same_block (blocks_read_lem (count_of s) (idle_with s m))
obeys WriteMultiple m = let s = started (dropped m).state in same_block (blocks_asked_lem (count_of s) s)
obeys Other m = refl

command_written : (held : Bool) (v : ℕ) (m : Machine) → (pick held m (command_given v m)).state.block ≡ pick held m.state.block (command_block (command_of v) m.state.registers.count m.state.block)
unfolding command_given
command_written true v m = refl
command_written false v m = obeys (command_of v) m

-- ---- every access

register_written_lem : (r : Register) (v : ℕ) (m : Machine) → (register_written r v m).state.block ≡ register_block r v m.state
unfolding register_written
register_written_lem ErrorFeature v m = same_block (plain ErrorFeature v (core_of m))
register_written_lem SectorCount v m = same_block (plain SectorCount v (core_of m))
register_written_lem SectorNumber v m = same_block (plain SectorNumber v (core_of m))
register_written_lem CylinderLow v m = same_block (plain CylinderLow v (core_of m))
register_written_lem CylinderHigh v m = same_block (plain CylinderHigh v (core_of m))
register_written_lem DriveHead v m = same_block (plain DriveHead v (core_of m))
register_written_lem StatusCommand v m = command_written m.state.control.held v m
register_written_lem AlternateControl v m = control_turned_lem m.state.control.held (bit_two v) (bit_one v) m.phase m.state
register_written_lem DriveAddress v m = same_block (plain DriveAddress v (core_of m))

abbrev Keeps : Machine → Effect → Type 0
Keeps m x = x.next.state.block ≡ m.state.block

pub meant_block : (x : Meaning) (m : Machine) → (perform x m).next.state.block ≡ block_after x m.state
unfolding perform option_written
meant_block (Meaning.Refused r) m = refl
meant_block (TupleByte b) m = refl
meant_block ReadOption m = refl
meant_block (WriteOption v) m = option_turned_lem (bit_seven m.state.option) (bit_seven v) v m.phase m.state
meant_block (ReadRegister r) m = read_elim (λ (x : State). x.block ≡ m.state.block) r m.state refl refl
meant_block (WriteRegister r v) m = register_written_lem r v m
meant_block (ReadData port) m =
    data_read_elim (Keeps m) port m (λ v. refl) refl (λ v part t e. refl) (λ v t e w. refl) (λ v t e. same_block (load_read_lem t.load _))
meant_block (WriteData port v) m =
    data_written_elim (Keeps m) port v m refl refl (λ part t e. refl) (λ part t e w. refl) (λ part t e. block_written t.load _)

-- of every card and access
pub block_rule : (m : Machine) (a : Asked) → (step m a).next.state.block ≡ block_after (meaning m a) m.state
unfolding step
block_rule m a = meant_block (meaning m a) m
