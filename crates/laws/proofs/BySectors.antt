-- An access changes the store, the marks and the number of marks that are not 0 by whole sectors: those that `changes` lists, and nothing else.
use Rattle.std.proofs.Common.{Ok, Err}
use Prim.Native.Nat.{ℕ, ◌-◌}
use mathlib.Core.Path.{◌≡◌, refl, ap, ◌∙◌}
use mathlib.Core.Bool.{Bool, true, false}
use mathlib.Core.List.{List, []}
use lib.Dec.{eqb}
use Rattle.ground.specs.Choice.{pick}
use Rattle.ground.proofs.Picks.{pick-elim}
use Rattle.geometry.specs.Shape.{reshaped}
use Rattle.sectors.specs.Sectors.{StoreMarks, store_marks}
use Rattle.maps.specs.declared.Register.{Register}
use Rattle.maps.specs.declared.Register.TheVariants.{ErrorFeature, SectorCount, SectorNumber, CylinderLow, CylinderHigh, DriveHead, StatusCommand, AlternateControl, DriveAddress}
use Rattle.registers.specs.declared.Pace.{Pace}
use Rattle.registers.specs.declared.Load.{Load}
use Rattle.registers.specs.declared.Load.TheVariants.{Sectors, Buffer}
use Rattle.registers.specs.declared.Phase.{Phase}
use Rattle.registers.specs.declared.State.{State}
use Rattle.registers.specs.declared.Core.{Core}
use Rattle.registers.specs.declared.resets.Turn.{Turn}
use Rattle.registers.specs.declared.resets.Turn.TheVariants.{Enter, Leave, Stay}
use Rattle.registers.specs.State.{total_in}
use Rattle.registers.specs.Resets.{turn_of, option_turned, option_turn, control_turned, bit_two, bit_one}
use Rattle.registers.specs.Machine.{Machine, core_of}
use Rattle.commands.specs.declared.Command.{Command}
use Rattle.commands.specs.declared.Command.TheVariants.{Read, Write, Verify, Erase, Identify, ReadBuffer, WriteBuffer, SetGeometry, Diagnose, Recalibrate, Seek, Sense, SetMultiple, ReadMultiple, WriteMultiple, Other}
use Rattle.transfers.specs.declared.Order.TheVariants.{First}
use Rattle.transfers.specs.declared.Way.TheVariants.{In}
use Rattle.transfers.specs.Before.{sector_test, Tested}
use Rattle.transfers.specs.Steps.{idle_with, sector_done, read_tested, read_sector, next_read, load_read, all_moved}
use Rattle.port.specs.Data.{Effect, accepted, phase_written, data_written}
use Rattle.commands.specs.Sweeps.{erase_run}
use Rattle.commands.specs.Table.{count_of, command_of, started, dropped, obeyed, command_given}
use Rattle.card.specs.declared.Meaning.{Meaning}
use Rattle.card.specs.declared.Meaning.TheVariants.{TupleByte, ReadOption, WriteOption, ReadRegister, WriteRegister, ReadData, WriteData}
use Rattle.card.specs.Access.{Asked, meaning}
use Rattle.card.specs.Perform.{option_written, register_written, perform}
use Rattle.card.specs.Step.{step}
use Rattle.kept.specs.Lent.{store_marks_in}
use Rattle.kept.proofs.RegisterElim.{read_elim}
use Rattle.kept.proofs.DataElim.{data_read_elim}
use Rattle.registers.specs.Blocks.{block_size, no_block, single, pace_from, pace_after}
use Rattle.commands.specs.Blocks.{block_set, blocks_read}
use Rattle.laws.specs.Changes.{Change, changed, command_changes, register_changes, phase_changes, changes}
use Rattle.laws.proofs.SettingsKept.{same_number, done, plain, ask_sector_lem, blocks_asked_lem, verified, erased, reshaped-ended}
use Rattle.laws.proofs.ErasedSectors.{erase_kept}
use Rattle.laws.proofs.WrittenSectors.{phase_written_lem}

-- ---- reading changes nothing

abbrev Keeps : StoreMarks → Machine → Type 0
Keeps k n = store_marks_in n ≡ k

-- with the number of marks that are not 0 as it was
kept : (m : Machine) {b : ℕ} → b ≡ m.state.bad → store_marks m.store m.marks b ≡ store_marks_in m
kept m e = ap (store_marks m.store m.marks) e

read_tested_lem : (t : Tested) (left : ℕ) (k : Pace) (m : Machine) → Keeps (store_marks_in m) (read_tested t left k m)
read_tested_lem (Ok spot) left k m = refl
read_tested_lem (Err e) left k m = refl

load_read_lem : (l : Load) (m : Machine) → Keeps (store_marks_in m) (load_read l m)
unfolding next_read read_sector
load_read_lem Buffer m = refl
load_read_lem (Sectors left k) m =
    let d = kept m (same_number (done (left - 1) m.state)) in
    pick-elim (Keeps (store_marks_in m)) (eqb (left - 1) 0) _ _ (λ e. d)
    (λ e. read_tested_lem (sector_test In (sector_done (left - 1) m.state) m.marks) (left - 1) (pace_after k) (idle_with (sector_done (left - 1) m.state) m) ∙ d)

-- ---- writing

by_hold : (held : Bool) (x : Effect) (l : List Change) (m : Machine) (v : ℕ) → store_marks_in x.next ≡ changed l (store_marks_in m) →
    store_marks_in (pick held (accepted v m) x).next ≡ changed (pick held [] l) (store_marks_in m)
unfolding changed
by_hold true x l m v e = refl
by_hold false x l m v e = e

-- ---- the two resets

pub option_keeps : (t : Turn) (v : ℕ) (p : Phase) (s : State) → (option_turned t v p s).state.bad ≡ s.bad
unfolding option_turned
option_keeps Enter v p s = refl
option_keeps Leave v p s = refl
option_keeps Stay v p s = refl

pub control_keeps : (t : Turn) (masked : Bool) (p : Phase) (s : State) → (control_turned t masked p s).state.bad ≡ s.bad
unfolding control_turned
control_keeps Enter masked p s = refl
control_keeps Leave masked p s = refl
control_keeps Stay masked p s = refl

-- ---- the command table

-- Error, code and the interrupt mark, with which a command starts afresh, do not matter to what is erased
obeys : (c : Command) (m : Machine) → store_marks_in (obeyed c (started (dropped m).state) (dropped m)) ≡ changed (command_changes c m.state m.marks) (store_marks_in m)
unfolding changed read_sector count_of block_set blocks_read
obeys Read m = read_tested_lem (sector_test In (started (dropped m).state) m.marks) (count_of (started (dropped m).state)) single (idle_with (started (dropped m).state) m)
obeys Write m = let s = started (dropped m).state in kept m (same_number (ask_sector_lem (count_of s) single First s))
obeys Verify m = let s = started (dropped m).state in kept m (same_number (verified (count_of s) s m.marks))
obeys Erase m =
    let s = started (dropped m).state in
    let e = erase_run (count_of s) s m.store m.marks in
    ap (store_marks e.next.store e.next.marks) (same_number (erased (count_of s) s m.store m.marks)) ∙ erase_kept (count_of s) s m.store m.marks
obeys Identify m = refl
obeys ReadBuffer m = refl
obeys WriteBuffer m = refl
obeys SetGeometry m =
    let s = started (dropped m).state in kept m (same_number (reshaped-ended (reshaped s.registers.count s.registers.address.head (total_in s)) s))
obeys Diagnose m = refl
obeys Recalibrate m = refl
obeys Seek m = refl
obeys Sense m = refl
obeys SetMultiple m =
    let s = started (dropped m).state in
    pick-elim (λ (k : Core). store_marks m.store m.marks k.state.bad ≡ store_marks_in m) (block_size s.registers.count) _ _ (λ e. refl) (λ e. refl)
obeys ReadMultiple m =
    let s = started (dropped m).state in
    pick-elim (λ (x : Machine). store_marks_in x ≡ store_marks_in m) (eqb s.block no_block) _ _
    (λ e. refl)
    (λ e. read_tested_lem (sector_test In s m.marks) (count_of s) (pace_from s.block) (idle_with s m))
obeys WriteMultiple m = let s = started (dropped m).state in kept m (same_number (blocks_asked_lem (count_of s) s))
obeys Other m = refl

command_written : (held : Bool) (v : ℕ) (m : Machine) →
    store_marks_in (pick held m (command_given v m)) ≡ changed (pick held [] (command_changes (command_of v) m.state m.marks)) (store_marks_in m)
unfolding changed command_given
command_written true v m = refl
command_written false v m = obeys (command_of v) m

register_written_lem : (r : Register) (v : ℕ) (m : Machine) → store_marks_in (register_written r v m) ≡ changed (register_changes r v m) (store_marks_in m)
unfolding changed register_written
register_written_lem ErrorFeature v m = kept m (same_number (plain ErrorFeature v (core_of m)))
register_written_lem SectorCount v m = kept m (same_number (plain SectorCount v (core_of m)))
register_written_lem SectorNumber v m = kept m (same_number (plain SectorNumber v (core_of m)))
register_written_lem CylinderLow v m = kept m (same_number (plain CylinderLow v (core_of m)))
register_written_lem CylinderHigh v m = kept m (same_number (plain CylinderHigh v (core_of m)))
register_written_lem DriveHead v m = kept m (same_number (plain DriveHead v (core_of m)))
register_written_lem StatusCommand v m = command_written m.state.control.held v m
register_written_lem AlternateControl v m = kept m (control_keeps (turn_of m.state.control.held (bit_two v)) (bit_one v) m.phase m.state)
register_written_lem DriveAddress v m = kept m (same_number (plain DriveAddress v (core_of m)))

pub meant_sectors : (x : Meaning) (m : Machine) → store_marks_in (perform x m).next ≡ changed (changes x m) (store_marks_in m)
unfolding changed changes perform data_written option_written
meant_sectors (Meaning.Refused r) m = refl
meant_sectors (TupleByte b) m = refl
meant_sectors ReadOption m = refl
meant_sectors (WriteOption v) m = kept m (option_keeps (option_turn v m.state) v m.phase m.state)
meant_sectors (ReadRegister r) m = read_elim (λ (x : State). store_marks m.store m.marks x.bad ≡ store_marks_in m) r m.state refl refl
meant_sectors (WriteRegister r v) m = register_written_lem r v m
meant_sectors (ReadData port) m =
    data_read_elim (λ (x : Effect). Keeps (store_marks_in m) x.next) port m (λ v. refl) refl (λ v part t e. refl) (λ v t e w. refl) (λ v t e. load_read_lem t.load (all_moved m))
meant_sectors (WriteData port v) m = by_hold m.state.control.held (phase_written m.phase port v m) (phase_changes m.phase port v m) m 0 (phase_written_lem m.phase port v m)

pub by_sectors : (m : Machine) (a : Asked) → store_marks_in (step m a).next ≡ changed (changes (meaning m a) m) (store_marks_in m)
unfolding step
by_sectors m a = meant_sectors (meaning m a) m
