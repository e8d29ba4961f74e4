-- 02, "One": "The interrupt mark is then set once per block, the last one possibly partial": of C4H and C5H, for every block at once; and of 20H and 30H, once per
-- sector, as 01 has it.
use Prim.Native.Nat.{ℕ}
use mathlib.Core.Bool.{true, false}
use mathlib.Core.Path.{◌≡◌, refl, ap}
use mathlib.Core.List.{List, ◌∷◌}
use native.Mathlib.Omega.{arith}
use lib.Dec.{eqb}
use Rattle.registers.specs.Blocks.{pace_from, single}
use Rattle.registers.specs.Machine.{Machine}
use Rattle.registers.specs.WellMade.{in_reset}
use Rattle.transfers.specs.declared.Way.{Way}
use Rattle.transfers.specs.declared.Way.TheVariants.{In, Out}
use Rattle.transfers.specs.Before.{address_test, sector_test}
use Rattle.transfers.specs.Steps.{read_sector, ask_sector}
use Rattle.commands.specs.Blocks.{blocks_read, blocks_asked}
use Rattle.commands.specs.Table.{command_of, count_of, started, dropped, command_given}
use Rattle.card.specs.Access.{Asked}
use Rattle.card.specs.Step.{step, play}
use Rattle.kept.specs.Sound.{Sound}
use Rattle.laws.proofs.InterruptData.{read_proper}
use Rattle.account.specs.Host.{asks, Goes}
use Rattle.account.specs.Table.{asked}
use Rattle.blocks.specs.Alike.{multiple_code, Gives}
use Rattle.blocks.specs.Marks.{marks_set, EndsWell, rounded_up}
use Rattle.blocks.proofs.Turns.{ask_proper}
use Rattle.laws.specs.Interrupt.{reads_row}
use Rattle.commands.specs.declared.Command.{Command}
use Rattle.commands.specs.declared.Command.TheVariants.{Read, Write}
use Rattle.blocks.proofs.Counted.{begin_sets, Begins, Moment, read_begins, ask_begins, whole-marks, moment_marks}

-- ---- C4H, C5H

given : (way : Way) (m : Machine) → eqb m.state.block 0 ≡ false → Begins way (asked m.state.registers.count) (pace_from m.state.block) (command_given (multiple_code way) m)
unfolding command_given command_of blocks_read blocks_asked read_sector ask_sector count_of asked
given In m e = let s = started (dropped m).state in rw e (read_begins (sector_test In s m.marks) (count_of s) (pace_from m.state.block) _ (read_proper s m.marks))
given Out m e = let s = started (dropped m).state in rw e (ask_begins (address_test s) (count_of s) (pace_from m.state.block) s m.buffer m.store m.marks (ask_proper s))

multiple_row : (way : Way) → reads_row (command_of (multiple_code way)) ≡ begin_sets way
unfolding command_of
multiple_row In = refl
multiple_row Out = refl

-- C4H or C5H is written to a sound card that has a block and is in neither reset
module _ (way : Way) (m : Machine) (a : Asked) (s : Sound m) (f : in_reset m.state ≡ false) (b : eqb m.state.block 0 ≡ false) (g : Gives m a (multiple_code way)) where
  -- The accesses after it move all of its data, with no command and no reset among them, and it ends well. Then as many of these accesses, the Command write
  -- among them, set the mark as its sectors have blocks.
  pub marks_by_block : (l : List Asked) → EndsWell (step m a).next l → marks_set m (a ∷ l) ≡ rounded_up (asked m.state.registers.count) m.state.block
  marks_by_block l w = whole-marks way m a (multiple_code way) (asked m.state.registers.count) m.state.block s f g (multiple_row way) (given way m b) l w

  -- And at every moment of it, after any such accesses, while it asks for data: blocks are counted from the command's first sector.
  pub marks_so_far : (l : List Asked) → Goes (step m a).next l → asks (play (step m a).next l).last ≡ true → Moment way m a l (asked m.state.registers.count) m.state.block
  marks_so_far l w e = moment_marks way m a (multiple_code way) (asked m.state.registers.count) m.state.block s f g (multiple_row way) (given way m b) l w e

-- ---- 20H 21H, 30H 31H

-- the row of the command table
abbrev single_row : Way → Command
single_row In = Read
single_row Out = Write

given-singly : (way : Way) (v : ℕ) (m : Machine) → command_of v ≡ single_row way → Begins way (asked m.state.registers.count) single (command_given v m)
unfolding command_given read_sector ask_sector count_of asked
given-singly In v m e = let s = started (dropped m).state in rw e (read_begins (sector_test In s m.marks) (count_of s) single _ (read_proper s m.marks))
given-singly Out v m e = let s = started (dropped m).state in rw e (ask_begins (address_test s) (count_of s) single s m.buffer m.store m.marks (ask_proper s))

single-row : (way : Way) (v : ℕ) → command_of v ≡ single_row way → reads_row (command_of v) ≡ begin_sets way
single-row In v e = ap reads_row e
single-row Out v e = ap reads_row e

-- Whatever block the card has, or none, every sector of these is a block by itself.
module _ (way : Way) (v : ℕ) (m : Machine) (a : Asked) (s : Sound m) (f : in_reset m.state ≡ false) (e : command_of v ≡ single_row way) (g : Gives m a v) where
  pub marks_by_sector : (l : List Asked) → EndsWell (step m a).next l → marks_set m (a ∷ l) ≡ asked m.state.registers.count
  marks_by_sector l w =
      let c = asked m.state.registers.count in
      let x = whole-marks way m a v c 1 s f g (single-row way v e) (given-singly way v m e) l w in
      omega arith

  pub marks-singly : (l : List Asked) → Goes (step m a).next l → asks (play (step m a).next l).last ≡ true → Moment way m a l (asked m.state.registers.count) 1
  marks-singly l w d = moment_marks way m a v (asked m.state.registers.count) 1 s f g (single-row way v e) (given-singly way v m e) l w d

-- the four codes are of these rows
pub single-codes : (command_of 0x20 ≡ single_row In) × (command_of 0x21 ≡ single_row In) × (command_of 0x30 ≡ single_row Out) × (command_of 0x31 ≡ single_row Out)
unfolding command_of
single-codes = (refl, refl, refl, refl)
