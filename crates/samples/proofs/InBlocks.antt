-- Blocks, by computing: the third of eight sectors fails, with Count 6 and its address; three sectors are two blocks, with two marks.
use mathlib.Core.Bool.{true}
use mathlib.Core.Path.{◌≡◌, refl}
use lib.ListN.{get_or}
use Rattle.registers.specs.declared.Phase.TheVariants.{Idle}
use Rattle.registers.specs.Machine.{Machine}
use Rattle.card.specs.Step.{step, play}
use Rattle.samples.specs.ThreeMarks.{asks_of}
use Rattle.samples.specs.Lines.{agrees, opening}
use Rattle.samples.specs.InBlocks.{third_marked, third_unreadable, third_unwritable, last_of, read_by_twos, written_by_twos, read_singly}
use Rattle.samples.proofs.Computing.{computing}

-- the registers name LBA 12, six sectors are not done, no transfer runs, and the interrupt mark is set, in the middle of the block
abbrev AtThird : Machine → Type 0
AtThird m =
    (m.state.registers.count ≡ 6)
    × (m.state.registers.address ≡ record { sector = 12; low = 0; high = 0; head = 0x40 })
    × (m.phase ≡ Idle)
    × (m.state.interrupt ≡ true)

-- C4H: UNC, 11H
pub third_unreadable_lem : AtThird third_unreadable × (third_unreadable.state.registers.status ≡ 0x51) × (third_unreadable.state.registers.error ≡ 0x40) × (third_unreadable.state.code ≡ 0x11)
unfolding computing play asks_of third_marked third_unreadable
third_unreadable_lem = ((refl, refl, refl, refl), refl, refl, refl)

-- C5H: ABRT and DWF, 03H; the two before it are stored, and it is not
pub third_unwritable_lem : AtThird third_unwritable × (third_unwritable.state.registers.status ≡ 0x71) × (third_unwritable.state.registers.error ≡ 0x04) × (third_unwritable.state.code ≡ 0x03)
    × (get_or third_unwritable.store 5120 0 ≡ 0x34) × (get_or third_unwritable.store 5632 0 ≡ 0x34) × (get_or third_unwritable.store 6144 0 ≡ 12)
unfolding computing play asks_of third_marked third_unwritable
third_unwritable_lem = ((refl, refl, refl, refl), refl, refl, refl, refl, refl, refl)

-- a whole good C4H, and C5H, of three sectors by blocks of 2: two blocks, the second one partial, and two marks each; and 20H, three marks
pub by_twos : (agrees step (opening 1) read_by_twos ≡ true) × (agrees step (opening 1) written_by_twos ≡ true) × (agrees step (opening 1) read_singly ≡ true)
unfolding computing last_of read_by_twos written_by_twos read_singly
by_twos = (refl, refl, refl)
