-- Cards with one fault in what stands at an address, or in what a register or the data port does: samples 10, 11 and 13 show them.
use Rattle.std.specs.Prelude.{ℕ, ◌+◌, ◌*◌, ◌/◌, ◌%◌, false, eqb, leb}
use Rattle.ground.specs.Choice.{pick}
use Rattle.answers.specs.Answers.{outcome_value}
use Rattle.maps.specs.declared.Port.{Port}
use Rattle.maps.specs.declared.Port.TheVariants.{Even, Odd, Word}
use Rattle.registers.specs.State.{with_interrupt}
use Rattle.registers.specs.Values.{writing_bit, drive_bits}
use Rattle.registers.specs.Machine.{Machine}
use Rattle.port.specs.Data.{Effect}
use Rattle.card.specs.declared.Meaning.{Meaning}
use Rattle.card.specs.declared.Meaning.TheVariants.{TupleByte, ReadOption, WriteOption, ReadRegister, WriteRegister, ReadData, WriteData}
use Rattle.card.specs.Access.{Asked, meaning}
use Rattle.card.specs.Perform.{perform}
use Rattle.card.specs.Step.{step}
use Rattle.samples.specs.Kinds.{reads_at}
use Rattle.samples.specs.Faults.{address_in, elsewhere, answers_with, altered}

-- "400H..7FFH is data, even as offset 8, odd as offset 9": here odd as even
abbrev pub evened : ℕ → ℕ
evened n = pick (leb 0x400 n) (n / 2 * 2) n

unfoldable pub even_at401 : Machine → Asked → Effect
even_at401 m a = step m (elsewhere evened a)

-- memory "000H..3FFH by the low four bits": here 3F7H is as 3FEH, Alternate Status and Device Control
abbrev pub alternated : ℕ → ℕ
alternated n = pick (eqb n 0x3F7) 0x3FE n

unfoldable pub alternate_at3_f7 : Machine → Asked → Effect
alternate_at3_f7 m a = step m (elsewhere alternated a)

-- both together
unfoldable pub even_and_alternate : Machine → Asked → Effect
even_and_alternate m a = step m (elsewhere (λ n. evened (alternated n)) a)

-- each in reads only
unfoldable pub reads_even_at401 : Machine → Asked → Effect
reads_even_at401 m a = pick a.access.write (step m a) (step m (elsewhere evened a))

unfoldable pub reads_alternate_at3_f7 : Machine → Asked → Effect
reads_alternate_at3_f7 m a = pick a.access.write (step m a) (step m (elsewhere alternated a))

-- 01, "Errors the old model made": "Reading Alternate Status clears the interrupt mark."
unfoldable pub alternate_clears : Machine → Asked → Effect
alternate_clears m a = pick (reads_at 0xE m a) (altered (with_interrupt false) (step m a)) (step m a)

-- "A byte at 9 moves the high half": here as a byte at 8, so the halves go in the order of arrival
abbrev pub even_port : Port → Port
even_port Even = Even
even_port Odd = Even
even_port Word = Word

abbrev pub evenly : Meaning → Meaning
evenly (Meaning.Refused r) = Meaning.Refused r
evenly (TupleByte b) = TupleByte b
evenly ReadOption = ReadOption
evenly (WriteOption v) = WriteOption v
evenly (ReadRegister r) = ReadRegister r
evenly (WriteRegister r v) = WriteRegister r v
evenly (ReadData p) = ReadData (even_port p)
evenly (WriteData p v) = WriteData (even_port p) v

unfoldable pub in_order_of_arrival : Machine → Asked → Effect
in_order_of_arrival m a = perform (evenly (meaning m a)) m

-- Drive Address: "bit 7 is 0": here 1
unfoldable pub bit_seven_set : Machine → Asked → Effect
bit_seven_set m a = let s = step m a in pick (reads_at 0xF m a) (answers_with (0x80 + outcome_value s.outcome) s) s

-- "bits 5..2 the negated head": here the head
unfoldable pub head_not_negated : Machine → Asked → Effect
head_not_negated m a =
    let head = (address_in m).head in
    pick (reads_at 0xF m a) (answers_with (writing_bit m.phase + (head % 16 * 4 + drive_bits head)) (step m a)) (step m a)
