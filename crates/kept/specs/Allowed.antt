-- What an access may mean, rows 8, 7, 6, 9 and 10 being past: no index above 3, no SRESET in mode 1, no register written while SRESET holds, and a byte.
use Rattle.std.specs.Prelude.{◌<◌, true, false, ◌≡◌}
use Rattle.registers.specs.declared.State.{State}
use Rattle.registers.specs.State.{sreset_in}
use Rattle.registers.specs.WellMade.{index_fits, sreset_fits}
use Rattle.card.specs.declared.Meaning.{Meaning}
use Rattle.card.specs.declared.Meaning.TheVariants.{TupleByte, ReadOption, WriteOption, ReadRegister, WriteRegister, ReadData, WriteData}

abbrev pub Allowed : Meaning → State → Type 0
Allowed (Meaning.Refused r) s = Unit {0}
Allowed (TupleByte b) s = Unit {0}
Allowed ReadOption s = Unit {0}
Allowed (WriteOption v) s = (index_fits v ≡ true) × (sreset_fits s.made.mode v ≡ true)
Allowed (ReadRegister r) s = Unit {0}
Allowed (WriteRegister r v) s = (sreset_in s.option ≡ false) × (v < 256)
Allowed (ReadData port) s = Unit {0}
Allowed (WriteData port v) s = Unit {0}
