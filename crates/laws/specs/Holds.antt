-- What 01's sentences on DRQ and on the Device Control hold speak of.
use Rattle.std.specs.Prelude.{ℕ, Bool, true, false, eqb, leb}
use Rattle.ground.specs.Choice.{pick}
use Rattle.maps.specs.Offsets.{Offset, offset_at}
use Rattle.maps.specs.declared.Port.{Port}
use Rattle.maps.specs.declared.Register.{Register}
use Rattle.maps.specs.declared.Register.TheVariants.{ErrorFeature, SectorCount, SectorNumber, CylinderLow, CylinderHigh, DriveHead, StatusCommand, AlternateControl, DriveAddress}
use Rattle.registers.specs.State.{with_interrupt}
use Rattle.registers.specs.Machine.{Machine, core, with_core}
use Rattle.card.specs.Access.{Asked}
use Rattle.laws.specs.Bits.{index_bits}

-- "While DRQ is set, writes to 1..6 and D have no effect.": Error/Feature stands at 1 and D
abbrev pub blocked : Register → Bool
blocked ErrorFeature = true
blocked SectorCount = true
blocked SectorNumber = true
blocked CylinderLow = true
blocked CylinderHigh = true
blocked DriveHead = true
blocked StatusCommand = false
blocked AlternateControl = false
blocked DriveAddress = false

-- "Device Control bit 2 set: …, writes to offsets other than E have no effect"
abbrev pub lost_in_hold : Register → Bool
lost_in_hold ErrorFeature = true
lost_in_hold SectorCount = true
lost_in_hold SectorNumber = true
lost_in_hold CylinderLow = true
lost_in_hold CylinderHigh = true
lost_in_hold DriveHead = true
lost_in_hold StatusCommand = true
lost_in_hold AlternateControl = false
lost_in_hold DriveAddress = true

-- "reads of all offsets give 80H, data words 8080H"
abbrev pub byte_in_hold : ℕ
byte_in_hold = 0x80

abbrev pub word_in_hold : ℕ
word_in_hold = 0x8080

abbrev pub data_in_hold : Port → ℕ
data_in_hold Port.Even = byte_in_hold
data_in_hold Port.Odd = byte_in_hold
data_in_hold Port.Word = word_in_hold

-- the interrupt mark is "cleared … by reading Status"; nothing else changes by reading a register
abbrev pub interrupt_cleared : Machine → Machine
interrupt_cleared m = with_core (core m.phase (with_interrupt false m.state)) m

abbrev pub after_reading : Register → Machine → Machine
after_reading ErrorFeature m = m
after_reading SectorCount m = m
after_reading SectorNumber m = m
after_reading CylinderLow m = m
after_reading CylinderHigh m = m
after_reading DriveHead m = m
after_reading StatusCommand m = interrupt_cleared m
after_reading AlternateControl m = m
after_reading DriveAddress m = m

-- ---- the same by the offset that an access reaches in the card's map, and by its width

abbrev pub offset_of : Machine → Asked → Offset
offset_of m a = offset_at a.access.space (index_bits m.state.option) a.access.address

-- "writes to 1..6 and D"
abbrev pub blocked_at : ℕ → Bool
blocked_at offset = pick (eqb offset 0xD) true (pick (leb 1 offset) (leb offset 6) false)

-- an access of width 1 is a byte's, one of width 2 a data word's
abbrev pub read_in_hold : ℕ → ℕ
read_in_hold width = pick (eqb width 2) word_in_hold byte_in_hold
