-- 01, "Registers": what a read of each register gives, and what a write to one leaves, but for Command and Device Control.
use Rattle.std.specs.Prelude.{ℕ, ◌+◌, ◌*◌, ◌-◌, ◌/◌, ◌%◌, false, eqb}
use Rattle.ground.specs.Choice.{pick}
use Rattle.maps.specs.declared.Register.{Register}
use Rattle.maps.specs.declared.Register.TheVariants.{ErrorFeature, SectorCount, SectorNumber, CylinderLow, CylinderHigh, DriveHead, StatusCommand, AlternateControl, DriveAddress}
use Rattle.registers.specs.declared.Phase.{Phase}
use Rattle.registers.specs.declared.Phase.TheVariants.{Idle, DataIn, DataOut}
use Rattle.registers.specs.declared.State.{State}
use Rattle.registers.specs.Status.{busy_status}
use Rattle.registers.specs.State.{with_interrupt, with_count, with_address}

-- bits 6 and 4..0 of Drive/Head: bits 7 and 5 are not stored
abbrev pub head_bits : ℕ → ℕ
head_bits v = v / 64 % 2 * 64 + v % 32

-- "Drive/Head reads with bits 7 and 5 set"
abbrev pub head_read : ℕ → ℕ
head_read v = 0xA0 + head_bits v

-- "bit 6 is 0 while sector or buffer data is being written"
abbrev pub writing_bit : Phase → ℕ
writing_bit Idle = 0x40
writing_bit (DataIn t) = 0x40
writing_bit (DataOut t) = 0

-- "bit 4 is stored and otherwise only shows in Drive Address": "bit 1 is 0 for drive 1, bit 0 is 0 for drive 0"
abbrev pub drive_bits : ℕ → ℕ
drive_bits head = pick (eqb (head / 16 % 2) 1) 1 2

-- "Drive Address: bit 7 is 0 (H), …, bits 5..2 the negated head"
abbrev pub drive_address : Phase → ℕ → ℕ
drive_address p head = writing_bit p + ((15 - head % 16) * 4 + drive_bits head)

abbrev pub register_value : Register → Phase → State → ℕ
register_value ErrorFeature p s = s.registers.error
register_value SectorCount p s = s.registers.count
register_value SectorNumber p s = s.registers.address.sector
register_value CylinderLow p s = s.registers.address.low
register_value CylinderHigh p s = s.registers.address.high
register_value DriveHead p s = head_read s.registers.address.head
register_value StatusCommand p s = s.registers.status
register_value AlternateControl p s = s.registers.status
register_value DriveAddress p s = drive_address p s.registers.address.head

-- "Device Control bit 2 set: … reads of all offsets give 80H"
unfoldable pub value_read : Register → Phase → State → ℕ
value_read r p s = pick s.control.held busy_status (register_value r p s)

-- the interrupt mark is "cleared … by reading Status"
unfoldable pub after_read : Register → State → State
after_read ErrorFeature s = s
after_read SectorCount s = s
after_read SectorNumber s = s
after_read CylinderLow s = s
after_read CylinderHigh s = s
after_read DriveHead s = s
after_read StatusCommand s = with_interrupt false s
after_read AlternateControl s = s
after_read DriveAddress s = s

-- a write to a register with no transfer running: Feature is not kept; "F Drive Address (writes have no effect)"
unfoldable pub register_set : Register → ℕ → State → State
register_set ErrorFeature v s = s
register_set SectorCount v s = with_count v s
register_set SectorNumber v s = with_address (record { sector = v; low = s.registers.address.low; high = s.registers.address.high; head = s.registers.address.head }) s
register_set CylinderLow v s = with_address (record { sector = s.registers.address.sector; low = v; high = s.registers.address.high; head = s.registers.address.head }) s
register_set CylinderHigh v s = with_address (record { sector = s.registers.address.sector; low = s.registers.address.low; high = v; head = s.registers.address.head }) s
register_set DriveHead v s = with_address (record { sector = s.registers.address.sector; low = s.registers.address.low; high = s.registers.address.high; head = head_bits v }) s
register_set StatusCommand v s = s
register_set AlternateControl v s = s
register_set DriveAddress v s = s
