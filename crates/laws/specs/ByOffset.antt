-- 01, "Maps", the table of offsets, and "Registers": what a read and a write of each offset does that is not refused.
use Rattle.std.specs.Prelude.{ℕ, ◌+◌, ◌*◌, ◌-◌, ◌/◌, ◌%◌, ◌≡◌, Bool, true, false, not, eqb, Some}
use Rattle.ground.specs.Choice.{pick}
use Rattle.answers.specs.Answers.{refused}
use Rattle.maps.specs.declared.Port.{Port}
use Rattle.registers.specs.declared.Phase.{Phase}
use Rattle.registers.specs.declared.Phase.TheVariants.{Idle, DataIn, DataOut}
use Rattle.registers.specs.State.{with_count, with_address}
use Rattle.registers.specs.Machine.{Machine}
use Rattle.port.specs.Data.{accepted}
use Rattle.card.specs.Access.{Asked}
use Rattle.card.specs.Step.{step}
use Rattle.laws.specs.Holds.{byte_in_hold, offset_of, interrupt_cleared}
use Rattle.laws.specs.Turns.{going_on_with}

-- ---- reads

-- a read of offset o, in whatever map, gives v, in a Device Control hold 80H, and leaves the machine n
abbrev pub Reads : Machine → ℕ → ℕ → Machine → Type 0
Reads m o v n =
    (a : Asked) → offset_of m a ≡ Some o → a.access.write ≡ false → refused (step m a).outcome ≡ false → step m a ≡ accepted (pick m.state.control.held byte_in_hold v) n

-- "Drive/Head reads with bits 7 and 5 set; bit 6 selects LBA; bit 4 is stored", and bits 3..0 are the head
abbrev pub head_stored : ℕ → ℕ
head_stored head = head / 64 % 2 * 64 + head % 32

-- "Drive Address: bit 7 is 0 (H), bit 6 is 0 while sector or buffer data is being written, bits 5..2 the negated head, bit 1 is 0 for drive 1, bit 0 is 0 for
-- drive 0"
abbrev pub bit_six : Phase → ℕ
bit_six Idle = 0x40
bit_six (DataIn t) = 0x40
bit_six (DataOut t) = 0

abbrev pub drive_address_of : Phase → ℕ → ℕ
drive_address_of p head = bit_six p + ((15 - head % 16) * 4 + pick (eqb (head / 16 % 2) 1) 1 2)

-- "1 and D Error/Feature; 2 Sector Count; 3 Sector Number; 4, 5 Cylinder; 6 Drive/Head; 7 Status/Command; E Alternate Status/Device Control; F Drive Address":
-- reading Status clears the interrupt mark, and no other read changes anything
abbrev pub ReadTable : Machine → Type 0
ReadTable m =
    let r = m.state.registers in
    Reads m 1 r.error m
    × Reads m 0xD r.error m
    × Reads m 2 r.count m
    × Reads m 3 r.address.sector m
    × Reads m 4 r.address.low m
    × Reads m 5 r.address.high m
    × Reads m 6 (0xA0 + head_stored r.address.head) m
    × Reads m 7 r.status (interrupt_cleared m)
    × Reads m 0xE r.status m
    × Reads m 0xF (drive_address_of m.phase r.address.head) m

-- ---- writes

-- a write of v at offset o leaves the machine f v
abbrev pub Writes : Machine → ℕ → (ℕ → Machine) → Type 0
Writes m o f = (a : Asked) → offset_of m a ≡ Some o → a.access.write ≡ true → refused (step m a).outcome ≡ false → step m a ≡ accepted 0 (f a.access.value)

abbrev pub addressed : Machine → ℕ → ℕ → ℕ → ℕ → Machine
addressed m sector low high head = going_on_with (with_address (record { sector = sector; low = low; high = high; head = head }) m.state) m

-- with DRQ not set and no hold; Feature is not kept, "F Drive Address (writes have no effect)"
abbrev pub WriteTable : Machine → Type 0
WriteTable m =
    let b = m.state.registers.address in
    Writes m 1 (λ v. m)
    × Writes m 0xD (λ v. m)
    × Writes m 2 (λ v. going_on_with (with_count v m.state) m)
    × Writes m 3 (λ v. addressed m v b.low b.high b.head)
    × Writes m 4 (λ v. addressed m b.sector v b.high b.head)
    × Writes m 5 (λ v. addressed m b.sector b.low v b.head)
    × Writes m 6 (λ v. addressed m b.sector b.low b.high (head_stored v))
    × Writes m 0xF (λ v. m)

-- ---- data

-- "0, 8, 9 data": a word or a byte at 0 and 8, a byte at 9
abbrev pub port_for : ℕ → ℕ → Port
port_for offset width = pick (eqb offset 9) Port.Odd (pick (eqb width 2) Port.Word Port.Even)

-- "With no transfer that way, a read gives FFH or FFFFH"
abbrev pub that_way : Phase → Bool → Bool
that_way Idle write = false
that_way (DataIn t) write = not write
that_way (DataOut t) write = write

abbrev pub nothing_read : Port → ℕ
nothing_read Port.Even = 0xFF
nothing_read Port.Odd = 0xFF
nothing_read Port.Word = 0xFFFF
