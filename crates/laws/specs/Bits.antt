-- The values of Status and the bits that the laws speak of, from 01 anew: a law that took the card's own (`idle_status`, `sreset_in`, `index_in`, `bit_two`,
-- `bit_one` of registers) would share a slip of theirs.
use Rattle.std.specs.Prelude.{ℕ, ◌/◌, ◌%◌, Bool, eqb, leb}

-- "Idle 50H, data 58H, error 51H, write fault 71H."
abbrev pub status_idle : ℕ
status_idle = 0x50

abbrev pub status_data : ℕ
status_data = 0x58

abbrev pub status_error : ℕ
status_error = 0x51

abbrev pub status_write_fault : ℕ
status_write_fault = 0x71

-- "Status: 80H BSY, 40H RDY, 20H DWF, 10H DSC, 08H DRQ, 01H ERR."
abbrev pub bsy : ℕ → Bool
bsy status = eqb (status / 0x80 % 2) 1

abbrev pub rdy : ℕ → Bool
rdy status = eqb (status / 0x40 % 2) 1

abbrev pub dwf : ℕ → Bool
dwf status = eqb (status / 0x20 % 2) 1

abbrev pub dsc : ℕ → Bool
dsc status = eqb (status / 0x10 % 2) 1

abbrev pub drq : ℕ → Bool
drq status = eqb (status / 0x08 % 2) 1

abbrev pub err : ℕ → Bool
err status = eqb (status / 0x01 % 2) 1

-- "Configuration Option: bit 7 SRESET, bit 6 stored, bits 5..0 index"
abbrev pub bit_seven : ℕ → Bool
bit_seven v = leb 128 v

abbrev pub index_bits : ℕ → ℕ
index_bits v = v % 64

-- "Device Control bit 2 set"; "Bit 1 masks the interrupt line"
abbrev pub bit_two : ℕ → Bool
bit_two v = eqb (v / 4 % 2) 1

abbrev pub bit_one : ℕ → Bool
bit_one v = eqb (v / 2 % 2) 1
