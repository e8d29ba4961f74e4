-- 01, "Registers": "Status: 80H BSY, 40H RDY, 20H DWF, 10H DSC, 08H DRQ, 01H ERR. Idle 50H, data 58H, error 51H, write fault 71H. Error: 40H UNC, 10H
-- IDNF, 04H ABRT."
use Rattle.std.specs.Prelude.{ℕ}

-- the values of Status; BSY alone is what a card held by Device Control reads as
abbrev pub busy_status : ℕ
busy_status = 0x80

abbrev pub idle_status : ℕ
idle_status = 0x50

abbrev pub data_status : ℕ
data_status = 0x58

abbrev pub error_status : ℕ
error_status = 0x51

abbrev pub fault_status : ℕ
fault_status = 0x71

-- the bits of Error
abbrev pub UNC : ℕ
UNC = 0x40

abbrev pub IDNF : ℕ
IDNF = 0x10

abbrev pub ABRT : ℕ
ABRT = 0x04

-- Error after power-on and after 90H
abbrev pub power_on_error : ℕ
power_on_error = 0x01
