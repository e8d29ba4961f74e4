-- The numbers of Status, of Error and of the codes, from 01 and 02 alone: the account shares none with the card.
use Rattle.std.specs.Prelude.{ℕ}

-- Status: "Idle 50H, data 58H, error 51H, write fault 71H"
abbrev pub status_idle : ℕ
status_idle = 0x50

abbrev pub status_error : ℕ
status_error = 0x51

abbrev pub status_write_fault : ℕ
status_write_fault = 0x71

-- "Error: 40H UNC, 10H IDNF, 04H ABRT."
abbrev pub error_unc : ℕ
error_unc = 0x40

abbrev pub error_idnf : ℕ
error_idnf = 0x10

abbrev pub error_abrt : ℕ
error_abrt = 0x04

-- "Bad head or sector: code 21H. Otherwise bad cylinder or LBA: 2FH."
abbrev pub code_head_or_sector : ℕ
code_head_or_sector = 0x21

abbrev pub code_cylinder_or_lba : ℕ
code_cylinder_or_lba = 0x2F

-- "mark 1: UNC, 11H"; "mark 2: ABRT and DWF, 03H"
abbrev pub code_unreadable : ℕ
code_unreadable = 0x11

abbrev pub code_write_fault : ℕ
code_write_fault = 0x03

-- 91H: "if S is 0 or H·S>N: ABRT, 21H"; others: "ABRT, 20H"; 02, "One": "ABRT with 20H"
abbrev pub code_geometry : ℕ
code_geometry = 0x21

abbrev pub code_others : ℕ
code_others = 0x20
