-- What a command works on and leaves: the card's registers, geometries, mode, code, number of bad sectors, block and buffer, the store and the marks; and
-- how a command ends.
use Rattle.std.specs.Prelude.{ℕ, ◌*◌, List, [], ◌++◌}
use Rattle.geometry.specs.declared.Geometry.{Geometry}
use Rattle.geometry.specs.declared.Address.{Address}
use Rattle.registers.specs.declared.Registers.{Registers}
use Rattle.registers.specs.declared.Made.{Made}
use Rattle.account.specs.Numbers.{status_idle, status_error, status_write_fault, error_unc, error_idnf, error_abrt, code_unreadable, code_write_fault}

pub record Plain : Type 0 where
  pub made : Made
  pub current : Geometry
  pub registers : Registers
  pub code : ℕ
  -- 02, "Eight": the number of marks that are not 0, as the card keeps it
  pub bad : ℕ
  -- 02, "One": how many sectors a block has, or 0 for none
  pub block : ℕ
  pub buffer : List ℕ
  pub store : List ℕ
  pub marks : List ℕ

-- "the 512-byte buffer"; "Store length is 512·N": said anew here, as every number of the account
abbrev pub bytes_per_sector : ℕ
bytes_per_sector = 512

-- "N = C·H·S"
abbrev pub sectors_of : Geometry → ℕ
sectors_of g = g.cylinders * g.heads * g.sectors

-- ---- changes

abbrev pub with_registers : Registers → Plain → Plain
with_registers r p = record { made = p.made; current = p.current; registers = r; code = p.code; bad = p.bad; block = p.block; buffer = p.buffer; store = p.store; marks = p.marks }

abbrev pub with_code : ℕ → Plain → Plain
with_code n p = record { made = p.made; current = p.current; registers = p.registers; code = n; bad = p.bad; block = p.block; buffer = p.buffer; store = p.store; marks = p.marks }

abbrev pub with_current : Geometry → Plain → Plain
with_current g p = record { made = p.made; current = g; registers = p.registers; code = p.code; bad = p.bad; block = p.block; buffer = p.buffer; store = p.store; marks = p.marks }

abbrev pub with_buffer : List ℕ → Plain → Plain
with_buffer b p = record { made = p.made; current = p.current; registers = p.registers; code = p.code; bad = p.bad; block = p.block; buffer = b; store = p.store; marks = p.marks }

abbrev pub with_block : ℕ → Plain → Plain
with_block n p = record { made = p.made; current = p.current; registers = p.registers; code = p.code; bad = p.bad; block = n; buffer = p.buffer; store = p.store; marks = p.marks }

-- the store, the marks, and the number of them that are not 0
abbrev pub with_store : List ℕ → List ℕ → ℕ → Plain → Plain
with_store s m n p = record { made = p.made; current = p.current; registers = p.registers; code = p.code; bad = n; block = p.block; buffer = p.buffer; store = s; marks = m }

abbrev pub with_status : ℕ → Plain → Plain
with_status v p = with_registers (record { status = v; error = p.registers.error; count = p.registers.count; address = p.registers.address }) p

abbrev pub with_error : ℕ → Plain → Plain
with_error v p = with_registers (record { status = p.registers.status; error = v; count = p.registers.count; address = p.registers.address }) p

-- Sector Count and the address registers
abbrev pub with_place : ℕ → Address → Plain → Plain
with_place n a p = with_registers (record { status = p.registers.status; error = p.registers.error; count = n; address = a }) p

-- ---- starts and ends

-- "Every command but 03H starts with Error and code 0."
abbrev pub starts : Plain → Plain
starts p = with_code 0 (with_error 0 p)

-- how a command ends: well, or with a bit of Error and a code
pub data Finish : Type 0 where
  Well : Finish
  NotFound : ℕ → Finish
  Unreadable : Finish
  WriteFault : Finish
  Aborted : ℕ → Finish

-- Status, Error, code
abbrev pub failing : ℕ → ℕ → ℕ → Plain → Plain
failing status error code p = with_code code (with_error error (with_status status p))

-- "Both are IDNF"; "mark 1: UNC, 11H"; "mark 2: ABRT and DWF, 03H"
abbrev pub ends : Finish → Plain → Plain
ends Well p = with_status status_idle p
ends (NotFound code) p = failing status_error error_idnf code p
ends Unreadable p = failing status_error error_unc code_unreadable p
ends WriteFault p = failing status_write_fault error_abrt code_write_fault p
ends (Aborted code) p = failing status_error error_abrt code p

-- ---- the account: the data moved, and what is left

pub record Account : Type 0 where
  pub moved : List ℕ
  pub left : Plain

abbrev pub silent : Plain → Account
silent p = record { moved = []; left = p }

abbrev pub moving : List ℕ → Account → Account
moving l a = record { moved = l ++ a.moved; left = a.left }
