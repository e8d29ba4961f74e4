-- What is claimed of a host that has given a command and moved its data.
use Rattle.std.specs.Prelude.{ℕ, ◌<◌, false, List, ◌++◌, ◌≡◌, length, get_or}
use Rattle.registers.specs.Machine.{Machine}
use Rattle.registers.specs.WellMade.{in_reset}
use Rattle.account.specs.Plain.{bytes_per_sector, Account}
use Rattle.account.specs.Host.{plain_of, asks, Hosted}
use Rattle.account.specs.Notes.{None}

-- a list of bytes
abbrev pub AllBytes : List ℕ → Type 0
AllBytes l = (i : ℕ) → get_or l i 0 < 256

-- what the code's types say of a card: registers of 8 bits, a buffer of 512 bytes, a store of bytes
pub record Typed (m : Machine) : Type 0 where
  pub count : m.state.registers.count < 256
  pub sector : m.state.registers.address.sector < 256
  pub low : m.state.registers.address.low < 256
  pub high : m.state.registers.address.high < 256
  pub head : m.state.registers.address.head < 256
  pub buffer : length m.buffer ≡ bytes_per_sector
  pub buffer_bytes : AllBytes m.buffer
  pub store_bytes : AllBytes m.store

-- the data that moved, the store, the marks and the card are those of the account of that data; no transfer runs, and no reset holds the card
pub record Agrees (plain : List ℕ → Account) (h : Hosted) : Type 0 where
  pub account : plain h.notes.done ≡ record { moved = h.notes.done; left = plain_of h.machine }
  -- whatever more the host had ready: the account takes no more of it
  pub enough : (more : List ℕ) → plain (h.notes.done ++ more) ≡ record { moved = h.notes.done; left = plain_of h.machine }
  -- no half word is left with the host
  pub no_half : h.notes.waiting ≡ None
  pub over : asks h.machine ≡ false
  pub free : in_reset h.machine.state ≡ false
