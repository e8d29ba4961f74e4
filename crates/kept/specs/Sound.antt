-- What every access finds and leaves: a well-made card, with a store and marks of its size.
use Rattle.std.specs.Prelude.{◌*◌, ◌<◌, true, ◌≡◌, length}
use Rattle.ground.specs.Sizes.{sector_bytes}
use Rattle.registers.specs.declared.State.{State}
use Rattle.registers.specs.State.{total_in}
use Rattle.registers.specs.Machine.{Machine}
use Rattle.registers.specs.WellMade.{well_made}

-- the Sector Count register has eight bits; no other bound is needed
abbrev pub CountFits : State → Type 0
CountFits s = s.registers.count < 256

-- "Store length is 512·N, marks length N"; the buffer has 512 bytes
pub record Sound (m : Machine) : Type 0 where
  pub made : well_made m.phase m.state ≡ true
  pub store : length m.store ≡ sector_bytes * total_in m.state
  pub marks : length m.marks ≡ total_in m.state
  pub buffer : length m.buffer ≡ sector_bytes
  pub count : CountFits m.state
