-- The sectors of a sweep by their indices: which there are, and how the registers name one.
use Rattle.std.specs.Prelude.{ℕ, ◌+◌, ◌*◌, ◌/◌, ◌%◌, Bool}
use Rattle.ground.specs.Choice.{pick}
use Rattle.geometry.specs.declared.Geometry.{Geometry}
use Rattle.geometry.specs.declared.Address.{Address}
use Rattle.account.specs.Plain.{Plain, sectors_of}
use Rattle.account.specs.Addressed.{selects_lba}

-- LBA or CHS by which geometry, with bits 7..4 of Drive/Head; and how many sectors can be named so: N in LBA, C·H·S of the current geometry in CHS
pub record Course : Type 0 where
  pub lba : Bool
  pub top : ℕ
  pub shape : Geometry
  pub room : ℕ

abbrev pub course_of : Plain → Course
course_of p = record {
  lba = selects_lba p.registers.address;
  top = p.registers.address.head / 16;
  shape = p.current;
  room = pick (selects_lba p.registers.address) (sectors_of p.made.default) (sectors_of p.current);
}

-- "LBA is 28 bits (from the top: head nibble, Cylinder High, Low, Sector Number)"
abbrev pub lba_named : ℕ → ℕ → Address
lba_named top i = record { sector = i % 256; low = i / 256 % 256; high = i / 65536 % 256; head = top * 16 + i / 16777216 % 16 }

-- "CHS index is (c·H+h)·S+s-1": s from i mod S, h from i div S mod H, c from i div S div H
abbrev pub chs_named : ℕ → Geometry → ℕ → Address
chs_named top g i = record {
  sector = i % g.sectors + 1;
  low = i / g.sectors / g.heads % 256;
  high = i / g.sectors / g.heads / 256;
  head = top * 16 + i / g.sectors % g.heads;
}

-- the registers that name sector i
unfoldable pub named : Course → ℕ → Address
named c i = pick c.lba (lba_named c.top i) (chs_named c.top c.shape i)
