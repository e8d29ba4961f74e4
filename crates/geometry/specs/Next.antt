-- 01, "Commands": "The next CHS address advances sector, head, cylinder"; in LBA it is the next number. Bits 7..4 of Drive/Head stay.
use Rattle.std.specs.Prelude.{ℕ, zero, suc, ◌+◌, ◌*◌, ◌/◌, ◌%◌, ltb}
use Rattle.ground.specs.Choice.{pick}
use Rattle.geometry.specs.declared.Geometry.{Geometry}
use Rattle.geometry.specs.declared.Address.{Address}
use Rattle.geometry.specs.Address.{by_lba, head_of, cylinder_of, lba_of}

-- the registers of a cylinder, head and sector: as many bits as each has.
abbrev pub at_chs : Address → ℕ → ℕ → ℕ → Address
at_chs a c h s = record { sector = s % 256; low = c % 256; high = c / 256 % 256; head = a.head / 16 * 16 + h % 16 }

-- "The next CHS address advances sector, head, cylinder."
unfoldable pub next_chs : Address → Geometry → Address
next_chs a g =
    pick (ltb a.sector g.sectors) (at_chs a (cylinder_of a) (head_of a) (a.sector + 1))
    (pick (ltb (head_of a + 1) g.heads) (at_chs a (cylinder_of a) (head_of a + 1) 1)
    (at_chs a (cylinder_of a + 1) 0 1))

-- the registers of an LBA: its low 28 bits.
abbrev pub at_lba : Address → ℕ → Address
at_lba a i = record { sector = i % 256; low = i / 256 % 256; high = i / 65536 % 256; head = a.head / 16 * 16 + i / 16777216 % 16 }

unfoldable pub next_of : Address → Geometry → Address
next_of a g = pick (by_lba a) (at_lba a (lba_of a + 1)) (next_chs a g)

-- the address so many sectors on.
unfoldable pub later : ℕ → Address → Geometry → Address
later zero a g = a
later (suc k) a g = later k (next_of a g) g
