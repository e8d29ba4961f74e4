-- 01, "Commands", first paragraph, and 02, "Six": the sector that the address registers name and how many remain from there, or the test that failed; and
-- 7XH's test.
use Rattle.std.specs.Prelude.{ℕ, ◌+◌, ◌-◌, ◌*◌, ◌/◌, ◌%◌, Bool, true, false, [], ◌∷◌, ltb, leb, eqb, Ok, Err, Result}
use Rattle.ground.specs.Choice.{pick, every}
use Rattle.ground.specs.Rows.{Unless, first_or}
use Rattle.geometry.specs.declared.Geometry.{Geometry}
use Rattle.geometry.specs.declared.Address.{Address}
use Rattle.geometry.specs.declared.Spot.{Spot}
use Rattle.geometry.specs.Limits.{capacity_of}
use Rattle.geometry.specs.declared.BadAddress.{BadAddress}

-- Drive/Head: "bit 6 selects LBA".
unfoldable pub by_lba : Address → Bool
by_lba a = eqb (a.head / 64 % 2) 1

-- the head nibble
abbrev pub head_of : Address → ℕ
head_of a = a.head % 16

-- Cylinder High and Low
abbrev pub cylinder_of : Address → ℕ
cylinder_of a = a.high * 256 + a.low

-- "CHS index is (c·H+h)·S+s-1"
abbrev pub chs_index : ℕ → ℕ → ℕ → Geometry → ℕ
chs_index c h s g = (c * g.heads + h) * g.sectors + s - 1

-- "LBA is 28 bits (from the top: head nibble, Cylinder High, Low, Sector Number)"
abbrev pub lba_of : Address → ℕ
lba_of a = head_of a * 16777216 + cylinder_of a * 256 + a.sector

-- the room of an address, the sectors that its way of addressing reaches: N in LBA, the current capacity in CHS.
abbrev pub room_by : Bool → Geometry → ℕ → ℕ
room_by lba g n = pick lba n (capacity_of g)

unfoldable pub room_of : Address → Geometry → ℕ → ℕ
room_of a g n = room_by (by_lba a) g n

-- a good address: where its sector stands, and (02, "Six") "how many sectors remain from there" to the end of the room, that one among them
abbrev pub spot_at : ℕ → ℕ → Spot
spot_at room i = record { index = i; remain = room - i }

-- what the test of an address finds: its spot, or the test that failed
abbrev pub Located : Type 0
Located = Result Spot BadAddress

abbrev pub good_at : ℕ → ℕ → Located
good_at room i = Ok (spot_at room i)

-- "with c<C, h<H, s 1..S, all current. … Bad head or sector: code 21H. Otherwise bad cylinder or LBA: 2FH."; a good one in the room that is given
unfoldable pub locate_chs : ℕ → ℕ → ℕ → Geometry → ℕ → Located
locate_chs c h s g room =
    first_or
    (Unless (every (ltb h g.heads ∷ leb 1 s ∷ leb s g.sectors ∷ [])) (Err BadAddress.HeadOrSector)
    ∷ Unless (ltb c g.cylinders) (Err BadAddress.Cylinder)
    ∷ [])
    (good_at room (chs_index c h s g))

-- LBA "below N", which is its room, else 2FH.
unfoldable pub locate_lba : ℕ → ℕ → Located
locate_lba i room = first_or (Unless (ltb i room) (Err BadAddress.Lba) ∷ []) (good_at room i)

unfoldable pub locate : Address → Geometry → ℕ → Located
locate a g n =
    let room = room_of a g n in
    pick (by_lba a) (locate_lba (lba_of a) room) (locate_chs (cylinder_of a) (head_of a) a.sector g room)

-- what 7XH finds
abbrev pub Sought : Type 0
Sought = Result (Unit {0}) BadAddress

-- 7XH: "address test; in CHS head and cylinder only"
abbrev pub seek_chs : ℕ → ℕ → Geometry → Sought
seek_chs c h g =
    first_or
    (Unless (ltb h g.heads) (Err BadAddress.HeadOrSector)
    ∷ Unless (ltb c g.cylinders) (Err BadAddress.Cylinder)
    ∷ [])
    (Ok tt)

abbrev pub seek_lba : ℕ → ℕ → Sought
seek_lba i n = first_or (Unless (ltb i n) (Err BadAddress.Lba) ∷ []) (Ok tt)

unfoldable pub seek : Address → Geometry → ℕ → Sought
seek a g n = pick (by_lba a) (seek_lba (lba_of a) n) (seek_chs (cylinder_of a) (head_of a) g)

-- whether it is a valid address, one that names a sector; and where that sector stands.
abbrev pub valid_address : Located → Bool
valid_address (Ok p) = true
valid_address (Err bad) = false

abbrev pub index_of : Located → ℕ
index_of (Ok p) = p.index
index_of (Err bad) = 0
