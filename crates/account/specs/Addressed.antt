-- 01, "Commands", first paragraph, from its sentences alone: the sector that the address registers name, or the code of what is bad in them.
use Rattle.std.specs.Prelude.{ℕ, ◌+◌, ◌-◌, ◌*◌, ◌%◌, Bool, false, ◌||◌, ltb, leb, eqb}
use Rattle.ground.specs.Choice.{pick}
use Rattle.geometry.specs.declared.Geometry.{Geometry}
use Rattle.geometry.specs.declared.Address.{Address}
use Rattle.account.specs.Numbers.{code_head_or_sector, code_cylinder_or_lba}

-- the sector at its index, or bad, with the code
pub data Addressed : Type 0 where
  At : ℕ → Addressed
  Bad : ℕ → Addressed

-- Drive/Head: "bit 6 selects LBA"
unfoldable pub selects_lba : Address → Bool
selects_lba a = leb 64 (a.head % 128)

-- "CHS index is (c·H+h)·S+s-1 with c<C, h<H, s 1..S, all current."
abbrev pub cylinder_number : Address → ℕ
cylinder_number a = 256 * a.high + a.low

abbrev pub head_number : Address → ℕ
head_number a = a.head % 16

abbrev pub chs_number : Address → Geometry → ℕ
chs_number a g = (cylinder_number a * g.heads + head_number a) * g.sectors + (a.sector - 1)

abbrev pub bad_cylinder : Address → Geometry → Bool
bad_cylinder a g = leb g.cylinders (cylinder_number a)

abbrev pub bad_head : Address → Geometry → Bool
bad_head a g = leb g.heads (head_number a)

abbrev pub bad_sector : Address → Geometry → Bool
bad_sector a g = eqb a.sector 0 || ltb g.sectors a.sector

-- "LBA is 28 bits (from the top: head nibble, Cylinder High, Low, Sector Number), below N."
abbrev pub lba_number : Address → ℕ
lba_number a = ((head_number a * 256 + a.high) * 256 + a.low) * 256 + a.sector

abbrev pub bad_lba : Address → ℕ → Bool
bad_lba a n = leb n (lba_number a)

-- "Bad head or sector: code 21H. Otherwise bad cylinder or LBA: 2FH."
abbrev pub judged {ℓ} : {A : Type ℓ} → Bool → Bool → (ℕ → A) → A → A
judged headOrSector cylinderOrLba bad good = pick headOrSector (bad code_head_or_sector) (pick cylinderOrLba (bad code_cylinder_or_lba) good)

-- by the current geometry and N
unfoldable pub addressed_by : Address → Geometry → ℕ → Addressed
addressed_by a g n =
    pick (selects_lba a)
    (judged false (bad_lba a n) Bad (At (lba_number a)))
    (judged (bad_head a g || bad_sector a g) (bad_cylinder a g) Bad (At (chs_number a g)))
