-- 01, "Commands": the code of each decision; a good one has none: 0.
use Rattle.std.specs.Prelude.{ℕ, Ok, Err, Some, None}
use Rattle.geometry.specs.Address.{Located, Sought}
use Rattle.geometry.specs.Shape.{Reshaped}
use Rattle.geometry.specs.declared.BadAddress.{BadAddress}

-- "Bad head or sector: code 21H. Otherwise bad cylinder or LBA: 2FH."
abbrev pub bad_head_or_sector_code : ℕ
bad_head_or_sector_code = 0x21

abbrev pub bad_cylinder_or_lba_code : ℕ
bad_cylinder_or_lba_code = 0x2F

-- 91H: "if S is 0 or H·S>N: ABRT, 21H"
abbrev pub bad_geometry_code : ℕ
bad_geometry_code = 0x21

abbrev pub located_code : Located → ℕ
located_code (Ok p) = 0
located_code (Err BadAddress.HeadOrSector) = bad_head_or_sector_code
located_code (Err BadAddress.Cylinder) = bad_cylinder_or_lba_code
located_code (Err BadAddress.Lba) = bad_cylinder_or_lba_code

abbrev pub sought_code : Sought → ℕ
sought_code (Ok tt) = 0
sought_code (Err BadAddress.HeadOrSector) = bad_head_or_sector_code
sought_code (Err BadAddress.Cylinder) = bad_cylinder_or_lba_code
sought_code (Err BadAddress.Lba) = bad_cylinder_or_lba_code

abbrev pub reshaped_code : Reshaped → ℕ
reshaped_code (Some g) = 0
reshaped_code None = bad_geometry_code
