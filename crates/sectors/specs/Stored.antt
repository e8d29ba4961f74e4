-- 01, "Commands": "a sector is stored, and its mark set to 0", place by place; and 02, "Eight": the number of marks that are not 0.
use Rattle.std.specs.Prelude.{ℕ, suc, ◌+◌, ◌*◌, ◌/◌, ◌<◌, ◌≡◌, List, get_or}
use Rattle.ground.specs.Sizes.{sector_bytes}
use Rattle.sectors.specs.Sectors.{StoreMarks}

-- sector i holds these 512 bytes and has mark 0; every byte of another sector and every other mark is as it was. The number of marks that are not 0 is
-- as it was where the sector's mark was 0; else it is one less, or 0 as it was
pub record SectorStored (i : ℕ) (bytes : List ℕ) (old new : StoreMarks) : Type 0 where
  pub stored : (n : ℕ) → n < sector_bytes → get_or new.store (sector_bytes * i + n) 0 ≡ get_or bytes n 0
  pub marked : get_or new.marks i 0 ≡ 0
  pub others : (n : ℕ) → (n / sector_bytes ≡ i → ⊥) → get_or new.store n 0 ≡ get_or old.store n 0
  pub other_marks : (j : ℕ) → (j ≡ i → ⊥) → get_or new.marks j 0 ≡ get_or old.marks j 0
  pub sound_before : get_or old.marks i 0 ≡ 0 → new.bad ≡ old.bad
  pub bad_before : (get_or old.marks i 0 ≡ 0 → ⊥) → (n : ℕ) → old.bad ≡ suc n → new.bad ≡ n
  pub never_below : old.bad ≡ 0 → new.bad ≡ 0
