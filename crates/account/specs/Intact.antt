-- 02, "Fourteen", of the bytes that a host has read: what shows a bad cable.
use Rattle.std.specs.Prelude.{ℕ, ◌<◌, List, ◌≡◌, length, set, get_or}
use Rattle.account.specs.Plain.{bytes_per_sector}
use Rattle.account.specs.Words.{summed, low_byte}

pub record Intact (d : List ℕ) : Type 0 where
  pub all : length d ≡ bytes_per_sector
  -- "low byte A5H"
  pub low : get_or d 510 0 ≡ low_byte
  -- "all 512 bytes, summed with wrap-around in eight bits, give 0"
  pub zero : summed d ≡ 0
  -- with any one of them another byte, the high byte of word 255 or one before it, they do not
  pub only : (i b : ℕ) → i < bytes_per_sector → b < 256 → summed (set d i b) ≡ 0 → b ≡ get_or d i 0
