-- 01, "What is lent": "Store length is 512·N", "a 256-byte tuple buffer"; "Data": "A sector moves as 256 words"; "Commands": "the 512-byte buffer".
use Rattle.std.specs.Prelude.{ℕ}

-- the bytes of a sector, and of the buffer that each passes through
abbrev pub sector_bytes : ℕ
sector_bytes = 512

-- the bytes of the tuple buffer
abbrev pub tuple_buffer_bytes : ℕ
tuple_buffer_bytes = 256

-- the number of a sector's last word
abbrev pub last_word : ℕ
last_word = 255

-- "Count 0 means 256": the most sectors of a command
abbrev pub most_count : ℕ
most_count = 256
