-- Parts that the samples share: registers set, a command and how it ended, a sector's data.
use Rattle.std.specs.Prelude.{ℕ, List, [], ◌∷◌, ◌++◌, replicate}
use Rattle.ground.specs.Lists.{listed}
use Rattle.samples.specs.Lines.{Line, reads, writes, word_in}

-- True IDE: 0 data, 1 Error, 2 Sector Count, 3 Sector Number, 4 and 5 Cylinder, 6 Drive/Head, 7 Status/Command
abbrev pub get : ℕ → ℕ → Line
get register value = reads 3 1 register value

abbrev pub put : ℕ → ℕ → Line
put register value = writes 3 1 register value

abbrev pub word : ℕ → Line
word value = reads 3 2 0 value

-- Sector Count, then cylinder, head, sector
abbrev pub chs : ℕ → ℕ → ℕ → ℕ → List Line
chs count c h s = put 2 count ∷ put 3 s ∷ put 4 c ∷ put 5 0 ∷ put 6 h ∷ []

-- Sector Count, then an LBA below 256
abbrev pub lba : ℕ → ℕ → List Line
lba count i = put 2 count ∷ put 3 i ∷ put 4 0 ∷ put 5 0 ∷ put 6 0x40 ∷ []

-- 03H, and the code
abbrev pub coded : ℕ → List Line
coded code = put 7 0x03 ∷ get 1 code ∷ []

-- a command; Status, Error; then the code
abbrev pub ends : ℕ → ℕ → ℕ → ℕ → List Line
ends opcode status error code = put 7 opcode ∷ get 7 status ∷ get 1 error ∷ coded code

-- the 256 words of sector i of the store
unfoldable pub sector : ℕ → List Line
sector i = listed (λ k. word (word_in i k)) 0 256

-- reading the sector at an LBA gives these words
abbrev pub reads_sector : ℕ → List Line → List Line
reads_sector i words = lba 1 i ++ (put 7 0x20 ∷ get 7 0x58 ∷ (words ++ (get 7 0x50 ∷ [])))

-- Erase of one sector at the address that is set changes sector i, and not the one before it
abbrev pub erases : ℕ → ℕ → List Line
erases i before = put 2 1 ∷ put 7 0xC0 ∷ get 7 0x50 ∷ (reads_sector i (replicate 256 (word 0xFFFF)) ++ reads_sector before (sector before))

-- Sector Count and an LBA, as the registers show them
abbrev pub shows : ℕ → ℕ → List Line
shows count i = get 2 count ∷ get 3 i ∷ get 4 0 ∷ get 5 0 ∷ get 6 0xE0 ∷ []
