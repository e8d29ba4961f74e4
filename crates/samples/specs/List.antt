-- 01, "Proved samples": "These thirteen form a single list of inputs and results with one proof over it."
use Rattle.std.specs.Prelude.{ℕ, List, [], ◌∷◌, ◌++◌, replicate}
use Rattle.tuples.specs.declared.Entry.{Entry}
use Rattle.tuples.specs.Chain.{entry}
use Rattle.samples.specs.Lines.{Line, reads, writes, leaves_up, leaves_down}
use Rattle.samples.specs.Parts.{get, put, word, chs, lba, coded, ends, sector, erases, shows}

-- accesses to a card that was opened in a mode; or a chain of tuples, with its entries
pub data Sample : Type 0 where
  Accesses : ℕ → List Line → Sample
  Tuples : List ℕ → List Entry → Sample

abbrev pub ide : List Line → Sample
ide lines = Accesses 1 lines

abbrev pub pc_card : List Line → Sample
pc_card lines = Accesses 0 lines

-- 1. CHS (3,1,4) is 31.
unfoldable pub sample1 : Sample
sample1 = ide (chs 1 3 1 4 ++ (ends 0x40 0x50 0x00 0x00 ++ erases 31 30))

-- 2. (0,0,0): 21H. 3. (4,0,1): 2FH. 4. (4,2,1): 21H.
-- Sample 2 asks for its code twice: "03H: Error := last code, which stays".
unfoldable pub sample2 : Sample
sample2 = ide (chs 1 0 0 0 ++ (ends 0x40 0x51 0x10 0x21 ++ coded 0x21))

unfoldable pub sample3 : Sample
sample3 = ide (chs 1 4 0 1 ++ ends 0x40 0x51 0x10 0x2F)

unfoldable pub sample4 : Sample
sample4 = ide (chs 1 4 2 1 ++ ends 0x40 0x51 0x10 0x21)

-- 5. LBA 31 good, 32 gives 2FH.
unfoldable pub sample5 : Sample
sample5 = ide (lba 1 31 ++ (ends 0x40 0x50 0x00 0x00 ++ (erases 31 30 ++ (lba 1 32 ++ ends 0x40 0x51 0x10 0x2F))))

-- 6. Read LBA 30, Count 3: two sectors, then 51H, 10H, 2FH, Count 1, LBA 32.
unfoldable pub sample6 : Sample
sample6 = ide (lba 3 30 ++ (put 7 0x20 ∷ (sector 30 ++ (sector 31 ++ (get 7 0x51 ∷ get 1 0x10 ∷ (shows 1 32 ++ coded 0x2F))))))

-- 7. Verify LBA 0, Count 0: 51H, 10H, 2FH, Count 0, LBA 0 (02, "Six"): of 256 sectors 32 remain.
unfoldable pub sample7 : Sample
sample7 = ide (lba 0 0 ++ (put 7 0x40 ∷ get 7 0x51 ∷ get 1 0x10 ∷ (shows 0 0 ++ coded 0x2F)))

-- Identify's words, of a card with current C 2, H 3, S 5: 57 and 58 are its capacity, 30; the bytes before the last add up to 2744, so that 48H is lacking
unfoldable pub identified : List ℕ
identified =
    0x848A
    ∷ 4
    ∷ 0
    ∷ 2
    ∷ 0
    ∷ 0
    ∷ 4
    ∷ 0
    ∷ 32
    ∷ 0
    ∷ (replicate 10 0x2020 ++ (replicate 3 0 ++ (replicate 24 0x2020
    ++ (0x0010 ∷ 0 ∷ 0x0200 ∷ 0 ∷ 0 ∷ 0 ∷ 1 ∷ 2 ∷ 3 ∷ 5 ∷ 30 ∷ 0 ∷ 0 ∷ 32 ∷ 0 ∷ (replicate 193 0 ++ (0x48A5 ∷ []))))))

unfoldable pub word_lines : List ℕ → List Line
word_lines [] = []
word_lines (w ∷ l) = word w ∷ word_lines l

-- 8. 91H with Count 5, nibble 2: current C 2, capacity 30, (1,2,5) is 29, LBA 30 still good.
unfoldable pub sample8 : Sample
sample8 =
    ide
    (put 2 5 ∷ put 6 2
    ∷ (ends 0x91 0x50 0x00 0x00
    ++ (put 7 0xEC ∷ get 7 0x58
    ∷ (word_lines identified
    ++ (get 7 0x50
    ∷ (chs 1 1 2 5 ++ (erases 29 28 ++ (lba 1 30 ++ ends 0x40 0x50 0x00 0x00))))))))

-- 9. 91H with Count 33, nibble 0: refused. The old geometry stays: (3,1,4) is good.
unfoldable pub sample9 : Sample
sample9 = ide (put 2 33 ∷ put 6 0 ∷ (ends 0x91 0x51 0x04 0x21 ++ (chs 1 3 1 4 ++ ends 0x40 0x50 0x00 0x00)))

-- 10. Memory 3F7H is Status, 401H odd data. A write at 3F7H is a command, and reading it clears the interrupt mark, which Alternate Status, at
-- 3FEH, leaves. A byte at 401H is the high half: it is written before the low one, read after it, and read before it.
unfoldable pub sample10 : Sample
sample10 =
    pc_card
    (reads 1 1 0x3F7 0x50
    ∷ writes 1 1 0x3F7 0xE8
    ∷ reads 1 1 0x3F7 0x58
    ∷ writes 1 1 0x401 0x22
    ∷ writes 1 1 0x400 0x11
    ∷ leaves_up (writes 1 1 0x3F7 0xE4)
    ∷ leaves_up (reads 1 1 0x3FE 0x58)
    ∷ leaves_down (reads 1 1 0x3F7 0x58)
    ∷ reads 1 1 0x400 0x11
    ∷ reads 1 1 0x401 0x22
    ∷ writes 1 1 0x3F7 0xE4
    ∷ reads 1 1 0x401 0x22
    ∷ reads 1 1 0x400 0x11
    ∷ [])

-- 11. In E8H, 22H at 9, then 11H at 8 gives 11H 22H.
unfoldable pub sample11 : Sample
sample11 =
    pc_card
    (writes 1 1 0x007 0xE8 ∷ writes 1 1 0x009 0x22 ∷ writes 1 1 0x008 0x11
    ∷ (replicate 255 (writes 1 2 0x008 0x4433)
    ++ (reads 1 1 0x007 0x50
    ∷ writes 1 1 0x007 0xE4
    ∷ reads 1 1 0x008 0x11
    ∷ reads 1 1 0x008 0x22
    ∷ reads 1 2 0x008 0x4433
    ∷ [])))

-- 12. Tuples 18 02 DF 01 14 00 FF: (18H,2,2), (14H,6,0).
unfoldable pub sample12 : Sample
sample12 = Tuples (0x18 ∷ 0x02 ∷ 0xDF ∷ 0x01 ∷ 0x14 ∷ 0x00 ∷ 0xFF ∷ []) (entry 0x18 2 2 ∷ entry 0x14 6 0 ∷ [])

-- 13. Drive Address at power-on: 7EH.
unfoldable pub sample13 : Sample
sample13 = ide (get 0x17 0x7E ∷ [])

unfoldable pub samples : List Sample
samples =
    sample1
    ∷ sample2
    ∷ sample3
    ∷ sample4
    ∷ sample5
    ∷ sample6
    ∷ sample7
    ∷ sample8
    ∷ sample9
    ∷ sample10
    ∷ sample11
    ∷ sample12
    ∷ sample13
    ∷ []
