-- Three marks that are not 0, as Identify tells them, by computing.
use mathlib.Core.Path.{◌≡◌, refl}
use mathlib.Core.List.{[], ◌∷◌}
use lib.ListN.{get_or}
use Rattle.card.specs.Step.{play}
use Rattle.samples.specs.Parts.{put}
use Rattle.samples.specs.ThreeMarks.{three_marks, three_bad, asks_of, word_at, left_after, identified_after, written, erased}
use Rattle.samples.proofs.Computing.{computing}

-- word 129 is 3, and the integrity word follows: 43A5H, for 46A5H with none
pub three_told : (word_at 129 (identified_after []) ≡ 3) × (word_at 255 (identified_after []) ≡ 0x43A5)
unfolding computing play three_marks three_bad asks_of left_after identified_after
three_told = (refl, refl)

-- after a write to one of them 2
pub written_told : (word_at 129 (identified_after (written 3)) ≡ 2) × (word_at 255 (identified_after (written 3)) ≡ 0x44A5)
unfolding computing play three_marks three_bad asks_of left_after identified_after
written_told = (refl, refl)

-- a sound sector leaves it, though it is stored
pub sound_told : (word_at 129 (identified_after (written 5)) ≡ 3) × (get_or (left_after (written 5)).store 2560 0 ≡ 0x34)
unfolding computing play three_marks three_bad asks_of left_after identified_after
sound_told = (refl, refl)

-- and so does one that can't be written: 71H, and its mark stays
pub fault_told : (word_at 129 (identified_after (written 7)) ≡ 3) × ((left_after (written 7)).state.registers.status ≡ 0x71) × (get_or (left_after (written 7)).marks 7 0 ≡ 2)
unfolding computing play three_marks three_bad asks_of left_after identified_after
fault_told = (refl, refl, refl)

-- Erase of sectors 0 to 4 clears one mark; of 0 to 9 it stops at sector 7
pub erased_told : (word_at 129 (identified_after (erased 5 0)) ≡ 2) × (word_at 129 (identified_after (erased 10 0)) ≡ 2)
unfolding computing play three_marks three_bad asks_of left_after identified_after
erased_told = (refl, refl)

-- the reset by Device Control, 90H and 91H keep it; the last makes the current geometry C 2, H 3, S 5, which Identify tells too
pub kept_told : let b = identified_after (put 0x16 4 ∷ put 0x16 0 ∷ put 7 0x90 ∷ put 2 5 ∷ put 6 2 ∷ put 7 0x91 ∷ []) in
    (word_at 129 b ≡ 3) × (word_at 54 b ≡ 2) × (word_at 55 b ≡ 3) × (word_at 56 b ≡ 5)
unfolding computing play three_marks three_bad asks_of left_after identified_after
kept_told = (refl, refl, refl, refl)
