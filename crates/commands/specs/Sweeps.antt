-- 40H 41H "as read, no data"; C0H "as write, storing FFH (H), no data": where the run is not past the end, sector after sector until none is left or a
-- test fails.
use Rattle.std.specs.Prelude.{ℕ, zero, suc, List, replicate, Ok, Err}
use Rattle.ground.specs.Choice.{pick}
use Rattle.ground.specs.Left.{Left, leaving}
use Rattle.ground.specs.Sizes.{sector_bytes}
use Rattle.sectors.specs.Sectors.{StoreMarks, store_marks}
use Rattle.registers.specs.declared.State.{State}
use Rattle.registers.specs.declared.Core.{Core}
use Rattle.registers.specs.State.{with_bad}
use Rattle.transfers.specs.declared.End.TheVariants.{Good, PastEnd}
use Rattle.transfers.specs.Ends.{ended}
use Rattle.transfers.specs.declared.Way.TheVariants.{In}
use Rattle.transfers.specs.Before.{past_end, sector_test, sector_stored, Tested}
use Rattle.transfers.specs.Steps.{sector_done}

-- the rest where the sector's tests hold, else the end
abbrev pub unless_failed {ℓ} : {A : Type ℓ} → Tested → (Core → A) → State → A → A
unless_failed (Ok spot) end s rest = rest
unless_failed (Err e) end s rest = end (ended e s)

unfoldable pub verify_from : ℕ → State → List ℕ → Core
verify_from zero s marks = ended Good s
verify_from (suc n) s marks = unless_failed (sector_test In s marks) (λ k. k) s (verify_from n (sector_done n s) marks)

-- 02, "Six": "a run past the end ends before its first sector … the registers unchanged"
unfoldable pub verify_run : ℕ → State → List ℕ → Core
verify_run n s marks = pick (past_end n s) (ended PastEnd s) (verify_from n s marks)

unfoldable pub all_ff : List ℕ
all_ff = replicate sector_bytes 0xFF

unfoldable pub erase_from : ℕ → State → List ℕ → List ℕ → Left Core StoreMarks
erase_from zero s store marks = leaving (ended Good s) (store_marks store marks s.bad)
erase_from (suc n) s store marks =
    let k = sector_stored s all_ff store marks in
    let t = with_bad k.next.bad s in
    unless_failed k.outcome (λ c. leaving c k.next) t (erase_from n (sector_done n t) k.next.store k.next.marks)

-- C0H likewise: no sector, no mark, not the number of marks that are not 0
unfoldable pub erase_run : ℕ → State → List ℕ → List ℕ → Left Core StoreMarks
erase_run n s store marks = pick (past_end n s) (leaving (ended PastEnd s) (store_marks store marks s.bad)) (erase_from n s store marks)
