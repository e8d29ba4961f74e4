-- The cases of `verify_from` and `erase_from`, for the proof of the loops: none is left, a test fails, a sector is done.
use Rattle.std.proofs.Common.{Ok, Err}
use Prim.Native.Nat.{ℕ, zero, suc, ◌-◌, ◌<◌, ◌≤◌}
use native.Mathlib.Nat.{not-suc-le-zero}
use native.Mathlib.Numerals.{sub-one}
use mathlib.Core.Path.{◌≡◌, refl, sym}
use mathlib.Core.List.{List}
use lib.Dec.{eqb}
use Rattle.ground.specs.Left.{leaving}
use Rattle.ground.proofs.Picks.{pick-elim}
use Rattle.geometry.specs.Address.{locate}
use Rattle.geometry.specs.declared.Spot.{Spot}
use Rattle.sectors.specs.Sectors.{store_marks}
use Rattle.registers.specs.declared.State.{State}
use Rattle.registers.specs.State.{with_bad, total_in}
use Rattle.transfers.specs.declared.End.{End}
use Rattle.transfers.specs.Ends.{ended}
use Rattle.transfers.specs.declared.Way.TheVariants.{In}
use Rattle.transfers.specs.Before.{Tested, tested_of, address_test, mark_tested, allows, mark_end, sector_test, sector_stored}
use Rattle.transfers.specs.Steps.{sector_done}
use Rattle.commands.specs.Sweeps.{verify_from, all_ff, erase_from}

pub verify_end : (n : ℕ) (s : State) (marks : List ℕ) → n ≤ 0 → verify_from n s marks ≡ ended End.Good s
unfolding verify_from
verify_end zero s marks h = refl
verify_end (suc n) s marks h = absurd (not-suc-le-zero h)

pub verify_fails : (n : ℕ) (s : State) (marks : List ℕ) (e : End) → 0 < n → sector_test In s marks ≡ Err e → verify_from n s marks ≡ ended e s
unfolding verify_from
verify_fails zero s marks e h t = absurd (not-suc-le-zero h)
verify_fails (suc n) s marks e h t = simp t

pub verify_step : (n : ℕ) (s : State) (marks : List ℕ) (spot : Spot) → 0 < n → sector_test In s marks ≡ Ok spot → verify_from n s marks ≡ verify_from (n - 1) (sector_done (n - 1) s) marks
unfolding verify_from
verify_step zero s marks spot h t = absurd (not-suc-le-zero h)
verify_step (suc n) s marks spot h t = simp (t, sub-one)

pub erase_end : (n : ℕ) (s : State) (store marks : List ℕ) → n ≤ 0 → erase_from n s store marks ≡ leaving (ended End.Good s) (store_marks store marks s.bad)
unfolding erase_from
erase_end zero s store marks h = refl
erase_end (suc n) s store marks h = absurd (not-suc-le-zero h)

-- the store, the marks and the number of bad sectors after a sector's test are given by what the test and the storing promise
pub erase_fails : (n : ℕ) (s : State) (store marks store' marks' : List ℕ) (b : ℕ) (e : End) → 0 < n →
    leaving (Err e) (store_marks store' marks' b) ≡ sector_stored s all_ff store marks →
    erase_from n s store marks ≡ leaving (ended e (with_bad b s)) (store_marks store' marks' b)
unfolding erase_from
erase_fails zero s store marks store' marks' b e h k = absurd (not-suc-le-zero h)
erase_fails (suc n) s store marks store' marks' b e h k = simp (sym k)

pub erase_step : (n : ℕ) (s : State) (store marks store' marks' : List ℕ) (b : ℕ) (spot : Spot) → 0 < n →
    leaving (Ok spot) (store_marks store' marks' b) ≡ sector_stored s all_ff store marks →
    erase_from n s store marks ≡ erase_from (n - 1) (sector_done (n - 1) (with_bad b s)) store' marks'
unfolding erase_from
erase_step zero s store marks store' marks' b spot h k = absurd (not-suc-le-zero h)
erase_step (suc n) s store marks store' marks' b spot h k = simp (sym k, sub-one)

-- Verify asks N once: it stays
pub same_total : (n : ℕ) (s : State) → total_in (sector_done n s) ≡ total_in s
unfolding sector_done
same_total n s = pick-elim (λ (t : State). total_in t ≡ total_in s) (eqb n 0) _ _ (λ e. refl) (λ e. refl)

pub placed : (n : ℕ) (s : State) (marks : List ℕ) (t : Tested) → n ≡ total_in s →
    t ≡ mark_tested (allows In) (mark_end In) (tested_of (locate s.registers.address s.current n)) marks → sector_test In s marks ≡ t
unfolding sector_test address_test
placed n s marks t h e = sym (simp h at e)
