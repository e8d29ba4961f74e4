-- Verify and Erase, sector after sector, leave a card at rest, well made.
use Rattle.std.proofs.Common.{Ok, Err}
use Prim.Native.Nat.{ℕ, zero, suc}
use mathlib.Core.Path.{◌≡◌, refl, ◌∙◌}
use mathlib.Core.List.{List}
use lib.ListN.{length, length-replicate}
use Rattle.ground.specs.Left.{Left, leaving}
use Rattle.ground.proofs.Picks.{pick-elim}
use Rattle.sectors.specs.Sectors.{StoreMarks, store_marks}
use Rattle.registers.specs.declared.Made.{Made}
use Rattle.registers.specs.declared.State.{State}
use Rattle.registers.specs.declared.Core.{Core}
use Rattle.registers.specs.State.{with_bad}
use Rattle.transfers.specs.declared.End.{End}
use Rattle.transfers.specs.Ends.{ended}
use Rattle.transfers.specs.declared.Way.TheVariants.{In}
use Rattle.transfers.specs.Before.{past_end, sector_test, sector_stored, stored_by, Tested}
use Rattle.transfers.specs.Steps.{sector_done}
use Rattle.commands.specs.Sweeps.{unless_failed, verify_from, verify_run, all_ff, erase_from, erase_run}
use Rattle.kept.proofs.Registers.{CoreFits}
use Rattle.kept.proofs.Ends.{Fine, ended-left, done_fine}
use Rattle.kept.proofs.Steps.{sector-stored, lower_fine}

-- a sector of Erase by its tests, with n to come
abbrev pub erases_on : Tested → ℕ → State → List ℕ → List ℕ → Left Core StoreMarks
erases_on x n s t k =
    let y = stored_by x all_ff (store_marks t k s.bad) in
    let z = with_bad y.next.bad s in
    unless_failed y.outcome (λ c. leaving c y.next) z (erase_from n (sector_done n z) y.next.store y.next.marks)

unless_elim : {A : Type 0} (P : A → Type 0) (t : Tested) (end : Core → A) (s : State) (rest : A) → ((e : End) → P (end (ended e s))) → P rest → P (unless_failed t end s rest)
unless_elim P (Ok spot) end s rest f g = g
unless_elim P (Err e) end s rest f g = f e

-- what each sector and each end keep, Verify keeps
module _ (I : State → Type 0) (P : Core → Type 0) (f : (n : ℕ) (s : State) → I s → I (sector_done n s)) (g : (e : End) (s : State) → I s → P (ended e s)) where
  verify_from_lem : (n : ℕ) (s : State) (marks : List ℕ) → I s → P (verify_from n s marks)
  unfolding verify_from
  verify_from_lem zero s marks h = g End.Good s h
  verify_from_lem (suc n) s marks h =
      unless_elim P (sector_test In s marks) (λ k. k) s (verify_from n (sector_done n s) marks) (λ e. g e s h) (verify_from_lem n (sector_done n s) marks (f n s h))

  pub verify_elim : (n : ℕ) (s : State) (marks : List ℕ) → I s → P (verify_run n s marks)
  unfolding verify_run
  verify_elim n s marks h = pick-elim P (past_end n s) _ _ (λ e. g End.PastEnd s h) (λ e. verify_from_lem n s marks h)

-- … and Erase, with the store, the marks and the number of bad sectors
module _ (I : State → List ℕ → List ℕ → Type 0) (P : Left Core StoreMarks → Type 0)
    (w : (s : State) (store marks : List ℕ) → I s store marks → let k = (sector_stored s all_ff store marks).next in I (with_bad k.bad s) k.store k.marks)
    (f : (n : ℕ) (s : State) (store marks : List ℕ) → I s store marks → I (sector_done n s) store marks)
    (g : (e : End) (s : State) (store marks : List ℕ) → I s store marks → P (leaving (ended e s) (store_marks store marks s.bad))) where
  erase_from_lem : (n : ℕ) (s : State) (store marks : List ℕ) → I s store marks → P (erase_from n s store marks)
  unfolding erase_from
  erase_from_lem zero s store marks h = g End.Good s store marks h
  erase_from_lem (suc n) s store marks h =
      let k = sector_stored s all_ff store marks in
      let t = with_bad k.next.bad s in
      let i = w s store marks h in
      unless_elim P k.outcome (λ c. leaving c k.next) t (erase_from n (sector_done n t) k.next.store k.next.marks)
      (λ e. g e t k.next.store k.next.marks i)
      (erase_from_lem n (sector_done n t) k.next.store k.next.marks (f n t k.next.store k.next.marks i))

  pub erase_elim : (n : ℕ) (s : State) (store marks : List ℕ) → I s store marks → P (erase_run n s store marks)
  unfolding erase_run
  erase_elim n s store marks h = pick-elim P (past_end n s) _ _ (λ e. g End.PastEnd s store marks h) (λ e. erase_from_lem n s store marks h)

pub verify_left : (n : ℕ) (d : Made) (s : State) (marks : List ℕ) → Fine d s → CoreFits d (verify_run n s marks)
verify_left n d = verify_elim (Fine d) (CoreFits d) (λ n s f. done_fine n d s f) (λ e s f. ended-left e d s f) n

-- what Erase leaves
abbrev pub Blanked : Made → List ℕ → List ℕ → Left Core StoreMarks → Type 0
Blanked d store marks x = CoreFits d x.outcome × (length x.next.store ≡ length store) × (length x.next.marks ≡ length marks)

pub all_ff_length : length all_ff ≡ 512
unfolding all_ff
all_ff_length = length-replicate {A = ℕ} 512 0xFF

pub erase_left : (n : ℕ) (d : Made) (s : State) (store marks : List ℕ) → Fine d s → Blanked d store marks (erase_run n s store marks)
erase_left n d s store marks f =
    erase_elim (λ (x : State) (st mk : List ℕ). Fine d x × (length st ≡ length store) × (length mk ≡ length marks)) (Blanked d store marks)
    (λ x st mk h. let w = sector-stored x all_ff st mk all_ff_length in (lower_fine d x all_ff st mk h.0, w.0 ∙ h.1, w.1 ∙ h.2))
    (λ k x st mk h. (done_fine k d x h.0, h.1, h.2))
    (λ e x st mk h. (ended-left e d x h.0, h.1, h.2))
    n s store marks (f, refl, refl)
