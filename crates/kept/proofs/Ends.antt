-- How a command ends and a transfer begins, and what the tests before a sector can say.
use Rattle.std.proofs.Common.{Ok, Err}
use Prim.Native.Nat.{ℕ, ◌%◌, ◌≤◌}
use mathlib.Core.Bool.{Bool, true, false, not}
use mathlib.Core.Path.{◌≡◌, refl, ap, ◌∙◌}
use mathlib.Core.List.{List}
use native.Mathlib.Omega.{arith}
use lib.Dec.{eqb}
use lib.ListN.{get_or}
use borrow.Author.Tests.{eqb-true, eqb-false, le-leb, eq-eqb}
use Rattle.ground.proofs.Picks.{pick-elim}
use Rattle.geometry.specs.declared.Spot.{Spot}
use Rattle.ground.specs.Choice.{every}
use Rattle.registers.specs.declared.Pace.{Pace}
use Rattle.registers.specs.declared.Load.{Load}
use Rattle.registers.specs.declared.Load.TheVariants.{Sectors}
use Rattle.registers.specs.declared.Made.{Made}
use Rattle.registers.specs.declared.State.{State}
use Rattle.registers.specs.Status.{idle_status}
use Rattle.registers.specs.State.{located_in}
use Rattle.registers.specs.Machine.{Machine, core_of}
use Rattle.registers.specs.WellMade.{at_rest, status_fits, in_reset, hold_fits, words_fit, sectors_fit, load_fits, run_fits, pace_fits, load_pace_fits, run_pace_fits}
use Rattle.geometry.specs.Address.{valid_address, Located}
use Rattle.transfers.specs.declared.End.{End}
use Rattle.transfers.specs.declared.Order.{Order}
use Rattle.transfers.specs.Ends.{end_status, ended, reading_ended}
use Rattle.transfers.specs.Before.{tested_of, mark_tested, Tested}
use Rattle.transfers.specs.Steps.{ready, asked_for, sector_done}
use Rattle.kept.specs.Sound.{CountFits}
use Rattle.kept.proofs.Registers.{StateFits, CoreFits, load_same}
use Rattle.kept.proofs.Resets.{at_rest_lem}
use Rattle.kept.proofs.Lent.{LengthsKept}
use Rattle.geometry.specs.declared.BadAddress.{BadAddress}

-- a state in which a command can end, and one in which a transfer can begin
abbrev pub Fine : Made → State → Type 0
Fine d s = StateFits d s × CountFits s

abbrev pub Ready : Made → State → Type 0
Ready d s = Fine d s × (in_reset s ≡ false)

-- "1..256 sectors left, agreeing with Sector Count modulo 256"
abbrev pub CountAgrees : ℕ → State → Type 0
CountAgrees left s = (1 ≤ left) × (left ≤ 256) × (left % 256 ≡ s.registers.count)

-- what a load must fulfil
abbrev pub LoadFits : Load → State → Type 0
LoadFits load s = (load_fits load s ≡ true) × (load_pace_fits load s.block ≡ true)

-- a machine's change: what it leaves of the card, and of what is lent
abbrev pub Next : Made → Machine → Machine → Type 0
Next d m n = CoreFits d (core_of n) × LengthsKept m n

end_rests : (e : End) → at_rest (end_status e) ≡ true
unfolding at_rest
end_rests End.Good = refl
end_rests End.BadHeadOrSector = refl
end_rests End.BadCylinder = refl
end_rests End.BadLba = refl
end_rests End.PastEnd = refl
end_rests End.Unreadable = refl
end_rests End.WriteFault = refl
end_rests End.BadGeometry = refl
end_rests End.NoSuchCommand = refl

pub ended-left : (e : End) (d : Made) (s : State) → Fine d s → CoreFits d (ended e s)
ended-left e d s f = (f.0, at_rest_lem (ended e s).state (end_rests e), f.1)

pub reading-left : (d : Made) (s : State) → Fine d s → CoreFits d (reading_ended s)
reading-left d s f = (f.0, at_rest_lem (reading_ended s).state (end_rests End.Good), f.1)

pub ready-left : (load : Load) (d : Made) (s : State) → Ready d s → LoadFits load s → CoreFits d (ready load s)
unfolding status_fits hold_fits words_fit run_fits run_pace_fits in_reset
ready-left load d s r e = (r.0.0, (refl, ap not r.1, refl, load_same load s (ready load s).state refl refl e.0, e.1), r.0.1)

pub asked-left : (load : Load) (order : Order) (d : Made) (s : State) → Ready d s → LoadFits load s → CoreFits d (asked_for load order s)
unfolding status_fits hold_fits words_fit run_fits run_pace_fits in_reset
asked-left load order d s r e = (r.0.0, (refl, ap not r.1, refl, load_same load s (asked_for load order s).state refl refl e.0, e.1), r.0.1)

pub sectors_fit_lem : (left : ℕ) (k : Pace) (s : State) → valid_address (located_in s) ≡ true → CountAgrees left s → pace_fits k s.block ≡ true → LoadFits (Sectors left k) s
unfolding load_fits sectors_fit every load_pace_fits
sectors_fit_lem left k s g a p = (rw (g, le-leb _ _ a.0, le-leb _ _ a.1, eq-eqb _ _ a.2), p)

-- an end in error
abbrev pub erring : End → Bool
erring e = not (eqb (end_status e) idle_status)

-- what a sector's tests can say
pub address_elim : (P : Tested → Type 0) (l : Located) → ((spot : Spot) → valid_address l ≡ true → P (Ok spot)) → ((e : End) → erring e ≡ true → P (Err e)) → P (tested_of l)
address_elim P (Ok spot) f g = f spot refl
address_elim P (Err BadAddress.HeadOrSector) f g = g _ refl
address_elim P (Err BadAddress.Cylinder) f g = g _ refl
address_elim P (Err BadAddress.Lba) f g = g _ refl

pub mark_elim : (P : Tested → Type 0) (allows : ℕ → Bool) (e : End) (marks : List ℕ) (l : Located) → erring e ≡ true →
    ((spot : Spot) → valid_address l ≡ true → P (Ok spot)) → ((e : End) → erring e ≡ true → P (Err e)) → P (mark_tested allows e (tested_of l) marks)
mark_elim P allows e marks l b f g =
    address_elim (λ (t : Tested). P (mark_tested allows e t marks)) l
    (λ spot h. pick-elim P (allows (get_or marks spot.index 0)) _ _ (λ x. f spot h) (λ x. g e b))
    g

pub done_fine : (left : ℕ) (d : Made) (s : State) → Fine d s → Fine d (sector_done left s)
unfolding sector_done
done_fine left d s f =
    pick-elim (λ (x : State). Fine d x) (eqb left 0) _ _ (λ e. (f.0, omega arith)) (λ e. (f.0, omega arith))

done_held : (left : ℕ) (s : State) → in_reset (sector_done left s) ≡ in_reset s
unfolding sector_done in_reset
done_held left s = pick-elim (λ (x : State). in_reset x ≡ in_reset s) (eqb left 0) _ _ (λ e. refl) (λ e. refl)

pub done_block : (left : ℕ) (s : State) → (sector_done left s).block ≡ s.block
unfolding sector_done
done_block left s = pick-elim (λ (x : State). x.block ≡ s.block) (eqb left 0) _ _ (λ e. refl) (λ e. refl)

pub done_ready : (left : ℕ) (d : Made) (s : State) → Ready d s → Ready d (sector_done left s)
done_ready left d s r = (done_fine left d s r.0, done_held left s ∙ r.1)

pub done_count : (left : ℕ) (s : State) → left % 256 ≡ (sector_done left s).registers.count
unfolding sector_done
done_count left s =
    pick-elim (λ (x : State). left % 256 ≡ x.registers.count) (eqb left 0) _ _ (λ e. let z = eqb-true left 0 e in omega arith) (λ e. refl)

pub done_agrees : (left : ℕ) (s : State) → eqb left 0 ≡ false → left ≤ 255 → CountAgrees left (sector_done left s)
done_agrees left s e l = let n = eqb-false left 0 e in (omega arith, omega arith, done_count left s)
