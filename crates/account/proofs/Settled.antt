-- Verify and Erase end at once: no transfer runs after them, and what holds between two accesses holds.
use Prim.Native.Nat.{ℕ, ◌%◌}
use mathlib.Core.Bool.{Bool, true, false}
use mathlib.Core.Path.{◌≡◌, refl, ◌∙◌}
use mathlib.Core.List.{List}
use lib.Dec.{eqb}
use Rattle.ground.specs.Left.{Left}
use Rattle.sectors.specs.Sectors.{StoreMarks}
use Rattle.ground.specs.Choice.{pick}
use Rattle.registers.specs.declared.Phase.TheVariants.{Idle}
use Rattle.registers.specs.declared.State.{State}
use Rattle.registers.specs.declared.Core.{Core}
use Rattle.registers.specs.State.{with_count, with_address}
use Rattle.geometry.specs.Next.{next_of}
use Rattle.transfers.specs.Steps.{sector_done}
use Rattle.commands.specs.Sweeps.{verify_run, erase_run, all_ff}
use Rattle.kept.proofs.Steps.{sector-stored}
use Rattle.kept.proofs.Sweeps.{verify_elim, erase_elim, all_ff_length}
use Rattle.account.proofs.Stored.{LentFor}

-- idle, with the opening's facts, the current geometry, the control bits and the option of s
abbrev pub Settled : State → Core → Type 0
Settled s k = (k.phase ≡ Idle) × (k.state.made ≡ s.made) × (k.state.current ≡ s.current) × (k.state.control ≡ s.control) × (k.state.option ≡ s.option)

abbrev SameSetup : State → State → Type 0
SameSetup s x = (x.made ≡ s.made) × (x.current ≡ s.current) × (x.control ≡ s.control) × (x.option ≡ s.option)

done_by : (b : Bool) (n : ℕ) (s : State) → SameSetup s (pick b (with_count 0 s) (with_count (n % 256) (with_address (next_of s.registers.address s.current) s)))
done_by true n s = (refl, refl, refl, refl)
done_by false n s = (refl, refl, refl, refl)

done_same : (n : ℕ) (s : State) → SameSetup s (sector_done n s)
unfolding sector_done
done_same n s = done_by (eqb n 0) n s

done_keeps : (s : State) (n : ℕ) (x : State) → SameSetup s x → SameSetup s (sector_done n x)
done_keeps s n x h = let p = done_same n x in (p.0 ∙ h.0, p.1 ∙ h.1, p.2 ∙ h.2, p.3 ∙ h.3)

pub verify_settled : (n : ℕ) (s : State) (marks : List ℕ) → Settled s (verify_run n s marks)
verify_settled n s marks = verify_elim (SameSetup s) (Settled s) (done_keeps s) (λ e x h. (refl, h.0, h.1, h.2, h.3)) n s marks (refl, refl, refl, refl)

-- ---- Erase

pub erase_settled : (r n : ℕ) (s : State) (store marks : List ℕ) → LentFor n store marks →
    Settled s (erase_run r s store marks).outcome × LentFor n (erase_run r s store marks).next.store (erase_run r s store marks).next.marks
erase_settled r n s store marks l =
    erase_elim (λ (x : State) (st mk : List ℕ). SameSetup s x × LentFor n st mk) (λ (k : Left Core StoreMarks). Settled s k.outcome × LentFor n k.next.store k.next.marks)
    (λ x st mk h. let w = sector-stored x all_ff st mk all_ff_length in (h.0, (w.0 ∙ h.1.0, w.1 ∙ h.1.1)))
    (λ k x st mk h. (done_keeps s k x h.0, h.1))
    (λ e x st mk h. let i = h.0 in ((refl, i.0, i.1, i.2, i.3), h.1))
    r s store marks ((refl, refl, refl, refl), l)

-- no transfer runs after Erase, whatever the lengths
pub erase_idle : (r : ℕ) (s : State) (store marks : List ℕ) → (erase_run r s store marks).outcome.phase ≡ Idle
erase_idle r s store marks =
    erase_elim (λ (x : State) (st mk : List ℕ). Unit {0}) (λ (k : Left Core StoreMarks). k.outcome.phase ≡ Idle) (λ x st mk u. tt) (λ n x st mk u. tt) (λ e x st mk u. refl) r s store marks tt
