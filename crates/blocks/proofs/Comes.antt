-- What an access that is no command and no reset does to the blocks of a running transfer: nothing, a sector more, or the end.
use Prim.Native.Nat.{ℕ}
use mathlib.Core.Bool.{Bool, true, false, true≢false}
use mathlib.Core.Path.{◌≡◌, refl, sym, ap, ◌∙◌, subst}
use mathlib.Core.Logic.{inl}
use Rattle.ground.proofs.Picks.{un_not, neither}
use Rattle.maps.specs.declared.Port.{Port}
use Rattle.maps.specs.declared.Register.{Register}
use Rattle.maps.specs.declared.Register.TheVariants.{ErrorFeature, SectorCount, SectorNumber, CylinderLow, CylinderHigh, DriveHead, StatusCommand, AlternateControl, DriveAddress}
use Rattle.registers.specs.State.{runs, sreset_in}
use Rattle.registers.specs.declared.Pace.{Pace}
use Rattle.registers.specs.declared.Load.{Load}
use Rattle.registers.specs.declared.Load.TheVariants.{Sectors}
use Rattle.registers.specs.declared.Transfer.{Transfer}
use Rattle.registers.specs.declared.Phase.{Phase}
use Rattle.registers.specs.declared.Phase.TheVariants.{Idle, DataIn, DataOut}
use Rattle.registers.specs.declared.State.{State}
use Rattle.registers.specs.Machine.{Machine, core_of}
use Rattle.registers.specs.WellMade.{well_made, in_reset, hold_fits}
use Rattle.transfers.specs.declared.Way.{Way}
use Rattle.transfers.specs.declared.Way.TheVariants.{In, Out}
use Rattle.transfers.specs.Steps.{load_read, load_written, all_moved}
use Rattle.port.specs.Halves.{halved, next_word}
use Rattle.port.specs.Data.{Effect, data_read, data_written}
use Rattle.card.specs.declared.Meaning.{Meaning}
use Rattle.card.specs.declared.Meaning.TheVariants.{TupleByte, ReadOption, WriteOption, ReadRegister, WriteRegister, ReadData, WriteData}
use Rattle.card.specs.Perform.{perform}
use Rattle.kept.proofs.Registers.{apart}
use Rattle.kept.proofs.Ends.{LoadFits}
use Rattle.kept.proofs.Data.{phase_of}
use Rattle.kept.proofs.DataElim.{part_come, data_read_elim, data_written_elim}
use Rattle.laws.specs.Acts.{DataRead, DataWrite, act_of, last_of_load, last_of_block, NoMatter, read_act, OptionWrite, write_act}
use Rattle.laws.specs.Interrupt.{sets}
use Rattle.laws.proofs.InterruptLaws.{nothing_sets}
use Rattle.laws.proofs.InterruptData.{running, StatusAndLoadFit}
use Rattle.account.proofs.Aside.{option_aside, register_aside}
use Rattle.account.specs.Host.{calm, calm_register}
use Rattle.blocks.proofs.Turns.{Runs, Comes, load_read_lem, load_written_lem}

-- ---- a data access

-- of the phase that runs
abbrev of_phase : Phase → Transfer → Transfer
of_phase Idle t = t
of_phase (DataIn u) t = u
of_phase (DataOut u) t = u

same_transfer : (way : Way) (t u : Transfer) (p : Phase) → p ≡ phase_of way t → p ≡ phase_of way u → u ≡ t
same_transfer In t u p e f = ap (λ (x : Phase). of_phase x t) (sym f ∙ e)
same_transfer Out t u p e f = ap (λ (x : Phase). of_phase x t) (sym f ∙ e)

abbrev inward : Phase → Bool
inward Idle = false
inward (DataIn t) = true
inward (DataOut t) = false

module _ (way : Way) (left : ℕ) (k : Pace) (m : Machine) (r : Runs way left k m.phase) where
  -- nothing of its blocks has changed
  same_runs : (u : Transfer) → m.phase ≡ phase_of way u → u.load ≡ Sectors left k
  same_runs u e = ap (λ (x : Transfer). x.load) (same_transfer way r.0 u m.phase r.1 e) ∙ r.2

no_read : (left : ℕ) (k : Pace) (p : Phase) (t : Transfer) {A : Type 0} → Runs Out left k p → p ≡ DataIn t → A
no_read left k p t r e = absurd (true≢false (sym (ap inward e) ∙ ap inward r.1))

no_write : (left : ℕ) (k : Pace) (p : Phase) (t : Transfer) {A : Type 0} → Runs In left k p → p ≡ DataOut t → A
no_write left k p t r e = absurd (true≢false (sym (ap inward r.1) ∙ ap inward e))

data_read_lem : (way : Way) (port : Port) (left : ℕ) (k : Pace) (m : Machine) → Runs way left k m.phase → StatusAndLoadFit m.phase m.state →
    let n = (data_read port m).next in Comes way left k n (sets (DataRead (last_of_block m.phase)) m.state n.state)
data_read_lem In port left k m r f =
    let z = nothing_sets In (last_of_block m.phase) m.state m.state refl refl in
    data_read_elim (λ (x : Effect). Comes In left k x.next (sets (DataRead (last_of_block m.phase)) m.state x.next.state)) port m
    (λ v. inl (inl (r, z))) (inl (inl (r, z)))
    (λ v part t e. inl (inl ((halved part t, refl, same_runs In left k m r t e), z)))
    (λ v t e w. inl (inl ((next_word t, refl, same_runs In left k m r t e), z)))
    (λ v t e.
    let a = running In t m.phase m.state e f in
    rw e
    (subst (λ (l : Load). LoadFits l m.state → Comes In left k (load_read l (all_moved m)) (sets (DataRead (last_of_load l)) m.state (load_read l (all_moved m)).state))
    (sym (same_runs In left k m r t e)) (load_read_lem left k m a.0) a.1))
data_read_lem Out port left k m r f =
    let z = nothing_sets In (last_of_block m.phase) m.state m.state refl refl in
    data_read_elim (λ (x : Effect). Comes Out left k x.next (sets (DataRead (last_of_block m.phase)) m.state x.next.state)) port m
    (λ v. inl (inl (r, z))) (inl (inl (r, z)))
    (λ v part t e. no_read left k m.phase t r e) (λ v t e w. no_read left k m.phase t r e) (λ v t e. no_read left k m.phase t r e)

data_written_lem : (way : Way) (port : Port) (v : ℕ) (left : ℕ) (k : Pace) (m : Machine) → Runs way left k m.phase → StatusAndLoadFit m.phase m.state →
    let n = (data_written port v m).next in Comes way left k n (sets (DataWrite (last_of_block m.phase)) m.state n.state)
data_written_lem In port v left k m r f =
    let z = nothing_sets Out (last_of_block m.phase) m.state m.state refl refl in
    data_written_elim (λ (x : Effect). Comes In left k x.next (sets (DataWrite (last_of_block m.phase)) m.state x.next.state)) port v m
    (inl (inl (r, z))) (inl (inl (r, z)))
    (λ part t e. no_write left k m.phase t r e) (λ part t e w. no_write left k m.phase t r e) (λ part t e. no_write left k m.phase t r e)
data_written_lem Out port v left k m r f =
    let z = nothing_sets Out (last_of_block m.phase) m.state m.state refl refl in
    data_written_elim (λ (x : Effect). Comes Out left k x.next (sets (DataWrite (last_of_block m.phase)) m.state x.next.state)) port v m
    (inl (inl (r, z))) (inl (inl (r, z)))
    (λ part t e. inl (inl ((halved part t, refl, same_runs Out left k m r t e), z)))
    (λ part t e w. inl (inl ((next_word t, refl, same_runs Out left k m r t e), z)))
    (λ part t e.
    let a = running Out t m.phase m.state e f in
    let n = part_come part t v m in
    rw e
    (subst (λ (l : Load). LoadFits l m.state → Comes Out left k (load_written l (all_moved n)) (sets (DataWrite (last_of_load l)) m.state (load_written l (all_moved n)).state))
    (sym (same_runs Out left k m r t e)) (load_written_lem left k m.state n a.0) a.1))

-- ---- any access

read_sets : (r : Register) (s n : State) → sets (read_act r) s n ≡ false
unfolding sets
read_sets ErrorFeature s n = refl
read_sets SectorCount s n = refl
read_sets SectorNumber s n = refl
read_sets CylinderLow s n = refl
read_sets CylinderHigh s n = refl
read_sets DriveHead s n = refl
read_sets StatusCommand s n = refl
read_sets AlternateControl s n = refl
read_sets DriveAddress s n = refl

write_sets : (r : Register) (v : ℕ) (held : Bool) (s n : State) → calm_register r v ≡ true → sets (write_act r v held) s n ≡ false
unfolding sets
write_sets ErrorFeature v held s n c = refl
write_sets SectorCount v held s n c = refl
write_sets SectorNumber v held s n c = refl
write_sets CylinderLow v held s n c = refl
write_sets CylinderHigh v held s n c = refl
write_sets DriveHead v held s n c = refl
write_sets StatusCommand v held s n c = absurd (true≢false (sym c))
write_sets AlternateControl v held s n c = refl
write_sets DriveAddress v held s n c = refl

option-sets : (v : ℕ) (s n : State) → sets (OptionWrite v) s n ≡ false
unfolding sets
option-sets v s n = refl

nothing_matters : (s n : State) → sets NoMatter s n ≡ false
unfolding sets
nothing_matters s n = refl

running_free : (way : Way) (t : Transfer) (p : Phase) (s : State) → p ≡ phase_of way t → hold_fits p (in_reset s) ≡ true → (sreset_in s.option ≡ false) × (s.control.held ≡ false)
unfolding hold_fits in_reset
running_free In t p s e h = neither (sreset_in s.option) s.control.held (un_not _ _ (subst (λ (q : Phase). hold_fits q (in_reset s) ≡ true) e h))
running_free Out t p s e h = neither (sreset_in s.option) s.control.held (un_not _ _ (subst (λ (q : Phase). hold_fits q (in_reset s) ≡ true) e h))

pub runs_so : (way : Way) (t : Transfer) (p : Phase) → p ≡ phase_of way t → runs p ≡ true
runs_so In t p e = ap runs e
runs_so Out t p e = ap runs e

pub comes : (way : Way) (x : Meaning) (left : ℕ) (k : Pace) (m : Machine) → Runs way left k m.phase → well_made m.phase m.state ≡ true → calm x ≡ true →
    let n = (perform x m).next in Comes way left k n (sets (act_of x (core_of m)) m.state n.state)
unfolding perform
comes way (Meaning.Refused q) left k m r w c = inl (inl (r, nothing_matters _ _))
comes way (TupleByte b) left k m r w c = inl (inl (r, nothing_matters _ _))
comes way ReadOption left k m r w c = inl (inl (r, nothing_matters _ _))
comes way (WriteOption v) left k m r w c =
    let f = (apart m.phase m.state w).1 in
    option_aside (λ (n : Machine). Comes way left k n (sets (OptionWrite v) m.state n.state)) m v (running_free way r.0 m.phase m.state r.1 f.1).0 c
    (λ h. inl (inl (r, option-sets v _ _)))
comes way (ReadRegister q) left k m r w c = inl (inl (r, read_sets q _ _))
comes way (WriteRegister q v) left k m r w c =
    let f = (apart m.phase m.state w).1 in
    register_aside (λ (n : Machine). Comes way left k n (sets (write_act q v m.state.control.held) m.state n.state)) m q v (running_free way r.0 m.phase m.state r.1 f.1).1 c
    (inl (inl (r, write_sets q v m.state.control.held m.state _ c)))
    (λ i. absurd (true≢false (sym (runs_so way r.0 m.phase r.1) ∙ i)))
    (λ h. inl (inl (r, write_sets q v m.state.control.held m.state _ c)))
comes way (ReadData port) left k m r w c = let f = (apart m.phase m.state w).1 in data_read_lem way port left k m r (f.0, f.3, f.4)
comes way (WriteData port v) left k m r w c = let f = (apart m.phase m.state w).1 in data_written_lem way port v left k m r (f.0, f.3, f.4)
