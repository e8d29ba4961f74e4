-- "Power-on: Status 50H, Error 01H, Count 1, Sector 1, the rest 0": what a host reads after the opening, and after each reset is left.
use Rattle.std.proofs.Common.{Ok}
use Prim.Native.Nat.{ℕ}
use mathlib.Core.Path.{◌≡◌, refl, sym, ap, subst, ◌∙◌}
use mathlib.Core.Bool.{Bool, true, false}
use mathlib.Core.List.{List}
use lib.ListN.{replicate}
use Rattle.answers.specs.declared.Refusal.{Refusal}
use Rattle.answers.proofs.Outcomes.{accepts_not}
use Rattle.geometry.specs.declared.Geometry.{Geometry}
use Rattle.maps.specs.declared.Mode.{Mode}
use Rattle.maps.specs.declared.Register.{Register}
use Rattle.maps.specs.declared.Register.TheVariants.{ErrorFeature, SectorCount, SectorNumber, CylinderLow, CylinderHigh, DriveHead, StatusCommand, AlternateControl, DriveAddress}
use Rattle.sectors.specs.Marks.{bad_in}
use Rattle.registers.specs.declared.Made.{Made}
use Rattle.registers.specs.declared.Phase.TheVariants.{Idle}
use Rattle.registers.specs.State.{with_control}
use Rattle.registers.specs.Machine.{Machine, machine, core}
use Rattle.registers.specs.PowerOn.{power_on, zeros}
use Rattle.registers.specs.Values.{value_read}
use Rattle.port.specs.Data.{Effect}
use Rattle.card.specs.declared.Meaning.{Meaning}
use Rattle.card.specs.declared.Meaning.TheVariants.{WriteOption, ReadRegister, WriteRegister}
use Rattle.card.specs.Access.{Asked, meaning}
use Rattle.card.specs.Perform.{perform}
use Rattle.card.specs.Step.{step}
use Rattle.card.specs.declared.Answer.{Answer}
use Rattle.card.specs.Opening.{powered, mode_of, open_refused, opened}
use Rattle.card.specs.Doors.{machine_of}
use Rattle.kept.proofs.DoorElim.{opened-elim}
use Rattle.laws.specs.Bits.{bit_seven, bit_two, bit_one}
use Rattle.laws.specs.Turns.{power_on_value, ReadsPowerOn}
use Rattle.laws.proofs.Turns.{sreset_left_lem, control_left_lem}

-- with any map setting, mask and buffer, and whatever is lent
pub meant_power_on : (r : Register) (masked : Bool) (made : Made) (bad option : ℕ) (buffer store marks : List ℕ) →
    (perform (ReadRegister r) (machine (core Idle (with_control (record { held = false; masked = masked }) (power_on made bad option))) buffer store marks)).outcome ≡ Ok (power_on_value r)
unfolding perform value_read
meant_power_on ErrorFeature masked made bad option buffer store marks = refl
meant_power_on SectorCount masked made bad option buffer store marks = refl
meant_power_on SectorNumber masked made bad option buffer store marks = refl
meant_power_on CylinderLow masked made bad option buffer store marks = refl
meant_power_on CylinderHigh masked made bad option buffer store marks = refl
meant_power_on DriveHead masked made bad option buffer store marks = refl
meant_power_on StatusCommand masked made bad option buffer store marks = refl
meant_power_on AlternateControl masked made bad option buffer store marks = refl
meant_power_on DriveAddress masked made bad option buffer store marks = refl

powered-reads : (masked : Bool) (made : Made) (bad option : ℕ) (buffer store marks : List ℕ) →
    ReadsPowerOn (machine (core Idle (with_control (record { held = false; masked = masked }) (power_on made bad option))) buffer store marks)
unfolding step
powered-reads masked made bad option buffer store marks b r e =
    ap (λ (x : Meaning). (perform x (machine (core Idle (with_control (record { held = false; masked = masked }) (power_on made bad option))) buffer store marks)).outcome) e
    ∙ meant_power_on r masked made bad option buffer store marks

-- the store and the marks may have changed since the opening
pub opened-reads : (g : Geometry) (mode : ℕ) (store marks tuples store' marks' : List ℕ) → (opened g mode store marks tuples).outcome ≡ Ok 0 →
    ReadsPowerOn (machine_of (opened g mode store marks tuples).card store' marks')
opened-reads g mode store marks tuples store' marks' =
    let P : Answer → Type 0 = λ x. x.outcome ≡ Ok 0 → ReadsPowerOn (machine_of x.card store' marks') in
    let z : (q : Refusal) → P (open_refused q) = λ q e. accepts_not 0 q (sym e) in
    opened-elim P g mode store marks tuples (z _) (z _) (z _) (z _) (z _)
    (λ f s k e. powered-reads false (record { mode = mode_of mode; default = g }) (bad_in marks) 0 zeros store' marks')

pub sreset_left_reads : (m : Machine) (a : Asked) (v : ℕ) → meaning m a ≡ WriteOption v → bit_seven m.state.option ≡ true → bit_seven v ≡ false → ReadsPowerOn (step m a).next
sreset_left_reads m a v x e f =
    subst ReadsPowerOn (sym (ap (λ (s : Effect). s.next) (sreset_left_lem m a v x e f))) (powered-reads false m.state.made m.state.bad v zeros m.store m.marks)

pub control_left_reads : (m : Machine) (a : Asked) (v : ℕ) → meaning m a ≡ WriteRegister AlternateControl v → m.state.control.held ≡ true → bit_two v ≡ false → ReadsPowerOn (step m a).next
control_left_reads m a v x e f =
    subst ReadsPowerOn (sym (ap (λ (s : Effect). s.next) (control_left_lem m a v x e f))) (powered-reads (bit_one v) m.state.made m.state.bad m.state.option m.buffer m.store m.marks)

-- "buffer zeros, code 00H, default geometry, index 0"; 02, "One": no block
pub opened_rest : (g : Geometry) (mode : Mode) (bad : ℕ) →
    let c = powered g mode bad in (c.buffer ≡ replicate 512 0) × (c.state.code ≡ 0) × (c.state.current ≡ g) × (c.state.option ≡ 0) × (c.state.interrupt ≡ false) × (c.phase ≡ Idle) × (c.state.block ≡ 0)
unfolding zeros
opened_rest g mode bad = (refl, refl, refl, refl, refl, refl, refl)
