-- The rule of the Configuration Option and Device Control (SettingsRule.antt) by address: only an accepted write at attribute 200H or at offset E changes
-- them, as its value says.
use Rattle.std.proofs.Common.{Ok, Err, Some, None}
use Prim.Native.Nat.{ℕ}
use mathlib.Core.Path.{◌≡◌, refl, sym, ap, ◌∙◌}
use mathlib.Core.Bool.{Bool, true, false, not, ◌&&◌, true≢false, false≢true}
use mathlib.Core.List.{[], ◌∷◌}
use lib.Dec.{eqb}
use borrow.Author.Tests.{eqb-true}
use Rattle.ground.specs.Choice.{pick}
use Rattle.ground.proofs.Every.{and_left, and_right}
use Rattle.answers.specs.Answers.{refused, Outcome}
use Rattle.answers.specs.declared.Refusal.{Refusal}
use Rattle.maps.specs.declared.Register.TheVariants.{ErrorFeature, SectorCount, SectorNumber, CylinderLow, CylinderHigh, DriveHead, StatusCommand, AlternateControl, DriveAddress}
use Rattle.maps.specs.declared.Target.{Target}
use Rattle.maps.specs.declared.Target.TheVariants.{Tuple, Option, Named, Data}
use Rattle.maps.specs.Offsets.{Offset}
use Rattle.maps.specs.Places.{register_place}
use Rattle.registers.specs.declared.State.{State}
use Rattle.registers.specs.Machine.{Machine}
use Rattle.card.specs.declared.Meaning.{Meaning}
use Rattle.card.specs.Access.{Asked, targeted, standing, meaning}
use Rattle.card.specs.Step.{step}
use Rattle.card.specs.Rows.{at_option, offset_in}
use Rattle.card.proofs.Decided.{stands}
use Rattle.kept.proofs.Decided.{decided-elim, meaning-elim}
use Rattle.laws.specs.Holds.{offset_of}
use Rattle.laws.specs.Settings.{settings_of, option_settings, control_after, settings_after, settings_taken, settings_at}
use Rattle.laws.proofs.RefusedUnchanged.{refused-unchanged}
use Rattle.laws.proofs.Elsewhere.{loses, elsewhere-elim}
use Rattle.laws.proofs.ByAddress.{means_option_written, means_register_written}
use Rattle.laws.proofs.SettingsRule.{settings_rule}
use Rattle.maps.specs.Rows.{Standing}

-- a register but that of offset E, or the data port
target_kept : (t : Target) (a : Asked) (s : State) → a.access.write ≡ true → loses t ≡ true → settings_after (targeted t a) s ≡ settings_of s
target_kept (Tuple n) a s w b = absurd (false≢true b)
target_kept Option a s w b = absurd (false≢true b)
target_kept (Named ErrorFeature) a s w b = rw w
target_kept (Named SectorCount) a s w b = rw w
target_kept (Named SectorNumber) a s w b = rw w
target_kept (Named CylinderLow) a s w b = rw w
target_kept (Named CylinderHigh) a s w b = rw w
target_kept (Named DriveHead) a s w b = rw w
target_kept (Named StatusCommand) a s w b = rw w
target_kept (Named AlternateControl) a s w b = absurd (false≢true b)
target_kept (Named DriveAddress) a s w b = rw w
target_kept (Data port) a s w b = rw w

-- ---- a read
stands_read : (k : Standing) (a : Asked) (s : State) → a.access.write ≡ false → settings_after (standing k a) s ≡ settings_of s
stands_read (Ok (Tuple n)) a s w = refl
stands_read (Ok Option) a s w = rw w
stands_read (Ok (Named r)) a s w = rw w
stands_read (Ok (Data port)) a s w = rw w
stands_read (Err r) a s w = refl

read_kept : (m : Machine) (a : Asked) → a.access.write ≡ false → settings_after (meaning m a) m.state ≡ settings_of m.state
read_kept m a w =
    let P : Meaning → Type 0 = λ x. settings_after x m.state ≡ settings_of m.state in
    meaning-elim P m a refl refl refl refl
    (λ f s k t. decided-elim P m.state a refl refl
    (λ h e. stands_read (stands m.state a) a m.state w))

-- ---- a write that is accepted
sure : (t : Bool) → pick t true false ≡ true → t ≡ true
sure true e = refl
sure false e = e

at_e : (o : Offset) → offset_in (0xE ∷ []) o ≡ true → o ≡ Some 0xE
at_e (Some o) e = ap (λ (k : ℕ). Some k) (eqb-true o 0xE (sure (eqb o 0xE) e))
at_e None e = absurd (false≢true e)

-- is it at 200H, is it at offset E
taken : (option control : Bool) (m : Machine) (a : Asked) → at_option a.access.space a.access.address ≡ option → offset_in (0xE ∷ []) (offset_of m a) ≡ control →
    a.access.write ≡ true → refused (step m a).outcome ≡ false →
    settings_after (meaning m a) m.state
    ≡ pick option (option_settings a.access.value m.state)
    (pick control (record { option = m.state.option; control = control_after AlternateControl a.access.value m.state.control }) (settings_of m.state))
unfolding register_place
taken true control m a o c w n =
    let s = eqb-true a.access.space 0 (and_left (eqb a.access.space 0) (eqb a.access.address 0x200) o) in
    let d = eqb-true a.access.address 0x200 (and_right (eqb a.access.space 0) (eqb a.access.address 0x200) o) in
    ap (λ (x : Meaning). settings_after x m.state) (means_option_written m a s d w n)
taken false true m a o c w n =
    ap (λ (x : Meaning). settings_after x m.state) (means_register_written m a 0xE AlternateControl refl (at_e (offset_of m a) c) w n)
taken false false m a o c w n =
    elsewhere-elim (λ (x : Meaning). settings_after x m.state ≡ settings_of m.state) m a w (λ z. true≢false (sym (ap (offset_in (0xE ∷ [])) z) ∙ c)) o
    (λ r. refl) (λ t l. target_kept t a m.state w l)

-- ---- the rule
refusal : {X : Type 0} (o : Outcome) → refused o ≡ true → ((r : Refusal) → o ≡ Err r → X) → X
refusal (Ok v) e f = absurd (false≢true e)
refusal (Err r) e f = f r refl

settings_by : (write refuses : Bool) (m : Machine) (a : Asked) → a.access.write ≡ write → refused (step m a).outcome ≡ refuses →
    settings_of (step m a).next.state ≡ pick (write && not refuses) (settings_taken m a) (settings_of m.state)
settings_by false refuses m a w n = settings_rule m a ∙ read_kept m a w
settings_by true true m a w n = refusal (step m a).outcome n (λ r e. ap (λ (k : Machine). settings_of k.state) (refused-unchanged m a r e).1)
settings_by true false m a w n = settings_rule m a ∙ taken (at_option a.access.space a.access.address) (offset_in (0xE ∷ []) (offset_of m a)) m a refl refl w n

pub settings_at_lem : (m : Machine) (a : Asked) → settings_of (step m a).next.state ≡ settings_at m a
settings_at_lem m a = settings_by a.access.write (refused (step m a).outcome) m a refl refl
