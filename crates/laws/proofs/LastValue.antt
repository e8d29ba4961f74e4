-- 01, "Maps", Configuration Option: "Reading gives the last value", in a Device Control hold too.
use Rattle.std.proofs.Common.{Ok}
use Prim.Native.Nat.{ℕ}
use mathlib.Core.Path.{◌≡◌, refl, ap, ◌∙◌}
use mathlib.Core.Bool.{Bool, true, false, ◌&&◌}
use mathlib.Core.List.{List, [], ◌∷◌}
use Rattle.ground.specs.Choice.{pick}
use Rattle.answers.specs.Answers.{refused}
use Rattle.maps.specs.declared.Register.TheVariants.{AlternateControl}
use Rattle.registers.specs.declared.State.{State}
use Rattle.registers.specs.Machine.{Machine}
use Rattle.port.specs.Data.{Effect, accepted}
use Rattle.card.specs.declared.Meaning.TheVariants.{ReadOption}
use Rattle.card.specs.Access.{Asked}
use Rattle.card.specs.Perform.{perform}
use Rattle.card.specs.Step.{step, play}
use Rattle.card.specs.Rows.{at_option, offset_in}
use Rattle.laws.specs.Holds.{offset_of}
use Rattle.laws.specs.Settings.{Settings, settings_of, option_settings, control_after, takes, writes_option, NoOptionWrite}
use Rattle.laws.proofs.Meant.{step_as}
use Rattle.laws.proofs.ByAddress.{means_option_read}
use Rattle.laws.proofs.SettingsAt.{settings_at_lem}

-- a read at attribute 200H gives the option and leaves the machine
pub option_at_200 : (m : Machine) (a : Asked) → a.access.space ≡ 0 → a.access.address ≡ 0x200 → a.access.write ≡ false → refused (step m a).outcome ≡ false →
    step m a ≡ accepted m.state.option m
unfolding perform
option_at_200 m a s d w n = step_as m a ReadOption (means_option_read m a s d w n)

-- is the write accepted, at 200H, at offset E
option_by : (took here control : Bool) (v : ℕ) (s : State) →
    (pick took (pick here (option_settings v s) (pick control (record { option = s.option; control = control_after AlternateControl v s.control }) (settings_of s))) (settings_of s)).option
    ≡ pick (took && here) v s.option
option_by true true control v s = refl
option_by true false true v s = refl
option_by true false false v s = refl
option_by false here control v s = refl

-- an accepted write there sets it, and no other access changes it
pub option-after : (m : Machine) (a : Asked) → (step m a).next.state.option ≡ pick (writes_option m a) a.access.value m.state.option
option-after m a =
    ap (λ (k : Settings). k.option) (settings_at_lem m a)
    ∙ option_by (takes m a) (at_option a.access.space a.access.address) (offset_in (0xE ∷ []) (offset_of m a)) a.access.value m.state

option-played : (l : List Asked) (m : Machine) → NoOptionWrite m l → (play m l).last.state.option ≡ m.state.option
unfolding play
option-played [] m n = refl
option-played (a ∷ l) m n = option-played l (step m a).next n.1 ∙ option-after m a ∙ rw n.0

-- after an accepted write at 200H, and whatever accesses that write there no more, a read at 200H gives the value written
pub last_value : (m : Machine) (a : Asked) (l : List Asked) (b : Asked) → writes_option m a ≡ true → NoOptionWrite (step m a).next l →
    let n = (play (step m a).next l).last in
    b.access.space ≡ 0 → b.access.address ≡ 0x200 → b.access.write ≡ false → refused (step n b).outcome ≡ false → (step n b).outcome ≡ Ok a.access.value
last_value m a l b e n s d w f =
    ap (λ (x : Effect). x.outcome) (option_at_200 (play (step m a).next l).last b s d w f)
    ∙ ap (λ (k : ℕ). Ok k) (option-played l (step m a).next n ∙ option-after m a ∙ rw e)
