-- What a write of the option or of a register leaves that is no command and no reset, in a card that no reset holds.
use Prim.Native.Nat.{ℕ}
use mathlib.Core.Bool.{Bool, true, false, not, true≢false, false≢true}
use mathlib.Core.Path.{◌≡◌, subst}
use Rattle.ground.proofs.Picks.{un_not}
use Rattle.maps.specs.declared.Register.{Register}
use Rattle.registers.specs.declared.State.{State}
use Rattle.registers.specs.State.{runs, sreset_in, with_option, with_control}
use Rattle.registers.specs.Machine.{Machine, machine, core, with_core}
use Rattle.registers.specs.Resets.{bit_two, bit_one, turn_of, option_turned, buffer_turned, control_turned}
use Rattle.registers.specs.Values.{register_set}
use Rattle.card.specs.Perform.{option_written, register_written}
use Rattle.kept.proofs.RegisterElim.{written-elim}
use Rattle.account.specs.Host.{calm_register}

abbrev pub state_in : State → Machine → Machine
state_in s m = with_core (core m.phase s) m

module _ (P : Machine → Type 0) (m : Machine) where
  option_by : (a b : Bool) (v : ℕ) → a ≡ false → b ≡ false → P (state_in (with_option v m.state) m) →
      P (machine (option_turned (turn_of a b) v m.phase m.state) (buffer_turned (turn_of a b) m.buffer) m.store m.marks)
  unfolding turn_of option_turned buffer_turned
  option_by true b v e f z = absurd (true≢false e)
  option_by false true v e f z = absurd (true≢false f)
  option_by false false v e f z = z

  pub option_aside : (v : ℕ) → sreset_in m.state.option ≡ false → not (sreset_in v) ≡ true → (sreset_in v ≡ false → P (state_in (with_option v m.state) m)) → P (option_written v m)
  unfolding option_written
  option_aside v e c f = let n = un_not (sreset_in v) _ c in option_by (sreset_in m.state.option) (sreset_in v) v e n (f n)

  control_by : (a b k : Bool) → a ≡ false → b ≡ false → P (state_in (with_control (record { held = m.state.control.held; masked = k }) m.state) m) →
      P (with_core (control_turned (turn_of a b) k m.phase m.state) m)
  unfolding turn_of control_turned
  control_by true b k e f z = absurd (true≢false e)
  control_by false true k e f z = absurd (true≢false f)
  control_by false false k e f z = z

  -- it stays, or a register is set where no transfer runs, or the mask is
  pub register_aside : (r : Register) (v : ℕ) → m.state.control.held ≡ false → calm_register r v ≡ true → P m →
      (runs m.phase ≡ false → P (state_in (register_set r v m.state) m)) →
      ((k : Bool) → P (state_in (with_control (record { held = m.state.control.held; masked = k }) m.state) m)) → P (register_written r v m)
  register_aside r v h c z f g =
      written-elim P r v m z (λ e i. f i)
      (λ k e. absurd (false≢true (subst (λ (x : Register). calm_register x v ≡ true) k c)))
      (λ k. control_by m.state.control.held (bit_two v) (bit_one v) h (un_not (bit_two v) _ (subst (λ (x : Register). calm_register x v ≡ true) k c)) (g (bit_one v)))
