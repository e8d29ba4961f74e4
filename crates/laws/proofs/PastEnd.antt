-- An Erase or Verify whose run is past the end changes nothing but Status, Error, code and the interrupt mark: over every card, geometry and Count.
use Rattle.std.proofs.Common.{Ok}
use Prim.Native.Nat.{ℕ}
use mathlib.Core.Bool.{Bool, true, false, ◌||◌, false≢true}
use mathlib.Core.Path.{◌≡◌, refl, ap, ◌∙◌}
use native.Mathlib.Omega.{arith}
use lib.Dec.{eqb, ltb}
use borrow.Author.Tests.{eqb-true, lt-ltb}
use Rattle.ground.specs.Choice.{pick}
use Rattle.geometry.specs.declared.Spot.{Spot}
use Rattle.geometry.proofs.Inside.{remain_room}
use Rattle.maps.specs.declared.Register.TheVariants.{StatusCommand}
use Rattle.registers.specs.State.{total_in, located_in}
use Rattle.registers.specs.Machine.{Machine}
use Rattle.transfers.specs.Before.{past_end}
use Rattle.commands.specs.declared.Command.{Command}
use Rattle.commands.specs.declared.Command.TheVariants.{Verify, Erase}
use Rattle.commands.specs.Sweeps.{verify_run, erase_run}
use Rattle.commands.specs.Table.{command_of, obeyed, started, count_of, dropped, command_given}
use Rattle.card.specs.declared.Meaning.TheVariants.{WriteRegister}
use Rattle.card.specs.Access.{Asked, meaning}
use Rattle.card.specs.Perform.{perform, register_written}
use Rattle.card.specs.Step.{step}
use Rattle.laws.specs.Runs.{runs, Past, past_ended}

-- the opcodes are those of Erase and Verify
runs-elim : (P : Command → Type 0) (opcode : ℕ) → runs opcode ≡ true → P Erase → P Verify → P (command_of opcode)
unfolding command_of
runs-elim P opcode e x y = go (eqb opcode 0xC0) (eqb opcode 0x40) (eqb opcode 0x41) refl refl refl e
  where
    go : (a b c : Bool) → eqb opcode 0xC0 ≡ a → eqb opcode 0x40 ≡ b → eqb opcode 0x41 ≡ c → (a || (b || c)) ≡ true → P (command_of opcode)
    go true b c p q r e = rw (eqb-true opcode 0xC0 p) x
    go false true c p q r e = rw (eqb-true opcode 0x40 q) y
    go false false true p q r e = rw (eqb-true opcode 0x41 r) y
    go false false false p q r e = absurd (false≢true e)

module _ (m : Machine) (p : Spot) (good : located_in m.state ≡ Ok p) (past : Past m.state p.index) where
  -- more sectors are asked for than remain
  more : ltb p.remain (count_of m.state) ≡ true
  unfolding count_of
  more =
      let r = remain_room m.state.registers.address m.state.current (total_in m.state) p good in
      let x = r.0 in
      let y = r.1 in
      lt-ltb p.remain (count_of m.state) (omega arith)

  pub past-given : (opcode : ℕ) → runs opcode ≡ true → command_given opcode m ≡ past_ended m
  unfolding command_given verify_run erase_run past_end count_of
  past-given opcode e = runs-elim (λ (c : Command). obeyed c (started (dropped m).state) (dropped m) ≡ past_ended m) opcode e (rw (good, more)) (rw (good, more))

  -- as an access: a Command write that is taken, and in no reset
  pub past-unchanged : (a : Asked) (opcode : ℕ) → meaning m a ≡ WriteRegister StatusCommand opcode → m.state.control.held ≡ false → runs opcode ≡ true → (step m a).next ≡ past_ended m
  unfolding step perform register_written
  past-unchanged a opcode w h e = rw w (ap (λ (b : Bool). pick b m (command_given opcode m)) h ∙ past-given opcode e)
