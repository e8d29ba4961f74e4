-- 02, "One": C4H does what 20H does and C5H what 30H, for every block at once, and with a block of 1 to the interrupt mark.
use mathlib.Core.Bool.{Bool, true, false}
use mathlib.Core.Path.{◌≡◌, refl, sym, ap, ◌∙◌}
use mathlib.Core.List.{List, ◌∷◌}
use lib.Dec.{eqb}
use Rattle.ground.specs.Choice.{pick}
use Rattle.maps.specs.declared.Register.TheVariants.{StatusCommand}
use Rattle.registers.specs.Blocks.{single, pace_from}
use Rattle.registers.specs.Machine.{Machine}
use Rattle.transfers.specs.declared.Order.TheVariants.{First}
use Rattle.transfers.specs.declared.Way.{Way}
use Rattle.transfers.specs.declared.Way.TheVariants.{In, Out}
use Rattle.commands.specs.Blocks.{blocks_read, blocks_asked}
use Rattle.commands.specs.Table.{command_of, count_of, started, dropped, command_given}
use Rattle.port.specs.Data.{Effect, accepted}
use Rattle.card.specs.declared.Meaning.TheVariants.{WriteRegister}
use Rattle.card.specs.Access.{Asked}
use Rattle.card.specs.Perform.{register_written, perform}
use Rattle.card.specs.Step.{step, play}
use Rattle.kept.specs.Sound.{Sound}
use Rattle.kept.proofs.Step.{sound_kept}
use Rattle.blocks.specs.Alike.{bare, bare_effect, bare_steps, multiple_code, single_code, Gives}
use Rattle.blocks.proofs.Bare.{read_bare, ask_bare}
use Rattle.blocks.proofs.Alike.{play_alike}

-- the command itself
given : (way : Way) (m : Machine) → eqb m.state.block 0 ≡ false → bare (command_given (multiple_code way) m) ≡ bare (command_given (single_code way) m)
unfolding command_given command_of blocks_read blocks_asked
given In m e =
    let s = started (dropped m).state in
    rw e (sym (read_bare m.buffer m.store m.marks (count_of s) single (pace_from m.state.block) s) ∙ read_bare m.buffer m.store m.marks (count_of s) single single s)
given Out m e =
    let s = started (dropped m).state in
    rw e
    (sym (ask_bare m.buffer m.store m.marks (count_of s) single (pace_from m.state.block) First s) ∙ ask_bare m.buffer m.store m.marks (count_of s) single single First s)

by_hold : (held : Bool) (m x y : Machine) → bare x ≡ bare y → bare (pick held m x) ≡ bare (pick held m y)
by_hold true m x y e = refl
by_hold false m x y e = e

written : (way : Way) (m : Machine) → eqb m.state.block 0 ≡ false →
    bare_effect (perform (WriteRegister StatusCommand (multiple_code way)) m) ≡ bare_effect (perform (WriteRegister StatusCommand (single_code way)) m)
unfolding perform register_written
written way m e = ap (accepted 0) (by_hold m.state.control.held m _ _ (given way m e))

-- An access writes C4H to a sound card that has a block, or 20H to the same card; C5H or 30H. Whatever accesses follow, the answers are the same but for the line, each and
-- every one, and after each of them the registers, the code, the number of bad sectors, the data, the sectors, the marks and the buffer.
pub multiple_as_single : (way : Way) (m : Machine) (a b : Asked) (l : List Asked) → Sound m → eqb m.state.block 0 ≡ false → Gives m a (multiple_code way) → Gives m b (single_code way) →
    bare_steps (play m (a ∷ l)).steps ≡ bare_steps (play m (b ∷ l)).steps
unfolding play step
multiple_as_single way m a b l s e g h =
    let x : bare_effect (step m a) ≡ bare_effect (step m b) = unfold step in rw (g, h) (written way m e) in
    let y = play_alike l (step m a).next (step m b).next (sound_kept m a s) (sound_kept m b s) (ap (λ (z : Effect). z.next) x) in
    ap (λ (z : Effect). z ∷ bare_steps (play (step m a).next l).steps) x ∙ ap (λ (z : List Effect). bare_effect (step m b) ∷ z) y

-- With a block of 1 they leave the very same card, and so do all accesses after them: the line, the interrupt mark, the running transfer.
pub block_of_one : (way : Way) (m : Machine) (a b : Asked) (l : List Asked) → m.state.block ≡ 1 → Gives m a (multiple_code way) → Gives m b (single_code way) → play m (a ∷ l) ≡ play m (b ∷ l)
unfolding play step perform register_written command_given command_of blocks_read blocks_asked
block_of_one In m a b l e g h = rw (g, h, e) refl
block_of_one Out m a b l e g h = rw (g, h, e) refl
