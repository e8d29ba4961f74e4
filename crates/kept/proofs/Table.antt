-- Every command of the table leaves a card well made.
use Rattle.std.proofs.Common.{Some, None}
use Prim.Native.Nat.{ℕ}
use mathlib.Core.Bool.{true}
use mathlib.Core.Path.{◌≡◌, refl}
use native.Mathlib.Omega.{arith}
use lib.Dec.{eqb}
use borrow.Author.Tests.{eqb-true, eqb-false}
use Rattle.ground.proofs.Picks.{pick-elim, pick_same}
use Rattle.geometry.specs.Address.{seek}
use Rattle.geometry.specs.Shape.{reshaped, Reshaped}
use Rattle.geometry.proofs.Shapes.{reshaped_current}
use Rattle.identify.proofs.Bytes.{identify_length}
use Rattle.registers.specs.declared.Load.TheVariants.{Buffer}
use Rattle.registers.specs.declared.Made.{Made}
use Rattle.registers.specs.declared.State.{State}
use Rattle.registers.specs.State.{with_error, with_current, with_block, total_in}
use Rattle.registers.specs.Machine.{Machine}
use Rattle.registers.specs.WellMade.{in_reset, load_fits, block_fits, load_pace_fits}
use Rattle.registers.specs.Blocks.{block_size, no_block, single, pace_from}
use Rattle.transfers.specs.declared.End.{End}
use Rattle.transfers.specs.declared.Order.TheVariants.{First}
use Rattle.commands.specs.declared.Command.{Command}
use Rattle.commands.specs.declared.Command.TheVariants.{Read, Write, Verify, Erase, Identify, ReadBuffer, WriteBuffer, SetGeometry, Diagnose, Recalibrate, Seek, Sense, SetMultiple, ReadMultiple, WriteMultiple, Other}
use Rattle.transfers.specs.Steps.{idle_with}
use Rattle.commands.specs.Table.{command_of, started, count_of, facts_of, reshaped_ended, diagnosed, sought_end, obeyed, dropped, command_given}
use Rattle.commands.specs.Blocks.{block_set, blocks_read, blocks_asked}
use Rattle.kept.specs.Sound.{CountFits}
use Rattle.kept.proofs.Registers.{CoreFits}
use Rattle.kept.proofs.Lent.{lent_same}
use Rattle.kept.proofs.Ends.{Fine, Ready, CountAgrees, LoadFits, Next, ended-left, ready-left, asked-left}
use Rattle.kept.proofs.Paces.{single-fits, block_paces}
use Rattle.kept.proofs.Steps.{read_next, ask_left}
use Rattle.kept.proofs.Sweeps.{verify_left, erase_left}

-- "Count 0 means 256."
count_agrees : (s : State) → CountFits s → CountAgrees (count_of s) s
unfolding count_of
count_agrees s c =
    pick-elim (λ (n : ℕ). CountAgrees n s) (eqb s.registers.count 0) _ _
    (λ e. let z = eqb-true s.registers.count 0 e in (omega arith, omega arith, omega arith))
    (λ e. let z = eqb-false s.registers.count 0 e in (omega arith, omega arith, omega arith))

-- 91H takes a good geometry, or the old one stays
geometry-left : (x : Reshaped) (d : Made) (s : State) → reshaped s.registers.count s.registers.address.head (total_in s) ≡ x → Fine d s → CoreFits d (reshaped_ended x s)
geometry-left (Some g) d s e f =
    let c = reshaped_current s.registers.count s.registers.address.head (total_in s) g f.1 e in
    ended-left End.Good d (with_current g s) ((f.0.0, f.0.1, c, f.0.3, f.0.4, f.0.5, f.0.6), f.1)
geometry-left None d s e f = ended-left End.BadGeometry d s f

buffer_fits : (s : State) → LoadFits Buffer s
unfolding load_fits load_pace_fits
buffer_fits s = (refl, refl)

-- the block that C6H takes
size_fits : (n : ℕ) → block_size n ≡ true → block_fits n ≡ true
unfolding block_fits
size_fits n e = rw e (pick_same (eqb n no_block) true)

-- s is the state with Error and code 0
obeyed-next : (c : Command) (d : Made) (s : State) (m : Machine) → Ready d s → Fine d m.state → Next d m (obeyed c s m)
unfolding block_set blocks_read blocks_asked
obeyed-next Read d s m r f = read_next (count_of s) single d (idle_with s m) r (count_agrees s r.0.1) (single-fits s.block)
obeyed-next Write d s m r f = (ask_left (count_of s) single First d s r (count_agrees s r.0.1) (single-fits s.block), lent_same m)
obeyed-next Verify d s m r f = (verify_left (count_of s) d s m.marks r.0, lent_same m)
obeyed-next Erase d s m r f = let e = erase_left (count_of s) d s m.store m.marks r.0 in (e.0, λ b. (e.1, e.2, b))
obeyed-next Identify d s m r f = (ready-left Buffer d s r (buffer_fits s), λ b. (refl, refl, identify_length (facts_of s)))
obeyed-next ReadBuffer d s m r f = (ready-left Buffer d s r (buffer_fits s), lent_same m)
obeyed-next WriteBuffer d s m r f = (asked-left Buffer First d s r (buffer_fits s), lent_same m)
obeyed-next SetGeometry d s m r f = (geometry-left _ d s refl r.0, lent_same m)
obeyed-next Diagnose d s m r f = (ended-left End.Good d (diagnosed s) (r.0.0, omega arith), lent_same m)
obeyed-next Recalibrate d s m r f = (ended-left End.Good d s r.0, lent_same m)
obeyed-next Seek d s m r f =
    (ended-left (sought_end (seek s.registers.address s.current (total_in s))) d s r.0, lent_same m)
obeyed-next Sense d s m r f = (ended-left End.Good d (with_error m.state.code m.state) f, lent_same m)
obeyed-next SetMultiple d s m r f = (
  pick-elim (CoreFits d) (block_size s.registers.count) _ _
      (λ e. ended-left End.Good d (with_block s.registers.count s) ((r.0.0.0, r.0.0.1, r.0.0.2, r.0.0.3, r.0.0.4, r.0.0.5, size_fits s.registers.count e), r.0.1))
      (λ e. ended-left End.NoSuchCommand d s r.0),
  lent_same m,
)
obeyed-next ReadMultiple d s m r f =
    pick-elim (Next d m) (eqb s.block no_block) _ _
    (λ e. (ended-left End.NoSuchCommand d s r.0, lent_same m))
    (λ e. read_next (count_of s) (pace_from s.block) d (idle_with s m) r (count_agrees s r.0.1) (block_paces s.block e))
obeyed-next WriteMultiple d s m r f = (
  pick-elim (CoreFits d) (eqb s.block no_block) _ _
      (λ e. ended-left End.NoSuchCommand d s r.0)
      (λ e. ask_left (count_of s) (pace_from s.block) First d s r (count_agrees s r.0.1) (block_paces s.block e)),
  lent_same m,
)
obeyed-next Other d s m r f = (ended-left End.NoSuchCommand d s r.0, lent_same m)

pub command_next : (opcode : ℕ) (d : Made) (m : Machine) → Ready d m.state → Next d m (command_given opcode m)
unfolding command_given in_reset
command_next opcode d m r = obeyed-next (command_of opcode) d (started (dropped m).state) (dropped m) r r.0
