-- Every command, once given, stands in the relation that accesses keep.
use Prim.Native.Nat.{ℕ}
use mathlib.Core.Path.{◌≡◌, refl, sym, ap, ◌∙◌, subst}
use mathlib.Core.Bool.{Bool}
use mathlib.Core.List.{List}
use lib.Dec.{eqb}
use Rattle.ground.specs.Choice.{pick}
use Rattle.ground.proofs.Picks.{test_elim}
use native.Mathlib.Omega.{arith}
use Rattle.geometry.specs.Limits.{total_of}
use Rattle.geometry.specs.Address.{seek}
use Rattle.geometry.specs.Shape.{reshaped}
use Rattle.geometry.proofs.Shapes.{after_current}
use Rattle.identify.specs.Words.{identify_bytes}
use Rattle.identify.proofs.Bytes.{identify_length}
use Rattle.registers.specs.State.{total_in}
use Rattle.registers.specs.Blocks.{no_block, single, pace_from}
use Rattle.registers.specs.Machine.{Machine, with_core}
use Rattle.commands.specs.declared.Command.{Command}
use Rattle.commands.specs.declared.Command.TheVariants.{Read, Write, Verify, Erase, Identify, ReadBuffer, WriteBuffer, SetGeometry, Diagnose, Recalibrate, Seek, Sense, SetMultiple, ReadMultiple, WriteMultiple, Other}
use Rattle.transfers.specs.declared.End.{End}
use Rattle.transfers.specs.declared.Way.{Way}
use Rattle.transfers.specs.declared.Way.TheVariants.{In, Out}
use Rattle.transfers.specs.declared.Order.TheVariants.{First}
use Rattle.transfers.specs.Ends.{ended}
use Rattle.transfers.specs.Steps.{idle_with, read_sector, ask_sector}
use Rattle.commands.specs.Blocks.{block_set, blocks_read, blocks_asked}
use Rattle.commands.specs.Sweeps.{verify_run, erase_run}
use Rattle.commands.specs.Table.{command_of, started, count_of, facts_of, reshaped_ended, sought_end, obeyed}
use Rattle.account.specs.Plain.{with_buffer, starts, ends, Finish, Well, Aborted, silent, moving}
use Rattle.account.specs.Numbers.{code_others}
use Rattle.account.specs.CommandRows.{CommandRow, row_of}
use Rattle.account.specs.Words.{identify_data}
use Rattle.account.specs.Table.{reads, writes, diagnoses, behind_block, account}
use Rattle.account.specs.Host.{plain_of}
use Rattle.account.specs.Notes.{no_notes, way_of}
use Rattle.account.proofs.SameRow.{row_for, same_row}
use Rattle.account.proofs.Settled.{verify_settled, erase_settled}
use Rattle.account.proofs.Identifying.{identify_is, identify_bytes_lem}
use Rattle.account.proofs.Rest.{rest_at, Ground, Rel}
use Rattle.account.proofs.Commands.{Given, outward, over, settled_ground, read_all, read_all_between, write_all, write_all_between}
use Rattle.account.proofs.Commands.{verify_all, erase_all, set_is, set-idle, set_ground}
use Rattle.account.proofs.Blocks.{block_is, block_idle, block_ground}
use Rattle.account.proofs.Seeking.{seek_is}
use Rattle.account.proofs.StartsEnds.{started-starts, starts-ends, diagnosed_is, sensed_is, buffer_read_lem, buffer_written}

-- "ABRT, 20H": others, and C4H and C5H without a block
aborted : (way : Way) (m : Machine) → Ground way m → Rel way (λ d. silent (ends (Aborted code_others) (starts (plain_of m)))) (with_core (ended End.NoSuchCommand (started m.state)) m) no_notes
aborted way m g =
    over _ way (ended End.NoSuchCommand (started m.state)) m.buffer m.store m.marks refl g (λ d. ap silent (sym (starts-ends End.NoSuchCommand m.state m.buffer m.store m.marks)))

pub begins : (k : Command) (m : Machine) → Given m → Rel (way_of (row_for k)) (account (row_for k) (plain_of m)) (obeyed k (started m.state) m) no_notes
unfolding account behind_block rest_at blocks_read blocks_asked
begins Read m h =
    let x = idle_with (started m.state) m in
    let z = read_all_between single x h.0 h.1 in
    record { account = λ d. read_all single x d h.0 h.1; ground = z.0; waits = z.1 }
begins Write m h =
    let x = idle_with (started m.state) m in
    let z = write_all_between single x h.2 (outward m h.0) h.1 in
    record { account = λ d. write_all single x d (outward m h.0) h.1; ground = z.0; waits = z.1 }
begins Verify m h =
    let x = idle_with (started m.state) m in
    let k = verify_run (count_of x.state) x.state m.marks in
    let z = verify_settled (count_of x.state) x.state m.marks in
    over _ In k m.buffer m.store m.marks z.0 (settled_ground In x.state k m.buffer m.store m.marks m.buffer m.store m.marks z h.0 h.0.1 h.0.2)
    (λ d. ap silent (verify_all x h.0 h.1))
begins Erase m h =
    let x = idle_with (started m.state) m in
    let k = erase_run (count_of x.state) x.state m.store m.marks in
    let z = erase_settled (count_of x.state) (total_of m.state.made.default) x.state m.store m.marks h.0.1 in
    over _ Out k.outcome m.buffer k.next.store k.next.marks z.0.0
    (settled_ground Out x.state k.outcome m.buffer m.store m.marks m.buffer k.next.store k.next.marks z.0 (outward m h.0) z.1 tt)
    (λ d. ap silent (erase_all x h.0 h.1))
begins Identify m h =
    let e : identify_bytes (facts_of (started m.state)) ≡ identify_data (plain_of m) = identify_is m.state m.buffer m.store m.marks h.0.0.1 in
    record {
      account = λ d.
          ap (λ (l : List ℕ). moving l (silent (ends Well (with_buffer l (starts (plain_of m)))))) (sym e)
          ∙ buffer_read_lem m.state (identify_bytes (facts_of (started m.state))) m.store m.marks d;
      ground = h.0;
      waits = (omega arith, identify_length (facts_of (started m.state)), rw e (identify_bytes_lem (plain_of m) h.4 h.5 h.6 h.7 h.8 h.9 h.10), tt, tt);
    }
begins ReadBuffer m h = record { account = buffer_read_lem m.state m.buffer m.store m.marks; ground = h.0; waits = (omega arith, h.2, h.3, tt, tt) }
begins WriteBuffer m h = record { account = buffer_written m.state m.buffer m.store m.marks; ground = outward m h.0; waits = (omega arith, h.2, tt, tt, tt) }
begins SetGeometry m h =
    let s = started m.state in
    let r = reshaped s.registers.count s.registers.address.head (total_in s) in
    over _ In (reshaped_ended r s) m.buffer m.store m.marks (set-idle r s)
    (set_ground r s m.buffer m.store m.marks (after_current s.registers.count s.registers.address.head (total_in s) r s.current h.1.0 refl h.0.0.0) h.0)
    (λ d. ap silent (set_is s m.buffer m.store m.marks h.0.0))
begins Diagnose m h =
    record {
      account = λ d. ap silent (ap diagnoses (sym (started-starts m.state m.buffer m.store m.marks)) ∙ sym (diagnosed_is (started m.state) m.buffer m.store m.marks));
      ground = h.0;
      waits = refl;
    }
begins Recalibrate m h = record { account = λ d. ap silent (sym (starts-ends End.Good m.state m.buffer m.store m.marks)); ground = h.0; waits = refl }
begins Seek m h =
    let s = started m.state in
    record {
      account = λ d.
          ap silent
          (ap (λ (e : Finish). ends e (starts (plain_of m))) (seek_is m.state m.buffer m.store m.marks h.0.0)
          ∙ sym (starts-ends (sought_end (seek s.registers.address s.current (total_in s))) m.state m.buffer m.store m.marks));
      ground = h.0;
      waits = refl;
    }
begins Sense m h = record { account = λ d. ap silent (sym (sensed_is m.state m.buffer m.store m.marks)); ground = h.0; waits = refl }
begins SetMultiple m h =
    let s = started m.state in
    over _ In (block_set s) m.buffer m.store m.marks (block_idle s) (block_ground s m.buffer m.store m.marks h.0) (λ d. ap silent (block_is s m.buffer m.store m.marks))
begins ReadMultiple m h =
    let s = started m.state in
    let x = idle_with s m in
    test_elim (λ (v : Bool). Rel In (λ d. pick v (silent (ends (Aborted code_others) (starts (plain_of m)))) (reads (starts (plain_of m)))) (pick v (with_core (ended End.NoSuchCommand s) x) (read_sector (count_of s) (pace_from s.block) x)) no_notes)
    (eqb s.block no_block)
    (λ e. aborted In m h.0)
    (λ e. let z = read_all_between (pace_from s.block) x h.0 h.1 in record { account = λ d. read_all (pace_from s.block) x d h.0 h.1; ground = z.0; waits = z.1 })
begins WriteMultiple m h =
    let s = started m.state in
    let x = idle_with s m in
    test_elim (λ (v : Bool). Rel Out (λ d. pick v (silent (ends (Aborted code_others) (starts (plain_of m)))) (writes (starts (plain_of m)) d)) (with_core (pick v (ended End.NoSuchCommand s) (ask_sector (count_of s) (pace_from s.block) First s)) m) no_notes)
    (eqb s.block no_block)
    (λ e. aborted Out m (outward m h.0))
    (λ e.
    let z = write_all_between (pace_from s.block) x h.2 (outward m h.0) h.1 in
    record { account = λ d. write_all (pace_from s.block) x d (outward m h.0) h.1; ground = z.0; waits = z.1 })
begins Other m h = aborted In m h.0

-- by the account's own row of the code
pub begins_row : (v : ℕ) (m : Machine) → Given m → Rel (way_of (row_of v)) (account (row_of v) (plain_of m)) (obeyed (command_of v) (started m.state) m) no_notes
begins_row v m h = subst (λ (r : CommandRow). Rel (way_of r) (account r (plain_of m)) (obeyed (command_of v) (started m.state) m) no_notes) (sym (same_row v)) (begins (command_of v) m h)
