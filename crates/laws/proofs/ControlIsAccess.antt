-- Device Control as a method is the byte write to its register: the same outcome, the same card and so the same line, and what is lent as it was.
use Rattle.std.proofs.Common.{Ok}
use Prim.Native.Nat.{ℕ, zero, suc, ◌*◌, ◌%◌, ◌<◌, ◌≤◌}
use native.Mathlib.Omega.{arith}
use mathlib.Core.Path.{◌≡◌, refl, sym, ◌∙◌}
use mathlib.Core.Bool.{Bool, true, false}
use mathlib.Core.List.{List}
use lib.ListN.{length}
use borrow.Author.Tests.{ne_eqb, le-ltb, leb-true}
use Rattle.ground.specs.Choice.{pick}
use Rattle.answers.specs.declared.Refusal.TheVariants.{HeldBySreset}
use Rattle.maps.specs.declared.Mode.{Mode}
use Rattle.maps.specs.declared.Mode.TheVariants.{PcCard, TrueIde}
use Rattle.maps.specs.declared.Register.TheVariants.{AlternateControl}
use Rattle.maps.specs.declared.Target.TheVariants.{Named}
use Rattle.maps.specs.Spaces.{card_answers, answers_at}
use Rattle.maps.specs.Offsets.{memory_at, contiguous_at, window_at, io_at, offset_at}
use Rattle.maps.specs.Places.{register_place, map_place, place_at}
use Rattle.maps.specs.Rows.{misfits, stands_at}
use Rattle.maps.proofs.Standings.{stands_known}
use Rattle.registers.specs.declared.State.{State}
use Rattle.registers.specs.State.{sreset_in, index_in, total_in}
use Rattle.registers.specs.WellMade.{index_fits, well_made}
use Rattle.card.specs.declared.Card.{Card}
use Rattle.card.specs.declared.Meaning.{Meaning}
use Rattle.card.specs.declared.Meaning.TheVariants.{WriteRegister}
use Rattle.card.specs.Access.{Asked, held_away, decided}
use Rattle.card.specs.Perform.{register_written, perform}
use Rattle.card.specs.Step.{step}
use Rattle.card.specs.Doors.{machine_of, answered, control_answered}
use Rattle.card.proofs.Decided.{decided_as}
use Rattle.kept.proofs.Registers.{apart}
use Rattle.kept.proofs.Decided.{meaning-decided}
use Rattle.kept.proofs.Step.{not_well_refused}
use Rattle.laws.specs.DoorAccesses.{Reaches, control_space, control_address, control_access, control_meaning}
use Rattle.laws.proofs.Meant.{step_as}

control_by_hold : (b : Bool) (v : ℕ) (c : Card) (store marks : List ℕ) → well_made c.phase c.state ≡ true → sreset_in c.state.option ≡ b →
    answered (control_answered v c) store marks ≡ perform (control_meaning b v) (machine_of c store marks)
unfolding control_answered perform register_written
control_by_hold true v c store marks w e = rw (w, e)
control_by_hold false v c store marks w e = rw (w, e)

-- of a well-made card
pub meant_control : (v : ℕ) (c : Card) (store marks : List ℕ) → well_made c.phase c.state ≡ true →
    answered (control_answered v c) store marks ≡ perform (control_meaning (sreset_in c.state.option) v) (machine_of c store marks)
meant_control v c store marks w = control_by_hold (sreset_in c.state.option) v c store marks w refl

control_decided : (b : Bool) (s : State) (a : Asked) → Reaches s a → sreset_in s.option ≡ b → decided s a ≡ control_meaning b a.access.value
unfolding held_away
control_decided b s a r e =
    -- it is in no attribute memory, and its value is a byte
    let k = stands_known s.made.mode (index_in s.option) a.access _ r.stands in
    let l : a.access.value ≤ 255 = k.1.small r.write in
    let n : a.access.value % 256 ≡ a.access.value = omega arith in
    decided_as s a ∙ rw (e, ne_eqb a.access.space 0 k.0, r.stands, r.write, n) (by_hold b a.access.value)
  where
    by_hold : (b : Bool) (v : ℕ) → pick (pick b true false) (Meaning.Refused HeldBySreset) (WriteRegister AlternateControl v) ≡ control_meaning b v
    by_hold true v = refl
    by_hold false v = refl

control_by : (w : Bool) (c : Card) (store marks : List ℕ) (a : Asked) → well_made c.phase c.state ≡ w → Reaches c.state a →
    length store ≡ 512 * total_in c.state → length marks ≡ total_in c.state → length a.tuples ≡ 256 →
    answered (control_answered a.access.value c) store marks ≡ step (machine_of c store marks) a
unfolding control_answered
control_by false c store marks a e r s k t = rw (not_well_refused (machine_of c store marks) a e, e)
control_by true c store marks a e r s k t =
    let m = machine_of c store marks in
    let b = sreset_in c.state.option in
    meant_control a.access.value c store marks e ∙ sym (step_as m a (control_meaning b a.access.value) (meaning-decided m a e s k t ∙ control_decided b c.state a r refl))

-- Device Control as a method is every byte write that reaches the register, in whatever map
pub control_is_access : (c : Card) (store marks : List ℕ) (a : Asked) → Reaches c.state a →
    length store ≡ 512 * total_in c.state → length marks ≡ total_in c.state → length a.tuples ≡ 256 →
    answered (control_answered a.access.value c) store marks ≡ step (machine_of c store marks) a
control_is_access c store marks a r s k t = control_by (well_made c.phase c.state) c store marks a refl r s k t

-- offset E of each map is reached
control_stands : (mode : Mode) (index v : ℕ) → index ≤ 3 → v < 256 →
    stands_at mode index (record { space = control_space mode index; width = 1; address = control_address mode index; value = v; write = true }) ≡ Ok (Named AlternateControl)
unfolding control_space control_address answers_at card_answers stands_at place_at map_place register_place offset_at memory_at contiguous_at io_at
    window_at misfits
control_stands TrueIde index v i l = rw (le-ltb 255 v (omega arith))
control_stands PcCard zero v i l = rw (le-ltb 255 v (omega arith))
control_stands PcCard (suc zero) v i l = rw (le-ltb 255 v (omega arith))
control_stands PcCard (suc (suc zero)) v i l = rw (le-ltb 255 v (omega arith))
control_stands PcCard (suc (suc (suc zero))) v i l = rw (le-ltb 255 v (omega arith))
control_stands PcCard (suc (suc (suc (suc n)))) v i l = absurd (omega arith)

control_at : (w : Bool) (v : ℕ) (c : Card) (store marks tuples : List ℕ) → well_made c.phase c.state ≡ w → v < 256 →
    length store ≡ 512 * total_in c.state → length marks ≡ total_in c.state → length tuples ≡ 256 →
    answered (control_answered v c) store marks ≡ step (machine_of c store marks) (control_access v c.state tuples)
unfolding control_answered perform index_fits
control_at false v c store marks tuples e l s k t = rw (not_well_refused (machine_of c store marks) (control_access v c.state tuples) e, e)
control_at true v c store marks tuples e l s k t =
    let i = leb-true (index_in c.state.option) 3 (apart c.phase c.state e).0.3 in
    control_is_access c store marks (control_access v c.state tuples) (record { write = refl; stands = control_stands c.state.made.mode (index_in c.state.option) v i l }) s k t

-- of every card: the write to offset E of the map that it has
pub control_is_offset_e : (v : ℕ) (c : Card) (store marks tuples : List ℕ) → v < 256 →
    length store ≡ 512 * total_in c.state → length marks ≡ total_in c.state → length tuples ≡ 256 →
    answered (control_answered v c) store marks ≡ step (machine_of c store marks) (control_access v c.state tuples)
control_is_offset_e v c store marks tuples l s k t = control_at (well_made c.phase c.state) v c store marks tuples refl l s k t
