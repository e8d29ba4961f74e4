-- The option as a method is the byte write to attribute 200H: the same outcome, the same card and so the same line, and what is lent as it was.
use Prim.Native.Nat.{ℕ, ◌*◌, ◌%◌, ◌<◌}
use native.Mathlib.Omega.{arith}
use mathlib.Core.Path.{◌≡◌, refl, sym, ◌∙◌}
use mathlib.Core.Bool.{Bool, true, false}
use mathlib.Core.List.{List}
use lib.Dec.{leb}
use lib.ListN.{length}
use borrow.Author.Tests.{le-ltb, lt-ltb, leb-true, leb-false}
use Rattle.ground.proofs.Picks.{pick_same}
use Rattle.maps.specs.declared.Mode.{Mode}
use Rattle.maps.specs.declared.Mode.TheVariants.{PcCard, TrueIde}
use Rattle.maps.specs.Spaces.{card_answers, answers_at}
use Rattle.maps.specs.Places.{attribute_place, map_place, place_at}
use Rattle.maps.specs.Rows.{misfits, above_three}
use Rattle.registers.specs.declared.State.{State}
use Rattle.registers.specs.State.{index_in, total_in}
use Rattle.registers.specs.WellMade.{index_fits, well_made}
use Rattle.card.specs.declared.Card.{Card}
use Rattle.card.specs.Access.{held_away, decided}
use Rattle.card.specs.Perform.{option_written, perform}
use Rattle.card.specs.Step.{step}
use Rattle.card.specs.Doors.{machine_of, answered, option_answered}
use Rattle.kept.proofs.Decided.{meaning-decided}
use Rattle.kept.proofs.Step.{not_well_refused}
use Rattle.laws.specs.DoorAccesses.{option_access, option_meaning}
use Rattle.laws.proofs.Meant.{step_as}

-- SRESET does not hold 200H away; is the index at most 3
option-decided : (mode : Mode) (b : Bool) (v : ℕ) (s : State) (tuples : List ℕ) → v < 256 → s.made.mode ≡ mode → leb (index_in v) 3 ≡ b → decided s (option_access v tuples) ≡ option_meaning mode v
unfolding decided held_away place_at map_place attribute_place answers_at card_answers misfits above_three
option-decided TrueIde b v s tuples l m e = rw (pick_same (leb 128 s.option) false, m)
option-decided PcCard true v s tuples l m e =
    let n : v % 256 ≡ v = omega arith in
    rw (pick_same (leb 128 s.option) false, m, le-ltb 255 v (omega arith), le-ltb 3 (index_in v) (leb-true (index_in v) 3 e), e, n)
option-decided PcCard false v s tuples l m e =
    rw (pick_same (leb 128 s.option) false, m, le-ltb 255 v (omega arith), lt-ltb 3 (index_in v) (leb-false (index_in v) 3 e), e)

option_by : (mode : Mode) (b : Bool) (v : ℕ) (c : Card) (store marks : List ℕ) → well_made c.phase c.state ≡ true → c.state.made.mode ≡ mode → leb (index_in v) 3 ≡ b →
    answered (option_answered v c) store marks ≡ perform (option_meaning mode v) (machine_of c store marks)
unfolding option_answered answers_at card_answers index_fits perform option_written
option_by TrueIde b v c store marks w m e = rw (w, m)
option_by PcCard true v c store marks w m e = rw (w, m, e)
option_by PcCard false v c store marks w m e = rw (w, m, e)

-- of a well-made card
pub meant_option : (v : ℕ) (c : Card) (store marks : List ℕ) → well_made c.phase c.state ≡ true →
    answered (option_answered v c) store marks ≡ perform (option_meaning c.state.made.mode v) (machine_of c store marks)
meant_option v c store marks w = option_by c.state.made.mode (leb (index_in v) 3) v c store marks w refl refl

option-made : (w : Bool) (v : ℕ) (c : Card) (store marks tuples : List ℕ) → well_made c.phase c.state ≡ w → v < 256 →
    length store ≡ 512 * total_in c.state → length marks ≡ total_in c.state → length tuples ≡ 256 →
    answered (option_answered v c) store marks ≡ step (machine_of c store marks) (option_access v tuples)
unfolding option_answered perform
option-made true v c store marks tuples e l s k t =
    let m = machine_of c store marks in
    let a = option_access v tuples in
    let d = option-decided c.state.made.mode (leb (index_in v) 3) v c.state tuples l refl refl in
    meant_option v c store marks e ∙ sym (step_as m a (option_meaning c.state.made.mode v) (meaning-decided m a e s k t ∙ d))
option-made false v c store marks tuples e l s k t = rw (not_well_refused (machine_of c store marks) (option_access v tuples) e, e)

pub option_is_access : (v : ℕ) (c : Card) (store marks tuples : List ℕ) → v < 256 →
    length store ≡ 512 * total_in c.state → length marks ≡ total_in c.state → length tuples ≡ 256 →
    answered (option_answered v c) store marks ≡ step (machine_of c store marks) (option_access v tuples)
option_is_access v c store marks tuples l s k t = option-made (well_made c.phase c.state) v c store marks tuples refl l s k t
