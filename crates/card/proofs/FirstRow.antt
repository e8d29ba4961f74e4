-- 01, "Answers": "The first that applies, in this order, is given": of an access, of the opening and of the two resets' methods.
use Prim.Native.Nat.{ℕ}
use mathlib.Core.Path.{◌≡◌, refl, ap, ◌∙◌}
use mathlib.Core.Bool.{Bool, not, ◌&&◌}
use mathlib.Core.List.{List, [], ◌∷◌}
use lib.Dec.{leb}
use Rattle.ground.specs.Choice.{pick}
use Rattle.ground.specs.Rows.{Unless, first_of}
use Rattle.answers.specs.declared.Refusal.TheVariants.{NotWellMade, SpaceSilent, IndexAboveThree}
use Rattle.answers.specs.Answers.{number_of, outcome_number}
use Rattle.answers.specs.Rows.{ByRows}
use Rattle.answers.proofs.Rows.{first_of_lem, by_rows}
use Rattle.geometry.specs.declared.Geometry.{Geometry}
use Rattle.maps.specs.declared.Mode.{Mode}
use Rattle.maps.specs.declared.Mode.TheVariants.{PcCard, TrueIde}
use Rattle.maps.specs.Spaces.{card_answers, answers_at}
use Rattle.registers.specs.State.{sreset_in, index_in}
use Rattle.registers.specs.WellMade.{index_fits, well_made}
use Rattle.registers.specs.Machine.{Machine}
use Rattle.card.specs.declared.Meaning.{Meaning}
use Rattle.card.specs.declared.Answer.{Answer}
use Rattle.card.specs.declared.Card.{Card}
use Rattle.card.specs.Access.{Asked, place_in, lent_table, door_table, decided}
use Rattle.card.specs.Perform.{perform}
use Rattle.card.specs.Step.{step}
use Rattle.card.specs.Opening.{open_refused, opening_table, opened}
use Rattle.card.specs.Doors.{refused_by, option_table, option_answered, control_table, control_answered}
use Rattle.card.specs.Rows.{at_option, mode0, access_rows, option_rows, control_rows}
use Rattle.card.specs.OpeningRows.{opening_rows}
use Rattle.card.proofs.RowTests.{away_is}
use Rattle.card.proofs.HalfRow.{number_after}
use Rattle.card.proofs.Verdicts.{meaning_as}
use Rattle.card.proofs.PlaceRows.{place_number, place_told}
use Rattle.card.proofs.OpeningRow.{opening_told}

-- ---- an access
door_told : (m : Machine) (a : Asked) →
    number_after (decided m.state a) m
    ≡ pick (sreset_in m.state.option && not (at_option a.access.space a.access.address)) 8 (place_number a m (place_in m.state a))
unfolding decided perform
door_told m a =
    first_of_lem (λ (k : Meaning). number_after k m) (door_table m.state a) Meaning.Refused _
    ∙ ap (λ (t : Bool). pick t 8 (place_number a m (place_in m.state a))) (away_is m.state.option a.access)

access_number : (m : Machine) (a : Asked) → outcome_number (step m a).outcome ≡ first_of (access_rows m a) number_of 0
unfolding step perform
access_number m a =
    let table = lent_table m.phase m.state m.store m.marks a.tuples in
    ap (λ (k : Meaning). number_after k m) (meaning_as m a)
    ∙ first_of_lem (λ (k : Meaning). number_after k m) table Meaning.Refused (decided m.state a)
    ∙ ap (first_of table number_of)
    (door_told m a ∙ ap (pick (sreset_in m.state.option && not (at_option a.access.space a.access.address)) 8) (place_told a m m.state.made.mode (index_in m.state.option)))

-- no other row can come: 1 and 4 are the opening's, 13 to 16 the tuples', 17 the session file's
pub first-row : (m : Machine) (a : Asked) → ByRows (12 ∷ 2 ∷ 3 ∷ 5 ∷ 8 ∷ 7 ∷ 6 ∷ 9 ∷ 10 ∷ 11 ∷ []) (access_rows m a) (step m a).outcome
first-row m a = by_rows (access_rows m a) (step m a).outcome refl (access_number m a)

-- ---- the opening
pub opening_first_row : (g : Geometry) (mode : ℕ) (store marks tuples : List ℕ) →
    ByRows (1 ∷ 2 ∷ 3 ∷ 5 ∷ 4 ∷ []) (opening_rows g mode store marks tuples) (opened g mode store marks tuples).outcome
unfolding opened
opening_first_row g mode store marks tuples =
    by_rows (opening_rows g mode store marks tuples) (opened g mode store marks tuples).outcome refl
    (first_of_lem (λ (x : Answer). outcome_number x.outcome) (opening_table g mode store marks tuples) open_refused _ ∙ opening_told g mode store marks tuples)

-- ---- the two resets as methods
attribute_mode : (mode : Mode) (index : ℕ) → answers_at 0 mode index ≡ mode0 mode
unfolding answers_at card_answers
attribute_mode PcCard index = refl
attribute_mode TrueIde index = refl

pub option_first_row : (v : ℕ) (c : Card) → ByRows (12 ∷ 7 ∷ 10 ∷ []) (option_rows v c) (option_answered v c).outcome
unfolding option_answered index_fits
option_first_row v c =
    by_rows (option_rows v c) (option_answered v c).outcome refl
    (first_of_lem (λ (x : Answer). outcome_number x.outcome) (option_table v c) (refused_by c) _
    ∙ ap (λ (t : Bool). first_of (Unless (well_made c.phase c.state) NotWellMade ∷ Unless t SpaceSilent ∷ Unless (leb (index_in v) 3) IndexAboveThree ∷ []) number_of 0)
    (attribute_mode c.state.made.mode (index_in c.state.option)))

pub control_first_row : (v : ℕ) (c : Card) → ByRows (12 ∷ 8 ∷ []) (control_rows c) (control_answered v c).outcome
unfolding control_answered
control_first_row v c =
    by_rows (control_rows c) (control_answered v c).outcome refl (first_of_lem (λ (x : Answer). outcome_number x.outcome) (control_table c) (refused_by c) _)
