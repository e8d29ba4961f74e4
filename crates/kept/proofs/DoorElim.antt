-- What the doors by value can answer: the opening, and the two resets as methods.
use Rattle.std.proofs.Common.{Ok}
use Prim.Native.Nat.{ℕ, ◌*◌}
use mathlib.Core.Path.{◌≡◌, refl}
use mathlib.Core.Bool.{true, ◌&&◌, false≢true}
use mathlib.Core.List.{List}
use lib.Dec.{leb, eqb}
use lib.ListN.{length}
use borrow.Author.Tests.{eqb-true}
use Rattle.ground.proofs.Picks.{pick-elim}
use Rattle.ground.proofs.Every.{and_left}
use Rattle.answers.specs.declared.Refusal.{Refusal}
use Rattle.answers.specs.declared.Refusal.TheVariants.{GeometryOrMode, StoreLength, MarksLength, TupleBufferLength, MarkAboveTwo}
use Rattle.geometry.specs.declared.Geometry.{Geometry}
use Rattle.geometry.specs.Limits.{fits, total_of}
use Rattle.sectors.specs.Marks.{marks_fit, bad_in}
use Rattle.maps.specs.declared.Mode.{Mode}
use Rattle.maps.specs.declared.Mode.TheVariants.{PcCard, TrueIde}
use Rattle.maps.specs.Spaces.{answers_at}
use Rattle.registers.specs.State.{sreset_in, index_in}
use Rattle.registers.specs.WellMade.{index_fits, well_made}
use Rattle.registers.specs.Resets.{control_written, option_core, option_buffer}
use Rattle.card.specs.declared.Card.{Card}
use Rattle.card.specs.declared.Answer.{Answer}
use Rattle.card.specs.Opening.{mode_of, powered, open_refused, opened}
use Rattle.card.specs.Doors.{card_of, answer, refused_by, option_answered, control_answered}

-- refusals 1, 2, 3, 5 and 4, then power-on
pub opened-elim : (P : Answer → Type 0) (g : Geometry) (mode : ℕ) (store marks tuples : List ℕ) →
    P (open_refused GeometryOrMode) → P (open_refused StoreLength) → P (open_refused MarksLength) → P (open_refused TupleBufferLength) → P (open_refused MarkAboveTwo) →
    (fits g ≡ true → length store ≡ 512 * total_of g → length marks ≡ total_of g → P (answer (Ok 0) (powered g (mode_of mode) (bad_in marks)))) →
    P (opened g mode store marks tuples)
unfolding opened
opened-elim P g mode store marks tuples x y z u v a =
    pick-elim P (fits g && leb mode 1) _ _
    (λ f. pick-elim P (eqb (length store) (512 * total_of g)) _ _
    (λ s. pick-elim P (eqb (length marks) (total_of g)) _ _
    (λ k. pick-elim P (eqb (length tuples) 256) _ _
    (λ t. pick-elim P (marks_fit marks) _ _ (λ w. a (and_left (fits g) (leb mode 1) f) (eqb-true _ _ s) (eqb-true _ _ k)) (λ w. v))
    (λ t. u))
    (λ k. z))
    (λ s. y))
    (λ f. x)

-- the card after the option is written
abbrev pub option_card : ℕ → Card → Card
option_card v c = card_of (option_core v c.phase c.state) (option_buffer v c.state c.buffer)

-- attribute memory answers in mode 0 only
attribute_mode : (mode : Mode) (index : ℕ) → answers_at 0 mode index ≡ true → PcCard ≡ mode
unfolding answers_at
attribute_mode PcCard index e = refl
attribute_mode TrueIde index e = absurd (false≢true e)

pub option-elim : (P : Answer → Type 0) (v : ℕ) (c : Card) → ((r : Refusal) → P (refused_by c r)) →
    (PcCard ≡ c.state.made.mode → index_fits v ≡ true → P (answer (Ok 0) (option_card v c))) → P (option_answered v c)
unfolding option_answered
option-elim P v c f a =
    pick-elim P (well_made c.phase c.state) _ _
    (λ w. pick-elim P (answers_at 0 c.state.made.mode (index_in c.state.option)) _ _
    (λ m. pick-elim P (index_fits v) _ _ (a (attribute_mode c.state.made.mode (index_in c.state.option) m)) (λ e. f _))
    (λ e. f _))
    (λ e. f _)

pub control_elim : (P : Answer → Type 0) (v : ℕ) (c : Card) → ((r : Refusal) → P (refused_by c r)) →
    P (answer (Ok 0) (card_of (control_written v c.phase c.state) c.buffer)) → P (control_answered v c)
unfolding control_answered
control_elim P v c f a =
    pick-elim P (well_made c.phase c.state) _ _
    (λ e. pick-elim P (sreset_in c.state.option) _ _ (λ e. f _) (λ e. a))
    (λ e. f _)
