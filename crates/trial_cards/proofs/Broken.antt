-- A card with one field set, by the place of the field: there is none from field 30 on, and what is set at place 0 is not the card's.
use Rattle.std.proofs.Common.{ℕ, ◌≡◌, refl, sym, ◌<◌, ◌≤◌, List, [], ◌∷◌, set}
use Rattle.std.proofs.lemmas.List.{get_or_past}
use Rattle.std.proofs.lemmas.Bool.{lt-ltb}
use Rattle.ground.proofs.Picks.{pick_same}
use Rattle.card.specs.declared.Card.{Card}
use Rattle.trial_cards.specs.Rows.{row_of}
use Rattle.trial_cards.specs.Cards.{places, taken_of, place_of, card_from_row, broken_of}

pub no_place : (field value : ℕ) → 30 ≤ field → place_of field value ≡ 0
no_place field value h = rw (get_or_past places field 0 h) (pick_same (taken_of field value) 0)

not_read : (l : List ℕ) (value : ℕ) (buffer : List ℕ) → card_from_row (set l 0 value) buffer ≡ card_from_row l buffer
unfolding card_from_row
not_read [] value buffer = refl
not_read (x ∷ l) value buffer = refl

pub unbroken : (c : Card) (field value : ℕ) → place_of field value ≡ 0 → broken_of c field value ≡ card_from_row (row_of c) c.buffer
unfolding broken_of
unbroken c field value e = rw e (not_read (row_of c) value c.buffer)

pub broken_at : (c : Card) (field value place : ℕ) → place ≡ place_of field value → place < 35 → broken_of c field value ≡ card_from_row (set (row_of c) place value) c.buffer
unfolding broken_of
broken_at c field value place e h = rw (sym e, lt-ltb place 35 h)
