-- What the code promises of a call, and a list of calls.
use Rattle.std.specs.Prelude.{ℕ, true, false, ◌&&◌, List, [], ◌∷◌, ◌≡◌}
use Rattle.ground.specs.Rows.{Unless, first_or}
use Rattle.answers.specs.declared.Refusal.{Refusal}
use Rattle.answers.specs.declared.Refusal.TheVariants.{NotWellMade, StoreLength, MarksLength}
use Rattle.registers.specs.declared.State.{State}
use Rattle.registers.specs.Machine.{Machine}
use Rattle.registers.specs.WellMade.{well_made}
use Rattle.transfers.specs.declared.Way.{Way}
use Rattle.card.specs.declared.Card.{Card}
use Rattle.card.specs.declared.Answer.{Answer}
use Rattle.card.specs.declared.Meaning.{Meaning}
use Rattle.card.specs.Access.{Asked, store_sized, marks_sized, meaning}
use Rattle.card.specs.Step.{step}
use Rattle.card.specs.Doors.{machine_of, answered}
use Rattle.account.specs.Notes.{Notes, note}
use Rattle.account.specs.Host.{asks, Hosted, meanings_by}
use Rattle.hosts.specs.Choices.{Choice, access_of, Fitting}
use Rattle.hosts.specs.Hosts.{Round, onward, Going}

-- of `Card::access`: its answer, with the store and the marks that it leaves, is the step
abbrev pub Promised : Card → List ℕ → List ℕ → Asked → Answer → List ℕ → List ℕ → Type 0
Promised c store marks a r store' marks' = answered r store' marks' ≡ step (machine_of c store marks) a

-- a call lends the card's own store and marks, or by mistake others
pub data Call : Type 0 where
  Own : Asked → Call
  Wrong : List ℕ → List ℕ → Asked → Call

-- "store, marks … of wrong length"
abbrev pub WrongLength : State → List ℕ → List ℕ → Type 0
WrongLength s store marks = (store_sized s store && marks_sized s marks) ≡ false

-- the row with which it is refused: 12, 2 or 3
abbrev pub wrong_row : Machine → List ℕ → Refusal
wrong_row m store = first_or (Unless (well_made m.phase m.state) NotWellMade ∷ Unless (store_sized m.state store) StoreLength ∷ []) MarksLength

abbrev pub lent : List ℕ → List ℕ → Machine → Machine
lent store marks m = record { phase = m.phase; state = m.state; buffer = m.buffer; store = store; marks = marks }

-- what it means to the card
abbrev pub call_meaning : Machine → Call → Meaning
call_meaning m (Own a) = meaning m a
call_meaning m (Wrong store marks a) = meaning (lent store marks m) a

abbrev pub call_meanings : Machine → List Call → List Meaning
call_meanings m l = meanings_by call_meaning m l

-- a round of calls is ready: those aside are allowed, and the choice is a call with the card's own store and marks at one of 01's places
abbrev pub ReadyCall : Way → Hosted → Round Call → Type 0
ReadyCall way h t =
    let k = onward call_meaning way h t.aside in
    Going call_meaning way h t.aside × (asks k.machine ≡ true → (c : Choice) × (t.choice ≡ Own (access_of way c)) × Fitting way k c)

-- the host after a list of calls, each as promised, each with the card that the one before it left; what it has noted are the calls' own answers
abbrev pub Called : Way → Card → List ℕ → List ℕ → Notes → List Call → Hosted → Type 0
Called way c store marks q [] h = record { machine = machine_of c store marks; notes = q } ≡ h
Called way c store marks q (Own a ∷ l) h =
    (r : Answer) × (store' : List ℕ) × (marks' : List ℕ) × Promised c store marks a r store' marks'
    × Called way r.card store' marks' (note way (meaning (machine_of c store marks) a) r.outcome q) l h
Called way c store marks q (Wrong store₁ marks₁ a ∷ l) h =
    (r : Answer) × (store' : List ℕ) × (marks' : List ℕ) × Promised c store₁ marks₁ a r store' marks' × WrongLength c.state store₁ marks₁
    × Called way r.card store marks (note way (meaning (machine_of c store₁ marks₁) a) r.outcome q) l h
