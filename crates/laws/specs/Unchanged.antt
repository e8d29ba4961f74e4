-- 01, "Answers": "Every refusal gives value 0 and changes nothing; a refused opening gives the all-zero card".
use Rattle.std.specs.Prelude.{◌≡◌, false}
use Rattle.answers.specs.Answers.{outcome_value}
use Rattle.registers.specs.State.{line_of}
use Rattle.registers.specs.Machine.{Machine}
use Rattle.port.specs.Data.{Effect}
use Rattle.card.specs.declared.Card.{Card}
use Rattle.card.specs.declared.Answer.{Answer}
use Rattle.card.specs.Opening.{zero_card}

-- of an access: value 0; phase, state, buffer, store and marks as they came, and so the line
abbrev pub Unchanged : Machine → Effect → Type 0
Unchanged m s = (outcome_value s.outcome ≡ 0) × (s.next ≡ m)

-- of a method by value
abbrev pub SameCard : Card → Answer → Type 0
SameCard c a = (outcome_value a.outcome ≡ 0) × (a.card ≡ c) × (a.line ≡ line_of c.state)

-- of the opening, where there is no card to give back: the line is down
abbrev pub NoCard : Answer → Type 0
NoCard a = (outcome_value a.outcome ≡ 0) × (a.card ≡ zero_card) × (a.line ≡ false)
