-- A promise that gives the result together with all that was lent determines each of them: no second answer, and no second byte, satisfies it.
use Prim.Native.Nat.{ℕ}
use mathlib.Core.Path.{◌≡◌, refl, sym, ap, ◌∙◌}
use mathlib.Core.Bool.{Bool}
use mathlib.Core.List.{List}
use Rattle.ground.proofs.OnlyOne.{only_one, only_left}
use Rattle.sectors.specs.Sectors.{StoreMarks, store_marks}
use Rattle.registers.specs.declared.Core.{Core}
use Rattle.registers.specs.State.{line_of}
use Rattle.registers.specs.Machine.{Machine, machine, core_of}
use Rattle.port.specs.declared.Done.{Done}
use Rattle.port.specs.Data.{Effect, effect}
use Rattle.card.specs.declared.Card.{Card}
use Rattle.card.specs.declared.Answer.{Answer}
use Rattle.card.specs.Doors.{machine_of, answer, answered}
use Rattle.laws.specs.Lent.{SameLent}
use Rattle.answers.specs.Answers.{Outcome}

pub only_store_marks : (d : StoreMarks) (s s' m m' : List ℕ) (b b' : ℕ) → store_marks s m b ≡ d → store_marks s' m' b' ≡ d → (s ≡ s') × (m ≡ m') × (b ≡ b')
only_store_marks d s s' m m' b b' p q =
    let e = only_one d (store_marks s m b) (store_marks s' m' b') p q in
    (ap (λ (k : StoreMarks). k.store) e, ap (λ (k : StoreMarks). k.marks) e, ap (λ (k : StoreMarks). k.bad) e)

-- the card is read back from the machine
abbrev card_in : Machine → Card
card_in m = record { phase = m.phase; state = m.state; buffer = m.buffer }

-- what was lent besides
lent : (x y : Machine) → x ≡ y → SameLent x.buffer y.buffer x.store y.store x.marks y.marks
lent x y e = (ap (λ (n : Machine). n.buffer) e, ap (λ (n : Machine). n.store) e, ap (λ (n : Machine). n.marks) e)

pub only_machine : (d : Machine) (c c' : Core) (b b' s s' m m' : List ℕ) → machine c b s m ≡ d → machine c' b' s' m' ≡ d → (c ≡ c') × SameLent b b' s s' m m'
only_machine d c c' b b' s s' m m' p q =
    let e = only_one d (machine c b s m) (machine c' b' s' m') p q in
    (ap core_of e, lent (machine c b s m) (machine c' b' s' m') e)

-- by `only_left`, and the parts of the machine
pub only_effect : (d : Effect) (r r' : Done) (b b' s s' m m' : List ℕ) → effect r b s m ≡ d → effect r' b' s' m' ≡ d → (r ≡ r') × SameLent b b' s s' m m'
only_effect d r r' b b' s s' m m' p q =
    let e = only_left d r.outcome r'.outcome (machine r.core b s m) (machine r'.core b' s' m') p q in
    let k = only_machine (machine r'.core b' s' m') r.core r'.core b b' s s' m m' e.1 refl in
    (ap (λ (o : Outcome). record { outcome = o; core = r.core }) e.0 ∙ ap (λ (c : Core). record { outcome = r'.outcome; core = c }) k.0, k.1)

-- the line of an answer is promised besides
lined : (r : Answer) → r.line ≡ line_of r.card.state → r ≡ answer r.outcome r.card
lined r l = ap (λ (b : Bool). record { outcome = r.outcome; line = b; card = r.card }) l

pub only_answered : (d : Effect) (r r' : Answer) (s s' m m' : List ℕ) → answered r s m ≡ d → answered r' s' m' ≡ d →
    r.line ≡ line_of r.card.state → r'.line ≡ line_of r'.card.state → (r ≡ r') × (s ≡ s') × (m ≡ m')
only_answered d r r' s s' m m' p q l l' =
    let e = only_left d r.outcome r'.outcome (machine_of r.card s m) (machine_of r'.card s' m') p q in
    let k = ap (λ (o : Outcome). answer o r.card) e.0 ∙ ap (λ (n : Machine). answer r'.outcome (card_in n)) e.1 in
    (lined r l ∙ k ∙ sym (lined r' l'), ap (λ (n : Machine). n.store) e.1, ap (λ (n : Machine). n.marks) e.1)
