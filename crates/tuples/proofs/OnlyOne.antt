-- What a refusal leaves, and that no second answer satisfies a promise.
--     refused-…       "Every refusal gives value 0 and changes nothing", for the list and for the buffer
--     only-…          two answers, with what they leave, that satisfy the same promise are the same
use Rattle.std.proofs.Common.{Err}
use mathlib.Core.Path.{◌≡◌, ◌∙◌, sym, ap}
use mathlib.Core.List.{List}
use Prim.Native.Nat.{ℕ}
use lib.ListN.{length}
use Rattle.ground.proofs.OnlyOne.{only_both}
use Rattle.answers.specs.Answers.{outcome_value, Outcome}
use Rattle.answers.specs.declared.Refusal.{Refusal}
use Rattle.tuples.specs.Chain.{chain_at}
use Rattle.tuples.specs.Read.{read_outcome, filled, unless_refused, Reads}
use Rattle.tuples.specs.Write.{tuple_bytes, filled_up, write_outcome, Writes}
use Rattle.tuples.specs.declared.Entry.{Entry}

-- where the answer r is a refusal, its value is 0, and z is what was there before
pub unchanged {ℓ} : {A : Type ℓ} (o r : Outcome) (new old z : A) (x : Refusal) → r ≡ o → z ≡ unless_refused o new old → r ≡ Err x → (outcome_value r ≡ 0) × (z ≡ old)
unchanged o r new old z x e f p = (ap outcome_value p, f ∙ ap (λ (y : Outcome). unless_refused y new old) (sym e ∙ p))

pub refused_read : (s : List ℕ) (ls : List Entry) (r : Outcome) (zs : List Entry) (x : Refusal) → Reads s ls r zs → r ≡ Err x → (outcome_value r ≡ 0) × (zs ≡ ls)
refused_read s ls r zs x e p = unchanged (read_outcome s (length ls)) r (filled (chain_at s 0).entries ls) ls zs x e.0 e.1 p

pub refused_write : (bs : List ℕ) (es : List Entry) (out : List ℕ) (r : Outcome) (z : List ℕ) (x : Refusal) → Writes bs es out r z → r ≡ Err x → (outcome_value r ≡ 0) × (z ≡ out)
refused_write bs es out r z x e p = unchanged (write_outcome bs es (length out)) r (filled_up (tuple_bytes bs es)) out z x e.0 e.1 p

pub only_read : (s : List ℕ) (ls : List Entry) (r r' : Outcome) (z z' : List Entry) → Reads s ls r z → Reads s ls r' z' → (r ≡ r') × (z ≡ z')
only_read s ls r r' z z' p q = only_both _ r r' _ z z' (p.0, p.1) (q.0, q.1)

pub only_write : (bs : List ℕ) (es : List Entry) (out : List ℕ) (r r' : Outcome) (z z' : List ℕ) → Writes bs es out r z → Writes bs es out r' z' → (r ≡ r') × (z ≡ z')
only_write bs es out r r' z z' p q = only_both _ r r' _ z z' (p.0, p.1) (q.0, q.1)
