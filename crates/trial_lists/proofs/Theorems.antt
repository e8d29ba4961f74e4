-- Of `write_back`: what it does, what a refusal leaves; that no second answer satisfies a promise.
--     written_back    "writing back equals the chain up to its end mark, null (00H) tuples dropped"
--     does_both       it does what the reader and then the writer do
use Rattle.std.proofs.Common.{Ok, Err}
use mathlib.Core.Path.{◌≡◌, ◌∙◌, ap, subst}
use mathlib.Core.Bool.{true}
use mathlib.Core.List.{List}
use Prim.Native.Nat.{ℕ}
use lib.ListN.{length, take}
use borrow.Author.Tests.{eq-eqb}
use Rattle.ground.proofs.OnlyOne.{only_one, only_both}
use Rattle.answers.specs.Answers.{outcome_value, refused, Outcome}
use Rattle.answers.specs.declared.Refusal.{Refusal}
use Rattle.answers.proofs.Outcomes.{says}
use Rattle.tuples.specs.Chain.{chain_at}
use Rattle.tuples.specs.Read.{list_places, read_outcome, counted, unless_refused, Reads}
use Rattle.tuples.specs.Write.{tuple_bytes, filled_up, write_outcome, Writes, WrittenBack}
use Rattle.tuples.specs.declared.Entry.{Entry}
use Rattle.tuples.proofs.Filling.{all}
use Rattle.tuples.proofs.Bounds.{entries_first}
use Rattle.tuples.proofs.Theorems.{chain-written}
use Rattle.tuples.proofs.OnlyOne.{unchanged}
use Rattle.trial_lists.specs.declared.Handed.{Handed}
use Rattle.trial_lists.specs.Lists.{handed_after, HandedAfter, back_outcome, WritesBack}
use Rattle.trial_lists.proofs.Lists.{back-written}

pub written_back : (s out : List ℕ) (r : Outcome) (z : List ℕ) → WritesBack s out r z → length s ≡ 256 → (chain_at s 0).ended ≡ true → length out ≡ 256 → WrittenBack s r z
unfolding read_outcome counted
written_back s out r z w ls c lo =
    let o : read_outcome s list_places ≡ Ok (length (all s)) = simp (eq-eqb _ _ ls, c) in
    let b : back_outcome s (length out) ≡ write_outcome s (all s) (length out) = ap (λ (o : Outcome). unless_refused o (write_outcome s (all s) (length out)) o) o in
    chain-written s out r z ls c lo (w.0 ∙ b, w.1 ∙ ap (λ (o : Outcome). unless_refused o (filled_up (tuple_bytes s (all s))) out) b, says _ _ (w.0 ∙ b))

-- the function that does both does what the reader and then the writer do
pub does_both : (s : List ℕ) (ls : List Entry) (r : Outcome) (zs : List Entry) → Reads s ls r zs → length ls ≡ 127 → (n : ℕ) → r ≡ Ok n
    → (out : List ℕ) (r' : Outcome) (z : List ℕ) → Writes s (take n zs) out r' z → WritesBack s out r' z
does_both s ls r zs e l n p out r' z w =
    back-written s out r r' z (e.0 ∙ ap (read_outcome s) l) (ap refused p) (subst (λ (es : List Entry). Writes s es out r' z) (entries_first s ls r zs e n p) w)

pub refused-back : (s out : List ℕ) (r : Outcome) (z : List ℕ) (x : Refusal) → WritesBack s out r z → r ≡ Err x → (outcome_value r ≡ 0) × (z ≡ out)
refused-back s out r z x e p = unchanged (back_outcome s (length out)) r (filled_up (tuple_bytes s (chain_at s 0).entries)) out z x e.0 e.1 p

pub only_handed : (s : List ℕ) (places : ℕ) (x : Entry) (i : ℕ) (r r' : Handed) → HandedAfter s places x i r → HandedAfter s places x i r' → r ≡ r'
only_handed s places x i r r' p q = only_one (handed_after s places x i) r r' p.0 q.0

pub only_back : (s out : List ℕ) (r r' : Outcome) (z z' : List ℕ) → WritesBack s out r z → WritesBack s out r' z' → (r ≡ r') × (z ≡ z')
only_back s out r r' z z' p q = only_both _ r r' _ z z' (p.0, p.1) (q.0, q.1)
