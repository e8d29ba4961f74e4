-- The survey's count: so many tuples passed, and those of the chain from there on, are those of the chain.
use mathlib.Core.Path.{◌≡◌, refl, sym, ◌∙◌, ap}
use Rattle.std.specs.Prelude.{Result, Ok, Err}
use Prim.Native.Nat.{ℕ, ◌+◌}
use mathlib.Core.List.{List, ◌∷◌}
use native.Mathlib.Omega.{arith}
use native.Mathlib.Nat.{add-zero}
use lib.ListN.{length}
use Rattle.ground.specs.Choice.{pick}
use Rattle.answers.specs.declared.Refusal.TheVariants.{ChainBroken}
use Rattle.tuples.specs.Chain.{Chain, end_of, step_at, chain_at}
use Rattle.tuples.specs.Read.{counted}
use Rattle.answers.specs.declared.Refusal.{Refusal}
use Rattle.answers.specs.Answers.{Outcome}
use Rattle.tuples.specs.declared.chain.Step.{Step}
use Rattle.tuples.specs.declared.chain.Step.TheVariants.{Tuple, Null, End}
use Rattle.tuples.proofs.Chains.{chain-step, after, only_broken}

-- n tuples, and those of a chain
abbrev pub added : ℕ → Chain → Outcome
added n c = pick c.ended (Ok (n + length c.entries)) (Err ChainBroken)

pub added_none : (c : Chain) → added 0 c ≡ counted c
unfolding counted
added_none c = let e : 0 + length c.entries ≡ length c.entries = omega arith in ap (λ (n : ℕ). pick c.ended (Ok n) (Err ChainBroken)) e

-- how the count goes on from what stands at a place
abbrev pub added_after : ℕ → List ℕ → ℕ → Result Step Refusal → Outcome
added_after n s at (Ok (Tuple e)) = added (n + 1) (chain_at s (end_of e))
added_after n s at (Ok Null) = added n (chain_at s (at + 1))
added_after n s at (Ok End) = Ok n
added_after n s at (Err x) = Err x

by_step : (n : ℕ) (s : List ℕ) (at : ℕ) (r : Result Step Refusal) → step_at s at ≡ r → added n (after s at r) ≡ added_after n s at r
by_step n s at (Ok (Tuple e)) p =
    let c = chain_at s (end_of e) in
    let m : n + length (e ∷ c.entries) ≡ n + 1 + length c.entries = omega arith in
    ap (λ (j : ℕ). pick c.ended (Ok j) (Err ChainBroken)) m
by_step n s at (Ok Null) p = refl
by_step n s at (Ok End) p = ap Ok (add-zero n)
by_step n s at (Err x) p = ap Err (sym (only_broken s at x p))

pub added_by : (n : ℕ) (s : List ℕ) (at : ℕ) → added n (chain_at s at) ≡ added_after n s at (step_at s at)
added_by n s at = ap (added n) (chain-step s at) ∙ by_step n s at (step_at s at) refl
