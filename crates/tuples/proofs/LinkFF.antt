-- A link FFH would need 255 bytes of body after it, and 256 have at most 254 left: so the reader refuses the chain with 13.
use Rattle.std.proofs.Common.{Err}
use mathlib.Core.Path.{◌≡◌, refl, ◌∙◌}
use mathlib.Core.Bool.{true, false, false≢true}
use mathlib.Core.List.{List, ◌∷◌, []}
use Prim.Native.Nat.{ℕ, zero, suc, ◌+◌, ◌≤◌}
use native.Mathlib.Omega.{arith}
use lib.ListN.{length}
use lib.Dec.{leb, eqb}
use borrow.Author.Tests.{leb-true, le-leb, eq-eqb, ne_eqb}
use Rattle.ground.proofs.Picks.{pick-elim}
use Rattle.answers.specs.declared.Refusal.TheVariants.{ChainBroken}
use Rattle.tuples.specs.Chain.{Chain, chain_from, link_ff}
use Rattle.tuples.specs.Read.{read_outcome, counted, Reads}
use Rattle.tuples.specs.declared.Entry.{Entry}
use Rattle.answers.specs.Answers.{Outcome}

ff_breaks : (k : ℕ) (r : List ℕ) (at : ℕ) → length r ≤ 256 → link_ff k r ≡ true → (chain_from k r at).ended ≡ false
unfolding link_ff chain_from
ff_breaks k [] at l p = refl
ff_breaks (suc k) (b ∷ r) at l p = ff_breaks k r (at + 1) (omega arith) p
ff_breaks zero (b ∷ []) at l p = absurd (false≢true p)
ff_breaks zero (b ∷ (n ∷ r)) at l p =
    let P : Chain → Type 0 = λ c. c.ended ≡ false in
    let other : n ≤ length r → (n ≡ 255 → ⊥) = λ fits q. omega (arith, q) in
    pick-elim P (eqb b 255) _ _ (λ h255. absurd (false≢true (simp h255 at p)))
    (λ h255. pick-elim P (eqb b 0) _ _ (λ h0. ff_breaks 0 (n ∷ r) (at + 1) (omega arith) (simp (h255, h0) at p))
    (λ h0. pick-elim P (leb n (length r)) _ _ (λ h. ff_breaks n r (at + 2) (omega arith) (simp (h255, h0, ne_eqb n 255 (other (leb-true n (length r) h))) at p)) (λ _. refl)))

pub link_ff_lem : (s : List ℕ) (ls : List Entry) (r : Outcome) (zs : List Entry) → Reads s ls r zs → length s ≡ 256 → 127 ≤ length ls → link_ff 0 s ≡ true → r ≡ Err ChainBroken
unfolding read_outcome counted
link_ff_lem s ls r zs e h l p = let few : length s ≤ 256 = omega arith in e.0 ∙ simp (eq-eqb _ _ h, le-leb _ _ l, ff_breaks 0 s 0 few p)
