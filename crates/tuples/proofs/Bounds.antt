-- How many entries a chain has, and so what is known of the reader's answer.
--     most_entries  a tuple takes two bytes and the end mark one, so a chain in 256 bytes has at most 127 tuples
--     read_well     an accepted reading: the three tests passed, and the count is that of the entries and no more than the list has places
--     entries_first the list that an accepted reading leaves starts with the chain's entries
--     bounds        the reader's count is within the entries and within the list, where it is not 0 the buffer has 256 bytes, and the list that has so many entries is the reader's
use Rattle.std.proofs.Common.{Ok, Err}
use mathlib.Core.Path.{◌≡◌, refl, sym, ◌∙◌, ap}
use mathlib.Core.Bool.{true, false≢true}
use mathlib.Core.List.{List, ◌∷◌, ◌++◌, []}
use Prim.Native.Nat.{ℕ, zero, suc, ◌+◌, ◌*◌, ◌<◌, ◌≤◌}
use native.Mathlib.Omega.{arith}
use lib.ListN.{length, take, drop}
use lib.Seq.{take_all, take_at}
use lib.Dec.{leb, eqb}
use borrow.Author.Tests.{leb-true, eqb-true}
use Rattle.answers.specs.Answers.{outcome_value, refused, Outcome}
use Rattle.tuples.specs.Chain.{Chain, chain_from, chain_at}
use Rattle.tuples.specs.Read.{read_table, read_outcome, filled, unless_refused, Reads}
use Rattle.tuples.specs.declared.Entry.{Entry}
use Rattle.tuples.proofs.Filling.{all}
use Rattle.answers.proofs.Rows.{passed}
use Rattle.ground.proofs.Picks.{pick-elim, un_not}

-- ---- how many entries a chain has room for
abbrev Room : ℕ → ℕ → Chain → Type 0
Room k n c = c.ended ≡ true → k + 2 * length c.entries + 1 ≤ n

rooms : (k : ℕ) (r : List ℕ) (at : ℕ) → Room k (length r) (chain_from k r at)
unfolding chain_from
rooms k [] at = λ p. absurd (false≢true p)
rooms (suc k) (b ∷ r) at = λ p. omega (arith, rooms k r (at + 1) p)
rooms zero (b ∷ []) at = λ p. omega arith
rooms zero (b ∷ (n ∷ r)) at =
    let P = Room 0 (length (b ∷ (n ∷ r))) in
    pick-elim P (eqb b 255) _ _ (λ _ p. omega arith)
    (λ _. pick-elim P (eqb b 0) _ _ (λ _ p. omega (arith, rooms zero (n ∷ r) (at + 1) p))
    (λ _. pick-elim P (leb n (length r)) _ _ (λ _ p. omega (arith, rooms n r (at + 2) p)) (λ _ p. absurd (false≢true p))))

pub most_entries : (s : List ℕ) → length s ≡ 256 → (chain_at s 0).ended ≡ true → length (all s) ≤ 127
most_entries s h e = omega (arith, rooms 0 s 0 e)

-- ---- what an accepted reading says
pub record ReadWell (s : List ℕ) (places n : ℕ) : Type 0 where
  pub sized : length s ≡ 256
  pub enough : 127 ≤ places
  pub ended : (chain_at s 0).ended ≡ true
  pub count : n ≡ length (all s)
  pub fits : n ≤ places

pub read_well : (s : List ℕ) (places n : ℕ) → read_outcome s places ≡ Ok n → ReadWell s places n
unfolding read_outcome
read_well s places n e =
    let p = passed (read_table s places) (Ok (length (all s))) (ap refused e) in
    let q : length (all s) ≡ n = ap outcome_value (sym p.0 ∙ e) in
    let sized = eqb-true _ _ (un_not _ _ (p.1 5)) in
    let enough = leb-true _ _ (un_not _ _ (p.1 16)) in
    let ended = un_not _ _ (p.1 13) in
    record { sized = sized; enough = enough; ended = ended; count = sym q; fits = omega (arith, q, enough, most_entries s sized ended) }

-- ---- the reader's answer
pub record Bounds (s : List ℕ) (ls : List Entry) (o : Outcome) : Type 0 where
  pub in_es : outcome_value o ≤ length (all s)
  pub in_ls : outcome_value o ≤ length ls
  pub sized : 0 < outcome_value o → length s ≡ 256
  pub left : take (outcome_value o) (all s) ++ drop (outcome_value o) ls ≡ unless_refused o (filled (all s) ls) ls

by_answer : (s : List ℕ) (ls : List Entry) (o : Outcome) → read_outcome s (length ls) ≡ o → Bounds s ls o
by_answer s ls (Ok n) e =
    let ok = read_well s (length ls) n e in
    record {
      in_es = omega (arith, ok.count);
      in_ls = ok.fits;
      sized = λ p. ok.sized;
      left = ap (λ (j : ℕ). take j (all s) ++ drop j ls) ok.count ∙ ap (λ (es : List Entry). es ++ drop (length (all s)) ls) (take_all (length (all s)) (all s) (omega arith));
    }
by_answer s ls (Err x) e = record { in_es = omega arith; in_ls = omega arith; sized = λ p. let z : ⊥ = omega arith in absurd z; left = refl }

pub bounds : (s : List ℕ) (ls : List Entry) → Bounds s ls (read_outcome s (length ls))
bounds s ls = by_answer s ls (read_outcome s (length ls)) refl

-- ---- what it leaves
pub entries_first : (s : List ℕ) (ls : List Entry) (r : Outcome) (zs : List Entry) → Reads s ls r zs → (n : ℕ) → r ≡ Ok n → take n zs ≡ all s
entries_first s ls r zs e n p =
    let q = sym e.0 ∙ p in
    ap (take n) (e.1 ∙ ap (λ (o : Outcome). unless_refused o (filled (all s) ls) ls) q) ∙ take_at (all s) (drop (length (all s)) ls) n (sym (read_well s (length ls) n q).count)
