-- The number of marks that are not 0, and whether none is above 2, as the library counts and tests, and as one walk over them does; and no more are
-- not 0 than there are.
use native.Mathlib.Numerals.{add-one}
use native.Mathlib.Nat.{add_assoc, add-zero}
use lib.ListN.{get_or, drop_of_length-le}
use lib.Seq.{drop-cons}
use Rattle.std.proofs.Common.{◌≡◌, ◌↔◌, ℕ, suc, ◌+◌, ◌≤◌, ◌<◌, drop, Bool, true, false, not, List, [], ◌∷◌, length, count_by, nat_eq, leb, cond, refl, sym, ◌∙◌, arith}
use Rattle.std.specs.List.{AllPass, list_all}
use Rattle.std.specs.Prelude.{IsTrue}
use Rattle.std.proofs.lemmas.List.Recursion.{is_count_by}
use Rattle.std.proofs.lemmas.List.Sums.{count_by-le-length, AllPass-from_list_all, list_all-from_AllPass}
use Rattle.ground.specs.Choice.{pick}
use Rattle.sectors.specs.Marks.{marks_fit, one_if_bad, bad_in}

by_test : (b : Bool) (n : ℕ) → pick b 0 1 + n ≡ cond (not b) (1 + n) n
by_test true n = omega arith
by_test false n = refl

pub bad_counted : (marks : List ℕ) → bad_in marks ≡ count_by (λ x. not (nat_eq x 0)) marks
unfolding bad_in
bad_counted marks = is_count_by bad_in (λ x. not (nat_eq x 0)) refl (λ x xs. by_test (nat_eq x 0) (bad_in xs)) marks

fit_listed : (marks : List ℕ) → marks_fit marks ≡ list_all (λ x. leb x 2) marks
unfolding marks_fit
fit_listed [] = refl
fit_listed (mark ∷ marks) = grind (arith, fit_listed marks)

pub fit_tested : (marks : List ℕ) (fit : Bool) → IsTrue fit ↔ AllPass (λ x. leb x 2) marks → fit ≡ marks_fit marks
fit_tested marks true h = sym (fit_listed marks ∙ list_all-from_AllPass (λ x. leb x 2) marks (h.0 refl))
fit_tested marks false h = grind (arith, fit_listed marks, AllPass-from_list_all (λ x. leb x 2) marks, h.1)

pub bad_at_most : (marks : List ℕ) → bad_in marks ≤ length marks
bad_at_most marks = rw (bad_counted marks) (count_by-le-length (λ x. not (nat_eq x 0)) marks)

-- ---- the walk: a mark is counted

pub bad_more : (marks : List ℕ) (i b : ℕ) → i < length marks → b + bad_in (drop i marks) ≡ bad_in marks →
    b + one_if_bad (get_or marks i 0) + bad_in (drop (i + 1) marks) ≡ bad_in marks
unfolding bad_in
bad_more marks i b l h =
    rw (add-one) (add_assoc b (one_if_bad (get_or marks i 0)) (bad_in (drop (suc i) marks)) ∙ (rw (drop-cons marks i 0 l) at h))

-- and tested
fit_by : (fit fits rest : Bool) → pick (pick fit fits false) rest false ≡ pick fit (pick fits rest false) false
fit_by true fits rest = refl
fit_by false fits rest = refl

pub fit_more : (marks : List ℕ) (i : ℕ) (fit : Bool) → i < length marks → pick fit (marks_fit (drop i marks)) false ≡ marks_fit marks →
    pick (pick fit (leb (get_or marks i 0) 2) false) (marks_fit (drop (i + 1) marks)) false ≡ marks_fit marks
unfolding marks_fit
fit_more marks i fit l h = rw (add-one) (fit_by fit (leb (get_or marks i 0) 2) (marks_fit (drop (suc i) marks)) ∙ (rw (drop-cons marks i 0 l) at h))

-- the end
pub bad_end : (marks : List ℕ) (i b : ℕ) → length marks ≤ i → b + bad_in (drop i marks) ≡ bad_in marks → b ≡ bad_in marks
unfolding bad_in
bad_end marks i b h e = sym (add-zero b) ∙ (rw (drop_of_length-le marks {i = i} h) at e)

fit_all : (fit : Bool) → pick fit true false ≡ fit
fit_all true = refl
fit_all false = refl

pub fit_end : (marks : List ℕ) (i : ℕ) (fit : Bool) → length marks ≤ i → pick fit (marks_fit (drop i marks)) false ≡ marks_fit marks → fit ≡ marks_fit marks
unfolding marks_fit
fit_end marks i fit h e = sym (fit_all fit) ∙ (rw (drop_of_length-le marks {i = i} h) at e)
