-- Laws of a tuple chain.
--     skip          the chain of bytes of which the first k are a body is the chain of what comes after them; `after_body`: at a place of a buffer
--     chain-step    the chain at a place, by what `step_at` finds there; `past`: beyond the buffer it is broken
--     forward       a step goes forward; `in_buffer`: where one is found, the place is within the buffer; `only_broken`: no other refusal is given
--     next_by       the next tuple from a place on, by what stands there
use mathlib.Core.Path.{◌≡◌, refl, sym, ◌∙◌, ap}
use mathlib.Core.Bool.{Bool, true, false}
use mathlib.Core.List.{List, ◌∷◌, []}
use Rattle.std.specs.Prelude.{Option, Some, None, Result, Ok, Err}
use Prim.Native.Nat.{ℕ, zero, suc, ◌+◌, ◌<◌, ◌≤◌}
use native.Mathlib.Omega.{arith}
use native.Mathlib.Nat.{add-zero}
use lib.ListN.{length, get_or, drop, drop_of_length-le, length-drop}
use lib.Seq.{drop-cons, drop-drop}
use lib.Dec.{leb, ltb, eqb}
use borrow.Author.Tests.{ltb-true, ltb-false, le-leb, lt-leb, leb-true, leb-false}
use Rattle.ground.specs.Choice.{pick}
use Rattle.ground.proofs.Picks.{pick-elim, pick_same, pick_of}
use Rattle.tuples.specs.Chain.{Chain, stop, grow, entry, end_of, step_at, chain_from, chain_at, first_found, next_at}
use Rattle.answers.specs.declared.Refusal.{Refusal}
use Rattle.answers.specs.declared.Refusal.TheVariants.{ChainBroken}
use Rattle.tuples.specs.declared.Entry.{Entry}
use Rattle.tuples.specs.declared.chain.Step.{Step}
use Rattle.tuples.specs.declared.chain.Step.TheVariants.{Tuple, Null, End}
use Rattle.ground.proofs.Lists.{drop_two}

pub skip : (k : ℕ) (r : List ℕ) (at : ℕ) → chain_from k r at ≡ chain_from 0 (drop k r) (at + k)
unfolding chain_from
skip zero r at = ap (chain_from 0 r) (sym (add-zero at))
skip (suc k) [] at = refl
skip (suc k) (b ∷ r) at = skip k r (at + 1) ∙ ap (chain_from 0 (drop k r)) (omega arith)

-- the chain after a body of n bytes that starts at a
pub after_body : (s : List ℕ) (a n : ℕ) → chain_from n (drop a s) a ≡ chain_at s (a + n)
after_body s a n = skip n (drop a s) a ∙ ap (λ (l : List ℕ). chain_from 0 l (a + n)) (drop-drop n a s)

-- beyond the buffer the chain is broken
pub past : (s : List ℕ) (at : ℕ) → length s ≤ at → chain_at s at ≡ stop false
unfolding chain_from
past s at h = ap (λ (l : List ℕ). chain_from 0 l at) (drop_of_length-le s h)

-- how a chain goes on from what stands at a place
abbrev pub after : List ℕ → ℕ → Result Step Refusal → Chain
after s at (Ok (Tuple e)) = grow e (chain_at s (end_of e))
after s at (Ok Null) = chain_at s (at + 1)
after s at (Ok End) = stop true
after s at (Err x) = stop false

pick-stop : (t : Bool) → stop t ≡ pick t (stop true) (stop false)
pick-stop true = refl
pick-stop false = refl

-- a body fits where its end does
fits_by : (s : List ℕ) (a n : ℕ) → a ≤ length s → (t : Bool) → leb (a + n) (length s) ≡ t → leb n (length (drop a s)) ≡ leb (a + n) (length s)
fits_by s a n h true e = let f : n ≤ length (drop a s) = omega (arith, length-drop a s, leb-true (a + n) (length s) e) in le-leb _ _ f ∙ sym e
fits_by s a n h false e = let f : length (drop a s) < n = omega (arith, length-drop a s, leb-false (a + n) (length s) e) in lt-leb _ _ f ∙ sym e

-- what stands at a place within the buffer
abbrev inside : List ℕ → ℕ → Result Step Refusal
inside s at =
    pick (eqb (get_or s at 0) 255) (Ok End)
    (pick (eqb (get_or s at 0) 0) (Ok Null)
    (pick (leb (at + 2 + get_or s (at + 1) 0) (length s)) (Ok (Tuple (entry (get_or s at 0) (at + 2) (get_or s (at + 1) 0)))) (Err ChainBroken)))

-- a place with a byte after it
inner : (s : List ℕ) (at : ℕ) → at + 1 < length s → chain_at s at ≡ after s at (inside s at)
unfolding chain_from
inner s at h =
    let b = get_or s at 0 in
    let n = get_or s (at + 1) 0 in
    let more : suc (at + 1) ≡ at + 2 = omega arith in
    ap (λ (l : List ℕ). chain_from 0 l at) (drop_two s at h)
    ∙ ap (λ (X : Chain). pick (eqb b 255) (stop true) (pick (eqb b 0) X (pick (leb n (length (drop (at + 2) s))) (grow (entry b (at + 2) n) (chain_from n (drop (at + 2) s) (at + 2))) (stop false))))
    (ap (λ (l : List ℕ). chain_from 0 l (at + 1)) (sym (drop-cons s (at + 1) 0 h ∙ ap (λ (k : ℕ). n ∷ drop k s) more)))
    ∙ ap (λ (t : Bool). pick (eqb b 255) (stop true) (pick (eqb b 0) (chain_at s (at + 1)) (pick t (grow (entry b (at + 2) n) (chain_from n (drop (at + 2) s) (at + 2))) (stop false))))
    (fits_by s (at + 2) n (omega arith) (leb (at + 2 + n) (length s)) refl)
    ∙ ap (λ (X : Chain). pick (eqb b 255) (stop true) (pick (eqb b 0) (chain_at s (at + 1)) (pick (leb (at + 2 + n) (length s)) (grow (entry b (at + 2) n) X) (stop false)))) (after_body s (at + 2) n)
    ∙ simp (pick_of (after s at))

-- the last byte
last : (s : List ℕ) (at : ℕ) → at < length s → length s ≤ at + 1 → chain_at s at ≡ after s at (inside s at)
unfolding chain_from
last s at h m =
    let b = get_or s at 0 in
    let short : length s < at + 2 + get_or s (at + 1) 0 = omega arith in
    let end : length s ≤ suc at = omega arith in
    ap (λ (l : List ℕ). chain_from 0 l at) (drop-cons s at 0 h ∙ ap (λ (l : List ℕ). b ∷ l) (drop_of_length-le s end))
    ∙ pick-stop (eqb b 255)
    ∙ simp (pick_of (after s at), lt-leb _ _ short, past s (at + 1) m, pick_same)

by_next : (s : List ℕ) (at : ℕ) → at < length s → (t : Bool) → ltb (at + 1) (length s) ≡ t → chain_at s at ≡ after s at (inside s at)
by_next s at h true e = inner s at (ltb-true (at + 1) (length s) e)
by_next s at h false e = last s at h (ltb-false (at + 1) (length s) e)

by_place : (s : List ℕ) (at : ℕ) (t : Bool) → ltb at (length s) ≡ t → chain_at s at ≡ after s at (step_at s at)
unfolding step_at
by_place s at true e = rw e (by_next s at (ltb-true at (length s) e) (ltb (at + 1) (length s)) refl)
by_place s at false e = rw e (past s at (ltb-false at (length s) e))

pub chain-step : (s : List ℕ) (at : ℕ) → chain_at s at ≡ after s at (step_at s at)
chain-step s at = by_place s at (ltb at (length s)) refl

-- the place that a step leads to
abbrev pub ahead : Result Step Refusal → ℕ → ℕ
ahead (Ok (Tuple e)) d = end_of e
ahead (Ok Null) d = d
ahead (Ok End) d = d
ahead (Err x) d = d

pub forward : (s : List ℕ) (at : ℕ) → at < ahead (step_at s at) (at + 1)
unfolding step_at
forward s at =
    let P : Result Step Refusal → Type 0 = λ x. at < ahead x (at + 1) in
    pick-elim P (ltb at (length s)) _ _
    (λ _. pick-elim P (eqb (get_or s at 0) 255) _ _ (λ _. omega arith)
    (λ _. pick-elim P (eqb (get_or s at 0) 0) _ _ (λ _. omega arith)
    (λ _. pick-elim P (leb (at + 2 + get_or s (at + 1) 0) (length s)) _ _ (λ _. omega arith) (λ _. omega arith))))
    (λ _. omega arith)

pub in_buffer : (s : List ℕ) (at : ℕ) (x : Step) → step_at s at ≡ Ok x → at < length s
unfolding step_at
in_buffer s at x =
    pick-elim (λ (r : Result Step Refusal). r ≡ Ok x → at < length s) (ltb at (length s)) _ _ (λ t p. ltb-true at (length s) t) (λ t p. cc)

pub only_broken : (s : List ℕ) (at : ℕ) (x : Refusal) → step_at s at ≡ Err x → x ≡ ChainBroken
unfolding step_at
only_broken s at x =
    let P : Result Step Refusal → Type 0 = λ r. r ≡ Err x → x ≡ ChainBroken in
    pick-elim P (ltb at (length s)) _ _
    (λ _. pick-elim P (eqb (get_or s at 0) 255) _ _ (λ _ p. cc)
    (λ _. pick-elim P (eqb (get_or s at 0) 0) _ _ (λ _ p. cc)
    (λ _. pick-elim P (leb (at + 2 + get_or s (at + 1) 0) (length s)) _ _ (λ _ p. cc) (λ _ p. cc))))
    (λ _ p. cc)

-- how it goes on to the next tuple from what stands at a place
abbrev pub next_after : List ℕ → ℕ → Result Step Refusal → Option Entry
next_after s at (Ok (Tuple e)) = Some e
next_after s at (Ok Null) = next_at s (at + 1)
next_after s at (Ok End) = None
next_after s at (Err x) = None

by_step : (s : List ℕ) (at : ℕ) (r : Result Step Refusal) → first_found (after s at r).entries ≡ next_after s at r
unfolding next_at
by_step s at (Ok (Tuple e)) = refl
by_step s at (Ok Null) = refl
by_step s at (Ok End) = refl
by_step s at (Err x) = refl

pub next_by : (s : List ℕ) (at : ℕ) → next_at s at ≡ next_after s at (step_at s at)
unfolding next_at
next_by s at = ap (λ (c : Chain). first_found c.entries) (chain-step s at) ∙ by_step s at (step_at s at)
