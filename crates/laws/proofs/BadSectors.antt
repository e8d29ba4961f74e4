-- The number of marks that are not 0: what the opening gives, by how much an access lowers it, and that it is the number over the lent marks as long as
-- only the card has changed them.
use Rattle.std.proofs.Common.{Ok, Err}
use Prim.Native.Nat.{ℕ, zero, suc, ◌+◌, ◌-◌, ◌/◌, ◌≤◌, ◌<◌}
use mathlib.Core.Path.{◌≡◌, refl, sym, ap, subst, ◌∙◌}
use mathlib.Core.Bool.{Bool, true, false}
use mathlib.Core.List.{List, [], ◌∷◌}
use native.Mathlib.Omega.{arith}
use native.Mathlib.Nat.{le_refl, le_trans}
use lib.Dec.{eqb, ltb}
use lib.ListN.{length, get_or, set}
use borrow.Author.Tests.{ltb-true}
use Rattle.ground.specs.Choice.{pick}
use Rattle.ground.proofs.Picks.{pick-elim}
use Rattle.answers.specs.declared.Refusal.{Refusal}
use Rattle.answers.proofs.Outcomes.{accepts_not}
use Rattle.geometry.specs.declared.Geometry.{Geometry}
use Rattle.sectors.specs.Marks.{one_if_bad, bad_in, lowered}
use Rattle.sectors.specs.Sectors.{StoreMarks, stored}
use Rattle.registers.specs.Machine.{Machine}
use Rattle.card.specs.declared.Card.{Card}
use Rattle.card.specs.declared.Answer.{Answer}
use Rattle.card.specs.Access.{Asked, meaning}
use Rattle.card.specs.Step.{step, play}
use Rattle.card.specs.Opening.{open_refused, opened}
use Rattle.card.specs.Doors.{machine_of, option_answered, control_answered}
use Rattle.kept.specs.Lent.{store_marks_in}
use Rattle.kept.proofs.DoorElim.{opened-elim, option-elim, control_elim}
use Rattle.laws.specs.Changes.{Change, changed, changes}
use Rattle.laws.specs.MayChange.{may_change}
use Rattle.laws.specs.BadSectors.{not_zero, bad_sectors, Counts, Lending, lent, lent_each}
use Rattle.laws.proofs.BySectors.{by_sectors, option_keeps, control_keeps}
use Rattle.laws.proofs.ChangesFew.{untouched}

-- ---- the opening

-- one mark more, which is counted where it is not 0
by_mark : (b : Bool) (mark : ℕ) (rest : List ℕ) → length (pick b rest (mark ∷ rest)) ≡ pick b 0 1 + length rest
by_mark true mark rest = omega arith
by_mark false mark rest = omega arith

counted : (marks : List ℕ) → bad_in marks ≡ bad_sectors marks
unfolding bad_in not_zero
counted [] = refl
counted (mark ∷ marks) = ap (λ (n : ℕ). one_if_bad mark + n) (counted marks) ∙ sym (by_mark (eqb mark 0) mark (not_zero marks))

-- "worked out at opening"
pub opening-counts : (g : Geometry) (mode : ℕ) (store marks tuples : List ℕ) → (opened g mode store marks tuples).outcome ≡ Ok 0 →
    (opened g mode store marks tuples).card.state.bad ≡ bad_sectors marks
opening-counts g mode store marks tuples =
    let P : Answer → Type 0 = λ x. x.outcome ≡ Ok 0 → x.card.state.bad ≡ bad_sectors marks in
    let z : (q : Refusal) → P (open_refused q) = λ q e. accepts_not 0 q (sym e) in
    opened-elim P g mode store marks tuples (z _) (z _) (z _) (z _) (z _) (λ f s k e. counted marks)

-- 01: "a refused opening gives the all-zero card": none
pub refused_opening_none : (g : Geometry) (mode : ℕ) (store marks tuples : List ℕ) (r : Refusal) → (opened g mode store marks tuples).outcome ≡ Err r →
    (opened g mode store marks tuples).card.state.bad ≡ 0
refused_opening_none g mode store marks tuples r =
    let P : Answer → Type 0 = λ x. x.outcome ≡ Err r → x.card.state.bad ≡ 0 in
    let z : (q : Refusal) → P (open_refused q) = λ q e. refl in
    opened-elim P g mode store marks tuples (z _) (z _) (z _) (z _) (z _) (λ f s k e. accepts_not 0 r e)

-- ---- one access

-- a mark set to 0 is one bad sector less, where it was not 0
cleared_one : (marks : List ℕ) (i : ℕ) → i < length marks → bad_sectors marks ≡ one_if_bad (get_or marks i 0) + bad_sectors (set marks i 0)
unfolding not_zero
cleared_one [] i h = absurd (omega (arith, h))
cleared_one (mark ∷ marks) zero h = by_mark (eqb mark 0) mark (not_zero marks)
cleared_one (mark ∷ marks) (suc i) h =
    let e = cleared_one marks i (omega arith) in
    let x = by_mark (eqb mark 0) mark (not_zero marks) in
    let y = by_mark (eqb mark 0) mark (not_zero (set marks i 0)) in
    omega arith

-- what a change does to the number, and to the marks: as many less as there are less of them, "never below 0"
abbrev Falls : StoreMarks → StoreMarks → Type 0
Falls k n = (bad_sectors n.marks ≤ bad_sectors k.marks) × (n.bad ≡ k.bad - (bad_sectors k.marks - bad_sectors n.marks))

falls_not : (k : StoreMarks) → Falls k k
falls_not k = (le_refl (bad_sectors k.marks), omega arith)

stored_falls : (k : StoreMarks) (i : ℕ) (bytes : List ℕ) → Falls k (stored k i bytes)
unfolding stored lowered
stored_falls k i bytes =
    pick-elim (Falls k) (ltb i (length k.store / 512)) _ _
    (λ e. pick-elim (Falls k) (ltb i (length k.marks)) _ _ (λ f. let c = cleared_one k.marks i (ltb-true i (length k.marks) f) in (omega arith, omega arith)) (λ f. falls_not k))
    (λ e. falls_not k)

changed_falls : (l : List Change) (k : StoreMarks) → Falls k (changed l k)
unfolding changed
changed_falls [] k = falls_not k
changed_falls (c ∷ l) k =
    let x = stored_falls k c.index c.bytes in
    let y = changed_falls l (stored k c.index c.bytes) in
    (omega arith, omega arith)

falls : (m : Machine) (a : Asked) → Falls (store_marks_in m) (store_marks_in (step m a).next)
falls m a = subst (Falls (store_marks_in m)) (sym (by_sectors m a)) (changed_falls (changes (meaning m a) m) (store_marks_in m))

-- "writes and Erase can lower it, never below 0": whatever the marks, by as much as there are fewer marks that are not 0 after the access
pub falls_by_marks : (m : Machine) (a : Asked) → let n = (step m a).next in n.state.bad ≡ m.state.bad - (bad_sectors m.marks - bad_sectors n.marks)
falls_by_marks m a = (falls m a).1

-- and no access makes one more of those
pub no_new_mark : (m : Machine) (a : Asked) → bad_sectors (step m a).next.marks ≤ bad_sectors m.marks
no_new_mark m a = (falls m a).0

-- "nothing raises it"
pub never_raised : (m : Machine) (a : Asked) → (step m a).next.state.bad ≤ m.state.bad
never_raised m a = let e = falls_by_marks m a in omega arith

-- and nothing but a data write and C0H changes it: "resets keep it"
pub kept_else : (m : Machine) (a : Asked) → may_change (meaning m a) ≡ false → (step m a).next.state.bad ≡ m.state.bad
kept_else m a e = ap (λ (k : StoreMarks). k.bad) (untouched m a e)

-- the two resets as methods
pub option_method_keeps : (v : ℕ) (c : Card) → (option_answered v c).card.state.bad ≡ c.state.bad
option_method_keeps v c = option-elim (λ (x : Answer). x.card.state.bad ≡ c.state.bad) v c (λ r. refl) (λ m i. option_keeps _ v c.phase c.state)

pub control_method_keeps : (v : ℕ) (c : Card) → (control_answered v c).card.state.bad ≡ c.state.bad
control_method_keeps v c = control_elim (λ (x : Answer). x.card.state.bad ≡ c.state.bad) v c (λ r. refl) (control_keeps _ _ c.phase c.state)

-- ---- any number of accesses

pub counts_on : (m : Machine) (a : Asked) → Counts m → Counts (step m a).next
counts_on m a h = let e = falls m a in omega arith

counts-played : (l : List Asked) (m : Machine) → Counts m → Counts (play m l).last
unfolding play
counts-played [] m h = h
counts-played (a ∷ l) m h = counts-played l (step m a).next (counts_on m a h)

-- "It equals the count over the lent marks as long as only the card has changed them since opening", refused accesses among them
pub counts_ever : (g : Geometry) (mode : ℕ) (store marks tuples : List ℕ) (l : List Asked) → (opened g mode store marks tuples).outcome ≡ Ok 0 →
    Counts (play (machine_of (opened g mode store marks tuples).card store marks) l).last
counts_ever g mode store marks tuples l e = counts-played l (machine_of (opened g mode store marks tuples).card store marks) (opening-counts g mode store marks tuples e)

-- and whoever changes the marks meanwhile, it never rises
pub never_raised_ever : (l : List Lending) (m : Machine) → (lent_each m l).state.bad ≤ m.state.bad
unfolding lent_each
never_raised_ever [] m = le_refl m.state.bad
never_raised_ever (x ∷ l) m = le_trans (never_raised_ever l (step (lent x m) x.asked).next) (never_raised (lent x m) x.asked)
