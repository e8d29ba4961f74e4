-- C0H changes the store, the marks and the number of bad sectors by the sectors that its definition lists.
use Rattle.std.proofs.Common.{Ok, Err}
use Prim.Native.Nat.{ℕ, zero, suc, ◌/◌, ◌<◌}
use mathlib.Core.Path.{◌≡◌, refl, sym, ap, subst, ◌∙◌}
use mathlib.Core.Bool.{Bool, true, false}
use mathlib.Core.List.{List, [], ◌∷◌}
use native.Mathlib.Omega.{arith}
use lib.Dec.{ltb, eqb}
use lib.ListN.{length, get_or, set, replicate}
use lib.Seq.{get_or-set_same, get_or-set_other}
use borrow.Author.Tests.{ltb-true, eqb-true, eqb-false, ne_eqb}
use Rattle.ground.specs.Choice.{pick}
use Rattle.ground.proofs.Picks.{pick-elim}
use Rattle.ground.specs.Left.{Left, leaving}
use Rattle.geometry.specs.declared.Spot.{Spot}
use Rattle.geometry.specs.Next.{next_of}
use Rattle.sectors.specs.Marks.{writable}
use Rattle.sectors.specs.Sectors.{StoreMarks, store_marks, stored}
use Rattle.registers.specs.declared.State.{State}
use Rattle.registers.specs.declared.Core.{Core}
use Rattle.registers.specs.State.{with_bad, total_in, located_in}
use Rattle.transfers.specs.declared.End.TheVariants.{PastEnd, WriteFault}
use Rattle.transfers.specs.Ends.{ended}
use Rattle.transfers.specs.Before.{tested_of, address_test, mark_tested, sector_test, sector_stored, run_past, past_end}
use Rattle.transfers.specs.Steps.{sector_done}
use Rattle.commands.specs.Sweeps.{all_ff, erase_from, erase_run}
use Rattle.laws.specs.Changes.{Change, changed, sector_changes, erasures, run_erasures}
use Rattle.kept.proofs.Sweeps.{erases_on}
use Rattle.laws.proofs.SettingsKept.{same_number, done}
use Rattle.geometry.specs.Address.{Located}
use Rattle.geometry.specs.declared.BadAddress.{BadAddress}

-- ---- a stored sector's mark is 0, and so it can be written as before

abbrev SameWritable : List ℕ → List ℕ → Type 0
SameWritable marks marks0 = (j : ℕ) → writable (get_or marks j 0) ≡ writable (get_or marks0 j 0)

by_place : (b : Bool) (marks : List ℕ) (i j : ℕ) → eqb j i ≡ b → i < length marks → writable (get_or marks i 0) ≡ true → writable (get_or (set marks i 0) j 0) ≡ writable (get_or marks j 0)
unfolding writable
by_place true marks i j e l w =
    subst (λ (x : ℕ). writable (get_or (set marks i 0) x 0) ≡ writable (get_or marks x 0)) (sym (eqb-true j i e)) (ap writable (get_or-set_same marks i 0 0 l) ∙ sym w)
by_place false marks i j e l w = ap writable (get_or-set_other marks i j 0 0 (eqb-false j i e))

same_stored : (k : StoreMarks) (marks0 bytes : List ℕ) (i : ℕ) → SameWritable k.marks marks0 → writable (get_or k.marks i 0) ≡ true → SameWritable (stored k i bytes).marks marks0
unfolding stored
same_stored k marks0 bytes i h w =
    pick-elim (λ (n : StoreMarks). SameWritable n.marks marks0) (ltb i (length k.store / 512)) _ _
    (λ e. pick-elim (λ (n : StoreMarks). SameWritable n.marks marks0) (ltb i (length k.marks)) _ _
    (λ f j. by_place (eqb j i) k.marks i j refl (ltb-true _ _ f) w ∙ h j)
    (λ f. h))
    (λ e. h)

-- ---- one sector, and the rest

-- the rest of the run, from whatever store, marks and number of bad sectors
abbrev Rest : ℕ → State → List Change → List ℕ → List ℕ → Type 0
Rest n s rest store marks = (erase_from n s store marks).next ≡ changed rest (store_marks store marks s.bad)

-- from whatever number of marks that are not 0, too
abbrev Onward : ℕ → State → List Change → List ℕ → Type 0
Onward n s rest marks0 = (k : StoreMarks) → SameWritable k.marks marks0 → Rest n (sector_done n (with_bad k.bad s)) rest k.store k.marks

by_mark : (b : Bool) (spot : Spot) (n : ℕ) (s : State) (store marks marks0 : List ℕ) (rest : List Change) →
    SameWritable marks marks0 → writable (get_or marks spot.index 0) ≡ b → Onward n s rest marks0 →
    (erases_on (pick b (Ok spot) (Err WriteFault)) n s store marks).next
    ≡ changed (pick b (record { index = spot.index; bytes = replicate 512 0xFF } ∷ rest) []) (store_marks store marks s.bad)
unfolding changed all_ff
by_mark true spot n s store marks marks0 rest h w f =
    let k = stored (store_marks store marks s.bad) spot.index (replicate 512 0xFF) in
    f k (same_stored (store_marks store marks s.bad) marks0 (replicate 512 0xFF) spot.index h w)
    ∙ ap (λ (b : ℕ). changed rest (store_marks k.store k.marks b)) (same_number (done n (with_bad k.bad s)))
by_mark false spot n s store marks marks0 rest h w f = refl

by_address : (l : Located) (n : ℕ) (s : State) (store marks marks0 : List ℕ) (rest : List Change) →
    SameWritable marks marks0 → Onward n s rest marks0 →
    (erases_on (mark_tested writable WriteFault (tested_of l) marks) n s store marks).next ≡ changed (sector_changes l marks0 (replicate 512 0xFF) rest) (store_marks store marks s.bad)
unfolding changed
by_address (Ok spot) n s store marks marks0 rest h f =
    by_mark (writable (get_or marks spot.index 0)) spot n s store marks marks0 rest h refl f ∙
    ap (λ (b : Bool). changed (pick b (record { index = spot.index; bytes = replicate 512 0xFF } ∷ rest) []) (store_marks store marks s.bad)) (h spot.index)
by_address (Err BadAddress.HeadOrSector) n s store marks marks0 rest h f = refl
by_address (Err BadAddress.Cylinder) n s store marks marks0 rest h f = refl
by_address (Err BadAddress.Lba) n s store marks marks0 rest h f = refl

-- the address of the next sector, where one is left
abbrev erasures_in : ℕ → State → List ℕ → List Change
erasures_in n s marks = erasures n s.registers.address s.current (total_in s) marks

next_address : (n : ℕ) (s : State) (marks : List ℕ) → erasures_in n (sector_done n s) marks ≡ erasures n (next_of s.registers.address s.current) s.current (total_in s) marks
unfolding erasures sector_done
next_address zero s marks = refl
next_address (suc n) s marks = rw (ne_eqb (suc n) 0 (λ e. omega arith))

erased_sectors : (n : ℕ) (s : State) (store marks marks0 : List ℕ) → SameWritable marks marks0 → Rest n s (erasures_in n s marks0) store marks
unfolding erase_from erasures changed sector_stored sector_test address_test
erased_sectors zero s store marks marks0 h = refl
erased_sectors (suc n) s store marks marks0 h =
    by_address (located_in s) n s store marks marks0 (erasures n (next_of s.registers.address s.current) s.current (total_in s) marks0) h
    (λ k g. let t = with_bad k.bad s in subst (λ (r : List Change). Rest n (sector_done n t) r k.store k.marks) (next_address n t marks0) (erased_sectors n (sector_done n t) k.store k.marks marks0 g))

-- ---- the run

by_room : (past : Bool) (s : State) (k : StoreMarks) (rest : Left Core StoreMarks) (l : List Change) → rest.next ≡ changed l k →
    (pick past (leaving (ended PastEnd s) k) rest).next ≡ changed (pick past [] l) k
unfolding changed
by_room true s k rest l e = refl
by_room false s k rest l e = e

pub erase_kept : (n : ℕ) (s : State) (store marks : List ℕ) →
    (erase_run n s store marks).next ≡ changed (run_erasures n s.registers.address s.current (total_in s) marks) (store_marks store marks s.bad)
unfolding erase_run past_end run_erasures
erase_kept n s store marks =
    by_room (run_past n (located_in s)) s (store_marks store marks s.bad) (erase_from n s store marks) (erasures_in n s marks) (erased_sectors n s store marks marks (λ j. refl))
