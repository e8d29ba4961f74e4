-- The page that is made tuple by tuple is what the writer is to write.
--     pages-bad, ends     the flags and the bytes of a page that all tuples of a list were added to
--     puts-writes         so what is done with that page is the writer's promise
--     writes-puts         and what the writer is to answer and to leave is what is done with that page
use Rattle.std.proofs.Common.{Ok, Err}
use mathlib.Core.Path.{◌≡◌, refl, sym, ◌∙◌, ap}
use mathlib.Core.Bool.{Bool, true, false, not}
use mathlib.Core.List.{List, ◌∷◌, ◌++◌, append_assoc, append-nil, []}
use Prim.Native.Nat.{ℕ, ◌+◌, ◌≤◌, ◌<◌}
use native.Mathlib.Omega.{arith}
use lib.ListN.{length, drop, set, length-append}
use lib.Seq.{paste}
use lib.Dec.{leb}
use borrow.Author.Tests.{leb-true, leb-false}
use Rattle.ground.specs.Choice.{pick, every}
use Rattle.ground.proofs.Picks.{pick-elim, pick_same, pick_of, both_of}
use Rattle.answers.proofs.Outcomes.{says}
use Rattle.ground.specs.Rows.{first_of}
use Rattle.tuples.specs.Read.{unless_refused}
use Rattle.tuples.specs.Page.{Page, page, new_page, with_tuple, added_to, pages, put_outcome, Puts}
use Rattle.tuples.specs.Write.{good, body_of, tuple_bytes, all_good, filled_up, write_table, write_outcome, Writes}
use Rattle.tuples.specs.declared.Entry.{Entry}
use Rattle.tuples.proofs.PutTuple.{put}
use Rattle.tuples.proofs.Goods.{Good, is_good, long_body, written_well}
use Rattle.answers.specs.Answers.{Outcome}

-- ---- the flags
bad-pick : (t u : Bool) (b : Bool) → pick u (pick t b true) true ≡ pick (pick t u false) b true
bad-pick true u b = refl
bad-pick false true b = refl
bad-pick false false b = refl

pages-bad : (bs : List ℕ) (w : Page) (es : List Entry) → (pages bs w es).bad ≡ pick (all_good bs es) w.bad true
unfolding pages added_to all_good every
pages-bad bs w [] = refl
pages-bad bs w (e ∷ es) =
    let room = leb (w.at + 2 + e.length) 255 in
    pages-bad bs (added_to bs w e) es
    ∙ ap (λ (b : Bool). pick (all_good bs es) b true) (pick_of (λ (v : Page). v.bad) (good bs e) _ _ ∙ ap (λ (b : Bool). pick (good bs e) b true) (pick_of (λ (v : Page). v.bad) room _ _ ∙ pick_same room w.bad))
    ∙ bad-pick (good bs e) (all_good bs es) w.bad

pages_over : (bs : List ℕ) (w : Page) (es : List Entry) → w.over ≡ true → (pages bs w es).over ≡ true
unfolding pages added_to
pages_over bs w [] h = h
pages_over bs w (e ∷ es) h =
    let P : Page → Type 0 = λ v. v.over ≡ true in
    pages_over bs (added_to bs w e) es (pick-elim P (good bs e) _ _ (λ _. pick-elim P (leb (w.at + 2 + e.length) 255) _ _ (λ _. h) (λ _. refl)) (λ _. h))

-- ---- a page that holds the bytes p
record Holds (w : Page) (p : List ℕ) : Type 0 where
  its_at : w.at ≡ length p
  its_bytes : w.bytes ≡ filled_up p
  its_over : w.over ≡ false
  small : length p ≤ 255

record Ends (bs : List ℕ) (w : Page) (es : List Entry) (p : List ℕ) : Type 0 where
  fit_over : length p + length (tuple_bytes bs es) ≤ 255 → (pages bs w es).over ≡ false
  fit_bytes : length p + length (tuple_bytes bs es) ≤ 255 → (pages bs w es).bytes ≡ filled_up (p ++ tuple_bytes bs es)
  full : 255 < length p + length (tuple_bytes bs es) → (pages bs w es).over ≡ true

tuple_of : List ℕ → Entry → List ℕ
tuple_of bs e = e.code ∷ (e.length ∷ body_of bs e)

holds_tuple : (bs : List ℕ) (w : Page) (e : Entry) (p : List ℕ) → Good bs e → Holds w p → w.at + 2 + e.length ≤ 255 → Holds (with_tuple bs w e) (p ++ tuple_of bs e)
unfolding tuple_of
holds_tuple bs w e p g l fits =
    let lt : length (p ++ tuple_of bs e) ≡ length p + 2 + e.length = length-append p (tuple_of bs e) ∙ (let z : length p + length (tuple_of bs e) ≡ length p + 2 + e.length = omega (arith, long_body bs e g) in z) in
    record {
      its_at = omega (arith, lt, l.its_at);
      its_bytes = ap (λ (b : List ℕ). paste (set (set b w.at e.code) (w.at + 1) e.length) (w.at + 2) (drop e.start bs) e.length) l.its_bytes
          ∙ ap (λ (j : ℕ). paste (set (set (filled_up p) j e.code) (j + 1) e.length) (j + 2) (drop e.start bs) e.length) l.its_at
          ∙ put p (drop e.start bs) e.code e.length (long_body bs e g) (omega (arith, l.its_at));
      its_over = l.its_over;
      small = omega (arith, lt, l.its_at);
    }

-- the tuples go on one after the other
module _ (bs : List ℕ) where
  by_room : (w : Page) (e : Entry) (es : List Entry) (p : List ℕ) (t : Bool) → leb (w.at + 2 + e.length) 255 ≡ t → Good bs e → good bs e ≡ true → Holds w p
      → ((w' : Page) → Holds w' (p ++ tuple_of bs e) → Ends bs w' es (p ++ tuple_of bs e)) → Ends bs w (e ∷ es) p
  unfolding pages added_to tuple_bytes tuple_of
  by_room w e es p true h g gt l ih =
      let r = ih (with_tuple bs w e) (holds_tuple bs w e p g l (leb-true (w.at + 2 + e.length) 255 h)) in
      let is : added_to bs w e ≡ with_tuple bs w e = simp (gt, h) in
      let row : (p ++ tuple_of bs e) ++ tuple_bytes bs es ≡ p ++ tuple_bytes bs (e ∷ es) = append_assoc p (tuple_of bs e) (tuple_bytes bs es) in
      let size : length (p ++ tuple_of bs e) + length (tuple_bytes bs es) ≡ length p + length (tuple_bytes bs (e ∷ es)) =
      sym (length-append (p ++ tuple_of bs e) (tuple_bytes bs es)) ∙ ap length row ∙ length-append p (tuple_bytes bs (e ∷ es)) in
      record {
        fit_over = λ f. ap (λ (v : Page). (pages bs v es).over) is ∙ r.fit_over (omega (arith, size));
        fit_bytes = λ f. ap (λ (v : Page). (pages bs v es).bytes) is ∙ r.fit_bytes (omega (arith, size)) ∙ ap filled_up row;
        full = λ f. ap (λ (v : Page). (pages bs v es).over) is ∙ r.full (omega (arith, size));
      }
  by_room w e es p false h g gt l ih =
      let is : added_to bs w e ≡ page w.bytes w.at w.bad true = simp (gt, h) in
      let wide : 255 < length p + length (tuple_bytes bs (e ∷ es)) = omega (arith, leb-false (w.at + 2 + e.length) 255 h, l.its_at, long_body bs e g, length-append (body_of bs e) (tuple_bytes bs es)) in
      record {
        fit_over = λ f. let z : ⊥ = omega arith in absurd z;
        fit_bytes = λ f. let z : ⊥ = omega arith in absurd z;
        full = λ f. ap (λ (v : Page). (pages bs v es).over) is ∙ pages_over bs (page w.bytes w.at w.bad true) es refl;
      }

  ends : (es : List Entry) (w : Page) (p : List ℕ) → all_good bs es ≡ true → Holds w p → Ends bs w es p
  unfolding pages tuple_bytes all_good every
  ends [] w p h l = record { fit_over = λ f. l.its_over; fit_bytes = λ f. l.its_bytes ∙ ap filled_up (sym (append-nil p)); full = λ f. let z : ⊥ = omega (arith, l.small) in absurd z }
  ends (e ∷ es) w p h l =
      let gs = both_of (good bs e) (all_good bs es) h in
      by_room w e es p (leb (w.at + 2 + e.length) 255) refl (is_good bs e gs.0) gs.0 l (λ w' l'. ends es w' (p ++ tuple_of bs e) gs.1 l')

  -- ---- "Writing checks 5, 15, 14."
  module _ (es : List Entry) (out : List ℕ) where
    abbrev the_page : Page
    the_page = pages bs new_page es

    all-added : all_good bs es ≡ true → Ends bs new_page es []
    all-added g = ends es new_page [] g (record { its_at = refl; its_bytes = refl; its_over = refl; small = omega arith })

    -- the page's flags are the two tests
    good_is : (t : Bool) → all_good bs es ≡ t → not the_page.bad ≡ t
    good_is true g = ap not (pages-bad bs new_page es) ∙ rw g refl
    good_is false g = ap not (pages-bad bs new_page es) ∙ rw g refl

    fit_is : all_good bs es ≡ true → (t : Bool) → leb (length (tuple_bytes bs es)) 255 ≡ t → not the_page.over ≡ t
    fit_is g true h = ap not ((all-added g).fit_over (omega (arith, leb-true (length (tuple_bytes bs es)) 255 h)))
    fit_is g false h = ap not ((all-added g).full (omega (arith, leb-false (length (tuple_bytes bs es)) 255 h)))

    -- whether they fit is asked only where all may be written
    where_good : (good f f' : Bool) → (good ≡ true → f ≡ f') → first_of {A = Outcome} (write_table (length out) good f) Err (Ok 0) ≡ first_of (write_table (length out) good f') Err (Ok 0)
    where_good true f f' e = ap (λ (x : Bool). first_of (write_table (length out) true x) Err (Ok 0)) (e refl)
    where_good false f f' e = refl

    same_outcome : put_outcome the_page (length out) ≡ write_outcome bs es (length out)
    unfolding put_outcome write_outcome
    same_outcome =
        ap (λ (g : Bool). first_of (write_table (length out) g (not the_page.over)) Err (Ok 0)) (good_is (all_good bs es) refl)
        ∙ where_good (all_good bs es) _ _ (λ g. fit_is g (leb (length (tuple_bytes bs es)) 255) refl)

    same_bytes : (o : Outcome) → write_outcome bs es (length out) ≡ o → unless_refused o the_page.bytes out ≡ unless_refused o (filled_up (tuple_bytes bs es)) out
    same_bytes (Ok v) e = let ok = written_well bs es (length out) v e in (all-added ok.are_good).fit_bytes (omega (arith, ok.short))
    same_bytes (Err x) e = refl

    -- what is done with the page is the writer's promise
    pub puts-writes : (r : Outcome) (z : List ℕ) → Puts the_page out r z → Writes bs es out r z
    puts-writes r z p =
        let e = p.0 ∙ same_outcome in
        (e, p.1 ∙ ap (λ (o : Outcome). unless_refused o the_page.bytes out) same_outcome ∙ same_bytes (write_outcome bs es (length out)) refl, says _ _ e)

    -- and the other way: where the writer is to answer o, what it leaves is what is done with the page
    pub writes-puts : (o : Outcome) (z : List ℕ) → write_outcome bs es (length out) ≡ o → z ≡ unless_refused o (filled_up (tuple_bytes bs es)) out → Puts the_page out o z
    writes-puts o z e f = let same = same_outcome ∙ e in (sym same, f ∙ sym (ap (λ (x : Outcome). unless_refused x the_page.bytes out) same ∙ same_bytes o e))
