-- Each test refuses as the table of the definition does, and a list that passes all three is written: the same is done with the page of the whole list,
-- and what is done with that page is the writer's promise.
use Rattle.std.proofs.Common.{◌≡◌, ◌≤◌, ◌<◌, ◌-◌, ◌++◌, ◌^◌, ℕ, List, Bool, min, true, false, length, drop, replicate, refl, sym, ◌∙◌, ap, arith}
use borrow.Author.Tests.{eq-eqb, le-leb}
use Rattle.std.specs.List.{list_all}
use Rattle.ground.proofs.Tests.{tests}
use Rattle.std.proofs.lemmas.List.{drop-replicate}
use Rattle.tuples.specs.Rows.{bytes_taken}
use Rattle.tuples.specs.Write.{good, all_good, tuple_bytes, filled_up, write_outcome}
use Rattle.tuples.specs.declared.Entry.{Entry}
use Rattle.tuples.proofs.Pages.{puts-writes, writes-puts}
use Rattle.tuples.proofs.RowTests.{taken_is}
use Rattle.tuples.proofs.Writing.{all_is}
use Rattle.tuples.proofs.write.write_tuples.Goals as goal

pub returns-then-out-ne-TUPLE_BUFFER_BYTES-clause-by_page : goal.returns-then-out-ne-TUPLE_BUFFER_BYTES-clause-by_page
unfolding write_outcome
returns-then-out-ne-TUPLE_BUFFER_BYTES-clause-by_page c = writes-puts _ _ _ _ _ (search tests) refl

pub returns-then-out-ne-TUPLE_BUFFER_BYTES-clause-writes : goal.returns-then-out-ne-TUPLE_BUFFER_BYTES-clause-writes
returns-then-out-ne-TUPLE_BUFFER_BYTES-clause-writes c = puts-writes _ _ _ _ _ (returns-then-out-ne-TUPLE_BUFFER_BYTES-clause-by_page c)

pub returns-then-not-all_good-clause-by_page : goal.returns-then-not-all_good-clause-by_page
unfolding write_outcome
returns-then-not-all_good-clause-by_page c =
    let a = c.args in
    let bad : all_good a.bodies.now a.list.now ≡ false = sym (all_is a.bodies.now a.list.now) ∙ sym c.all_good.ensures ∙ c.if-not-all_good.true in
    writes-puts _ _ _ _ _ (search tests) refl

pub returns-then-not-all_good-clause-writes : goal.returns-then-not-all_good-clause-writes
returns-then-not-all_good-clause-writes c = puts-writes _ _ _ _ _ (returns-then-not-all_good-clause-by_page c)

-- all tuples may be written, and the code's count says what they take
module _ (bs : List ℕ) (es : List Entry) (all : Bool) (n : ℕ) (all_by : all ≡ list_all (good bs) es) (yes : all ≡ true) (taken : n ≡ min (bytes_taken es) (2 ^ 64 - 1)) where
  good_all : all_good bs es ≡ true
  good_all = sym (all_is bs es) ∙ sym all_by ∙ yes

  short : n ≤ 255 → length (tuple_bytes bs es) ≤ 255
  short h = omega (arith, taken_is bs es good_all)

  long : 255 < n → 255 < length (tuple_bytes bs es)
  long h = omega (arith, taken_is bs es good_all)

pub returns-then-bytes_taken-gt-MOST_BYTES-clause-by_page : goal.returns-then-bytes_taken-gt-MOST_BYTES-clause-by_page
unfolding write_outcome
returns-then-bytes_taken-gt-MOST_BYTES-clause-by_page c =
    let a = c.args in
    let g = good_all a.bodies.now a.list.now _ _ c.all_good.ensures c.if-not-all_good.false c.bytes_taken.ensures in
    let h = long a.bodies.now a.list.now _ _ c.all_good.ensures c.if-not-all_good.false c.bytes_taken.ensures c.if-bytes_taken-gt-MOST_BYTES.true in
    writes-puts _ _ _ _ _ (search tests) refl

pub returns-then-bytes_taken-gt-MOST_BYTES-clause-writes : goal.returns-then-bytes_taken-gt-MOST_BYTES-clause-writes
returns-then-bytes_taken-gt-MOST_BYTES-clause-writes c = puts-writes _ _ _ _ _ (returns-then-bytes_taken-gt-MOST_BYTES-clause-by_page c)

pub tuple_bytes-tuples-requires-clause-good : goal.tuple_bytes-tuples-requires-clause-good
tuple_bytes-tuples-requires-clause-good c =
    let a = c.args in
    good_all a.bodies.now a.list.now _ _ c.all_good.ensures c.if-not-all_good.false c.bytes_taken.ensures

pub tuple_bytes-tuples-requires-clause-short : goal.tuple_bytes-tuples-requires-clause-short
tuple_bytes-tuples-requires-clause-short c =
    let a = c.args in
    short a.bodies.now a.list.now _ _ c.all_good.ensures c.if-not-all_good.false c.bytes_taken.ensures c.if-bytes_taken-gt-MOST_BYTES.false

-- tuples of so many bytes, then FFH to the end of 256
in_place : (ts front page : List ℕ) (n : ℕ) → front ≡ ts → n ≡ length ts → page ≡ replicate 256 255 → front ++ drop n page ≡ filled_up ts
in_place ts front page n e f g =
    ap (λ l. l ++ drop n page) e ∙ ap (λ j. ts ++ drop j page) f ∙ ap (λ l. ts ++ drop (length ts) l) g ∙ ap (λ l. ts ++ l) (drop-replicate (length ts) 256 255)

pub returns-clause-by_page : goal.returns-clause-by_page
unfolding write_outcome
returns-clause-by_page c =
    let a = c.args in
    let bs = a.bodies.now in
    let es = a.list.now in
    let g = good_all bs es _ _ c.all_good.ensures c.if-not-all_good.false c.bytes_taken.ensures in
    let h = short bs es _ _ c.all_good.ensures c.if-not-all_good.false c.bytes_taken.ensures c.if-bytes_taken-gt-MOST_BYTES.false in
    writes-puts bs es a.out.now _ _ (simp (eq-eqb _ _ c.if-out-ne-TUPLE_BUFFER_BYTES.false, g, le-leb _ _ h))
    (in_place _ _ _ _ (c.copy_from_slice.ensures.after ∙ c.deref.ensures.0 ∙ c.tuple_bytes-tuples.ensures) (c.len.ensures.value ∙ ap length c.tuple_bytes-tuples.ensures)
    (c.fill.ensures.after (λ y e. e) ∙ ap (λ n. replicate n 255) c.if-out-ne-TUPLE_BUFFER_BYTES.false))

pub returns-clause-writes : goal.returns-clause-writes
returns-clause-writes c = puts-writes _ _ _ _ _ (returns-clause-by_page c)
