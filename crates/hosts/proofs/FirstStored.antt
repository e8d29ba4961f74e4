-- What a write has stored at any moment is the first ones of its sectors, each with the bytes sent for it; and nothing before a sector's last byte.
use native.Mathlib.Nat.{min-le_left, min-le_right}
use Prim.Native.Nat.{ℕ, zero, suc, ◌+◌, ◌-◌, ◌*◌, ◌≤◌, ◌<◌}
use mathlib.Core.Bool.{Bool, true, false}
use mathlib.Core.Path.{◌≡◌, refl, sym, ap, ◌∙◌, subst}
use mathlib.Core.List.{List, ◌++◌}
use native.Mathlib.Omega.{arith}
use lib.Dec.{ltb, eqb}
use Rattle.ground.specs.Choice.{pick}
use lib.ListN.{length, take, drop, set, get_or, length-drop, length-set, get_or-append}
use lib.Seq.{drop-cons, get_or-set_same, length-take-le, get_or-append-add, get_or-take, get_or-drop}
use borrow.Author.Tests.{ltb-true, ltb-false}
use Rattle.geometry.specs.Limits.{total_of}
use Rattle.registers.specs.Machine.{Machine}
use Rattle.card.specs.declared.Meaning.{Meaning}
use Rattle.card.specs.Access.{Asked}
use Rattle.card.specs.Step.{step}
use Rattle.kept.specs.Lent.{store_marks_in}
use Rattle.account.specs.Plain.{Plain, WriteFault}
use Rattle.account.specs.Addressed.{At}
use Rattle.account.specs.CommandRows.{CommandRow, Writes, row_of}
use Rattle.account.specs.Course.{course_of}
use Rattle.account.specs.Sweeps.{unwritable, write_sweep}
use Rattle.account.specs.WholeSectors.{put_sector, replaced, cleared, bad_at, bad_from}
use Rattle.account.specs.Table.{asked, first}
use Rattle.account.specs.Host.{plain_of, meanings, hosted}
use Rattle.account.specs.Notes.{no_notes, way_of}
use Rattle.account.specs.Follows.{Able, commanded, after_by, AcceptedCommand, after}
use Rattle.sectors.specs.Sectors.{StoreMarks}
use Rattle.hosts.specs.Moment.{CalmBy, Calm, whole_of, stored_of, stored_from, written_so_far, so_far, not_sound, FirstStored}
use Rattle.account.proofs.Seats.{course_in, spot_on, seat_room, room_total}
use Rattle.account.proofs.Stored.{LentFor, put-length}
use Rattle.account.proofs.Commands.{first_at}
use Rattle.account.proofs.Theorem.{by_meaning}
use Rattle.account.proofs.Accepted.{given, able}
use Rattle.account.proofs.Elsewhere.{replaced_same, cleared_same, sweep_inside}
use Rattle.hosts.proofs.Moment.{means_at_every_moment}

-- ---- the sectors put

put_inside : (i : ℕ) (b s : List ℕ) (x : ℕ) → 512 * i ≤ length s → x < length b → get_or (put_sector i b s) (512 * i + x) 0 ≡ get_or b x 0
put_inside i b s x l h =
    let e : length (take (512 * i) s) ≡ 512 * i = length-take-le (512 * i) s l in
    let z : 512 * i + x ≡ length (take (512 * i) s) + x = omega arith in
    ap (λ (n : ℕ). get_or (put_sector i b s) n 0) z ∙ get_or-append-add (take (512 * i) s) (b ++ drop (512 * (i + 1)) s) x 0 ∙ get_or-append b _ 0 x h

replaced_holds : (k i n : ℕ) (d s : List ℕ) → 512 * k ≤ length d → i + k ≤ n → length s ≡ 512 * n → (x : ℕ) → x < 512 * k → get_or (replaced i k d s) (512 * i + x) 0 ≡ get_or d x 0
unfolding replaced
replaced_holds zero i n d s l h f x y = absurd (omega arith)
replaced_holds (suc k) i n d s l h f x y = go (λ r. replaced_holds k (i + 1) n (drop 512 d) t more (omega arith) long (x - 512) r) (ltb x 512) refl
  where
    size : length (take 512 d) ≡ 512
    size = length-take-le 512 d (omega arith)

    t : List ℕ
    t = put_sector i (take 512 d) s

    long : length t ≡ 512 * n
    long = put-length i n (take 512 d) s (omega arith) size f

    more : 512 * k ≤ length (drop 512 d)
    more = simp length-drop (omega arith)

    go : (x - 512 < 512 * k → get_or (replaced (i + 1) k (drop 512 d) t) (512 * (i + 1) + (x - 512)) 0 ≡ get_or (drop 512 d) (x - 512) 0) → (b : Bool) → ltb x 512 ≡ b →
        get_or (replaced (i + 1) k (drop 512 d) t) (512 * i + x) 0 ≡ get_or d x 0
    go later true e =
        let g : x < 512 = ltb-true x 512 e in
        let z = size in
        (replaced_same k (i + 1) n (drop 512 d) t more (omega arith) long).0 (512 * i + x) (omega arith)
        ∙ put_inside i (take 512 d) s x (omega arith) (omega arith)
        ∙ get_or-take 512 d x 0 g
    go later false e =
        let g = ltb-false x 512 e in
        let u : 512 * i + x ≡ 512 * (i + 1) + (x - 512) = omega arith in
        let v : 512 + (x - 512) ≡ x = omega arith in
        ap (λ (a : ℕ). get_or (replaced (i + 1) k (drop 512 d) t) a 0) u ∙ later (omega arith) ∙ get_or-drop 512 d (x - 512) 0 ∙ ap (λ (a : ℕ). get_or d a 0) v

cleared_holds : (k i : ℕ) (s : List ℕ) → i + k ≤ length s → (j : ℕ) → j < k → get_or (cleared i k s) (i + j) 0 ≡ 0
unfolding cleared
cleared_holds zero i s h j y = absurd (omega arith)
cleared_holds (suc k) i s h zero y =
    let u : i + 0 ≡ i = omega arith in
    ap (λ (a : ℕ). get_or (cleared (i + 1) k (set s i 0)) a 0) u ∙ (cleared_same k (i + 1) (set s i 0)).0 i (omega arith) ∙ get_or-set_same s i 0 0 (omega arith)
cleared_holds (suc k) i s h (suc j) y =
    let u : i + suc j ≡ i + 1 + j = omega arith in
    ap (λ (a : ℕ). get_or (cleared (i + 1) k (set s i 0)) a 0) u ∙ cleared_holds k (i + 1) (set s i 0) (simp length-set (omega arith)) j (omega arith)

-- the number, by the marks of these sectors
one_more_lem : (b : Bool) (n : ℕ) → pick b 0 1 + n ≡ pick b n (suc n)
one_more_lem true n = omega arith
one_more_lem false n = omega arith

bad-among : (k i : ℕ) (marks : List ℕ) → i + k ≤ length marks → bad_from i k marks ≡ not_sound (take k (drop i marks))
unfolding bad_from not_sound
bad-among zero i marks h = refl
bad-among (suc k) i marks h =
    let s : i + 1 ≡ suc i = omega arith in
    let e = bad-among k (i + 1) marks (omega arith) ∙ ap (λ (j : ℕ). not_sound (take k (drop j marks))) s in
    rw (drop-cons marks i 0 (omega arith)) (ap (λ (n : ℕ). bad_at i marks + n) e ∙ one_more_lem (eqb (get_or marks i 0) 0) (not_sound (take k (drop (suc i) marks))))

stored-first : (i k n : ℕ) (p : Plain) (d : List ℕ) → 512 * k ≤ length d → i + k ≤ n → LentFor n p.store p.marks → FirstStored i k p d (stored_from i k p d)
stored-first i k n p d h e l = record {
  stored = replaced_holds k i n d p.store h e l.0;
  marked = cleared_holds k i p.marks (let z = l.1 in omega arith);
  others = replaced_same k i n d p.store h e l.0;
  other_marks = cleared_same k i p.marks;
  counted = ap (λ (b : ℕ). p.bad - b) (bad-among k i p.marks (let z = l.1 in omega arith));
}

-- ---- at every moment

so_far_at : (p : Plain) (i : ℕ) (d : List ℕ) → first p ≡ At i → so_far Writes p d ≡ stored_from i (stored_of i p d) p d
unfolding so_far written_so_far
so_far_at p i d e = rw e

-- The sectors that a write has stored are the first ones in its order, each with the host's bytes for it, as many as have moved whole.
pub means_first_ones_stored : (m : Machine) (v : ℕ) (l : List Meaning) (i : ℕ) → Able m → row_of v ≡ Writes → first (plain_of m) ≡ At i → CalmBy (commanded v m) l →
    let h = after_by m v l in
    FirstStored i (stored_of i (plain_of m) h.notes.done) (plain_of m) h.notes.done (store_marks_in h.machine)
means_first_ones_stored m v l i n e f g =
    let d = (after_by m v l).notes.done in
    let k = stored_of i (plain_of m) d in
    let o = (given m n).0 in
    let x = min-le_left (whole_of d) (write_sweep (course_of (plain_of m)) m.marks i (asked m.state.registers.count)).done in
    let w = min-le_right (whole_of d) (write_sweep (course_of (plain_of m)) m.marks i (asked m.state.registers.count)).done in
    let y = (seat_room m.state (spot_on (course_in m.state) i) o.0 (first_at m i o.0 f)).0 in
    let u = sweep_inside unwritable WriteFault (course_of (plain_of m)) m.marks (asked m.state.registers.count) i (omega arith) in
    let r = room_total (course_in m.state) m.state o.0 refl in
    subst (λ (z : StoreMarks). FirstStored i k (plain_of m) d z)
    (sym (means_at_every_moment m v l n g ∙ ap (λ (z : CommandRow). so_far z (plain_of m) d) e ∙ so_far_at (plain_of m) i d f))
    (stored-first i k (total_of m.state.made.default) (plain_of m) d (omega arith) (omega arith) o.1)

pub first_ones_stored : (m : Machine) (a : Asked) (v : ℕ) (l : List Asked) (i : ℕ) → AcceptedCommand m a v → row_of v ≡ Writes → first (plain_of m) ≡ At i →
    Calm (step m a).next l →
    let h = after m a v l in
    FirstStored i (stored_of i (plain_of m) h.notes.done) (plain_of m) h.notes.done (store_marks_in h.machine)
first_ones_stored m a v l i w e f =
    by_meaning (λ x. Calm x l → let h = hosted (way_of (row_of v)) x no_notes l in
    FirstStored i (stored_of i (plain_of m) h.notes.done) (plain_of m) h.notes.done (store_marks_in h.machine)) m a v w.accepted
    (means_first_ones_stored m v (meanings (commanded v m) l) i (able m a v w) e f)
