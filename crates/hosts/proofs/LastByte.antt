-- The store, the marks and the number of bad sectors change at a sector's last byte only, whichever sector it is.
use native.Mathlib.Nat.{min-le_left, min-le_right}
use Prim.Native.Nat.{ℕ, min, zero, suc, ◌+◌, ◌*◌, ◌≤◌}
use mathlib.Core.Path.{◌≡◌, refl, sym, ap, ◌∙◌, subst}
use mathlib.Core.List.{List, [], ◌∷◌, ◌++◌, append_assoc, append-nil}
use native.Mathlib.Omega.{arith}
use lib.Dec.{eqb}
use lib.ListN.{length, take, drop, length-drop, take-append-drop}
use lib.Seq.{length-take-le, take-append-le, drop-append_seam}
use Rattle.registers.specs.Machine.{Machine}
use Rattle.transfers.specs.declared.Way.{Way}
use Rattle.card.specs.declared.Meaning.{Meaning}
use Rattle.card.specs.Access.{Asked, meaning}
use Rattle.card.specs.Perform.{perform}
use Rattle.card.specs.Step.{step}
use Rattle.kept.specs.Lent.{store_marks_in}
use Rattle.sectors.specs.Sectors.{store_marks}
use Rattle.account.specs.Plain.{Plain}
use Rattle.account.specs.Addressed.{Addressed, At, Bad}
use Rattle.account.specs.CommandRows.{CommandRow, Reads, Writes, Verifies, Erases, Identifies, ReadsBuffer, WritesBuffer, SetsGeometry, Diagnoses, Recalibrates, Seeks, Senses, SetsMultiple, ReadsMultiple, WritesMultiple, Others, row_of}
use Rattle.account.specs.Course.{course_of}
use Rattle.account.specs.Sweeps.{write_sweep}
use Rattle.account.specs.WholeSectors.{put_sector, replaced}
use Rattle.account.specs.Table.{asked, first, account}
use Rattle.account.specs.Host.{plain_of, Hosted, hosted_by, meanings, hosted}
use Rattle.account.specs.Notes.{Notes, no_notes, note, way_of}
use Rattle.account.specs.Follows.{Able, commanded, after_by, AcceptedCommand, after}
use Rattle.hosts.specs.Moment.{CalmBy, Calm, whole_of, stored_from, written_so_far, so_far}
use Rattle.account.proofs.Accepted.{able}
use Rattle.account.proofs.Theorem.{by_meaning}
use Rattle.hosts.proofs.Afterwards.{More, note_more}
use Rattle.hosts.proofs.Reached.{hosted_more, meanings-append}
use Rattle.hosts.proofs.Moment.{means_at_every_moment}
use Rattle.ground.specs.Choice.{pick}

-- bytes behind the sectors put do not matter
drop_front : (l d : List ℕ) → 512 ≤ length l → drop 512 (l ++ d) ≡ drop 512 l ++ d
drop_front l d h =
    let e : length (take 512 l) ≡ 512 = length-take-le 512 l h in
    let x : (take 512 l ++ drop 512 l) ++ d ≡ take 512 l ++ (drop 512 l ++ d) = append_assoc (take 512 l) (drop 512 l) d in
    ap (λ (k : List ℕ). drop 512 (k ++ d)) (sym (take-append-drop 512 l))
    ∙ ap (drop 512) x
    ∙ subst (λ (n : ℕ). drop n (take 512 l ++ (drop 512 l ++ d)) ≡ drop 512 l ++ d) e (drop-append_seam (take 512 l) (drop 512 l ++ d))

replaced_front : (k i : ℕ) (l d s : List ℕ) → 512 * k ≤ length l → replaced i k (l ++ d) s ≡ replaced i k l s
unfolding replaced
replaced_front zero i l d s h = refl
replaced_front (suc k) i l d s h =
    let e : take 512 (l ++ d) ≡ take 512 l = take-append-le 512 l d (omega arith) in
    ap (λ (x : List ℕ). replaced (i + 1) k x (put_sector i (take 512 (l ++ d)) s)) (drop_front l d (omega arith))
    ∙ ap (λ (x : List ℕ). replaced (i + 1) k (drop 512 l ++ d) (put_sector i x s)) e
    ∙ replaced_front k (i + 1) (drop 512 l) d (put_sector i (take 512 l) s) (simp length-drop (omega arith))

front_written : (g : Addressed) (p : Plain) (l d : List ℕ) → whole_of (l ++ d) ≡ whole_of l → written_so_far g p (l ++ d) ≡ written_so_far g p l
unfolding written_so_far
front_written (At i) p l d e =
    let n = (write_sweep (course_of p) p.marks i (asked p.registers.count)).done in
    let x = min-le_left (whole_of l) n in
    let y = min-le_right (whole_of l) n in
    ap (λ (k : ℕ). stored_from i (min k n) p (l ++ d)) e
    ∙ ap (λ (s : List ℕ). let k = stored_from i (min (whole_of l) n) p l in store_marks s k.marks k.bad) (replaced_front (min (whole_of l) n) i l d p.store (omega arith))
front_written (Bad code) p l d e = refl

front_same : (row : CommandRow) (p : Plain) (l d : List ℕ) → whole_of (l ++ d) ≡ whole_of l → so_far row p (l ++ d) ≡ so_far row p l
unfolding so_far account
front_same Reads p l d e = refl
front_same Writes p l d e = front_written (first p) p l d e
front_same Verifies p l d e = refl
front_same Erases p l d e = refl
front_same Identifies p l d e = refl
front_same ReadsBuffer p l d e = refl
front_same WritesBuffer p l d e = refl
front_same SetsGeometry p l d e = refl
front_same Diagnoses p l d e = refl
front_same Recalibrates p l d e = refl
front_same Seeks p l d e = refl
front_same Senses p l d e = refl
front_same SetsMultiple p l d e = refl
front_same ReadsMultiple p l d e = refl
front_same WritesMultiple p l d e = ap (pick (eqb p.block 0) _) (front_written (first p) p l d e)
front_same Others p l d e = refl

calm_front : (l k : List Meaning) (m : Machine) → CalmBy m (l ++ k) → CalmBy m l
calm_front [] k m c = tt
calm_front (x ∷ l) k m c = (c.0, calm_front l k (perform x m).next c.1)

more : (way : Way) (l : List Meaning) (m : Machine) (q : Notes) → More q.done (hosted_by way m q l).notes.done
unfolding hosted_by
more way [] m q = ([], sym (append-nil q.done))
more way (y ∷ l) m q =
    let n = note way y (perform y m).outcome q in
    let x = note_more way y (perform y m).outcome q in
    let z = more way l (perform y m).next n in
    (x.0 ++ z.0, z.1 ∙ ap (λ (t : List ℕ). t ++ z.0) x.1 ∙ append_assoc q.done x.0 z.0)

-- More of them, after which no more sectors have moved whole, leave the store, the marks and the number of bad sectors.
pub means_only_at_a_last_byte : (m : Machine) (v : ℕ) (l k : List Meaning) → Able m → CalmBy (commanded v m) (l ++ k) →
    whole_of (after_by m v (l ++ k)).notes.done ≡ whole_of (after_by m v l).notes.done → store_marks_in (after_by m v (l ++ k)).machine ≡ store_marks_in (after_by m v l).machine
means_only_at_a_last_byte m v l k b c e =
    let way = way_of (row_of v) in
    let h = after_by m v l in
    let x = more way k h.machine h.notes in
    let u : (after_by m v (l ++ k)).notes.done ≡ h.notes.done ++ x.0 = ap (λ (z : Hosted). z.notes.done) (hosted_more way l k (commanded v m) no_notes) ∙ x.1 in
    means_at_every_moment m v (l ++ k) b c
    ∙ ap (so_far (row_of v) (plain_of m)) u
    ∙ front_same (row_of v) (plain_of m) h.notes.done x.0 (ap whole_of (sym u) ∙ e)
    ∙ sym (means_at_every_moment m v l b (calm_front l k (commanded v m) c))

-- The same of accesses.
pub only_at_a_last_byte : (m : Machine) (a : Asked) (v : ℕ) (l k : List Asked) → AcceptedCommand m a v → Calm (step m a).next (l ++ k) →
    whole_of (after m a v (l ++ k)).notes.done ≡ whole_of (after m a v l).notes.done → store_marks_in (after m a v (l ++ k)).machine ≡ store_marks_in (after m a v l).machine
only_at_a_last_byte m a v l k w =
    let way = way_of (row_of v) in
    let x = meanings (commanded v m) l in
    let h = after_by m v x in
    let r = meanings-append meaning way (record { machine = commanded v m; notes = no_notes }) l k in
    by_meaning
    (λ n. let on = hosted way n no_notes in
    Calm n (l ++ k) → whole_of (on (l ++ k)).notes.done ≡ whole_of (on l).notes.done → store_marks_in (on (l ++ k)).machine ≡ store_marks_in (on l).machine) m a v w.accepted
    (subst
    (λ (y : List Meaning). CalmBy (commanded v m) y → whole_of (after_by m v y).notes.done ≡ whole_of h.notes.done → store_marks_in (after_by m v y).machine ≡ store_marks_in h.machine)
    (sym r) (means_only_at_a_last_byte m v x (meanings h.machine k) (able m a v w)))
