-- Nothing is stored early.
use native.Mathlib.Nat.{min-le_left, min-le_right}
use Prim.Native.Nat.{ℕ, ◌<◌}
use mathlib.Core.Bool.{false, true≢false}
use mathlib.Core.Path.{◌≡◌, refl, ap, ◌∙◌}
use mathlib.Core.List.{List}
use native.Mathlib.Omega.{arith}
use lib.Dec.{eqb}
use lib.ListN.{length}
use Rattle.registers.specs.Machine.{Machine}
use Rattle.card.specs.declared.Meaning.{Meaning}
use Rattle.card.specs.Access.{Asked}
use Rattle.card.specs.Step.{step}
use Rattle.kept.specs.Lent.{store_marks_in}
use Rattle.sectors.specs.Sectors.{store_marks, StoreMarks}
use Rattle.account.proofs.Stored.{bad-none}
use Rattle.account.specs.Plain.{Plain}
use Rattle.account.specs.Addressed.{Addressed, At, Bad}
use Rattle.account.specs.CommandRows.{CommandRow, Reads, Writes, Verifies, Erases, Identifies, ReadsBuffer, WritesBuffer, SetsGeometry, Diagnoses, Recalibrates, Seeks, Senses, SetsMultiple, ReadsMultiple, WritesMultiple, Others, row_of}
use Rattle.account.specs.Course.{course_of}
use Rattle.account.specs.Sweeps.{write_sweep}
use Rattle.account.specs.WholeSectors.{replaced, cleared}
use Rattle.account.specs.Table.{asked, first}
use Rattle.account.specs.Host.{plain_of}
use Rattle.account.specs.Follows.{Able, commanded, after_by, AcceptedCommand, after, dataless}
use Rattle.hosts.specs.Moment.{CalmBy, Calm, store_marks_of, whole_of, stored_of, stored_from, written_so_far, so_far}
use Rattle.hosts.proofs.Moment.{means_at_every_moment, at_every_moment}
use Rattle.ground.proofs.Picks.{pick-elim}

none_yet : (l : Addressed) (p : Plain) (d : List ℕ) → length d < 512 → written_so_far l p d ≡ store_marks_of p
unfolding written_so_far replaced cleared
none_yet (At i) p d h =
    let x = min-le_left (whole_of d) (write_sweep (course_of p) p.marks i (asked p.registers.count)).done in
    let y = min-le_right (whole_of d) (write_sweep (course_of p) p.marks i (asked p.registers.count)).done in
    let e : stored_of i p d ≡ 0 = omega arith in
    ap (λ (k : ℕ). stored_from i k p d) e ∙ ap (store_marks p.store p.marks) (bad-none p.bad i p.marks)
none_yet (Bad code) p d h = refl

row_none_yet : (row : CommandRow) (p : Plain) (d : List ℕ) → dataless row ≡ false → length d < 512 → so_far row p d ≡ store_marks_of p
unfolding so_far
row_none_yet Reads p d e h = refl
row_none_yet Writes p d e h = none_yet (first p) p d h
row_none_yet Verifies p d e h = refl
row_none_yet Erases p d e h = absurd (true≢false e)
row_none_yet Identifies p d e h = refl
row_none_yet ReadsBuffer p d e h = refl
row_none_yet WritesBuffer p d e h = refl
row_none_yet SetsGeometry p d e h = refl
row_none_yet Diagnoses p d e h = refl
row_none_yet Recalibrates p d e h = refl
row_none_yet Seeks p d e h = refl
row_none_yet Senses p d e h = refl
row_none_yet SetsMultiple p d e h = refl
row_none_yet ReadsMultiple p d e h = refl
row_none_yet WritesMultiple p d e h = pick-elim (λ (x : StoreMarks). x ≡ store_marks_of p) (eqb p.block 0) _ _ (λ b. refl) (λ b. none_yet (first p) p d h)
row_none_yet Others p d e h = refl

-- Nothing is stored on the Command write of a command with data, nor before the last byte of its first sector.
pub means_nothing_early : (m : Machine) (v : ℕ) (l : List Meaning) → Able m → dataless (row_of v) ≡ false → CalmBy (commanded v m) l →
    length (after_by m v l).notes.done < 512 → store_marks_in (after_by m v l).machine ≡ store_marks_in m
means_nothing_early m v l k e g h = means_at_every_moment m v l k g ∙ row_none_yet (row_of v) (plain_of m) (after_by m v l).notes.done e h

pub nothing_early : (m : Machine) (a : Asked) (v : ℕ) (l : List Asked) → AcceptedCommand m a v → dataless (row_of v) ≡ false → Calm (step m a).next l →
    length (after m a v l).notes.done < 512 → store_marks_in (after m a v l).machine ≡ store_marks_in m
nothing_early m a v l w e g h = at_every_moment m a v l w g ∙ row_none_yet (row_of v) (plain_of m) (after m a v l).notes.done e h
