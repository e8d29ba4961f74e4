use Rattle.std.proofs.Common.{length, ◌≤◌, ◌≡◌, ℕ, ◌<◌, false, eqb, List, Result, sym, ◌∙◌, arith, le-ltb, lt-ltb, ne_eqb}
use Rattle.records.specs.declared.Break.{Break}
use Rattle.records.specs.declared.Sizes.{Sizes}
use Rattle.records.specs.Record.{first_record}
use Rattle.session.specs.Play.{longest_file, by_first, session_of}
use Rattle.session.proofs.play.session.Goals as goal

-- what the first record of a file comes to, where the file is neither empty nor too long
by_record : (file : List ℕ) (x y : Result Sizes Break) → length file ≤ longest_file → eqb (length file) 0 ≡ false → y ≡ first_record file → y ≡ x → session_of file ≡ by_first x file
unfolding session_of
by_record file x y l z r e = simp (le-ltb _ _ l, z, sym r ∙ e)

-- a file that is too long is not empty
not_empty : (n : ℕ) → longest_file < n → eqb n 0 ≡ false
not_empty n h = ne_eqb n 0 (λ e. omega arith)

pub returns-then-file-gt-LONGEST_FILE : goal.returns-then-file-gt-LONGEST_FILE
unfolding session_of
returns-then-file-gt-LONGEST_FILE c =
    simp (not_empty _ c.if-file-gt-LONGEST_FILE.true, lt-ltb _ _ c.if-file-gt-LONGEST_FILE.true) c.bad.ensures

pub returns-then-is_empty : goal.returns-then-is_empty
unfolding session_of
returns-then-is_empty c =
    simp (le-ltb _ _ c.if-file-gt-LONGEST_FILE.false, sym c.is_empty.ensures ∙ c.if-is_empty.true) c.bad-then-is_empty.ensures

pub returns-in-Ok : goal.returns-in-Ok
returns-in-Ok c =
    rw (by_record c.args.file.now _ _ c.if-file-gt-LONGEST_FILE.false (sym c.is_empty.ensures ∙ c.if-is_empty.false) c.first_record.ensures c.in-Ok.is) c.opening.ensures

pub returns-in-Err : goal.returns-in-Err
returns-in-Err c =
    rw (by_record c.args.file.now _ _ c.if-file-gt-LONGEST_FILE.false (sym c.is_empty.ensures ∙ c.if-is_empty.false) c.first_record.ensures c.in-Err.is) c.bad-in-Err.ensures
