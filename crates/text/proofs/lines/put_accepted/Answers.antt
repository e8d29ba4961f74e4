use Rattle.std.proofs.Common.{◌+◌, ◌≤◌, length, sym, ◌∙◌, le_trans, lt-ltb, leb-true}
use Rattle.text.specs.Digits.{numeral}
use Rattle.text.proofs.Outputs.{put-wrote}
use Rattle.text.proofs.lines.put_accepted.Goals as goal

pub returns-then-roomy : goal.returns-then-roomy
unfolding numeral
returns-then-roomy c =
    let a = c.args in
    let h : a.at + 64 ≤ length a.out.now = leb-true _ _ (sym c.roomy.ensures ∙ c.if-roomy.true) in
    let w = c.accepted_line.ensures in
    simp (lt-ltb _ _ c.if-number-ge10000.false) (put-wrote w.0 (le_trans w.1 h))
