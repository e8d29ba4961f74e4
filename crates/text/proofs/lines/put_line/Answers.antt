use Rattle.std.proofs.Common.{◌+◌, ◌≤◌, length, sym, ap, ◌∙◌, le_trans, leb-true}
use Rattle.text.specs.Output.{put}
use Rattle.text.proofs.Outputs.{put-wrote, written_text}
use Rattle.text.proofs.lines.put_line.Goals as goal

pub returns-then-roomy : goal.returns-then-roomy
returns-then-roomy c =
    let a = c.args in
    let h : a.at + 64 ≤ length a.out.now = leb-true _ _ (sym c.roomy.ensures ∙ c.if-roomy.true) in
    let w = c.line_by.ensures in
    put-wrote w.0 (le_trans w.1 h)

pub returns-else-roomy : goal.returns-else-roomy
returns-else-roomy c =
    let w = c.line_by-size.ensures.0 in
    let e = written_text w c.line_by-size.ensures.1 in
    c.put.ensures ∙ ap (put _) e
