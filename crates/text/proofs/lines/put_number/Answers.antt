use Rattle.std.proofs.Common.{ap, ◌∙◌, arith}
use Rattle.text.specs.Output.{put}
use Rattle.text.proofs.Outputs.{wrote_then, written_text}
use Rattle.text.proofs.lines.put_number.Goals as goal

pub returns : goal.returns
returns c =
    let d = c.decimal-after_number.ensures in
    let p = c.byte-size.ensures.place in
    let w = wrote_then d.0 c.byte-size.ensures in
    let e = written_text w (omega (arith, d.1)) in
    c.put.ensures ∙ ap (put _) e
