use Rattle.text.proofs.Outputs.{wrote_then}
use Rattle.text.proofs.lines.letter.Goals as goal

pub returns : goal.returns
returns c =
    let p = wrote_then c.two-next.ensures c.byte.ensures in
    simp c.letter_code-code.ensures at p
