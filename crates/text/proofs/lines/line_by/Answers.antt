use Rattle.std.proofs.Common.{arith}
use Rattle.text.proofs.Outputs.{wrote_then}
use Rattle.text.proofs.lines.line_by.Goals as goal

pub returns : goal.returns
returns c =
    let p = wrote_then c.numeral-after_number.ensures.0 (wrote_then c.letter-after_letter.ensures (wrote_then c.decimal-after_answer.ensures.0 (wrote_then c.byte-after_blank.ensures (wrote_then c.hex_by-after_value.ensures c.byte.ensures)))) in
    let a = c.numeral-after_number.ensures.1 in
    let b = c.letter-after_letter.ensures.place in
    let d = c.decimal-after_answer.ensures.1 in
    let e = c.byte-after_blank.ensures.place in
    let f = c.hex_by-after_value.ensures.place in
    let g = c.byte.ensures.place in
    (rw c.from.ensures at p, omega arith)
