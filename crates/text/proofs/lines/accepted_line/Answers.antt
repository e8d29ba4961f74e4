use Rattle.std.proofs.Common.{arith}
use Rattle.text.specs.Digits.{further_digits, last_digits}
use Rattle.text.proofs.Outputs.{wrote_then}
use Rattle.text.proofs.lines.accepted_line.Goals as goal

pub returns : goal.returns
unfolding further_digits last_digits
returns c =
    let p = wrote_then c.short_numeral-after_number.ensures.0 (wrote_then c.letter-after_letter.ensures (wrote_then c.two-after_blank.ensures (wrote_then c.hex_by-after_value.ensures c.byte.ensures))) in
    let a = c.short_numeral-after_number.ensures.1 in
    let b = c.letter-after_letter.ensures.place in
    let d = c.two-after_blank.ensures.place in
    let f = c.hex_by-after_value.ensures.place in
    let g = c.byte.ensures.place in
    (p, omega arith)
