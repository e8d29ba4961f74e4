use Rattle.std.proofs.Common.{arith}
use Rattle.text.specs.Digits.{digit_count}
use Rattle.text.proofs.Texts.{last_length}
use Rattle.text.proofs.digits.decimal.Goals as goal

pub returns : goal.returns
returns c =
    let a = c.args in
    let n = c.digit_count-count.ensures in
    let e = c.last_digits.ensures in
    let d = last_length (digit_count a.n) a.n in
    (record { bytes = rw n.0 at e; place = omega arith }, omega arith)
