use Rattle.std.proofs.Common.{◌≡◌, ◌/◌, ◌%◌, arith, le-leb}
use borrow.Author.Tests.{lt-leb}
use Rattle.text.specs.Digits.{short_numeral}
use Rattle.text.proofs.Outputs.{wrote_then}
use Rattle.text.proofs.digits.short_numeral.Goals as goal

pub returns-then-number-ge1000 : goal.returns-then-number-ge1000
unfolding short_numeral
returns-then-number-ge1000 c =
    let o : c.args.number.digits / 0x1000000 % 256 ≡ c.args.number.digits / 0x1000000 = omega arith in
    let p = rw (c.to_le_bytes.ensures, o) at (wrote_then c.two-after_hundreds.ensures c.two.ensures) in
    let e = p.place in
    (simp (le-leb _ _ c.if-number-ge1000.true) p, omega arith)

pub returns-then-number-ge100 : goal.returns-then-number-ge100
unfolding short_numeral
returns-then-number-ge100 c =
    let o : c.args.number.digits / 0x1000000 % 256 ≡ c.args.number.digits / 0x1000000 = omega arith in
    let p = rw (c.to_le_bytes.ensures, o) at (wrote_then c.byte-after_hundreds.ensures c.two-then-number-ge100.ensures) in
    let e = p.place in
    (simp (lt-leb _ _ c.if-number-ge1000.false, le-leb _ _ c.if-number-ge100.true) p, omega arith)
