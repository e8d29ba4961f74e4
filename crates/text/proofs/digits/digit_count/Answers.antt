use Rattle.std.proofs.Common.{◌≡◌, ◌+◌, ◌-◌, arith}
use Rattle.text.proofs.Texts.{further_small, further_more, further_none}
use Rattle.text.proofs.digits.digit_count.Goals as goal

pub returns-then-left-lt10 : goal.returns-then-left-lt10
returns-then-left-lt10 c =
    let l = c.loop-count in
    let e = further_small (20 - l.count) l.left c.if-left-lt10.true in
    (omega arith, omega arith)

pub loop-count-preserved : goal.loop-count-preserved
loop-count-preserved c =
    let l = c.loop-count in
    let e = further_more (20 - l.count) l.left (omega arith) c.if-left-lt10.false in
    let f : 20 - (l.count + 1) ≡ 20 - l.count - 1 = omega arith in
    rw f (omega arith)

pub returns : goal.returns
returns c =
    let l = c.loop-count in
    let e = further_none (20 - l.count) l.left (omega arith) in
    (omega arith, omega arith)
