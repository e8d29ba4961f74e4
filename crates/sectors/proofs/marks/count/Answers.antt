use Rattle.std.proofs.Common.{rules}
use Rattle.sectors.proofs.Counting.{bad_more, fit_more, bad_end, fit_end}
use Rattle.sectors.proofs.marks.count.Goals as goal

pub loop-mark-preserved : goal.loop-mark-preserved
loop-mark-preserved c =
    let l = c.loop-mark in
    let m = c.args.marks.now in
    let bad = bad_more m l.mark-index l.bad (search rules) l.invariant.1 in
    let fit = fit_more m l.mark-index l.fit (search rules) l.invariant.2 in
    (search rules, search rules, search rules)

pub returns : goal.returns
returns c =
    let l = c.loop-mark in
    let m = c.args.marks.now in
    let bad = bad_end m l.mark-index l.bad (search rules) l.invariant.1 in
    let fit = fit_end m l.mark-index l.fit (search rules) l.invariant.2 in
    (simp (bad, fit), search rules)
