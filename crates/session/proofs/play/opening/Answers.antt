use Rattle.std.proofs.Common.{◌*◌, arith, le-ltb, lt-ltb}
use Rattle.geometry.specs.Limits.{capacity_of}
use Rattle.session.specs.Play.{geometry_of, opening}
use Rattle.session.proofs.Plays.{zero_part}
use Rattle.session.proofs.play.opening.Goals as goal

pub returns-then-total-gt-MOST_SECTORS : goal.returns-then-total-gt-MOST_SECTORS
unfolding opening
returns-then-total-gt-MOST_SECTORS c =
    simp (lt-ltb _ _ (rw c.capacity-total.ensures at c.if-total-gt-MOST_SECTORS.true)) c.unopened.ensures

pub returns : goal.returns
unfolding opening
returns c =
    let h = rw c.capacity-total.ensures at c.if-total-gt-MOST_SECTORS.false in
    let e = simp (c.zero_store-store.ensures, c.zero_marks-marks.ensures, c.no_tuples-tuples.ensures, c.capacity-total.ensures) at c.opened_on.ensures in
    let n = capacity_of (geometry_of c.args.sizes) in
    simp (le-ltb _ _ h) (simp (zero_part (512 * n) 16384 (omega arith), zero_part n 32 h) at e)
