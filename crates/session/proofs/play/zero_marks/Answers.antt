use Rattle.std.proofs.Common.{refl}
use Rattle.session.specs.Play.{zero_bytes}
use Rattle.session.proofs.play.zero_marks.Goals as goal

pub returns : goal.returns
unfolding zero_bytes
returns c = refl
