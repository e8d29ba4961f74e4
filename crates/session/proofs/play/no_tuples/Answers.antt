use Rattle.std.proofs.Common.{refl}
use Rattle.session.specs.Play.{no_tuples}
use Rattle.session.proofs.play.no_tuples.Goals as goal

pub returns : goal.returns
unfolding no_tuples
returns c = refl
