use Rattle.text.proofs.Outputs.{wrote_then}
use Rattle.text.proofs.output.two.Goals as goal

pub returns : goal.returns
returns c = wrote_then c.byte-next.ensures c.byte.ensures
