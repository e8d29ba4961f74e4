use Rattle.registers.specs.PowerOn.{zeros}
use Rattle.card.proofs.opening.open_refused.Goals as goal

pub returns : goal.returns
unfolding zeros
returns c = simp (c.answer.ensures, c.refused.ensures, c.zero_state.ensures)
