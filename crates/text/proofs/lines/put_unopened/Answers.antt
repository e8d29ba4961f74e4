use Rattle.text.proofs.Outputs.{put_both}
use Rattle.text.proofs.lines.put_unopened.Goals as goal

pub returns : goal.returns
returns c =
    put_both _ _ _ _ _ c.put-next.ensures (rw c.from.ensures at c.put_number.ensures)
