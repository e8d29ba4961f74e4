use Rattle.std.proofs.Common.{◌+◌, drop, sym, ap, ◌∙◌}
use Rattle.text.specs.Output.{Output, output, put}
use Rattle.text.proofs.Outputs.{put_turn, put_end}
use Rattle.text.proofs.output.put.Goals as goal

pub loop-b-preserved : goal.loop-b-preserved
loop-b-preserved c =
    let l = c.loop-b in
    let t = c.args.text.now in
    let e = put_turn l.b-index t (output l.out l.next) c.loop-b-test.true in
    ap (λ (o : Output). put o (drop (l.b-index + 1) t)) c.put_byte-next.ensures ∙ sym e ∙ l.invariant

pub returns : goal.returns
returns c =
    let l = c.loop-b in
    sym (put_end l.b-index c.args.text.now (output l.out l.next) c.loop-b-test.false) ∙ l.invariant
