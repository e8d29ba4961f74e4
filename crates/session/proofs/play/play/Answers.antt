use Rattle.session.proofs.Plays.{after-header, text_lies}
use Rattle.std.proofs.Common.{ap, ◌∙◌}
use Rattle.text.specs.Output.{Output}
use Rattle.session.specs.Run.{printed_at}
use Rattle.session.specs.Play.{session_of}
use Rattle.session.proofs.play.play.Goals as goal

pub returns-clause-out_after : goal.returns-clause-out_after
returns-clause-out_after c =
    c.session.ensures ∙ ap (λ (o : Output). printed_at o (session_of c.args.file.now)) c.put_header-at.ensures ∙ after-header c.args.out.now c.args.file.now

pub returns-clause-lies_in : goal.returns-clause-lies_in
returns-clause-lies_in c = text_lies c.args.out.now c.args.file.now _ _ (returns-clause-out_after c)
