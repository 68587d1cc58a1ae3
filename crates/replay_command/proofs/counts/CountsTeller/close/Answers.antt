-- The end line is that of the rule's places.
use Rattle.std.proofs.Common.{◌∙◌, subst}
use Rattle.std.specs.Prelude.{option_copied}
use Rattle.wire_core.specs.Sink.{Appends, AppendsPrefix}
use Rattle.replay_command.proofs.CountLemmas.{end-is}
use Rattle.replay_command.proofs.counts.CountsTeller.close.Goals as goal

pub returns-in-Done-clause-closes : goal.returns-in-Done-clause-closes
returns-in-Done-clause-closes g c = λ stage told.
    subst (Appends (g.K.Sink.written c.args.sink.now) (g.K.Sink.written c.write.new.self))
    (end-is (option_copied c.args._core) c.args.self.now stage c.as_slice.result.now (c.as_slice.ensures ∙ c.in-Ok.ensures) told) c.in-Done.ensures.writes

pub returns-clause-closes : goal.returns-clause-closes
returns-clause-closes g c = λ stage told.
    subst (AppendsPrefix (g.K.Sink.written c.args.sink.now) (g.K.Sink.written c.write.new.self))
    (end-is (option_copied c.args._core) c.args.self.now stage c.as_slice.result.now (c.as_slice.ensures ∙ c.in-Ok.ensures) told) c.in-Failed.ensures.writes
