-- The last block is that of the rule's places.
use Rattle.std.proofs.Common.{◌∙◌, subst}
use Rattle.wire_core.specs.Sink.{Appends, AppendsPrefix}
use Rattle.count_command.proofs.counter.CounterTeller.close.Goals as goal

pub returns-in-Done-clause-closes : goal.returns-in-Done-clause-closes
returns-in-Done-clause-closes g c = λ stage told.
    subst (Appends (g.K.Sink.written c.args.sink.now) (g.K.Sink.written c.write.new.self))
    (c.as_slice.ensures.value ∙ c.in-Ok.ensures stage told) c.in-Done.ensures.writes

pub returns-clause-closes : goal.returns-clause-closes
returns-clause-closes g c = λ stage told.
    subst (AppendsPrefix (g.K.Sink.written c.args.sink.now) (g.K.Sink.written c.write.new.self))
    (c.as_slice.ensures.value ∙ c.in-Ok.ensures stage told) c.in-Failed.ensures.writes
