use Rattle.std.proofs.Common.{refl, inl, inr}
use Rattle.peer_runs.proofs.EndingLemmas.{reading-complete, runs-timed}
use Rattle.peer_runs.proofs.home_run.home.Goals as goal

pub returns-in-Err-clause-complete : goal.returns-in-Err-clause-complete
returns-in-Err-clause-complete g c = λ X users told known short reads writes dials sound.
    inr (reading-complete c.in-Err.status X users (g.S.Source.left c.read_users.new.input) (g.S.Source.faults c.args.input.now) (g.S.Source.faults c.read_users.new.input)
    c.in-Err.ensures.fails (c.in-Err.ensures.reads X told) known short reads)

pub returns-in_default-clause-ends : goal.returns-in_default-clause-ends
returns-in_default-clause-ends g c = λ X told. (refl, inr (c.in-Ok.home, c.in-Ok.ensures.reads X told, c.in_default.ensures.dialled, refl))

pub returns-clause-ends : goal.returns-clause-ends
returns-clause-ends g c = λ X told. (
  c.in-Ok.home,
  c.in-Ok.ensures.reads X told,
  record { row = c.in-Some.ensures.dialled.row; faults = c.in-Some.ensures.dialled.faults },
  runs-timed c.answer_link-status.result c.in-Ok.home (g.L.In.LinkIn.told c.answer_link-status.new.link.0) (g.L.Out.LinkOut.told c.answer_link-status.new.link.1)
      (g.K.Sink.written c.args.output.now) (g.K.Sink.written c.answer_link-status.new.output) c.now.result c.args.millis c.saturating_add-until.result
      (g.C.Clock.readings c.args.clock.now) (g.C.Clock.readings c.now.new.self) (g.C.Clock.readings c.answer_link-status.new.clock)
      c.now.ensures c.saturating_add-until.ensures c.answer_link-status.ensures.runs,
)

pub returns-in-Err-clause-causes : goal.returns-in-Err-clause-causes
returns-in-Err-clause-causes g c = (refl, inl c.in-Err.ensures.fails)

pub returns-in_default-clause-causes : goal.returns-in_default-clause-causes
returns-in_default-clause-causes g c = (refl, inr (c.in_default.ensures.dialled, refl))

pub returns-clause-causes : goal.returns-clause-causes
returns-clause-causes g c = (
  c.in-Ok.home,
  record { row = c.in-Some.ensures.dialled.row; faults = c.in-Some.ensures.dialled.faults },
  runs-timed c.answer_link-status.result c.in-Ok.home (g.L.In.LinkIn.told c.answer_link-status.new.link.0) (g.L.Out.LinkOut.told c.answer_link-status.new.link.1)
      (g.K.Sink.written c.args.output.now) (g.K.Sink.written c.answer_link-status.new.output) c.now.result c.args.millis c.saturating_add-until.result
      (g.C.Clock.readings c.args.clock.now) (g.C.Clock.readings c.now.new.self) (g.C.Clock.readings c.answer_link-status.new.clock)
      c.now.ensures c.saturating_add-until.ensures c.answer_link-status.ensures.runs,
)
