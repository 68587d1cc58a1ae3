use Rattle.std.proofs.Common.{◌≡◌, ◌≤◌}
use Rattle.peer_runs.specs.HomeRuns.{Rests}
use Rattle.peer_runs.specs.Until.{Early}
use Rattle.peer_runs.proofs.HomeRunLemmas.{linked}
use Rattle.peer_runs.proofs.home_run.answer_link.Given as goal

-- all that was received so far was answered, while the time wasn't over
abbrev pub invariant-loop : goal.invariant-loop
invariant-loop g l = record {
  users : l.home ≡ l.fn.home;
  faults : g.K.Sink.faults l.fn.output ≤ g.K.Sink.faults l.output;
  time : Early l.until (g.C.Clock.readings l.fn.clock) (g.C.Clock.readings l.clock);
  answers : Rests l.fn.home l.framer (linked (g.I.LinkIn.told l.link.0) (g.O.LinkOut.told l.link.1) (g.K.Sink.written l.fn.output) (g.K.Sink.written l.output));
}
