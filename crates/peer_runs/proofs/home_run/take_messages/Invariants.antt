use Rattle.std.proofs.Common.{◌≡◌, ℕ, ◌≤◌, List, [], Option}
use Rattle.wire_devices.specs.Links.{Inlet}
use Rattle.peer_runs.specs.HomeRuns.{SoFar}
use Rattle.peer_runs.proofs.HomeRunLemmas.{linked}
use Rattle.peer_runs.proofs.home_run.take_messages.Given as goal

-- the messages so far were answered
abbrev pub invariant-loop : goal.invariant-loop
invariant-loop g l = record {
  users : l.home ≡ l.fn.home;
  faults : g.K.Sink.faults l.fn.output ≤ g.K.Sink.faults l.output;
  answers : (inlet : Inlet) (before : Option (List ℕ))
      → SoFar l.fn.home [] l.fn.framer (linked inlet (g.O.LinkOut.told l.fn.link) before (g.K.Sink.written l.fn.output))
      → SoFar l.fn.home [] l.framer (linked inlet (g.O.LinkOut.told l.link) before (g.K.Sink.written l.output));
}
