use Rattle.std.proofs.Common.{◌≡◌, ◌≤◌, List, length, map}
use Rattle.std.specs.Vec.Iter.{into_iter_items, into_iter_len}
use Rattle.agent_settings.specs.declared.config.Config.{Config}
use Rattle.session_book.specs.declared.events.BookInput.TheVariants.{Core}
use Rattle.session_book.specs.Places.{BookPlace}
use Rattle.dynamic_command.specs.Running.{RunsAt}
use Rattle.dynamic_command.proofs.RunLemmas.{InRun}
use Rattle.dynamic_command.proofs.session.run_inputs.Given as goal

-- the inputs so far were run, and what they print was written
abbrev pub invariant-loop-input : goal.invariant-loop-input
invariant-loop-input g l = record {
  runs : (config : Config) (ps : List BookPlace) → RunsAt l.initial.book l.initial.counts config ps
      → InRun l.book l.counts config ps l.number l.moment (map Core l.fn.inputs.items) (map Core (into_iter_items l.input-iterator))
      (g.K.Sink.written l.initial.sink) (g.K.Sink.written l.sink);
  left : into_iter_len l.input-iterator ≡ length (into_iter_items l.input-iterator);
  faults : g.K.Sink.faults l.initial.sink ≤ g.K.Sink.faults l.sink;
}
