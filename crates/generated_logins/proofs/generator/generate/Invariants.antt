use Rattle.std.proofs.Common.{◌≡◌, length}
use Rattle.generated_logins.specs.Generator.{generated_text}
use Rattle.generated_logins.proofs.GeneratorLemmas.{WritesOn}
use Rattle.generated_logins.proofs.generator.generate.Given as goal

abbrev pub invariant-loop-line : goal.invariant-loop-line
invariant-loop-line g l = record {
  writes : WritesOn (g.K.Sink.written l.fn.sink) (g.K.Sink.written l.sink) l.generator (generated_text l.fn.count l.fn.seed);
  faults : g.K.Sink.faults l.sink ≡ g.K.Sink.faults l.fn.sink;
}

abbrev pub decreases-loop-line : goal.decreases-loop-line
decreases-loop-line g l = length l.generator
