use Rattle.std.specs.Prelude.{◌≡◌}
use Rattle.turnstile.specs.Passes.{known, table_of}
use Rattle.server_tests.proofs.turns.visit_often.Given as goal

abbrev pub invariant-loop : goal.invariant-loop
invariant-loop g l = (table_of l.pass ≡ table_of l.initial.pass) × ((known l.pass).numbers ≡ (known l.initial.pass).numbers)
