use Rattle.std.proofs.Common.{◌≡◌, List}
use Rattle.turnstile.specs.Passes.{known, table_of}
use Rattle.server_workers.specs.Entries.{AreBlank, RunTurn}
use Rattle.server_workers.specs.Going.{Went}
use Rattle.server_workers.proofs.turns.take_leave.Given as goal

-- each turn so far was blank
abbrev pub invariant-loop : goal.invariant-loop
invariant-loop g l = (table_of l.pass ≡ table_of l.initial.pass)
    × ((blanks : List RunTurn) × Went blanks (known l.initial.pass) (known l.pass) × AreBlank blanks)
