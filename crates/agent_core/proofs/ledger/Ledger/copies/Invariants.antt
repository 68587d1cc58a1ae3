-- What was put so far, and what is still to be sent again.
use Rattle.std.proofs.Common.{◌≡◌, ◌+◌, ◌≤◌, ◌++◌, length}
use Rattle.std.specs.List.{AllByRecursion}
use Rattle.agent_core.specs.Machine.{kept_resends}
use Rattle.agent_core.specs.Standing.{IsWhole}
use Rattle.agent_core.proofs.LinkLemmas.Resending.{sends_from}
use Rattle.agent_core.proofs.ledger.Ledger.copies.Given as goal

abbrev pub invariant-loop-sent : goal.invariant-loop-sent
invariant-loop-sent l = record {
  together : l.outputs ++ sends_from l.hop l.sent-iterator ≡ kept_resends l.self;
  few : l.hop + length l.sent-iterator ≤ 65536;
  whole : AllByRecursion IsWhole l.sent-iterator;
}
