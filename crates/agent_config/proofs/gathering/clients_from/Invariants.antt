use Rattle.std.proofs.Common.{◌≡◌, ◌++◌, length}
use Rattle.std.specs.Vec.Iter.{into_iter_items}
use Rattle.agent_config.proofs.Twice.{seconds_from, seconds}
use Rattle.agent_config.proofs.gathering.clients_from.Given as goal

-- the clients so far and those that are left are all; what comes second among all stands among those that are left
abbrev pub invariant-loop-client : goal.invariant-loop-client
invariant-loop-client l = record {
  all : l.made ++ into_iter_items l.client-iterator ≡ l.fn.clients.items;
  second : seconds_from l.fn.clients.items (length l.made) (into_iter_items l.client-iterator) ≡ seconds l.fn.clients.items;
}
