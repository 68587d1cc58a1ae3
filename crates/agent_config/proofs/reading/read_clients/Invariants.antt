use Rattle.std.proofs.Common.{◌≡◌, ◌+◌, ◌++◌, drop, length, map, IsSome}
use Rattle.toml.specs.Data.{as_table}
use Rattle.toml.specs.View.{items_view}
use Rattle.agent_config.specs.Values.{each}
use Rattle.agent_config.specs.Settings.{client_of, clients_faults, first, tables_in}
use Rattle.agent_config.proofs.reading.read_clients.Given as goal

-- the clients so far have no fault, and those that are left complete them
abbrev pub invariant-loop-place : goal.invariant-loop-place
invariant-loop-place l = record {
  tables : IsSome (each as_table (items_view (drop l.place l.tables)));
  faults : first (clients_faults (l.place + 1) (tables_in (items_view (drop l.place l.tables))))
      ≡ first (clients_faults 1 (tables_in (items_view l.tables)));
  made : l.clients.items ++ map client_of (tables_in (items_view (drop l.place l.tables)))
      ≡ map client_of (tables_in (items_view l.tables));
  few : length l.clients.items ≡ l.place;
}
