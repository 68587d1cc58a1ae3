use Rattle.std.proofs.Common.{◌≡◌, ◌+◌, ◌≤◌, drop, filter, length}
use Rattle.std.specs.BTreeMap.{values, btree_map_len}
use Rattle.pending_table.specs.Stores.{is_live}
use Rattle.pending_table.proofs.stores.Stores.live_waiting.Given as goal

-- as many are passed as were counted, up to the number of the dead ones
abbrev pub invariant-loop : goal.invariant-loop
invariant-loop l =
    (l.rows ≡ drop l.counter (values l.self.waiting)) ×
    (l.counter ≤ l.end) ×
    (l.end + length (filter (is_live l.self l.moment) (values l.self.waiting)) ≡ btree_map_len l.self.waiting)
