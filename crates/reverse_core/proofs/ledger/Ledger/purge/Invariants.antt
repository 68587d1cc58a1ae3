use Rattle.std.proofs.Common.{◌≡◌, ◌≤◌, filter, length}
use Rattle.indexmap.specs.IndexMap.{spare}
use Rattle.reverse_core.specs.Requests.{is_kept}
use Rattle.reverse_core.specs.State.{IsSound}
use Rattle.reverse_core.proofs.ledger.Ledger.purge.Given as goal

abbrev pub decreases-loop-past : goal.decreases-loop-past
decreases-loop-past l = length l.self.kept.list

-- what is still to be kept is what was at the beginning
abbrev pub invariant-loop-past : goal.invariant-loop-past
invariant-loop-past l = record {
  sound : IsSound l.self;
  own : l.self.own ≡ l.fn.self.own;
  open_ones : l.self.open_ones ≡ l.fn.self.open_ones;
  kept : filter (is_kept l.fn.self.own l.moment) l.self.kept.list ≡ filter (is_kept l.fn.self.own l.moment) l.fn.self.kept.list;
  moment : l.self.moment ≡ l.fn.self.moment;
  room : spare l.fn.self.index ≤ spare l.self.index;
}
