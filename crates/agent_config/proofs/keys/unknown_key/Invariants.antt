use Rattle.std.proofs.Common.{◌≡◌, filter, map, string_bytes}
use Rattle.std.specs.List.Sorted.{IsStrictlySortedBy}
use Rattle.std.specs.String.{string_cmp}
use Rattle.toml.specs.View.{table_view}
use Rattle.agent_config.specs.Settings.{first_unknown, is_unknown, least}
use Rattle.agent_config.proofs.keys.unknown_key.Given as goal

-- the keys that are left ascend, and have the first unknown one
abbrev pub invariant-loop-key : goal.invariant-loop-key
invariant-loop-key l = record {
  sorted : IsStrictlySortedBy string_cmp l.key-iterator;
  least : least (filter (is_unknown (map (λ k. k.now) l.known)) (map string_bytes l.key-iterator))
      ≡ first_unknown (map (λ k. k.now) l.known) (table_view l.table);
}
