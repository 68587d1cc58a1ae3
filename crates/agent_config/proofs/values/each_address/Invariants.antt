use Rattle.std.proofs.Common.{◌≡◌, ◌++◌, drop, option_map}
use Rattle.toml.specs.View.{items_view}
use Rattle.agent_config.specs.Values.{address_of, each}
use Rattle.agent_config.proofs.values.each_address.Given as goal

-- what is left completes what was read
abbrev pub invariant-loop-value : goal.invariant-loop-value
invariant-loop-value l =
    option_map (λ further. l.addresses.items ++ further) (each address_of (items_view (drop l.value-index l.array)))
    ≡ each address_of (items_view l.array)
