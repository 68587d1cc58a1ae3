use Rattle.std.proofs.Common.{◌≡◌, ◌≤◌, ◌++◌, length}
use Rattle.std.specs.List.{AllByRecursion}
use Rattle.radius_packet.specs.Packet.{attributes_text}
use Rattle.translation.specs.Judging.{proxy_states}
use Rattle.translation.proofs.proxies.proxy_states.Given as goal

-- what is joined so far and what is left make all of them, and no value is too long
abbrev pub invariant-loop-attribute : goal.invariant-loop-attribute
invariant-loop-attribute l = record {
  joined : l.joined.items ++ attributes_text (proxy_states l.attribute-iterator) ≡ attributes_text (proxy_states l.packet.attributes);
  values : AllByRecursion (λ a. length a.value ≤ 253) l.attribute-iterator;
}
