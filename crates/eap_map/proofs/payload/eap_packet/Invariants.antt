use Rattle.std.proofs.Common.{◌≡◌, ◌++◌}
use Rattle.eap_map.specs.Requests.{eap_packet}
use Rattle.eap_map.proofs.payload.eap_packet.Given as goal

-- what is joined so far and what is left make the packet
abbrev pub invariant-loop-attribute : goal.invariant-loop-attribute
invariant-loop-attribute l = l.joined.items ++ eap_packet l.attribute-iterator ≡ eap_packet l.packet.attributes
