-- The attributes that a reply hands back.
use Rattle.std.proofs.Common.{◌≡◌, ℕ, List, ◌∙◌, sym, ap}
use Rattle.radius_packet.specs.Packet.{AttributeParts, attributes_in, attributes_text}
use Rattle.radius_packet.proofs.Reading.{attributes_in-text}

-- the octets of attributes are read as whole attributes
pub are_whole : (octets : List ℕ) (list : List AttributeParts) → octets ≡ attributes_text list → octets ≡ attributes_text (attributes_in octets)
are_whole octets list text = text ∙ ap attributes_text (sym (ap attributes_in text ∙ attributes_in-text list))
