-- Internal: the attribute of one member, where it has one.
use Rattle.std.specs.Prelude.{Bool, true, [], ◌∷◌, Option, Some, None}
use Rattle.radius_packet.specs.Packet.{AttributeParts}
use Rattle.radius_packet.specs.Seals.{ReplyParts, has_room}
use Rattle.tunnel_map.specs.Groups.{with_attributes}

abbrev pub has_room_for_own : ReplyParts → Option AttributeParts → Bool
has_room_for_own r None = true
has_room_for_own r (Some a) = has_room r a.value

abbrev pub with_own : ReplyParts → Option AttributeParts → ReplyParts
with_own r None = r
with_own r (Some a) = with_attributes r (a ∷ [])
