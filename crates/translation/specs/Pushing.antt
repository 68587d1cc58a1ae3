-- A reply while attributes are pushed.
use Rattle.std.specs.Prelude.{◌≡◌, ℕ, ◌+◌, Bool, false, IsTrue, nat_le, ◌&&◌, ◌||◌, List, [], ◌∷◌, ◌++◌, length, min, if◌then◌else◌}
use Rattle.radius_packet.specs.Packet.{AttributeParts, attributes_text}
use Rattle.radius_packet.specs.Seals.{ReplyParts, reply_length}
use Rattle.diameter_avp.specs.Avps.{AvpParts, is_mandatory}
use Rattle.tunnel_map.specs.Groups.{with_attributes}
use Rattle.tunnel_map.specs.RoundTrip.{is_group}
use Rattle.translation.specs.declared.class.Class.{Class}
use Rattle.translation.specs.Reading.{is_faulty}
use Rattle.translation.specs.Replies.{image}

abbrev pub fits : ReplyParts → List AttributeParts → Bool
fits r attributes = nat_le (reply_length r + length (attributes_text attributes)) 4096

-- these attributes were pushed, exactly where nothing is at fault and all of them have room
pub record Pushes (old new : ReplyParts) (ok good : Bool) (attributes : List AttributeParts) : Type 0 where
  pub succeeds : ok ≡ (good && fits old attributes)
  pub pushed : IsTrue ok → new ≡ with_attributes old attributes

-- the number of the next group, after which all have too great a number
abbrev pub next_number : ℕ → AvpParts → ℕ
next_number number a = if is_group a then min (number + 1) 255 else number

abbrev pub images_from : Class → ℕ → List AvpParts → List AttributeParts
images_from class number [] = []
images_from class number (a ∷ rest) = image class number a ++ images_from class (next_number number a) rest

abbrev pub fault_from : Class → ℕ → List AvpParts → Bool
fault_from class number [] = false
fault_from class number (a ∷ rest) =
    (is_mandatory a && is_faulty class number a) || fault_from class (next_number number a) rest
