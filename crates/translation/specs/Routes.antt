-- What the attributes of a packet say of the session and of where its request goes (RFC 4005, section 9; profile).
use Rattle.std.specs.Prelude.{ℕ, Bool, ◌==◌, List, [], ◌∷◌, find, Option, Some, None, option_and_then, if◌then◌else◌}
use Rattle.std.specs.Option.{option_or}
use Rattle.wire_core.specs.Words.{is_identity}
use Rattle.radius_packet.specs.Packet.{AttributeParts}
use Rattle.session_carrier.specs.Carriers.{CarriedParts, read_state, read_class}
use Rattle.translation.specs.declared.direction.Direction.TheVariants.{Access, Accounting}
use Rattle.translation.specs.Images.{is_carrier}

-- what the first State that carries a session carries
abbrev pub carried_state : List AttributeParts → Option CarriedParts
carried_state attributes = option_and_then (λ a. read_state a.value) (find (is_carrier Access) attributes)

-- the session that the first such Class carries
abbrev pub carried_class : List AttributeParts → Option (List ℕ)
carried_class attributes = option_and_then (λ a. read_class a.value) (find (is_carrier Accounting) attributes)

-- what stands behind the last `@`
abbrev pub behind_last_at : List ℕ → Option (List ℕ)
behind_last_at [] = None
behind_last_at (x ∷ rest) = option_or (behind_last_at rest) (if x == 64 then Some rest else None)

abbrev pub identity : List ℕ → Option (List ℕ)
identity octets = if is_identity octets then Some octets else None

-- the realm in the name of a user (RFC 4282, section 2.1)
abbrev pub realm_in : List ℕ → Option (List ℕ)
realm_in name = option_and_then identity (behind_last_at name)

abbrev pub is_user_name : AttributeParts → Bool
is_user_name a = a.code == 1

-- the realm in the first User-Name
abbrev pub name_realm : List AttributeParts → Option (List ℕ)
name_realm attributes = option_and_then (λ a. realm_in a.value) (find is_user_name attributes)
