-- The Disconnect-Request, which asks a client to end a session (RFC 5176, sections 2.1, 2.3 and 3).
use Rattle.std.specs.Prelude.{ℕ, List, [], ◌∷◌, ◌++◌, replicate, Option, Some, None}
use Rattle.md5.specs.Md5.{md5}
use Rattle.wire_core.specs.Numbers.{u32}
use Rattle.radius_packet.specs.Packet.{AttributeParts, PacketParts, packet_text}
use Rattle.agent_settings.specs.declared.client.Client.{Client}

abbrev pub attribute : ℕ → List ℕ → AttributeParts
attribute code value = record { code = code; value = value }

-- User-Name, where there is one
abbrev pub user_attributes : Option (List ℕ) → List AttributeParts
user_attributes None = []
user_attributes (Some user) = attribute 1 user ∷ []

-- What the client knows the session by: User-Name, NAS-IP-Address and Acct-Session-Id (RFC 5176, section 3; the order is
-- this profile's).
abbrev pub session_attributes : Client → Option (List ℕ) → List ℕ → List AttributeParts
session_attributes client user acct =
    user_attributes user ++ attribute 4 (u32 client.address) ∷ attribute 44 acct ∷ []

-- the parts of the Disconnect-Request that has this authenticator
abbrev pub disconnect_parts : Client → ℕ → Option (List ℕ) → List ℕ → List ℕ → PacketParts
disconnect_parts client id user acct authenticator =
    record { code = 40; id = id; authenticator = authenticator; attributes = session_attributes client user acct }

-- Its authenticator is made as that of an Accounting-Request: the MD5 of the packet that has sixteen zeros in its place,
-- and of the secret (RFC 5176, section 2.3; RFC 2866, section 3).
abbrev pub request_authenticator : Client → ℕ → Option (List ℕ) → List ℕ → List ℕ
request_authenticator client id user acct =
    md5 (packet_text (disconnect_parts client id user acct (replicate 16 0)) ++ client.secret)

-- the octets of the Disconnect-Request
unfoldable pub disconnect_text : Client → ℕ → Option (List ℕ) → List ℕ → List ℕ
disconnect_text client id user acct =
    packet_text (disconnect_parts client id user acct (request_authenticator client id user acct))
