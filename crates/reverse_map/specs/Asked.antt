-- The Diameter requests that a RADIUS server answers (RFC 4005, section 9.2; which ones they are is profile).
use Rattle.std.specs.Prelude.{◌≡◌, ℕ, Bool, ◌==◌, nat_le, ◌&&◌, ◌||◌, List, length, Option, Some, None, Result, Ok, Err, if◌then◌else◌}
use Rattle.diameter_avp.specs.Avps.{AvpParts, read_avps}
use Rattle.diameter_avp.specs.declared.fault.AvpFault.{AvpFault}
use Rattle.diameter_message.specs.declared.header.Header.{Header}
use Rattle.diameter_message.specs.declared.fault.MessageFault.{MessageFault}
use Rattle.diameter_message.specs.Message.{MessageParts, read_message}
use Rattle.diameter_message.specs.Finding.{only_in}
use Rattle.translation.specs.declared.direction.Direction.{Direction}
use Rattle.translation.specs.declared.direction.Direction.TheVariants.{Access, Accounting}

-- an AA-Request (RFC 4005, section 3.1) or an Accounting-Request (RFC 6733, section 9.7.1): flag R is set
abbrev pub is_served : Header → Bool
is_served h = nat_le 128 h.flags && (h.command == 265 || h.command == 271)

-- the packet that it becomes
abbrev pub direction_of : Header → Direction
direction_of h = if h.command == 265 then Access else Accounting

-- a request, with its one Session-Id and its one Origin-Host
pub record AskedParts : Type 0 where
  pub header : Header
  pub avps : List AvpParts
  pub session : List ℕ
  pub host : List ℕ

abbrev pub asked_with : Header → List AvpParts → Option (List ℕ) → Option (List ℕ) → Option AskedParts
asked_with header avps None host = None
asked_with header avps (Some session) None = None
asked_with header avps (Some session) (Some host) =
    if nat_le (length session) 4096 then Some (record { header = header; avps = avps; session = session; host = host }) else None

abbrev pub asked_by : Header → Result (List AvpParts) AvpFault → Option AskedParts
asked_by header (Ok avps) = asked_with header avps (only_in 263 (Ok avps)) (only_in 264 (Ok avps))
asked_by header (Err fault) = None

-- What a message asks, where its AVPs can be read and it has exactly one Session-Id, of at most 4096 octets, and exactly one
-- Origin-Host.
abbrev pub asked_in : MessageParts → Option AskedParts
asked_in m = asked_by m.header (read_avps m.avps)

-- so it is of what the message asks
abbrev pub ForAsked : MessageParts → (AskedParts → Type 0) → Type 0
ForAsked m P = (q : AskedParts) → asked_in m ≡ Some q → P q

-- ---- in octets

abbrev pub asked_of : Result MessageParts MessageFault → Option AskedParts
asked_of (Ok m) = if is_served m.header then asked_in m else None
asked_of (Err fault) = None

-- what octets ask, where they are one of these requests
abbrev pub request_in : List ℕ → Option AskedParts
request_in octets = asked_of (read_message octets)

-- so it is of what the octets ask
abbrev pub ForRequest : List ℕ → (AskedParts → Type 0) → Type 0
ForRequest octets P = (q : AskedParts) → request_in octets ≡ Some q → P q
