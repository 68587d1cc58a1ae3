-- The answers of the home server (RFC 6733, sections 5.3 to 5.5, 6.2, 8.4 and 9.7; RFC 4005, section 3; which result
-- is given, and the order of the AVPs, are the profile's).
use Rattle.std.specs.Prelude.{ℕ, Bool, false, ◌==◌, nat_le, ◌||◌, bit_and, bit_or, List, [], ◌∷◌, ◌++◌, length, find, codes, Option, Some, None, Result, Ok, Err, if◌then◌else◌}
use Rattle.wire_core.specs.Numbers.{u32}
use Rattle.diameter_avp.specs.Avps.{AvpParts, made, avps_text, readable_avps}
use Rattle.diameter_message.specs.declared.header.Header.{Header}
use Rattle.diameter_message.specs.declared.fault.MessageFault.{MessageFault}
use Rattle.diameter_message.specs.Finding.{has_size}
use Rattle.diameter_message.specs.Message.{MessageParts, message_text}
use Rattle.diameter_message.specs.PlainAvps.{origin_avps, plain_avp}
use Rattle.test_peers.specs.declared.users.User.{User}
use Rattle.test_peers.specs.Finding.{first_avp, is_welcome}

-- Capabilities-Exchange, Device-Watchdog, Disconnect-Peer, Accounting and Session-Termination, which are always granted
abbrev pub is_granted : ℕ → Bool
is_granted command = command == 257 || command == 280 || command == 282 || command == 271 || command == 275

-- 2001 is success, 4001 AUTHENTICATION_REJECTED
abbrev pub login_result : Bool → ℕ
login_result welcome = if welcome then 2001 else 4001

-- an AA-Request by its user and password; 3001 is COMMAND_UNSUPPORTED
abbrev pub result_of : List User → ℕ → List AvpParts → ℕ
result_of users command avps =
    if command == 265 then login_result (is_welcome users avps)
    else if is_granted command then 2001
    else 3001

-- ---- the AVPs

-- the request's Session-Id, of at most 4096 octets
abbrev pub session_avps : Option AvpParts → List AvpParts
session_avps None = []
session_avps (Some a) = if nat_le (length a.body) 4096 then plain_avp 263 a.body ∷ [] else []

-- the same number as in the request, where it has one
abbrev pub same_avps : ℕ → Option AvpParts → List AvpParts
same_avps code None = []
same_avps code (Some a) = plain_avp code a.body ∷ []

abbrev pub same_number : ℕ → List AvpParts → List AvpParts
same_number code avps = same_avps code (find (has_size code 4 4) avps)

-- Host-IP-Address 127.0.0.1, Vendor-Id, Product-Name, the one AVP with M clear
abbrev pub product : List AvpParts
product =
    plain_avp 257 (0 ∷ 1 ∷ 127 ∷ 0 ∷ 0 ∷ 1 ∷ []) ∷ plain_avp 266 (u32 0) ∷ made 269 None false (codes "home") ∷ []

-- the product, Auth-Application-Id, Acct-Application-Id
abbrev pub capabilities : List AvpParts
capabilities = product ++ plain_avp 258 (u32 1) ∷ plain_avp 259 (u32 3) ∷ []

-- what stands after Origin-Realm: the capabilities; Auth-Application-Id and the request's Auth-Request-Type; the
-- request's Accounting-Record-Type and Accounting-Record-Number
abbrev pub details : ℕ → List AvpParts → List AvpParts
details command avps =
    if command == 257 then capabilities
    else if command == 265 then plain_avp 258 (u32 1) ∷ same_number 274 avps
    else if command == 271 then same_number 480 avps ++ same_number 485 avps
    else []

-- the first Session-Id, Result-Code, Origin-Host, Origin-Realm, and then the details
abbrev pub answer_avps : ℕ → ℕ → List AvpParts → List AvpParts
answer_avps code command avps =
    session_avps (first_avp 263 avps)
    ++ (plain_avp 268 (u32 code) ∷ (origin_avps (codes "home.example") (codes "example") ++ details command avps))

-- ---- the answer

-- E, where the command isn't known
abbrev pub error_flag : ℕ → ℕ
error_flag code = if code == 3001 then 32 else 0

-- the request's header, with its flag P alone, and E where there is an error
abbrev pub answer_header : Header → ℕ → Header
answer_header h code =
    record { flags = bit_or (bit_and h.flags 64) (error_flag code); command = h.command; application = h.application; hop = h.hop; end = h.end }

abbrev pub answer_with : ℕ → Header → List AvpParts → List ℕ
answer_with code h avps = message_text (answer_header h code) (avps_text (answer_avps code h.command avps))

-- to a request, by those of its AVPs that can be read
unfoldable pub answer_text : List User → MessageParts → List ℕ
answer_text users m =
    let avps = readable_avps m.avps in
    answer_with (result_of users m.header.command avps) m.header avps

-- a message is a request where its flag R is set (RFC 6733, section 3)
abbrev pub is_request : Header → Bool
is_request h = nat_le 128 h.flags

-- an answer isn't answered
abbrev pub reply_to : List User → MessageParts → Option (List ℕ)
reply_to users m = if is_request m.header then Some (answer_text users m) else None

-- and so is what is no message
abbrev pub answer_by_home : List User → Result MessageParts MessageFault → Option (List ℕ)
answer_by_home users (Ok m) = reply_to users m
answer_by_home users (Err fault) = None
