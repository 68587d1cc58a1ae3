-- What a message says to the link (RFC 6733, sections 5.3 to 5.5).
use Rattle.std.specs.Prelude.{ℕ, Bool, ◌==◌, nat_lt, ◌&&◌, ◌||◌, List, unwrap_or, if◌then◌else◌}
use Rattle.diameter_avp.specs.Avps.{read_avps, readable_avps}
use Rattle.diameter_message.specs.declared.header.Header.{Header}
use Rattle.diameter_message.specs.Message.{MessageParts}
use Rattle.diameter_message.specs.Finding.{first_number}
use Rattle.diameter_message.specs.Results.{result_in}
use Rattle.peer_machine.specs.declared.words.Said.{Said}
use Rattle.peer_machine.specs.declared.words.Said.TheVariants.{CapabilitiesRequest, CapabilitiesAnswer, WatchdogRequest, WatchdogAnswer, DisconnectRequest, DisconnectAnswer, SessionRequest, OtherRequest, ApplicationAnswer, OtherAnswer}

-- Re-Auth and Abort-Session (sections 8.3 and 8.5)
abbrev pub is_session_command : ℕ → Bool
is_session_command command = command == 258 || command == 274

-- AA, Diameter-EAP, Accounting and Session-Termination (RFC 4005; RFC 4072; RFC 6733, sections 8.4 and 9.7)
abbrev pub is_application_command : ℕ → Bool
is_application_command command = command == 265 || command == 268 || command == 271 || command == 275

unfoldable pub request_said : ℕ → List ℕ → Said
request_said command avps =
    if command == 257 then CapabilitiesRequest
    else if command == 280 then WatchdogRequest
    else if command == 282 then DisconnectRequest (unwrap_or (first_number 273 (readable_avps avps)) 0)
    else if is_session_command command then SessionRequest
    else OtherRequest

-- The link's own Capabilities-Exchange-Request has the hop 2^31.
unfoldable pub answer_said : Header → List ℕ → Said
answer_said h avps =
    if h.command == 257 && h.hop == 2147483648 then CapabilitiesAnswer (result_in (read_avps avps))
    else if h.command == 280 then WatchdogAnswer
    else if h.command == 282 then DisconnectAnswer
    else if is_application_command h.command then ApplicationAnswer
    else OtherAnswer

-- a message is a request where its flag R is set (section 3)
unfoldable pub said_in : MessageParts → Said
said_in m = if nat_lt m.header.flags 128 then answer_said m.header m.avps else request_said m.header.command m.avps
