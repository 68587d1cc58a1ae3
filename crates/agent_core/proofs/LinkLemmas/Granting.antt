-- Which message is an answer of success to the capabilities' request.
use Rattle.std.proofs.Common.{◌≡◌, ℕ, Bool, true, false, cond, ◌&&◌, List, refl, sym}
use Rattle.std.specs.Prelude.{◌==◌, nat_lt, unwrap_or}
use Rattle.diameter_avp.specs.Avps.{read_avps, readable_avps}
use Rattle.diameter_message.specs.declared.header.Header.{Header}
use Rattle.diameter_message.specs.Finding.{first_number}
use Rattle.diameter_message.specs.Message.{MessageParts}
use Rattle.diameter_message.specs.Results.{is_success, result_in}
use Rattle.peer_machine.specs.declared.words.Said.{Said}
use Rattle.peer_machine.specs.declared.words.Said.TheVariants.{CapabilitiesRequest, CapabilitiesAnswer, WatchdogRequest, WatchdogAnswer, DisconnectRequest, DisconnectAnswer, SessionRequest, OtherRequest, ApplicationAnswer, OtherAnswer}
use Rattle.peer_machine.specs.Reading.{said_in, answer_said, request_said, is_application_command, is_session_command}
use Rattle.agent_core.specs.Links.{is_grant}

ungranted-if : (b : Bool) (x y : Said) → is_grant x ≡ false → is_grant y ≡ false → is_grant (cond b x y) ≡ false
ungranted-if true x y e f = e
ungranted-if false x y e f = f

ungranted-request : (command : ℕ) (avps : List ℕ) → is_grant (request_said command avps) ≡ false
unfolding request_said
ungranted-request command avps =
    ungranted-if (command == 257) CapabilitiesRequest _ refl
    (ungranted-if (command == 280) WatchdogRequest _ refl
    (ungranted-if (command == 282) (DisconnectRequest (unwrap_or (first_number 273 (readable_avps avps)) 0)) _ refl
    (ungranted-if (is_session_command command) SessionRequest OtherRequest refl refl)))

granted-answer : (h : Header) (avps : List ℕ) → ((h.command == 257 && h.hop == 2147483648) && is_success (result_in (read_avps avps))) ≡ is_grant (answer_said h avps)
unfolding answer_said
granted-answer h avps =
    let others : Said = cond (h.command == 280) WatchdogAnswer (cond (h.command == 282) DisconnectAnswer (cond (is_application_command h.command) ApplicationAnswer OtherAnswer)) in
    elim (h.command == 257 && h.hop == 2147483648) as (λ b. (b && is_success (result_in (read_avps avps))) ≡ is_grant (cond b (CapabilitiesAnswer (result_in (read_avps avps))) others)) [
      | true ↦ refl
      | false ↦ sym (ungranted-if (h.command == 280) WatchdogAnswer _ refl (ungranted-if (h.command == 282) DisconnectAnswer _ refl (ungranted-if (is_application_command h.command) ApplicationAnswer OtherAnswer refl refl)))
    ]

-- the test of the header and of the Result-Code is what the link reads
pub granted-is : (m : MessageParts) → (nat_lt m.header.flags 128 && (m.header.command == 257 && m.header.hop == 2147483648) && is_success (result_in (read_avps m.avps))) ≡ is_grant (said_in m)
unfolding said_in
granted-is m =
    elim (nat_lt m.header.flags 128) as (λ b. (b && (m.header.command == 257 && m.header.hop == 2147483648) && is_success (result_in (read_avps m.avps))) ≡ is_grant (cond b (answer_said m.header m.avps) (request_said m.header.command m.avps))) [
      | true ↦ granted-answer m.header m.avps
      | false ↦ sym (ungranted-request m.header.command m.avps)
    ]
