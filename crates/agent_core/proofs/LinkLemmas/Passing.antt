-- Which messages the link hands on.
use Rattle.std.proofs.Common.{◌≡◌, ℕ, Bool, true, false, cond, ◌&&◌, List, refl, sym, ◌∙◌, ap}
use Rattle.std.specs.Prelude.{nat_lt, ◌==◌}
use Rattle.std.proofs.lemmas.Bool.{eqb-true}
use Rattle.diameter_message.specs.declared.header.Header.{Header}
use Rattle.diameter_message.specs.Message.{MessageParts}
use Rattle.peer_machine.specs.declared.Phase.{Phase}
use Rattle.peer_machine.specs.declared.Phase.TheVariants.{Closed, Greeting, Serving, Closing}
use Rattle.peer_machine.specs.declared.words.Said.{Said}
use Rattle.peer_machine.specs.declared.words.Said.TheVariants.{CapabilitiesRequest, CapabilitiesAnswer, WatchdogRequest, WatchdogAnswer, DisconnectRequest, DisconnectAnswer, SessionRequest, OtherRequest, ApplicationAnswer, OtherAnswer}
use Rattle.peer_machine.specs.Reading.{said_in, answer_said, request_said, is_application_command, is_session_command}
use Rattle.peer_machine.specs.Rules.{on_said, open_said, closing_said, if_room}
use Rattle.peer_machine.specs.declared.words.Act.{Act}
use Rattle.peer_machine.specs.declared.words.Act.TheVariants.{Nothing, Serve, Discard, Pass, Close, Request, Answer, AnswerAndClose}
use Rattle.peer_machine.specs.Step.{is_pass}
use Rattle.diameter_message.specs.Results.{is_success}
use Rattle.agent_core.specs.declared.ledger.Ledger.{Ledger}
use Rattle.agent_core.specs.Machine.{passes, keeps_spare}
use Rattle.peer_machine.specs.declared.words.Event.TheVariants.{Says}
use Rattle.peer_machine.specs.declared.LinkCause.TheVariants.{Refused}

abbrev pub is_answer_said : Said → Bool
is_answer_said ApplicationAnswer = true
is_answer_said CapabilitiesRequest = false
is_answer_said (CapabilitiesAnswer result) = false
is_answer_said WatchdogRequest = false
is_answer_said WatchdogAnswer = false
is_answer_said (DisconnectRequest cause) = false
is_answer_said DisconnectAnswer = false
is_answer_said SessionRequest = false
is_answer_said OtherRequest = false
is_answer_said OtherAnswer = false

ladder : (a x b c d : Bool) (r : ℕ) → (a ≡ true → d ≡ false) → (b ≡ true → d ≡ false) → (c ≡ true → d ≡ false) → is_answer_said (cond (a && x) (CapabilitiesAnswer r) (cond b WatchdogAnswer (cond c DisconnectAnswer (cond d ApplicationAnswer OtherAnswer)))) ≡ d
ladder true true b c d r p q s = sym (p refl)
ladder true false true c d r p q s = sym (q refl)
ladder true false false true d r p q s = sym (s refl)
ladder true false false false true r p q s = refl
ladder true false false false false r p q s = refl
ladder false x true c d r p q s = sym (q refl)
ladder false x false true d r p q s = sym (s refl)
ladder false x false false true r p q s = refl
ladder false x false false false r p q s = refl

other : (n k : ℕ) → is_application_command k ≡ false → (n == k) ≡ true → is_application_command n ≡ false
other n k not_one e = ap is_application_command (eqb-true n k e) ∙ not_one

answer-said : (h : Header) (avps : List ℕ) → is_answer_said (answer_said h avps) ≡ is_application_command h.command
unfolding answer_said
answer-said h avps =
    ladder (h.command == 257) (h.hop == 2147483648) (h.command == 280) (h.command == 282) (is_application_command h.command) _
    (other h.command 257 refl) (other h.command 280 refl) (other h.command 282 refl)

requests-none : (a b c d : Bool) (cause : ℕ) → is_answer_said (cond a CapabilitiesRequest (cond b WatchdogRequest (cond c (DisconnectRequest cause) (cond d SessionRequest OtherRequest)))) ≡ false
requests-none true b c d cause = refl
requests-none false true c d cause = refl
requests-none false false true d cause = refl
requests-none false false false true cause = refl
requests-none false false false false cause = refl

request-said : (command : ℕ) (avps : List ℕ) → is_answer_said (request_said command avps) ≡ false
unfolding request_said
request-said command avps = requests-none (command == 257) (command == 280) (command == 282) (is_session_command command) _

by-flag : (b : Bool) (h : Header) (avps : List ℕ) → is_answer_said (cond b (answer_said h avps) (request_said h.command avps)) ≡ (b && is_application_command h.command)
by-flag true h avps = answer-said h avps
by-flag false h avps = request-said h.command avps

pub said-agrees : (m : MessageParts) → is_answer_said (said_in m) ≡ (nat_lt m.header.flags 128 && is_application_command m.header.command)
unfolding said_in
said-agrees m = by-flag (nat_lt m.header.flags 128) m.header m.avps

abbrev pub is_open : Phase → Bool
is_open Closed = false
is_open Greeting = false
is_open Serving = true
is_open Closing = true

room-pass : (spare : Bool) (act : Act) → is_pass (if_room spare act) ≡ is_pass act
room-pass true act = refl
room-pass false Nothing = refl
room-pass false Serve = refl
room-pass false (Discard reason) = refl
room-pass false Pass = refl
room-pass false (Close cause) = refl
room-pass false (Request request) = refl
room-pass false (Answer code error) = refl
room-pass false (AnswerAndClose code cause) = refl

open-pass : (s : Said) → is_pass (open_said s) ≡ is_answer_said s
open-pass ApplicationAnswer = refl
open-pass CapabilitiesRequest = refl
open-pass (CapabilitiesAnswer result) = refl
open-pass WatchdogRequest = refl
open-pass WatchdogAnswer = refl
open-pass (DisconnectRequest cause) = refl
open-pass DisconnectAnswer = refl
open-pass SessionRequest = refl
open-pass OtherRequest = refl
open-pass OtherAnswer = refl

closing-pass : (s : Said) → is_pass (closing_said s) ≡ is_answer_said s
closing-pass ApplicationAnswer = refl
closing-pass CapabilitiesRequest = refl
closing-pass (CapabilitiesAnswer result) = refl
closing-pass WatchdogRequest = refl
closing-pass WatchdogAnswer = refl
closing-pass (DisconnectRequest cause) = refl
closing-pass DisconnectAnswer = refl
closing-pass SessionRequest = refl
closing-pass OtherRequest = refl
closing-pass OtherAnswer = refl

greeted-pass : (b : Bool) (result : ℕ) → is_pass (cond b Serve (Close (Refused result))) ≡ false
greeted-pass true result = refl
greeted-pass false result = refl

greeting-pass : (s : Said) → is_pass (on_said Greeting s) ≡ false
greeting-pass (CapabilitiesAnswer result) = greeted-pass (is_success result) result
greeting-pass ApplicationAnswer = refl
greeting-pass CapabilitiesRequest = refl
greeting-pass WatchdogRequest = refl
greeting-pass WatchdogAnswer = refl
greeting-pass (DisconnectRequest cause) = refl
greeting-pass DisconnectAnswer = refl
greeting-pass SessionRequest = refl
greeting-pass OtherRequest = refl
greeting-pass OtherAnswer = refl

on-pass : (phase : Phase) (s : Said) → is_pass (on_said phase s) ≡ (is_open phase && is_answer_said s)
on-pass Closed s = refl
on-pass Greeting s = greeting-pass s
on-pass Serving s = open-pass s
on-pass Closing s = closing-pass s

-- an answer to an application request, while the link is open
pub passes-agrees : (S : Ledger) (m : MessageParts) → passes S m ≡ (is_open S.peer.link.phase && (nat_lt m.header.flags 128 && is_application_command m.header.command))
passes-agrees S m =
    room-pass (keeps_spare S (Says (said_in m))) (on_said S.peer.link.phase (said_in m))
    ∙ on-pass S.peer.link.phase (said_in m)
    ∙ ap (λ b. is_open S.peer.link.phase && b) (said-agrees m)

pub passes-in : (S : Ledger) (m : MessageParts) (phase : Phase) → S.peer.link.phase ≡ phase → passes S m ≡ (is_open phase && (nat_lt m.header.flags 128 && is_application_command m.header.command))
passes-in S m phase e =
    passes-agrees S m ∙ ap (λ p. is_open p && (nat_lt m.header.flags 128 && is_application_command m.header.command)) e
