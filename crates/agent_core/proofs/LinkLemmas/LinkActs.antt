-- What the link's table does where no link is open, where it ends, and about answers.
use Rattle.std.proofs.Common.{◌≡◌, ℕ, ◌+◌, Bool, true, false, cond, ◌&&◌, ◌||◌, not, List, ◌++◌, Option, Some, None, option_map, refl, sym, ◌∙◌, ap, arith}
use Rattle.std.specs.Prelude.{option_to_list, nat_le, nat_lt, ◌==◌, IfSome}
use Rattle.std.specs.List.{AllByRecursion}
use Rattle.std.proofs.lemmas.Bool.{ltb-false, le-leb}
use Rattle.radius_packet.specs.declared.reasons.Reason.TheVariants.{WrongPhase}
use Rattle.diameter_message.specs.declared.header.Header.{Header}
use Rattle.diameter_message.specs.Message.{MessageParts}
use Rattle.peer_machine.specs.declared.Phase.{Phase}
use Rattle.peer_machine.specs.declared.Phase.TheVariants.{Closed, Greeting, Serving, Closing}
use Rattle.peer_machine.specs.declared.LinkCause.{LinkCause}
use Rattle.peer_machine.specs.declared.LinkCause.TheVariants as causes
use Rattle.peer_machine.specs.declared.messages.Names.{Names}
use Rattle.peer_machine.specs.declared.peer.PeerOutput.{PeerOutput}
use Rattle.peer_machine.specs.declared.words.LinkState.{LinkState}
use Rattle.peer_machine.specs.declared.words.BaseRequest.TheVariants.{CapabilitiesExchange, DeviceWatchdog, DisconnectPeer}
use Rattle.peer_machine.specs.declared.words.Said.{Said}
use Rattle.peer_machine.specs.declared.words.Said.TheVariants.{CapabilitiesRequest, CapabilitiesAnswer, WatchdogRequest, WatchdogAnswer, DisconnectRequest, DisconnectAnswer, SessionRequest, OtherRequest, ApplicationAnswer, OtherAnswer}
use Rattle.peer_machine.specs.declared.words.Event.{Event as LinkEvent}
use Rattle.peer_machine.specs.declared.words.Event.TheVariants.{Opens, Serves, Says, Breaks, Ends, Ticks, Leaves}
use Rattle.peer_machine.specs.declared.words.Act.{Act}
use Rattle.peer_machine.specs.declared.words.Act.TheVariants.{Nothing, Serve, Discard, Pass, Close, Request, Answer, AnswerAndClose}
use Rattle.peer_machine.specs.Rules.{act_on, on_end, on_said, open_said, greeting_said, closing_said, on_tick, on_leave, is_past, if_room, may_begin, begun, heard_at, after_event, after}
use Rattle.peer_machine.specs.Messages.{request_header, request_text, answer_text}
use Rattle.peer_machine.specs.Reading.{said_in, answer_said, request_said, is_application_command}
use Rattle.peer_machine.specs.Step.{sent, base_answer}
use Rattle.agent_events.specs.declared.events.Output.TheVariants.{Send, Closed as ClosedBy, Dropped}
use Rattle.agent_core.specs.Places.{is_request, is_serving, opens, header_of}
use Rattle.agent_core.specs.History.{link_outputs}
use Rattle.agent_core.specs.Machine.{begins_by, count_of}
use Rattle.agent_core.specs.LawsOfRequests.{is_open}
use Rattle.agent_core.specs.Links.{is_grant}
use Rattle.agent_core.specs.LawsOfLinks.{IfSent, is_closed, is_watchdog_request}
use Rattle.agent_core.proofs.LawLemmas.Counts.{LooksAt, Wants, base-text, one-sent, answered-none, count-sent}
use Rattle.agent_core.proofs.LinkLemmas.Greets.{is_quiet, quiet-greeting, quiet-room}
use Rattle.agent_core.proofs.LawLemmas.LawOfReplies.{each-append, closes-each, drops-each}
use Rattle.agent_core.proofs.LinkLemmas.LinkKinds.{grants_by, hears_by}

-- ---- what nothing is sent by

-- nothing is said, and the link doesn't open
abbrev pub is_idle : Act → Bool
is_idle Nothing = true
is_idle (Discard reason) = true
is_idle (Close cause) = true
is_idle act = false

idle-if : (b : Bool) (act : Act) → is_idle act ≡ true → is_idle (cond b act Nothing) ≡ true
idle-if true act e = e
idle-if false act e = refl

idle-greeting : (said : Said) → is_grant said ≡ false → is_idle (greeting_said said) ≡ true
idle-greeting WatchdogRequest e = refl
idle-greeting WatchdogAnswer e = refl
idle-greeting (DisconnectRequest cause) e = refl
idle-greeting DisconnectAnswer e = refl
idle-greeting SessionRequest e = refl
idle-greeting CapabilitiesRequest e = refl
idle-greeting OtherRequest e = refl
idle-greeting ApplicationAnswer e = refl
idle-greeting (CapabilitiesAnswer result) e = ap (λ b. is_idle (cond b Serve (Close (causes.Refused result)))) e
idle-greeting OtherAnswer e = refl

idle-said : (phase : Phase) (said : Said) → is_open phase ≡ false → (phase ≡ Greeting → is_grant said ≡ false) → is_idle (on_said phase said) ≡ true
idle-said Closed said shut ungranted = refl
idle-said Greeting said shut ungranted = idle-greeting said (ungranted refl)
idle-said Serving said shut ungranted = absurd (cc)
idle-said Closing said shut ungranted = absurd (cc)

idle-end : (phase : Phase) (cause : LinkCause) → is_idle (on_end phase cause) ≡ true
idle-end Closed cause = refl
idle-end Greeting cause = refl
idle-end Serving cause = refl
idle-end Closing cause = refl

idle-tick : (phase : Phase) (l : LinkState) (watchdog m : ℕ) → is_open phase ≡ false → is_idle (on_tick phase l watchdog m) ≡ true
idle-tick Closed l watchdog m shut = refl
idle-tick Greeting l watchdog m shut = idle-if (is_past l.heard watchdog m) (Close causes.Watchdog) refl
idle-tick Serving l watchdog m shut = absurd (cc)
idle-tick Closing l watchdog m shut = absurd (cc)

idle-leave : (phase : Phase) → is_open phase ≡ false → is_idle (on_leave phase) ≡ true
idle-leave Closed shut = refl
idle-leave Greeting shut = refl
idle-leave Serving shut = absurd (cc)
idle-leave Closing shut = refl

idle-act : (l : LinkState) (watchdog m : ℕ) (event : LinkEvent) → is_open l.phase ≡ false → begins_by l event ≡ false → (l.phase ≡ Greeting → grants_by event ≡ false) → is_idle (act_on l watchdog m event) ≡ true
idle-act l watchdog m Opens shut old ungranted = ap (λ b. is_idle (cond b (Request CapabilitiesExchange) (Discard WrongPhase))) old
idle-act l watchdog m Serves shut old ungranted = ap (λ b. is_idle (cond b Serve (Discard WrongPhase))) old
idle-act l watchdog m (Says said) shut old ungranted = idle-said l.phase said shut ungranted
idle-act l watchdog m (Breaks fault) shut old ungranted = idle-end l.phase (causes.Broken fault)
idle-act l watchdog m Ends shut old ungranted = idle-end l.phase causes.Ended
idle-act l watchdog m Ticks shut old ungranted = idle-tick l.phase l watchdog m shut
idle-act l watchdog m Leaves shut old ungranted = idle-leave l.phase shut

idle-room : (spare : Bool) (act : Act) → is_idle act ≡ true → is_idle (if_room spare act) ≡ true
idle-room true act e = e
idle-room false Nothing e = refl
idle-room false Serve e = absurd (cc)
idle-room false (Discard reason) e = refl
idle-room false Pass e = absurd (cc)
idle-room false (Close cause) e = refl
idle-room false (Request request) e = absurd (cc)
idle-room false (Answer code error) e = absurd (cc)
idle-room false (AnswerAndClose code cause) e = absurd (cc)

pub idle-shut : (l : LinkState) (watchdog m : ℕ) (event : LinkEvent) (spare : Bool) → is_open l.phase ≡ false → begins_by l event ≡ false → (l.phase ≡ Greeting → grants_by event ≡ false) → is_idle (if_room spare (act_on l watchdog m event)) ≡ true
idle-shut l watchdog m event spare shut old ungranted =
    idle-room spare (act_on l watchdog m event) (idle-act l watchdog m event shut old ungranted)

pub idle-phase : (l : LinkState) (m : ℕ) (act : Act) → is_idle act ≡ true → is_open l.phase ≡ false → is_open (after l m act).phase ≡ false
idle-phase l m Nothing e shut = shut
idle-phase l m Serve e shut = absurd (cc)
idle-phase l m (Discard reason) e shut = shut
idle-phase l m Pass e shut = absurd (cc)
idle-phase l m (Close cause) e shut = refl
idle-phase l m (Request request) e shut = absurd (cc)
idle-phase l m (Answer code error) e shut = absurd (cc)
idle-phase l m (AnswerAndClose code cause) e shut = absurd (cc)

pub idle-unsent : (names : Names) (l : LinkState) (end : ℕ) (message : Option MessageParts) (act : Act) → is_idle act ≡ true → sent names l end message act ≡ None
idle-unsent names l end message Nothing e = refl
idle-unsent names l end message Serve e = absurd (cc)
idle-unsent names l end message (Discard reason) e = refl
idle-unsent names l end message Pass e = absurd (cc)
idle-unsent names l end message (Close cause) e = refl
idle-unsent names l end message (Request request) e = absurd (cc)
idle-unsent names l end message (Answer code error) e = absurd (cc)
idle-unsent names l end message (AnswerAndClose code cause) e = absurd (cc)

-- what isn't open doesn't serve, so that no link opens
pub shut-serves : (phase : Phase) → is_open phase ≡ false → is_serving phase ≡ false
shut-serves Closed e = refl
shut-serves Greeting e = refl
shut-serves Serving e = absurd (cc)
shut-serves Closing e = absurd (cc)

pub opens-unless : (before after : Phase) → is_serving after ≡ false → opens before after ≡ false
opens-unless Closed after e = e
opens-unless Greeting after e = e
opens-unless Serving after e = refl
opens-unless Closing after e = e

-- ---- what is passed on

pass-shut : (phase : Phase) (said : Said) (spare : Bool) → is_open phase ≡ false → is_quiet (if_room spare (on_said phase said)) ≡ true
pass-shut Closed said spare shut = quiet-room spare (Discard WrongPhase) refl
pass-shut Greeting said spare shut = quiet-room spare (greeting_said said) (quiet-greeting said)
pass-shut Serving said spare shut = absurd (cc)
pass-shut Closing said spare shut = absurd (cc)

-- an answer is passed on only while the link serves or closes
pub pass-open : (phase : Phase) (said : Said) (spare : Bool) → if_room spare (on_said phase said) ≡ Pass → is_open phase ≡ true
pass-open phase said spare passes =
    elim (is_open phase) as (λ b. is_open phase ≡ b → b ≡ true) [
      | true ↦ (λ e. refl)
      | false ↦ (λ e.
          let no : false ≡ true = sym (ap is_quiet passes) ∙ pass-shut phase said spare e in
          absurd (cc))
    ] refl

-- ---- a link that ends

abbrev pub is_ending : Phase → Bool
is_ending Closed = true
is_ending Greeting = false
is_ending Serving = false
is_ending Closing = true

-- no request, and the link doesn't open
abbrev pub is_last : Act → Bool
is_last Serve = false
is_last (Request request) = false
is_last act = true

last-closing : (said : Said) → is_last (closing_said said) ≡ true
last-closing WatchdogRequest = refl
last-closing WatchdogAnswer = refl
last-closing (DisconnectRequest cause) = refl
last-closing DisconnectAnswer = refl
last-closing SessionRequest = refl
last-closing CapabilitiesRequest = refl
last-closing OtherRequest = refl
last-closing ApplicationAnswer = refl
last-closing (CapabilitiesAnswer result) = refl
last-closing OtherAnswer = refl

last-said : (phase : Phase) (said : Said) → is_ending phase ≡ true → is_last (on_said phase said) ≡ true
last-said Closed said ending = refl
last-said Greeting said ending = absurd (cc)
last-said Serving said ending = absurd (cc)
last-said Closing said ending = last-closing said

last-end : (phase : Phase) (cause : LinkCause) → is_last (on_end phase cause) ≡ true
last-end Closed cause = refl
last-end Greeting cause = refl
last-end Serving cause = refl
last-end Closing cause = refl

last-if : (b : Bool) (act : Act) → is_last act ≡ true → is_last (cond b act Nothing) ≡ true
last-if true act e = e
last-if false act e = refl

last-tick : (phase : Phase) (l : LinkState) (watchdog m : ℕ) → is_ending phase ≡ true → is_last (on_tick phase l watchdog m) ≡ true
last-tick Closed l watchdog m ending = refl
last-tick Greeting l watchdog m ending = absurd (cc)
last-tick Serving l watchdog m ending = absurd (cc)
last-tick Closing l watchdog m ending = last-if (is_past l.leave watchdog m) (Close causes.Left) refl

last-leave : (phase : Phase) → is_ending phase ≡ true → is_last (on_leave phase) ≡ true
last-leave Closed ending = refl
last-leave Greeting ending = absurd (cc)
last-leave Serving ending = absurd (cc)
last-leave Closing ending = refl

last-act : (l : LinkState) (watchdog m : ℕ) (event : LinkEvent) → is_ending l.phase ≡ true → begins_by l event ≡ false → is_last (act_on l watchdog m event) ≡ true
last-act l watchdog m Opens ending old = ap (λ b. is_last (cond b (Request CapabilitiesExchange) (Discard WrongPhase))) old
last-act l watchdog m Serves ending old = ap (λ b. is_last (cond b Serve (Discard WrongPhase))) old
last-act l watchdog m (Says said) ending old = last-said l.phase said ending
last-act l watchdog m (Breaks fault) ending old = last-end l.phase (causes.Broken fault)
last-act l watchdog m Ends ending old = last-end l.phase causes.Ended
last-act l watchdog m Ticks ending old = last-tick l.phase l watchdog m ending
last-act l watchdog m Leaves ending old = last-leave l.phase ending

last-room : (spare : Bool) (act : Act) → is_last act ≡ true → is_last (if_room spare act) ≡ true
last-room true act e = e
last-room false Nothing e = refl
last-room false Serve e = absurd (cc)
last-room false (Discard reason) e = refl
last-room false Pass e = refl
last-room false (Close cause) e = refl
last-room false (Request request) e = absurd (cc)
last-room false (Answer code error) e = refl
last-room false (AnswerAndClose code cause) e = refl

pub last-ending : (l : LinkState) (watchdog m : ℕ) (event : LinkEvent) (spare : Bool) → is_ending l.phase ≡ true → begins_by l event ≡ false → is_last (if_room spare (act_on l watchdog m event)) ≡ true
last-ending l watchdog m event spare ending old =
    last-room spare (act_on l watchdog m event) (last-act l watchdog m event ending old)

pub last-phase : (l : LinkState) (m : ℕ) (act : Act) → is_last act ≡ true → is_ending l.phase ≡ true → is_ending (after l m act).phase ≡ true
last-phase l m Nothing e ending = ending
last-phase l m Serve e ending = absurd (cc)
last-phase l m (Discard reason) e ending = ending
last-phase l m Pass e ending = ending
last-phase l m (Close cause) e ending = refl
last-phase l m (Request request) e ending = absurd (cc)
last-phase l m (Answer code error) e ending = ending
last-phase l m (AnswerAndClose code cause) e ending = refl

pub ending-serves : (phase : Phase) → is_ending phase ≡ true → is_serving phase ≡ false
ending-serves Closed e = refl
ending-serves Greeting e = absurd (cc)
ending-serves Serving e = absurd (cc)
ending-serves Closing e = refl

-- an open link that doesn't serve closes
pub closes-open : (phase : Phase) → is_open phase ≡ true → is_serving phase ≡ false → phase ≡ Closing
closes-open Closed open_one unserved = absurd (cc)
closes-open Greeting open_one unserved = absurd (cc)
closes-open Serving open_one unserved = absurd (cc)
closes-open Closing open_one unserved = refl

-- ---- what is counted of the link's own message

-- whether what is done sends a request that meets the test
abbrev pub asks_for : (Header → Bool) → Act → Bool
asks_for test (Request r) = test (request_header r 0 0)
asks_for test act = false

pub own-by : (test : Header → Bool) → LooksAt test → Wants test → (names : Names) (l : LinkState) (end : ℕ) (message : Option MessageParts) (act : Act) → count-sent test (sent names l end message act) ≡ count_of (asks_for test act)
own-by test looks wants names l end message Nothing = refl
own-by test looks wants names l end message Serve = refl
own-by test looks wants names l end message (Discard reason) = refl
own-by test looks wants names l end message Pass = refl
own-by test looks wants names l end message (Close cause) = refl
own-by test looks wants names l end message (Request r) =
    one-sent test (request_text names r (2147483648 + l.requests) end) (test (request_header r 0 0))
    (base-text test looks names r (2147483648 + l.requests) end ∙ looks (request_header r (2147483648 + l.requests) end) (request_header r 0 0) refl refl)
own-by test looks wants names l end message (Answer code error) = answered-none test wants names message code error
own-by test looks wants names l end message (AnswerAndClose code cause) = answered-none test wants names message code false

-- what none is counted of meets no test
pub unsent-test : (test : Header → Bool) (send : Option (List ℕ)) → count-sent test send ≡ 0 → IfSome send (λ octets. test (header_of octets) ≡ false)
unsent-test test None none = tt
unsent-test test (Some octets) none =
    elim (test (header_of octets)) as (λ b. 0 + cond b 1 0 ≡ 0 → b ≡ false) [
      | true ↦ (λ e. absurd (omega arith))
      | false ↦ (λ e. refl)
    ] none

last-asks : (test : Header → Bool) (act : Act) → is_last act ≡ true → asks_for test act ≡ false
last-asks test Nothing e = refl
last-asks test Serve e = absurd (cc)
last-asks test (Discard reason) e = refl
last-asks test Pass e = refl
last-asks test (Close cause) e = refl
last-asks test (Request request) e = absurd (cc)
last-asks test (Answer code error) e = refl
last-asks test (AnswerAndClose code cause) e = refl

-- no request is said then
pub last-unasked : (test : Header → Bool) → LooksAt test → Wants test → (names : Names) (l : LinkState) (end : ℕ) (message : Option MessageParts) (act : Act) → is_last act ≡ true → IfSome (sent names l end message act) (λ octets. test (header_of octets) ≡ false)
last-unasked test looks wants names l end message act e =
    unsent-test test (sent names l end message act) (own-by test looks wants names l end message act ∙ ap count_of (last-asks test act e))

-- ---- what holds of the link's own message

one-send : (P : List ℕ → Type 0) (send : Option (List ℕ)) → IfSome send P → AllByRecursion (IfSent P) (option_to_list (option_map Send send))
one-send P None holds = tt
one-send P (Some octets) holds = (holds, tt)

-- what holds of the message that the link says holds of each of its outputs
pub each-said : (P : List ℕ → Type 0) (o : PeerOutput) → IfSome o.send P → AllByRecursion (IfSent P) (link_outputs o)
each-said P o holds =
    each-append (IfSent P) (option_to_list (option_map Send o.send) ++ option_to_list (option_map ClosedBy o.closed)) (option_to_list (option_map Dropped o.dropped))
    (each-append (IfSent P) (option_to_list (option_map Send o.send)) (option_to_list (option_map ClosedBy o.closed))
    (one-send P o.send holds) (closes-each (IfSent P) (λ cause. tt) o.closed))
    (drops-each (IfSent P) (λ reason. tt) o.dropped)

pub some-weaken : (P Q : List ℕ → Type 0) → ((x : List ℕ) → P x → Q x) → (o : Option (List ℕ)) → IfSome o P → IfSome o Q
some-weaken P Q weaker None holds = tt
some-weaken P Q weaker (Some x) holds = weaker x holds

-- ---- answers

abbrev pub is_answering : Act → Bool
is_answering (Answer code error) = true
is_answering (AnswerAndClose code cause) = true
is_answering act = false

-- what a request says
abbrev is_asked : Said → Bool
is_asked WatchdogRequest = true
is_asked (DisconnectRequest cause) = true
is_asked SessionRequest = true
is_asked CapabilitiesRequest = true
is_asked OtherRequest = true
is_asked said = false

-- the answer to the message that came in
pub record IsAnswerText (names : Names) (message : Option MessageParts) (act : Act) (octets : List ℕ) : Type 0 where
  pub parts : MessageParts
  pub is : message ≡ Some parts
  pub answers : is_answering act ≡ true
  pub code : ℕ
  pub error : Bool
  pub text : octets ≡ answer_text names parts code error

pub request-looks : LooksAt is_request
request-looks h g flags command = ap (λ f. nat_le 128 f) flags

answered-is : (names : Names) (message : Option MessageParts) (act : Act) (code : ℕ) (error : Bool) → is_answering act ≡ true → IfSome (base_answer names message code error) (λ octets. is_request (header_of octets) ≡ false → IsAnswerText names message act octets)
answered-is names None act code error answers = tt
answered-is names (Some m) act code error answers =
    λ no. record { parts = m; is = refl; answers = answers; code = code; error = error; text = refl }

-- what the link says is a request, or the answer to the message that came in
pub own-answers : (names : Names) (l : LinkState) (end : ℕ) (message : Option MessageParts) (act : Act) → IfSome (sent names l end message act) (λ octets. is_request (header_of octets) ≡ false → IsAnswerText names message act octets)
own-answers names l end message Nothing = tt
own-answers names l end message Serve = tt
own-answers names l end message (Discard reason) = tt
own-answers names l end message Pass = tt
own-answers names l end message (Close cause) = tt
own-answers names l end message (Request r) =
    λ no. absurd (let yes : is_request (header_of (request_text names r (2147483648 + l.requests) end)) ≡ true = base-text is_request request-looks names r (2147483648 + l.requests) end in cc)
own-answers names l end message (Answer code error) = answered-is names message (Answer code error) code error refl
own-answers names l end message (AnswerAndClose code cause) = answered-is names message (AnswerAndClose code cause) code false refl

open-asked : (said : Said) → is_answering (open_said said) ≡ true → is_asked said ≡ true
open-asked WatchdogRequest e = refl
open-asked WatchdogAnswer e = absurd (cc)
open-asked (DisconnectRequest cause) e = refl
open-asked DisconnectAnswer e = absurd (cc)
open-asked SessionRequest e = refl
open-asked CapabilitiesRequest e = refl
open-asked OtherRequest e = refl
open-asked ApplicationAnswer e = absurd (cc)
open-asked (CapabilitiesAnswer result) e = absurd (cc)
open-asked OtherAnswer e = absurd (cc)

closing-asked : (said : Said) → is_answering (closing_said said) ≡ true → is_asked said ≡ true
closing-asked WatchdogRequest e = refl
closing-asked WatchdogAnswer e = absurd (cc)
closing-asked (DisconnectRequest cause) e = refl
closing-asked DisconnectAnswer e = absurd (cc)
closing-asked SessionRequest e = refl
closing-asked CapabilitiesRequest e = refl
closing-asked OtherRequest e = refl
closing-asked ApplicationAnswer e = absurd (cc)
closing-asked (CapabilitiesAnswer result) e = absurd (cc)
closing-asked OtherAnswer e = absurd (cc)

quiet-unanswered : (act : Act) → is_quiet act ≡ true → is_answering act ≡ false
quiet-unanswered Nothing e = refl
quiet-unanswered Serve e = refl
quiet-unanswered (Discard reason) e = refl
quiet-unanswered Pass e = refl
quiet-unanswered (Close cause) e = refl
quiet-unanswered (Request request) e = refl
quiet-unanswered (Answer code error) e = absurd (cc)
quiet-unanswered (AnswerAndClose code cause) e = absurd (cc)

said-answered : (phase : Phase) (said : Said) → is_answering (on_said phase said) ≡ true → is_asked said ≡ true
said-answered Closed said e = absurd (cc)
said-answered Greeting said e = absurd (let no = quiet-unanswered (greeting_said said) (quiet-greeting said) in cc)
said-answered Serving said e = open-asked said e
said-answered Closing said e = closing-asked said e

answers-room : (spare : Bool) (act : Act) → is_answering (if_room spare act) ≡ true → is_answering act ≡ true
answers-room true act e = e
answers-room false Nothing e = absurd (cc)
answers-room false Serve e = absurd (cc)
answers-room false (Discard reason) e = absurd (cc)
answers-room false Pass e = absurd (cc)
answers-room false (Close cause) e = absurd (cc)
answers-room false (Request request) e = absurd (cc)
answers-room false (Answer code error) e = absurd (cc)
answers-room false (AnswerAndClose code cause) e = absurd (cc)

asked-if : (b : Bool) (x y : Said) → is_asked x ≡ false → is_asked y ≡ false → is_asked (cond b x y) ≡ false
asked-if true x y e f = e
asked-if false x y e f = f

answer-unasked : (h : Header) (avps : List ℕ) → is_asked (answer_said h avps) ≡ false
unfolding answer_said
answer-unasked h avps =
    asked-if (h.command == 257 && h.hop == 2147483648) _ _ refl
    (asked-if (h.command == 280) _ _ refl (asked-if (h.command == 282) _ _ refl (asked-if (is_application_command h.command) _ _ refl refl)))

asked-request : (m : MessageParts) → is_asked (said_in m) ≡ true → is_request m.header ≡ true
unfolding said_in
asked-request m =
    elim (nat_lt m.header.flags 128) as (λ b. nat_lt m.header.flags 128 ≡ b → is_asked (cond b (answer_said m.header m.avps) (request_said m.header.command m.avps)) ≡ true → nat_le 128 m.header.flags ≡ true) [
      | true ↦ (λ h e. absurd (let no = answer-unasked m.header m.avps in cc))
      | false ↦ (λ h e. le-leb _ _ (let low = ltb-false _ _ h in omega arith))
    ] refl

-- an answer goes out only for a request
pub answering-request : (l : LinkState) (watchdog m : ℕ) (spare : Bool) (message : MessageParts) → is_answering (if_room spare (act_on l watchdog m (Says (said_in message)))) ≡ true → is_request message.header ≡ true
answering-request l watchdog m spare message e =
    asked-request message (said-answered l.phase (said_in message) (answers-room spare (on_said l.phase (said_in message)) e))

-- ---- what is remembered of words and of watchdog requests

-- a link that begins, and a message that it hears
abbrev pub refreshes_by : LinkState → LinkEvent → Bool
refreshes_by l (Says said) = not (is_closed l.phase)
refreshes_by l event = begins_by l event

or-none : (b : Bool) → (b || false) ≡ b
or-none true = refl
or-none false = refl

pub refreshes-is : (l : LinkState) (event : LinkEvent) → (begins_by l event || hears_by l.phase event) ≡ refreshes_by l event
refreshes-is l Opens = or-none (may_begin l.phase l.number)
refreshes-is l Serves = or-none (may_begin l.phase l.number)
refreshes-is l (Says said) = refl
refreshes-is l (Breaks fault) = refl
refreshes-is l Ends = refl
refreshes-is l Ticks = refl
refreshes-is l Leaves = refl

begun-heard : (l : LinkState) (m : ℕ) (b : Bool) → (cond b (begun l m) l).heard ≡ cond b m l.heard
begun-heard l m true = refl
begun-heard l m false = refl

begun-asked : (l : LinkState) (m : ℕ) (b : Bool) → (cond b (begun l m) l).asked ≡ cond b None l.asked
begun-asked l m true = refl
begun-asked l m false = refl

word-heard : (phase : Phase) (l : LinkState) (m : ℕ) → (heard_at phase l m).heard ≡ cond (not (is_closed phase)) m l.heard
word-heard Closed l m = refl
word-heard Greeting l m = refl
word-heard Serving l m = refl
word-heard Closing l m = refl

word-asked : (phase : Phase) (l : LinkState) (m : ℕ) → (heard_at phase l m).asked ≡ cond (not (is_closed phase)) None l.asked
word-asked Closed l m = refl
word-asked Greeting l m = refl
word-asked Serving l m = refl
word-asked Closing l m = refl

noted-heard : (l : LinkState) (m : ℕ) (event : LinkEvent) → (after_event l m event).heard ≡ cond (refreshes_by l event) m l.heard
noted-heard l m Opens = begun-heard l m (may_begin l.phase l.number)
noted-heard l m Serves = begun-heard l m (may_begin l.phase l.number)
noted-heard l m (Says said) = word-heard l.phase l m
noted-heard l m (Breaks fault) = refl
noted-heard l m Ends = refl
noted-heard l m Ticks = refl
noted-heard l m Leaves = refl

noted-asked : (l : LinkState) (m : ℕ) (event : LinkEvent) → (after_event l m event).asked ≡ cond (refreshes_by l event) None l.asked
noted-asked l m Opens = begun-asked l m (may_begin l.phase l.number)
noted-asked l m Serves = begun-asked l m (may_begin l.phase l.number)
noted-asked l m (Says said) = word-asked l.phase l m
noted-asked l m (Breaks fault) = refl
noted-asked l m Ends = refl
noted-asked l m Ticks = refl
noted-asked l m Leaves = refl

after-heard : (l : LinkState) (m : ℕ) (act : Act) → (after l m act).heard ≡ l.heard
after-heard l m Nothing = refl
after-heard l m Serve = refl
after-heard l m (Discard reason) = refl
after-heard l m Pass = refl
after-heard l m (Close cause) = refl
after-heard l m (Request CapabilitiesExchange) = refl
after-heard l m (Request DeviceWatchdog) = refl
after-heard l m (Request DisconnectPeer) = refl
after-heard l m (Answer code error) = refl
after-heard l m (AnswerAndClose code cause) = refl

after-asked : (l : LinkState) (m : ℕ) (act : Act) → (after l m act).asked ≡ cond (asks_for is_watchdog_request act) (Some m) l.asked
after-asked l m Nothing = refl
after-asked l m Serve = refl
after-asked l m (Discard reason) = refl
after-asked l m Pass = refl
after-asked l m (Close cause) = refl
after-asked l m (Request CapabilitiesExchange) = refl
after-asked l m (Request DeviceWatchdog) = refl
after-asked l m (Request DisconnectPeer) = refl
after-asked l m (Answer code error) = refl
after-asked l m (AnswerAndClose code cause) = refl

last-open : (said : Said) → is_last (open_said said) ≡ true
last-open WatchdogRequest = refl
last-open WatchdogAnswer = refl
last-open (DisconnectRequest cause) = refl
last-open DisconnectAnswer = refl
last-open SessionRequest = refl
last-open CapabilitiesRequest = refl
last-open OtherRequest = refl
last-open ApplicationAnswer = refl
last-open (CapabilitiesAnswer result) = refl
last-open OtherAnswer = refl

quiet-unasked : (act : Act) → is_quiet act ≡ true → asks_for is_watchdog_request act ≡ false
quiet-unasked Nothing e = refl
quiet-unasked Serve e = refl
quiet-unasked (Discard reason) e = refl
quiet-unasked Pass e = refl
quiet-unasked (Close cause) e = refl
quiet-unasked (Request request) e = absurd (cc)
quiet-unasked (Answer code error) e = refl
quiet-unasked (AnswerAndClose code cause) e = refl

pub said-unasked : (phase : Phase) (said : Said) → asks_for is_watchdog_request (on_said phase said) ≡ false
said-unasked Closed said = refl
said-unasked Greeting said = quiet-unasked (greeting_said said) (quiet-greeting said)
said-unasked Serving said = last-asks is_watchdog_request (open_said said) (last-open said)
said-unasked Closing said = last-asks is_watchdog_request (closing_said said) (last-closing said)

pub begin-unasked : (b : Bool) (act : Act) → asks_for is_watchdog_request act ≡ false → asks_for is_watchdog_request (cond b act (Discard WrongPhase)) ≡ false
begin-unasked true act e = e
begin-unasked false act e = refl

refresh-unasked : (l : LinkState) (watchdog m : ℕ) (event : LinkEvent) → refreshes_by l event ≡ true → asks_for is_watchdog_request (act_on l watchdog m event) ≡ false
refresh-unasked l watchdog m Opens e = begin-unasked (may_begin l.phase l.number) (Request CapabilitiesExchange) refl
refresh-unasked l watchdog m Serves e = begin-unasked (may_begin l.phase l.number) Serve refl
refresh-unasked l watchdog m (Says said) e = said-unasked l.phase said
refresh-unasked l watchdog m (Breaks fault) e = absurd (cc)
refresh-unasked l watchdog m Ends e = absurd (cc)
refresh-unasked l watchdog m Ticks e = absurd (cc)
refresh-unasked l watchdog m Leaves e = absurd (cc)

pub room-unasked : (spare : Bool) (act : Act) → asks_for is_watchdog_request act ≡ false → asks_for is_watchdog_request (if_room spare act) ≡ false
room-unasked true act e = e
room-unasked false Nothing e = refl
room-unasked false Serve e = refl
room-unasked false (Discard reason) e = refl
room-unasked false Pass e = refl
room-unasked false (Close cause) e = refl
room-unasked false (Request request) e = refl
room-unasked false (Answer code error) e = refl
room-unasked false (AnswerAndClose code cause) e = refl

-- what a link knows of the last word, and of the watchdog request since then
pub record Remembers (l : LinkState) (m : ℕ) (refreshes asks : Bool) (then_heard : ℕ) (then_asked : Option ℕ) : Type 0 where
  pub heard : then_heard ≡ cond refreshes m l.heard
  pub asked : then_asked ≡ cond refreshes None (cond asks (Some m) l.asked)

either : (r w : Bool) (m : ℕ) (asked : Option ℕ) → (r ≡ true → w ≡ false) → cond w (Some m) (cond r None asked) ≡ cond r None (cond w (Some m) asked)
either true true m asked apart = absurd (let no = apart refl in cc)
either true false m asked apart = refl
either false w m asked apart = refl

pub remembers : (l : LinkState) (watchdog m : ℕ) (event : LinkEvent) (spare : Bool) (act : Act) → act ≡ if_room spare (act_on l watchdog m event) → Remembers l m (refreshes_by l event) (asks_for is_watchdog_request act) (after (after_event l m event) m act).heard (after (after_event l m event) m act).asked
remembers l watchdog m event spare act is = record {
  heard = after-heard (after_event l m event) m act ∙ noted-heard l m event;
  asked =
      after-asked (after_event l m event) m act
      ∙ ap (λ (o : Option ℕ). cond (asks_for is_watchdog_request act) (Some m) o) (noted-asked l m event)
      ∙ either (refreshes_by l event) (asks_for is_watchdog_request act) m l.asked
      (λ e. ap (asks_for is_watchdog_request) is ∙ room-unasked spare (act_on l watchdog m event) (refresh-unasked l watchdog m event e));
}
