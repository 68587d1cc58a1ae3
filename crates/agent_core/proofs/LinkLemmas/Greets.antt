-- How a link comes to greet, and that nothing is sent while it does.
use Rattle.std.proofs.Common.{◌≡◌, ℕ, ◌⊎◌, inl, inr, Bool, true, false, cond, Option, Some, None, refl, sym, ◌∙◌, ap}
use Rattle.std.specs.Prelude.{is_some}
use Rattle.radius_packet.specs.declared.reasons.Reason.TheVariants.{WrongPhase}
use Rattle.diameter_message.specs.Message.{MessageParts}
use Rattle.diameter_message.specs.Results.{is_success}
use Rattle.peer_machine.specs.declared.Phase.{Phase}
use Rattle.peer_machine.specs.declared.Phase.TheVariants.{Closed, Greeting, Serving, Closing}
use Rattle.peer_machine.specs.declared.LinkCause.{LinkCause}
use Rattle.peer_machine.specs.declared.LinkCause.TheVariants as causes
use Rattle.peer_machine.specs.declared.messages.Names.{Names}
use Rattle.peer_machine.specs.declared.words.LinkState.{LinkState}
use Rattle.peer_machine.specs.declared.words.BaseRequest.TheVariants.{CapabilitiesExchange, DeviceWatchdog, DisconnectPeer}
use Rattle.peer_machine.specs.declared.words.Said.{Said}
use Rattle.peer_machine.specs.declared.words.Said.TheVariants.{CapabilitiesRequest, CapabilitiesAnswer, WatchdogRequest, WatchdogAnswer, DisconnectRequest, DisconnectAnswer, SessionRequest, OtherRequest, ApplicationAnswer, OtherAnswer}
use Rattle.peer_machine.specs.declared.words.Event.{Event as LinkEvent}
use Rattle.peer_machine.specs.declared.words.Event.TheVariants.{Opens, Serves, Says, Breaks, Ends, Ticks, Leaves}
use Rattle.peer_machine.specs.declared.words.Act.{Act}
use Rattle.peer_machine.specs.declared.words.Act.TheVariants.{Nothing, Serve, Discard, Pass, Close, Request, Answer, AnswerAndClose}
use Rattle.peer_machine.specs.Rules.{act_on, on_end, on_said, open_said, greeting_said, closing_said, on_tick, on_leave, is_past, serving_tick, if_room, may_begin, after_event, after}
use Rattle.peer_machine.specs.Step.{sent}
use Rattle.agent_core.specs.Machine.{begins_by}
use Rattle.agent_core.proofs.LinkLemmas.Opening.{noted-phase}

-- the act that begins to greet
abbrev pub is_ask : Act → Bool
is_ask (Request CapabilitiesExchange) = true
is_ask act = false

-- the acts of a link that greets
abbrev pub is_quiet : Act → Bool
is_quiet Nothing = true
is_quiet Serve = true
is_quiet (Discard reason) = true
is_quiet (Close cause) = true
is_quiet act = false

-- ---- what asks

asks-open : (said : Said) → is_ask (open_said said) ≡ false
asks-open WatchdogRequest = refl
asks-open WatchdogAnswer = refl
asks-open (DisconnectRequest cause) = refl
asks-open DisconnectAnswer = refl
asks-open SessionRequest = refl
asks-open CapabilitiesRequest = refl
asks-open OtherRequest = refl
asks-open ApplicationAnswer = refl
asks-open (CapabilitiesAnswer result) = refl
asks-open OtherAnswer = refl

asks-closing : (said : Said) → is_ask (closing_said said) ≡ false
asks-closing WatchdogRequest = refl
asks-closing WatchdogAnswer = refl
asks-closing (DisconnectRequest cause) = refl
asks-closing DisconnectAnswer = refl
asks-closing SessionRequest = refl
asks-closing CapabilitiesRequest = refl
asks-closing OtherRequest = refl
asks-closing ApplicationAnswer = refl
asks-closing (CapabilitiesAnswer result) = refl
asks-closing OtherAnswer = refl

quiet-if : (b : Bool) (yes_act no_act : Act) → is_quiet yes_act ≡ true → is_quiet no_act ≡ true → is_quiet (cond b yes_act no_act) ≡ true
quiet-if true yes_act no_act e f = e
quiet-if false yes_act no_act e f = f

pub quiet-greeting : (said : Said) → is_quiet (greeting_said said) ≡ true
quiet-greeting WatchdogRequest = refl
quiet-greeting WatchdogAnswer = refl
quiet-greeting (DisconnectRequest cause) = refl
quiet-greeting DisconnectAnswer = refl
quiet-greeting SessionRequest = refl
quiet-greeting CapabilitiesRequest = refl
quiet-greeting OtherRequest = refl
quiet-greeting ApplicationAnswer = refl
quiet-greeting (CapabilitiesAnswer result) = quiet-if (is_success result) Serve (Close (causes.Refused result)) refl refl
quiet-greeting OtherAnswer = refl

asks-not : (act : Act) → is_quiet act ≡ true → is_ask act ≡ false
asks-not Nothing e = refl
asks-not Serve e = refl
asks-not (Discard reason) e = refl
asks-not Pass e = refl
asks-not (Close cause) e = refl
asks-not (Request request) e = absurd (cc)
asks-not (Answer code error) e = refl
asks-not (AnswerAndClose code cause) e = refl

asks-said : (phase : Phase) (said : Said) → is_ask (on_said phase said) ≡ false
asks-said Closed said = refl
asks-said Greeting said = asks-not (greeting_said said) (quiet-greeting said)
asks-said Serving said = asks-open said
asks-said Closing said = asks-closing said

asks-end : (phase : Phase) (cause : LinkCause) → is_ask (on_end phase cause) ≡ false
asks-end Closed cause = refl
asks-end Greeting cause = refl
asks-end Serving cause = refl
asks-end Closing cause = refl

asks-leave : (phase : Phase) → is_ask (on_leave phase) ≡ false
asks-leave Closed = refl
asks-leave Greeting = refl
asks-leave Serving = refl
asks-leave Closing = refl

asks-if : (b : Bool) (act : Act) → is_ask act ≡ false → is_ask (cond b act Nothing) ≡ false
asks-if true act e = e
asks-if false act e = refl

asks-serving : (asked : Option ℕ) (heard watchdog m : ℕ) → is_ask (serving_tick asked heard watchdog m) ≡ false
asks-serving None heard watchdog m = asks-if (is_past heard watchdog m) (Request DeviceWatchdog) refl
asks-serving (Some asked) heard watchdog m = asks-if (is_past asked watchdog m) (Close causes.Watchdog) refl

asks-tick : (phase : Phase) (l : LinkState) (watchdog m : ℕ) → is_ask (on_tick phase l watchdog m) ≡ false
asks-tick Closed l watchdog m = refl
asks-tick Greeting l watchdog m = asks-if (is_past l.heard watchdog m) (Close causes.Watchdog) refl
asks-tick Serving l watchdog m = asks-serving l.asked l.heard watchdog m
asks-tick Closing l watchdog m = asks-if (is_past l.leave watchdog m) (Close causes.Left) refl

asks-begin : (b : Bool) → is_ask (cond b (Request CapabilitiesExchange) (Discard WrongPhase)) ≡ true → b ≡ true
asks-begin true e = refl
asks-begin false e = absurd (cc)

serves-not : (b : Bool) → is_ask (cond b Serve (Discard WrongPhase)) ≡ false
serves-not true = refl
serves-not false = refl

begins-asked : (l : LinkState) (watchdog m : ℕ) (event : LinkEvent) → is_ask (act_on l watchdog m event) ≡ true → begins_by l event ≡ true
begins-asked l watchdog m Opens e = asks-begin (may_begin l.phase l.number) e
begins-asked l watchdog m Serves e = absurd (let no = serves-not (may_begin l.phase l.number) in cc)
begins-asked l watchdog m (Says said) e = absurd (let no = asks-said l.phase said in cc)
begins-asked l watchdog m (Breaks fault) e = absurd (let no = asks-end l.phase (causes.Broken fault) in cc)
begins-asked l watchdog m Ends e = absurd (let no = asks-end l.phase causes.Ended in cc)
begins-asked l watchdog m Ticks e = absurd (let no = asks-tick l.phase l watchdog m in cc)
begins-asked l watchdog m Leaves e = absurd (let no = asks-leave l.phase in cc)

asks-room : (spare : Bool) (act : Act) → is_ask (if_room spare act) ≡ true → is_ask act ≡ true
asks-room true act e = e
asks-room false Nothing e = absurd (cc)
asks-room false Serve e = absurd (cc)
asks-room false (Discard reason) e = absurd (cc)
asks-room false Pass e = absurd (cc)
asks-room false (Close cause) e = absurd (cc)
asks-room false (Request request) e = absurd (cc)
asks-room false (Answer code error) e = absurd (cc)
asks-room false (AnswerAndClose code cause) e = absurd (cc)

-- ---- what is quiet

quiet-tick : (phase : Phase) (l : LinkState) (watchdog m : ℕ) → phase ≡ Greeting → is_quiet (on_tick phase l watchdog m) ≡ true
quiet-tick phase l watchdog m is =
    ap (λ p. is_quiet (on_tick p l watchdog m)) is ∙ quiet-if (is_past l.heard watchdog m) (Close causes.Watchdog) Nothing refl refl

quiet-act : (l : LinkState) (watchdog m : ℕ) (event : LinkEvent) → l.phase ≡ Greeting → is_quiet (act_on l watchdog m event) ≡ true
quiet-act l watchdog m Opens is = ap (λ p. is_quiet (cond (may_begin p l.number) (Request CapabilitiesExchange) (Discard WrongPhase))) is
quiet-act l watchdog m Serves is = ap (λ p. is_quiet (cond (may_begin p l.number) Serve (Discard WrongPhase))) is
quiet-act l watchdog m (Says said) is = ap (λ p. is_quiet (on_said p said)) is ∙ quiet-greeting said
quiet-act l watchdog m (Breaks fault) is = ap (λ p. is_quiet (on_end p (causes.Broken fault))) is
quiet-act l watchdog m Ends is = ap (λ p. is_quiet (on_end p causes.Ended)) is
quiet-act l watchdog m Ticks is = quiet-tick l.phase l watchdog m is
quiet-act l watchdog m Leaves is = ap (λ p. is_quiet (on_leave p)) is

pub quiet-room : (spare : Bool) (act : Act) → is_quiet act ≡ true → is_quiet (if_room spare act) ≡ true
quiet-room true act e = e
quiet-room false Nothing e = refl
quiet-room false Serve e = refl
quiet-room false (Discard reason) e = refl
quiet-room false Pass e = e
quiet-room false (Close cause) e = refl
quiet-room false (Request request) e = refl
quiet-room false (Answer code error) e = refl
quiet-room false (AnswerAndClose code cause) e = refl

pub quiet-greets : (l : LinkState) (watchdog m : ℕ) (event : LinkEvent) (spare : Bool) → l.phase ≡ Greeting → is_quiet (if_room spare (act_on l watchdog m event)) ≡ true
quiet-greets l watchdog m event spare is = quiet-room spare (act_on l watchdog m event) (quiet-act l watchdog m event is)

-- what is quiet sends nothing
pub quiet-unsent : (names : Names) (l : LinkState) (end : ℕ) (message : Option MessageParts) (act : Act) → is_quiet act ≡ true → is_some (sent names l end message act) ≡ false
quiet-unsent names l end message Nothing e = refl
quiet-unsent names l end message Serve e = refl
quiet-unsent names l end message (Discard reason) e = refl
quiet-unsent names l end message Pass e = refl
quiet-unsent names l end message (Close cause) e = refl
quiet-unsent names l end message (Request request) e = absurd (cc)
quiet-unsent names l end message (Answer code error) e = absurd (cc)
quiet-unsent names l end message (AnswerAndClose code cause) e = absurd (cc)

-- what is sent has room
pub sent-room : (names : Names) (l : LinkState) (end : ℕ) (message : Option MessageParts) (spare : Bool) (act : Act) → is_some (sent names l end message (if_room spare act)) ≡ true → spare ≡ true
sent-room names l end message true act e = refl
sent-room names l end message false Nothing e = absurd (cc)
sent-room names l end message false Serve e = absurd (cc)
sent-room names l end message false (Discard reason) e = absurd (cc)
sent-room names l end message false Pass e = absurd (cc)
sent-room names l end message false (Close cause) e = absurd (cc)
sent-room names l end message false (Request request) e = absurd (cc)
sent-room names l end message false (Answer code error) e = absurd (cc)
sent-room names l end message false (AnswerAndClose code cause) e = absurd (cc)

-- ---- together

greets-by : (l : LinkState) (m : ℕ) (act : Act) → (after l m act).phase ≡ Greeting → (l.phase ≡ Greeting) ⊎ (is_ask act ≡ true)
greets-by l m Nothing e = inl e
greets-by l m Serve e = absurd (cc)
greets-by l m (Discard reason) e = inl e
greets-by l m Pass e = inl e
greets-by l m (Close cause) e = absurd (cc)
greets-by l m (Request CapabilitiesExchange) e = inr refl
greets-by l m (Request DeviceWatchdog) e = inl e
greets-by l m (Request DisconnectPeer) e = absurd (cc)
greets-by l m (Answer code error) e = inl e
greets-by l m (AnswerAndClose code cause) e = absurd (cc)

or-begun : (l : LinkState) (watchdog m : ℕ) (event : LinkEvent) (spare : Bool) → ((after_event l m event).phase ≡ Greeting) ⊎ (is_ask (if_room spare (act_on l watchdog m event)) ≡ true) → (l.phase ≡ Greeting) ⊎ (begins_by l event ≡ true)
or-begun l watchdog m event spare (inl still) = inl (sym (noted-phase l m event) ∙ still)
or-begun l watchdog m event spare (inr ask) = inr (begins-asked l watchdog m event (asks-room spare (act_on l watchdog m event) ask))

-- a link that greets did so before, or begins
pub greets : (l : LinkState) (watchdog m : ℕ) (event : LinkEvent) (spare : Bool) → (after (after_event l m event) m (if_room spare (act_on l watchdog m event))).phase ≡ Greeting → (l.phase ≡ Greeting) ⊎ (begins_by l event ≡ true)
greets l watchdog m event spare e =
    or-begun l watchdog m event spare (greets-by (after_event l m event) m (if_room spare (act_on l watchdog m event)) e)
