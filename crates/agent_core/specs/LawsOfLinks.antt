-- Laws of the rule about the link, for every history.
use Rattle.std.specs.Prelude.{◌≡◌, ℕ, ◌+◌, ◌<◌, ◌≤◌, Bool, true, false, ◌==◌, nat_le, ◌&&◌, ◌||◌, not, List, [], ◌∷◌, Option, Some, None, Result, Ok, Err, if◌then◌else◌}
use Rattle.std.specs.List.{AllByRecursion as Each}
use Rattle.std.specs.Result.{is_ok}
use Rattle.wire_core.specs.Numbers.{AreOctets}
use Rattle.diameter_message.specs.declared.fault.MessageFault.{MessageFault}
use Rattle.diameter_message.specs.declared.header.Header.{Header}
use Rattle.diameter_message.specs.Message.{MessageParts, read_message}
use Rattle.agent_settings.specs.declared.config.Config.{Config}
use Rattle.agent_settings.specs.Config.{InLimits}
use Rattle.peer_machine.specs.declared.Phase.{Phase}
use Rattle.peer_machine.specs.declared.Phase.TheVariants.{Closed, Greeting, Serving, Closing}
use Rattle.peer_machine.specs.declared.LinkCause.{LinkCause}
use Rattle.peer_machine.specs.declared.LinkCause.TheVariants.{Watchdog, Stalled}
use Rattle.peer_machine.specs.Reading.{said_in}
use Rattle.agent_events.specs.declared.events.Input.{Input}
use Rattle.agent_events.specs.declared.events.Input.TheVariants.{Up, Message, Tick}
use Rattle.agent_events.specs.declared.events.Output.{Output}
use Rattle.agent_events.specs.declared.events.Output.TheVariants as out
use Rattle.agent_core.specs.Links.{is_grant}
use Rattle.agent_core.specs.Places.{Event, Place, link, begins, is_serving, header_of, is_request, is_application_request, send_count, sent_on_link}
use Rattle.agent_core.specs.Rooms.{has_spare}
use Rattle.agent_core.specs.History.{place, past}
use Rattle.agent_core.specs.LawsOfSends.{IsTermination}

-- ---- the messages of a place

-- what is said of a message that goes out
abbrev pub IfSent : (List ℕ → Type 0) → Output → Type 0
IfSent P (out.Send octets) = P octets
IfSent P output = Unit {0}

abbrev pub EachMessage : (List ℕ → Type 0) → Place → Type 0
EachMessage P p = Each (IfSent P) p.outputs

abbrev pub is_any : Header → Bool
is_any h = true

abbrev pub is_answer : Header → Bool
is_answer h = not (is_request h)

abbrev pub is_capabilities_request : Header → Bool
is_capabilities_request h = is_request h && h.command == 257

abbrev pub is_watchdog_request : Header → Bool
is_watchdog_request h = is_request h && h.command == 280

abbrev pub is_disconnect_request : Header → Bool
is_disconnect_request h = is_request h && h.command == 282

-- ---- no link

-- where no link is there, and none begins, nothing is sent
abbrev pub NothingIsSentWithoutALink : Type 0
NothingIsSentWithoutALink = (config : Config) (history : List Event) (e : Event)
    → (link (past config history)).phase ≡ Closed → begins (past config history) e.input ≡ false
    → send_count is_any (place config (past config history) e) ≡ 0

-- ---- the requests of the home server

-- the elements of a message are octets
abbrev pub HasOctets : Input → Type 0
HasOctets (Message octets) = AreOctets octets
HasOctets input = Unit {0}

-- with its command and its two numbers
pub record IsAnswerTo (request answer : Header) : Type 0 where
  pub command : answer.command ≡ request.command
  pub hop : answer.hop ≡ request.hop
  pub end : answer.end ≡ request.end

-- what came in is a request, to which these octets are the answer
abbrev pub AnswersInput : Input → List ℕ → Type 0
AnswersInput (Message octets) answer = (is_request (header_of octets) ≡ true) × IsAnswerTo (header_of octets) (header_of answer)
AnswersInput input answer = ⊥

pub record AnswersOnce (input : Input) (p : Place) : Type 0 where
  pub once : send_count is_answer p ≤ 1
  pub own : EachMessage (λ octets. is_request (header_of octets) ≡ false → AnswersInput input octets) p

-- a request of the home server gets at most one answer, at its own place, and no answer goes out otherwise
abbrev pub HomeRequestsAreAnsweredOnce : Type 0
HomeRequestsAreAnsweredOnce = (config : Config) (history : List Event) (e : Event) → InLimits config → HasOctets e.input
    → AnswersOnce e.input (place config (past config history) e)

-- ---- a link that greets

-- an answer of success to the Capabilities-Exchange-Request of a link
abbrev pub is_granted_by : Result MessageParts MessageFault → Bool
is_granted_by (Ok message) = is_grant (said_in message)
is_granted_by (Err fault) = false

abbrev pub grants : Input → Bool
grants (Message octets) = is_granted_by (read_message octets)
grants input = false

-- the input that began the present link
abbrev pub began : List Place → Option Input
began [] = None
began (p ∷ ps) = if begins ps p.input then Some p.input else began ps

-- whether such an answer came since then
abbrev pub is_granted : List Place → Bool
is_granted [] = false
is_granted (p ∷ ps) = if begins ps p.input then false else grants p.input || is_granted ps

-- one message was sent on the present link: its Capabilities-Exchange-Request
pub record SentCapabilitiesAlone (ps : List Place) : Type 0 where
  pub any : sent_on_link is_any ps ≡ 1
  pub capabilities : sent_on_link is_capabilities_request ps ≡ 1

-- on a link that began with Up nothing but its one Capabilities-Exchange-Request goes out before an answer of success to it
abbrev pub LinksBeginWithCapabilities : Type 0
LinksBeginWithCapabilities = (config : Config) (history : List Event) → InLimits config
    → began (past config history) ≡ Some Up → is_granted (past config history) ≡ false
    → SentCapabilitiesAlone (past config history)

-- ---- the requests of the agent

-- the end of a session that follows an answer while the link closes
pub record EndsWhileClosing (config : Config) (ps : List Place) (p : Place) (octets : List ℕ) : Type 0 where
  pub closing : (link ps).phase ≡ Closing
  pub ends : IsTermination config ps p.matched octets

-- of the messages that meet the test only such ends go out
abbrev pub OnlyEnds : (Header → Bool) → Config → List Place → Place → Type 0
OnlyEnds test config ps p = EachMessage (λ octets. test (header_of octets) ≡ true → EndsWhileClosing config ps p octets) p

-- an application request goes out only where the link serves, before or after the input, but for such ends
abbrev pub RequestsGoWhereTheLinkServes : Type 0
RequestsGoWhereTheLinkServes = (config : Config) (history : List Event) (e : Event) → InLimits config
    → is_serving (link (past config history)).phase ≡ false → is_serving (place config (past config history) e).link.phase ≡ false
    → OnlyEnds is_application_request config (past config history) (place config (past config history) e)

-- behind the Disconnect-Peer-Request of a link no request goes out on it but such ends
abbrev pub DisconnectRequestsAreLast : Type 0
DisconnectRequestsAreLast = (config : Config) (history : List Event) (e : Event) → InLimits config
    → 1 ≤ sent_on_link is_disconnect_request (past config history) → begins (past config history) e.input ≡ false
    → OnlyEnds is_request config (past config history) (place config (past config history) e)

-- ---- the watchdog

abbrev pub is_closed : Phase → Bool
is_closed Closed = true
is_closed Greeting = false
is_closed Serving = false
is_closed Closing = false

-- a word of the home server: a message that can be read, while a link is there
abbrev pub is_word : List Place → Input → Bool
is_word ps (Message octets) = not (is_closed (link ps).phase) && is_ok (read_message octets)
is_word ps input = false

-- when the last word came; the beginning of the link is its first
abbrev pub last_word : List Place → ℕ
last_word [] = 0
last_word (p ∷ ps) = if begins ps p.input || is_word ps p.input then p.moment else last_word ps

-- when the last watchdog request was sent that no word followed
abbrev pub unanswered : List Place → Option ℕ
unanswered [] = None
unanswered (p ∷ ps) =
    if begins ps p.input || is_word ps p.input then None
    else if nat_le 1 (send_count is_watchdog_request p) then Some p.moment
    else unanswered ps

-- the place closes the link
pub record Closes (cause : LinkCause) (p : Place) : Type 0 where
  pub phase : p.link.phase ≡ Closed
  pub outputs : p.outputs ≡ out.Closed cause ∷ []

-- Once the watchdog's time has passed since the last word a watchdog request is sent, or the link closes where it has no room; once that
-- time has passed since a watchdog request that no word followed the link closes.
pub record Watches (config : Config) (ps : List Place) (p : Place) : Type 0 where
  pub asks : unanswered ps ≡ None → last_word ps + config.watchdog ≤ p.moment
      → has_spare config ps p.moment Tick ≡ true → send_count is_watchdog_request p ≡ 1
  pub stalls : unanswered ps ≡ None → last_word ps + config.watchdog ≤ p.moment
      → has_spare config ps p.moment Tick ≡ false → Closes Stalled p
  pub closes : (asked : ℕ) → unanswered ps ≡ Some asked → asked + config.watchdog ≤ p.moment → Closes Watchdog p

-- a Tick watches over a link that serves
abbrev pub TicksWatchTheLink : Type 0
TicksWatchTheLink = (config : Config) (history : List Event) (m : ℕ) → InLimits config → (link (past config history)).phase ≡ Serving
    → Watches config (past config history) (place config (past config history) (record { moment = m; input = Tick }))

abbrev pub is_tick : Input → Bool
is_tick Tick = true
is_tick input = false

-- the moments of the Ticks since the last word, the newest first
abbrev pub silent_ticks : List Place → List ℕ
silent_ticks [] = []
silent_ticks (p ∷ ps) =
    if begins ps p.input || is_word ps p.input then []
    else if is_tick p.input then p.moment ∷ silent_ticks ps
    else silent_ticks ps

-- While a link serves no Tick since the last word has come a watchdog's time after another one that came a watchdog's time after that word.
-- So it outlives the word by two of these times and the Ticks that come next.
abbrev pub SilentLinksClose : Type 0
SilentLinksClose = (config : Config) (history : List Event) → InLimits config → (link (past config history)).phase ≡ Serving
    → Each (λ first. last_word (past config history) + config.watchdog ≤ first
    → Each (λ second. second < first + config.watchdog) (silent_ticks (past config history)))
    (silent_ticks (past config history))
