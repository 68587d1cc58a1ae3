-- The rules of the link as one table: what is done about an input, by the phase (RFC 6733, sections 5.3 to 5.5 and
-- 6.2; RFC 3539, section 3.4; the phases and the choices are the profile's).
use Rattle.std.specs.Prelude.{ℕ, ◌+◌, ◌%◌, Bool, true, false, nat_le, nat_lt, ◌&&◌, Option, Some, None, if◌then◌else◌}
use Rattle.radius_packet.specs.declared.reasons.Reason.TheVariants.{WrongPhase, Unmatched}
use Rattle.diameter_message.specs.Results.{is_success}
use Rattle.peer_machine.specs.declared.Phase.{Phase}
use Rattle.peer_machine.specs.declared.Phase.TheVariants.{Closed, Greeting, Serving, Closing}
use Rattle.peer_machine.specs.declared.LinkCause.{LinkCause}
use Rattle.peer_machine.specs.declared.LinkCause.TheVariants.{Refused, PeerLeft, Broken, Ended, Watchdog, Stalled, Left}
use Rattle.peer_machine.specs.declared.words.BaseRequest.{BaseRequest}
use Rattle.peer_machine.specs.declared.words.BaseRequest.TheVariants.{CapabilitiesExchange, DeviceWatchdog, DisconnectPeer}
use Rattle.peer_machine.specs.declared.words.Said.{Said}
use Rattle.peer_machine.specs.declared.words.Said.TheVariants.{CapabilitiesRequest, CapabilitiesAnswer, WatchdogRequest, WatchdogAnswer, DisconnectRequest, DisconnectAnswer, SessionRequest, OtherRequest, ApplicationAnswer, OtherAnswer}
use Rattle.peer_machine.specs.declared.words.Event.{Event}
use Rattle.peer_machine.specs.declared.words.Event.TheVariants.{Opens, Serves, Says, Breaks, Ends, Ticks, Leaves}
use Rattle.peer_machine.specs.declared.words.Act.{Act}
use Rattle.peer_machine.specs.declared.words.Act.TheVariants.{Nothing, Serve, Discard, Pass, Close, Request, Answer, AnswerAndClose}
use Rattle.peer_machine.specs.declared.words.LinkState.{LinkState}

-- ---- what is done

-- the answer to the capabilities exchange
abbrev pub greeted : ℕ → Act
greeted result = if is_success result then Serve else Close (Refused result)

-- a message while the link serves or closes: 2001 is success, 5012 UNABLE_TO_COMPLY, 3001 COMMAND_UNSUPPORTED
abbrev pub open_said : Said → Act
open_said WatchdogRequest = Answer 2001 false
open_said WatchdogAnswer = Nothing
open_said (DisconnectRequest cause) = AnswerAndClose 2001 (PeerLeft cause)
open_said DisconnectAnswer = Discard WrongPhase
open_said SessionRequest = Answer 5012 false
open_said CapabilitiesRequest = Discard WrongPhase
open_said OtherRequest = Answer 3001 true
open_said ApplicationAnswer = Pass
open_said (CapabilitiesAnswer result) = Discard Unmatched
open_said OtherAnswer = Discard Unmatched

abbrev pub greeting_said : Said → Act
greeting_said (CapabilitiesAnswer result) = greeted result
greeting_said said = Discard WrongPhase

abbrev pub closing_said : Said → Act
closing_said DisconnectAnswer = Close Left
closing_said said = open_said said

abbrev pub on_said : Phase → Said → Act
on_said Closed said = Discard WrongPhase
on_said Greeting said = greeting_said said
on_said Serving said = open_said said
on_said Closing said = closing_said said

-- whether this moment is the watchdog's time past that one
abbrev pub is_past : ℕ → ℕ → ℕ → Bool
is_past since watchdog moment = nat_le (since + watchdog) moment

abbrev pub if_past : ℕ → ℕ → ℕ → Act → Act
if_past since watchdog moment act = if is_past since watchdog moment then act else Nothing

abbrev pub serving_tick : Option ℕ → ℕ → ℕ → ℕ → Act
serving_tick None heard watchdog moment = if_past heard watchdog moment (Request DeviceWatchdog)
serving_tick (Some asked) heard watchdog moment = if_past asked watchdog moment (Close Watchdog)

abbrev pub on_tick : Phase → LinkState → ℕ → ℕ → Act
on_tick Closed l watchdog moment = Nothing
on_tick Greeting l watchdog moment = if_past l.heard watchdog moment (Close Watchdog)
on_tick Serving l watchdog moment = serving_tick l.asked l.heard watchdog moment
on_tick Closing l watchdog moment = if_past l.leave watchdog moment (Close Left)

-- whether an Up or a Ready begins a link
abbrev pub may_begin : Phase → ℕ → Bool
may_begin Closed number = nat_lt number 18446744073709551615
may_begin phase number = false

abbrev pub on_begin : LinkState → Act → Act
on_begin l act = if may_begin l.phase l.number then act else Discard WrongPhase

abbrev pub on_end : Phase → LinkCause → Act
on_end Closed cause = Discard WrongPhase
on_end phase cause = Close cause

abbrev pub on_leave : Phase → Act
on_leave Closed = Discard WrongPhase
on_leave Greeting = Close Left
on_leave Serving = Request DisconnectPeer
on_leave Closing = Discard WrongPhase

-- the table
abbrev pub act_on : LinkState → ℕ → ℕ → Event → Act
act_on l watchdog moment Opens = on_begin l (Request CapabilitiesExchange)
act_on l watchdog moment Serves = on_begin l Serve
act_on l watchdog moment (Says said) = on_said l.phase said
act_on l watchdog moment (Breaks fault) = on_end l.phase (Broken fault)
act_on l watchdog moment Ends = on_end l.phase Ended
act_on l watchdog moment Ticks = on_tick l.phase l watchdog moment
act_on l watchdog moment Leaves = on_leave l.phase

-- a message of the link's own that has no room closes the link, and nothing else goes out
abbrev pub if_room : Bool → Act → Act
if_room true act = act
if_room false (Request request) = Close Stalled
if_room false (Answer code error) = Close Stalled
if_room false (AnswerAndClose code cause) = Close Stalled
if_room false act = act

-- ---- what the link is then

abbrev pub begun : LinkState → ℕ → LinkState
begun l moment = record { phase = l.phase; number = l.number + 1; heard = moment; asked = None; leave = 0; requests = 0 }

abbrev pub if_begun : LinkState → ℕ → LinkState
if_begun l moment = if may_begin l.phase l.number then begun l moment else l

-- any message of an open link is heard, whatever is done about it
abbrev pub heard_at : Phase → LinkState → ℕ → LinkState
heard_at Closed l moment = l
heard_at phase l moment = record l { heard = moment; asked = None }

-- what the input itself changes
abbrev pub after_event : LinkState → ℕ → Event → LinkState
after_event l moment Opens = if_begun l moment
after_event l moment Serves = if_begun l moment
after_event l moment (Says said) = heard_at l.phase l moment
after_event l moment event = l

abbrev pub requested : LinkState → ℕ → BaseRequest → LinkState
requested l moment CapabilitiesExchange = record l { phase = Greeting }
requested l moment DeviceWatchdog = record l { asked = Some moment }
requested l moment DisconnectPeer = record l { phase = Closing; leave = moment }

abbrev pub counted : LinkState → LinkState
counted l = record l { requests = (l.requests + 1) % 2147483648 }

-- what is done changes the rest
abbrev pub after : LinkState → ℕ → Act → LinkState
after l moment Serve = record l { phase = Serving }
after l moment (Close cause) = record l { phase = Closed }
after l moment (AnswerAndClose code cause) = record l { phase = Closed }
after l moment (Request request) = requested (counted l) moment request
after l moment act = l
