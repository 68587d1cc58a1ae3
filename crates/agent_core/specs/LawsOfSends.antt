-- Laws of the rule about what goes out, for every history.
use Rattle.std.specs.Prelude.{◌≡◌, ℕ, ◌+◌, ◌*◌, ◌%◌, ◌≤◌, ◌==◌, max, Bool, true, false, ◌&&◌, bit_and, List, [], ◌∷◌, ◌++◌, length, filter, map, option_map, option_to_list, slice_get, Option, Some, None, Ok, IfSome, if◌then◌else◌}
use Rattle.std.specs.List.{AllByRecursion as Each, enumerate_from}
use Rattle.diameter_message.specs.declared.header.Header.{Header}
use Rattle.diameter_message.specs.Message.{parts_of}
use Rattle.session_carrier.specs.declared.kept.Kind2.{Kind2}
use Rattle.session_carrier.specs.declared.kept.Kind2.TheVariants.{Access, Eap}
use Rattle.session_carrier.specs.declared.kept.Kept.{Kept}
use Rattle.session_carrier.specs.declared.kept.Numbers.{Numbers}
use Rattle.translation.specs.Termination.{termination_text}
use Rattle.agent_settings.specs.declared.config.Config.{Config}
use Rattle.agent_settings.specs.Config.{InLimits}
use Rattle.radius_packet.specs.declared.reasons.Reason.{Reason}
use Rattle.agent_events.specs.declared.events.Input.{Input}
use Rattle.agent_events.specs.declared.events.Input.TheVariants.{Datagram, Tick, Drain}
use Rattle.agent_events.specs.declared.events.Output.{Output}
use Rattle.agent_events.specs.declared.events.Output.TheVariants.{Send, Dropped}
use Rattle.agent_core.specs.Settings.{end_number}
use Rattle.agent_core.specs.Verdict.{Request, verdict}
use Rattle.agent_core.specs.Places.{Event, Place, Taking, now, link, begins, is_serving, opens, takings, rank, waiting, header_of, is_sent, is_application_request, is_base_request, is_first_request, used, outbox, serial}
use Rattle.agent_core.specs.Requests.{request_sent}
use Rattle.agent_core.specs.History.{place, past, resends, next_numbers, outputs_after}
use Rattle.agent_core.specs.LawsOfRequests.{IsMatchedOnce}

-- ---- room is left

-- what waits can be sent again, and each that waits can be followed by one more request
pub record LeavesRoom (config : Config) (ps : List Place) : Type 0 where
  pub outbox : outbox ps + length (waiting config ps (now ps)) ≤ config.backlog + 64
  pub again : 2 * length (waiting config ps (now ps)) ≤ config.backlog
  pub used : used ps + length (waiting config ps (now ps)) ≤ 2147483648

abbrev pub RoomIsLeft : Type 0
RoomIsLeft = (config : Config) (history : List Event) → InLimits config → LeavesRoom config (past config history)

-- ---- outputs are few

-- how many can be sent again: all that wait, where the link doesn't serve yet
abbrev pub most_resent : Config → List Place → ℕ → ℕ
most_resent config ps m = if is_serving (link ps).phase then 0 else length (waiting config ps m)

-- what goes out for one event is three things at most, and what waits is sent again where the link opens
abbrev pub OutputsAreFew : Type 0
OutputsAreFew = (config : Config) (history : List Event) (e : Event)
    → length (outputs_after config history e) ≤ 3 + most_resent config (past config history) (max (now (past config history)) e.moment)

-- ---- sends are images

-- the application requests that go out at a place, in order
abbrev pub application_sends : Place → List Output
application_sends p = filter (is_sent is_application_request) p.outputs

-- a request that was taken up sent the image of the datagram that came
abbrev pub IsImageOf : Config → List Place → Input → Taking → Type 0
IsImageOf config ps (Datagram via address port octets) t = (request : Request) × (
    (verdict config via address port octets ≡ Ok request) × (t.sent ≡ request_sent config request (next_numbers config ps) (serial ps)))
IsImageOf config ps input t = ⊥

abbrev pub taken_sends : Option Taking → List Output
taken_sends None = []
taken_sends (Some t) = Send t.sent ∷ []

-- the application of the request that ends a session: Diameter EAP's or NASREQ's (RFC 4072; RFC 4005)
abbrev pub end_application : Kind2 → ℕ
end_application Eap = 5
end_application kind = 1

-- its Termination-Cause: DIAMETER_BAD_ANSWER, or what the client's Stop says (RFC 6733, section 8.15)
abbrev pub end_cause : Kind2 → Kept → ℕ
end_cause Access kept = 3
end_cause Eap kept = 3
end_cause kind kept = kept.cause

-- the Session-Termination-Request of a request: for its client, its session and its realm, with these numbers
pub record EndsSessionOf (t : Taking) (numbers : Numbers) (octets : List ℕ) : Type 0 where
  pub host : Option (List ℕ)
  pub text : octets ≡ termination_text t.settings t.kept (end_application t.kept.kind) (end_cause t.kept.kind t.kept) host numbers

-- a further request goes out only where a request is matched, and ends the session of this one, with the next numbers
abbrev pub IsTermination : Config → List Place → Option Taking → List ℕ → Type 0
IsTermination config ps None octets = ⊥
IsTermination config ps (Some t) octets = EndsSessionOf t (next_numbers config ps) octets

-- The application requests of a place are: the image of what is taken up; all that wait, each with flag T and its number as hop, where the
-- link opens; and at most one Session-Termination-Request where one is matched.
pub record SendsImages (config : Config) (ps : List Place) (p : Place) : Type 0 where
  pub image : IfSome p.taken (IsImageOf config ps p.input)
  pub again : p.resent ≡ (if opens (link ps).phase p.link.phase then waiting config ps p.moment else [])
  pub follow : Option (List ℕ)
  pub terminates : IfSome follow (IsTermination config ps p.matched)
  pub sends : application_sends p ≡ taken_sends p.taken ++ resends p.resent ++ option_to_list (option_map Send follow)

abbrev pub SendsAreImages : Type 0
SendsAreImages = (config : Config) (history : List Event) (e : Event) → InLimits config
    → SendsImages config (past config history) (place config (past config history) e)

-- ---- requests are numbered

-- the headers of what is sent at a place and meets the test, in order
abbrev pub headers_in : (Header → Bool) → List Output → List Header
headers_in test [] = []
headers_in test (Send octets ∷ outputs) = if test (header_of octets) then header_of octets ∷ headers_in test outputs else headers_in test outputs
headers_in test (output ∷ outputs) = headers_in test outputs

-- and of what was sent since the present link began, and since the start
abbrev pub headers_on_link : (Header → Bool) → List Place → List Header
headers_on_link test [] = []
headers_on_link test (p ∷ ps) = (if begins ps p.input then [] else headers_on_link test ps) ++ headers_in test p.outputs

abbrev pub headers_so_far : (Header → Bool) → List Place → List Header
headers_so_far test [] = []
headers_so_far test (p ∷ ps) = headers_so_far test ps ++ headers_in test p.outputs

-- Counted from 0, the k-th application request of a link has hop k, and there are at most 2^31; the k-th base request has hop
-- 2^31 + k mod 2^31; and the k-th request without flag T since the start has the End-to-End Identifier of k. So these numbers differ.
pub record Numbered (config : Config) (ps : List Place) : Type 0 where
  pub application : Each (λ k. k.1.hop ≡ k.0) (enumerate_from 0 (headers_on_link is_application_request ps))
  pub base : Each (λ k. k.1.hop ≡ 2147483648 + k.0 % 2147483648) (enumerate_from 0 (headers_on_link is_base_request ps))
  pub first : Each (λ k. k.1.end ≡ end_number config k.0) (enumerate_from 0 (headers_so_far is_first_request ps))
  pub few : length (headers_on_link is_application_request ps) ≤ 2147483648

abbrev pub RequestsAreNumbered : Type 0
RequestsAreNumbered = (config : Config) (history : List Event) → InLimits config → Numbered config (past config history)

-- ---- requests reach over links

-- with the same End-to-End Identifier and the same AVPs
pub record IsCopy (first other : List ℕ) : Type 0 where
  pub end : (header_of other).end ≡ (header_of first).end
  pub avps : (parts_of other).avps ≡ (parts_of first).avps

-- sent again, with flag T and this hop
pub record IsResent (first : List ℕ) (k : ℕ) (other : List ℕ) : Type 0 where
  pub copy : IsCopy first other
  pub flag : bit_and (header_of other).flags 16 ≡ 16
  pub hop : (header_of other).hop ≡ k

-- the k-th application request of a place is this request, sent again
abbrev pub SendsAgain : Place → Taking → ℕ → Type 0
SendsAgain p t k = (octets : List ℕ) × ((slice_get (application_sends p) k ≡ Some (Send octets)) × IsResent t.sent k octets)

abbrev pub ReachesAt : Place → Taking → Type 0
ReachesAt p t = IfSome (rank t.place 0 p.resent) (SendsAgain p t)

-- all Sends of one request are the same but for flag T and the hop, and at most one place over all links matches it
abbrev pub RequestsReachOverLinks : Type 0
RequestsReachOverLinks = (config : Config) (history : List Event) (e : Event) → InLimits config
    → Each (ReachesAt (place config (past config history) e)) (takings (past config history)) × IsMatchedOnce (past config history)

-- ---- drops are quiet

abbrev pub is_datagram : Input → Bool
is_datagram (Datagram via address port octets) = true
is_datagram input = false

abbrev pub IsDropped : List Output → Type 0
IsDropped outputs = (reason : Reason) × (outputs ≡ Dropped reason ∷ [])

-- datagrams that are dropped, whatever they are, leave all that comes later as it is
abbrev pub DropsAreQuiet : Type 0
DropsAreQuiet = (config : Config) (history more : List Event) (m : ℕ) (one other : Input) (e : Event)
    → is_datagram one ≡ true → is_datagram other ≡ true
    → IsDropped (outputs_after config history (record { moment = m; input = one }))
    → IsDropped (outputs_after config history (record { moment = m; input = other }))
    → outputs_after config (history ++ record { moment = m; input = one } ∷ more) e
    ≡ outputs_after config (history ++ record { moment = m; input = other } ∷ more) e

-- ---- what may be left out

abbrev pub leaves_all : Input → ℕ → Bool
leaves_all Tick outbox = true
leaves_all Drain outbox = outbox == 0
leaves_all input outbox = false

-- a Tick, or a Drain where nothing is to be handed over, at which nothing goes out
abbrev pub is_idle : Config → List Place → Event → Bool
is_idle config ps e = leaves_all e.input (outbox ps) && length (place config ps e).outputs == 0

-- the same event, no earlier than this moment
abbrev pub not_before : ℕ → Event → Event
not_before m e = record e { moment = max m e.moment }

-- what is idle may be left out: all that goes out later is the same, if nothing comes earlier than before
abbrev pub IdleInputsMayBeLeftOut : Type 0
IdleInputsMayBeLeftOut = (config : Config) (history more : List Event) (idle e : Event)
    → is_idle config (past config history) idle ≡ true
    → outputs_after config (history ++ idle ∷ more) e
    ≡ outputs_after config (history ++ map (not_before (max (now (past config history)) idle.moment)) more) (not_before (max (now (past config history)) idle.moment) e)

-- the events that aren't idle, each at the greatest moment so far
abbrev pub without_idle : Config → List Place → List Event → List Event
without_idle config ps [] = []
without_idle config ps (e ∷ es) =
    if is_idle config ps e then without_idle config (place config ps e ∷ ps) es
    else not_before (now ps) e ∷ without_idle config (place config ps e ∷ ps) es

-- what goes out for each event, and for each that isn't idle
abbrev pub each_outputs : Config → List Place → List Event → List (List Output)
each_outputs config ps [] = []
each_outputs config ps (e ∷ es) = (place config ps e).outputs ∷ each_outputs config (place config ps e ∷ ps) es

abbrev pub busy_outputs : Config → List Place → List Event → List (List Output)
busy_outputs config ps [] = []
busy_outputs config ps (e ∷ es) =
    if is_idle config ps e then busy_outputs config (place config ps e ∷ ps) es
    else (place config ps e).outputs ∷ busy_outputs config (place config ps e ∷ ps) es

-- without all that is idle, the same goes out for each of the others
abbrev pub IdleInputsChangeNoOutput : Type 0
IdleInputsChangeNoOutput = (config : Config) (history : List Event)
    → each_outputs config [] (without_idle config [] history) ≡ busy_outputs config [] history
