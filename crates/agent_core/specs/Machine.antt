-- What a core keeps of the history, and what a step makes of it. The rule doesn't stand on this: the code is compared with it, and it with
-- the rule.
use Rattle.std.specs.Prelude.{ℕ, ◌+◌, ◌%◌, Bool, true, false, ◌==◌, nat_lt, max, List, [], ◌∷◌, ◌++◌, length, map, Option, Some, None, slice_get, unwrap_or, is_some, Result, Ok, Err, if◌then◌else◌}
use Rattle.std.specs.List.{enumerate_from}
use Rattle.radius_packet.specs.declared.reasons.Reason.{Reason}
use Rattle.radius_packet.specs.declared.reasons.Reason.TheVariants as reasons
use Rattle.diameter_message.specs.declared.fault.MessageFault.{MessageFault}
use Rattle.diameter_message.specs.declared.header.Header.{Header}
use Rattle.diameter_message.specs.Message.{MessageParts, read_message}
use Rattle.session_carrier.specs.declared.kept.Kept.{Kept}
use Rattle.session_carrier.specs.declared.kept.Numbers.{Numbers}
use Rattle.session_carrier.specs.declared.kept.Outcome.{Outcome}
use Rattle.agent_settings.specs.declared.client.Client.{Client}
use Rattle.pending_table.specs.declared.key.Key.{Key}
use Rattle.pending_table.specs.declared.entry.Entry.{Entry}
use Rattle.pending_table.specs.Table as table
use Rattle.pending_table.specs.Table.{Row, TableParts, Told, Nothing, StillWaiting, NoReply}
use Rattle.peer_machine.specs.declared.Phase.{Phase}
use Rattle.peer_machine.specs.declared.Phase.TheVariants.{Closed, Greeting}
use Rattle.peer_machine.specs.Step.{PeerParts, act_at, link_at, sent, output_of, is_pass}
use Rattle.peer_machine.specs.Rules.{after, may_begin}
use Rattle.peer_machine.specs.Reading.{said_in}
use Rattle.peer_machine.specs.declared.words.LinkState.{LinkState}
use Rattle.peer_machine.specs.declared.words.Event.{Event as LinkEvent}
use Rattle.peer_machine.specs.declared.words.Event.TheVariants.{Opens, Serves, Says, Breaks, Ends, Ticks, Leaves}
use Rattle.peer_machine.specs.declared.words.Act.{Act}
use Rattle.peer_machine.specs.declared.peer.PeerOutput.{PeerOutput}
use Rattle.agent_events.specs.declared.events.Input.{Input}
use Rattle.agent_events.specs.declared.events.Input.TheVariants.{Datagram, Up, Ready, Message, Broken, Down, Tick, Drain, Leave}
use Rattle.agent_events.specs.declared.events.Output.{Output}
use Rattle.agent_events.specs.declared.events.Output.TheVariants.{Reply, Send, Dropped}
use Rattle.agent_core.specs.declared.ledger.Ledger.{Ledger}
use Rattle.agent_core.specs.Links.{is_grant}
use Rattle.agent_core.specs.Settings.{numbers_of, end_number}
use Rattle.agent_core.specs.Verdict.{Request, verdict}
use Rattle.agent_core.specs.Places.{opens}
use Rattle.agent_core.specs.Rooms.{Rooms, refusal}
use Rattle.agent_core.specs.Requests.{is_fresh, kept_of, request_sent}
use Rattle.agent_core.specs.History.{again, link_outputs, command_of, outcome, outcome_outputs}

-- what a step leaves, and what goes out
pub record Next : Type 0 where
  pub ledger : Ledger
  pub outputs : List Output

abbrev pub at_moment : Ledger → ℕ → Ledger
at_moment S m = record S { moment = max S.moment m }

abbrev pub says : Ledger → List Output → Next
says S outputs = record { ledger = S; outputs = outputs }

abbrev pub count_of : Bool → ℕ
count_of holds = if holds then 1 else 0

abbrev pub kept_waiting : Ledger → List Row
kept_waiting S = table.waiting S.table S.moment

abbrev pub kept_rooms : Ledger → Rooms
kept_rooms S = record {
  phase = S.peer.link.phase;
  used = S.used;
  outbox = S.outbox;
  serial = S.serial;
  live = length (table.live S.table S.moment);
  waiting = length (kept_waiting S);
}

abbrev pub kept_numbers : Ledger → Numbers
kept_numbers S = numbers_of S.config S.used S.total

-- ---- datagrams

abbrev pub sent_for : Ledger → Request → List ℕ
sent_for S request = request_sent S.config request (kept_numbers S) S.serial

-- a request that is taken up now
abbrev pub new_row : Ledger → Key → Kept → List ℕ → Row
new_row S key kept octets = (key, table.new_entry key S.peer.link.number S.used kept octets S.moment)

abbrev pub row_for : Ledger → Request → Row
row_for S request = new_row S request.key (kept_of S.config request S.serial) (sent_for S request)

abbrev pub with_row : Ledger → Row → Bool → Ledger
with_row S row fresh = record S {
  used = S.used + 1;
  outbox = S.outbox + 1;
  total = (S.total + 1) % 4294967296;
  serial = S.serial + count_of fresh;
  table = record S.table { entries = table.live S.table S.moment ++ row ∷ [] };
}

abbrev pub on_admission : Ledger → Request → Option Reason → Next
on_admission S request (Some reason) = says S (Dropped reason ∷ [])
on_admission S request None = says (with_row S (row_for S request) (is_fresh request)) (Send (sent_for S request) ∷ [])

-- what a request gets that comes again, by what a look tells of it; None where it is new
abbrev pub on_look : Key → Told → Option (List Output)
on_look key Nothing = None
on_look key StillWaiting = Some (Dropped reasons.Waiting ∷ [])
on_look key NoReply = Some (Dropped reasons.Silent ∷ [])
on_look key (table.Reply octets) = Some (Reply key.via key.address key.port octets ∷ [])

abbrev pub on_request : Ledger → Request → Option (List Output) → Next
on_request S request (Some outputs) = says S outputs
on_request S request None = on_admission S request (refusal S.config (kept_rooms S))

abbrev pub on_datagram : Ledger → Result Request Reason → Next
on_datagram S (Err reason) = says S (Dropped reason ∷ [])
on_datagram S (Ok request) = on_request S request (on_look request.key (table.told (table.find_key S.table request.key S.moment)))

-- ---- the link

-- whether this begins a link
abbrev pub begins_by : LinkState → LinkEvent → Bool
begins_by l Opens = may_begin l.phase l.number
begins_by l Serves = may_begin l.phase l.number
begins_by l event = false

-- a count of the present link, which a new link begins anew
abbrev pub count_before : Ledger → LinkEvent → ℕ → ℕ
count_before S event n = if begins_by S.peer.link event then 0 else n

abbrev pub keeps_spare : Ledger → LinkEvent → Bool
keeps_spare S event = nat_lt (count_before S event S.outbox + length (kept_waiting S)) (S.config.backlog + 64)

abbrev pub act_for : Ledger → LinkEvent → Act
act_for S event = act_at S.peer S.moment event (keeps_spare S event)

abbrev pub link_then : Ledger → LinkEvent → LinkState
link_then S event = after (link_at S.peer S.moment event) S.moment (act_for S event)

abbrev pub peer_then : Ledger → LinkEvent → PeerParts
peer_then S event = record S.peer { link = link_then S event }

abbrev pub output_for : Ledger → LinkEvent → Option MessageParts → PeerOutput
output_for S event message =
    output_of
    (sent S.peer.names (link_at S.peer S.moment event) (end_number S.config S.total) message (act_for S event))
    (act_for S event)

-- whether the link opens; only a Ready and an answer of success to its capabilities can open one
abbrev pub opens_then : Ledger → LinkEvent → Bool
opens_then S event = opens S.peer.link.phase (link_then S event).phase

abbrev pub may_open : Phase → LinkEvent → Bool
may_open Closed Serves = true
may_open Greeting (Says said) = is_grant said
may_open phase event = false

-- what the k-th of the waiting ones sends again
abbrev pub row_again : ℕ × Row → Output
row_again p = Send (again (unwrap_or (table.sent_of p.1.1.answer) []) p.0)

abbrev pub kept_resends : Ledger → List Output
kept_resends S = map row_again (enumerate_from 0 (kept_waiting S))

-- the requests that wait have the present link, and their numbers on it
abbrev pub table_relinked : TableParts → ℕ → ℕ → TableParts
table_relinked t number moment = record t { entries = table.relinked (record t { entries = table.live t moment }) number moment }

-- how many are sent again
abbrev pub resent_count : Ledger → Bool → ℕ
resent_count S opening = if opening then length (kept_waiting S) else 0

abbrev pub linked_ledger : Ledger → LinkEvent → Bool → PeerOutput → Ledger
linked_ledger S event opening o = record S {
  peer = peer_then S event;
  used = count_before S event S.used + resent_count S opening;
  outbox = count_before S event S.outbox + count_of (is_some o.send) + resent_count S opening;
  total = (S.total + count_of o.request) % 4294967296;
  table = if opening then table_relinked S.table (link_then S event).number S.moment else S.table;
}

abbrev pub on_link_by : Ledger → LinkEvent → Bool → PeerOutput → Next
on_link_by S event opening o =
    says (linked_ledger S event opening o) (link_outputs o ++ (if opening then kept_resends S else []))

abbrev pub on_link : Ledger → LinkEvent → Option MessageParts → Next
on_link S event message = on_link_by S event (opens_then S event) (output_for S event message)

-- ---- answers

-- the link hears it first
abbrev pub heard_ledger : Ledger → MessageParts → Ledger
heard_ledger S message = record S { peer = peer_then S (Says (said_in message)) }

-- where the reply of an entry goes
abbrev pub reply_key : Entry → Key
reply_key e = record { via = e.via; address = e.address; port = e.port; octets = [] }

-- the request that waits with this number has its reply, or silence; a further request is counted
abbrev pub settled_at : Ledger → ℕ → Option (List ℕ) → Bool → Ledger
settled_at S hop reply follows = record S {
  used = S.used + count_of follows;
  outbox = S.outbox + count_of follows;
  total = (S.total + count_of follows) % 4294967296;
  table = record S.table { entries = table.settled S.table S.peer.link.number hop S.moment reply };
}

-- the link hears the answer, and its number is the same
abbrev pub settled_ledger : Ledger → MessageParts → Option (List ℕ) → Bool → Ledger
settled_ledger S message reply follows = record (settled_at S message.header.hop reply follows) { peer = peer_then S (Says (said_in message)) }

abbrev pub on_outcome : Ledger → MessageParts → Entry → Outcome → Next
on_outcome S message e o =
    says (settled_ledger S message o.reply (is_some o.follow)) (outcome_outputs (reply_key e) o)

-- the client of an entry is there: its place is one of the settings'
abbrev pub on_client : Ledger → MessageParts → Entry → Option Client → Next
on_client S message e None = says (heard_ledger S message) []
on_client S message e (Some client) =
    on_outcome S message e (outcome e.kept.kind client e.kept message (kept_numbers S))

abbrev pub unmatched_outputs : Header → List Output
unmatched_outputs h = if h.command == 275 then [] else Dropped reasons.Unmatched ∷ []

abbrev pub on_unmatched : Ledger → MessageParts → Next
on_unmatched S message = says (heard_ledger S message) (unmatched_outputs message.header)

-- an entry with the answer's number gets it where it is an answer to its command
abbrev pub on_found : Ledger → MessageParts → Option Row → Next
on_found S message None = on_unmatched S message
on_found S message (Some row) =
    if message.header.command == command_of row.1.kept.kind
    then on_client S message row.1 (slice_get S.config.clients row.1.kept.client)
    else on_unmatched S message

abbrev pub on_answer : Ledger → MessageParts → Next
on_answer S message = on_found S message (table.find_number S.table S.peer.link.number message.header.hop S.moment)

abbrev pub passes : Ledger → MessageParts → Bool
passes S message = is_pass (act_for S (Says (said_in message)))

abbrev pub on_message : Ledger → Result MessageParts MessageFault → Next
on_message S (Err fault) = says S (Dropped reasons.BadMessage ∷ [])
on_message S (Ok message) =
    if passes S message then on_answer S message else on_link S (Says (said_in message)) (Some message)

-- the entry that an answer settles, where it is an answer to its command
abbrev pub settles : MessageParts → Option Row → Option Entry
settles message None = None
settles message (Some row) = if message.header.command == command_of row.1.kept.kind then Some row.1 else None

-- the entry that a message would settle
abbrev pub awaited_by : Ledger → MessageParts → Option Entry
awaited_by S message =
    if passes S message then settles message (table.find_number S.table S.peer.link.number message.header.hop S.moment) else None

abbrev pub awaited : Ledger → Result MessageParts MessageFault → Option Entry
awaited S (Err fault) = None
awaited S (Ok message) = awaited_by S message

-- ---- together

abbrev pub drained : Ledger → Ledger
drained S = record S { outbox = 0 }

abbrev pub on_input : Ledger → Input → Next
on_input S (Datagram via address port octets) = on_datagram S (verdict S.config via address port octets)
on_input S Up = on_link S Opens None
on_input S Ready = on_link S Serves None
on_input S (Message octets) = on_message S (read_message octets)
on_input S (Broken fault) = on_link S (Breaks fault) None
on_input S Down = on_link S Ends None
on_input S Tick = on_link S Ticks None
on_input S Drain = says (drained S) []
on_input S Leave = on_link S Leaves None

-- dead entries aren't kept
abbrev pub purged : Ledger → Ledger
purged S = record S { table = record S.table { entries = table.live S.table S.moment } }

abbrev pub tidied : Next → Next
tidied n = record { ledger = purged n.ledger; outputs = n.outputs }

-- the effective moment is the greatest so far
abbrev pub next : Ledger → ℕ → Input → Next
next S m input = tidied (on_input (at_moment S m) input)
