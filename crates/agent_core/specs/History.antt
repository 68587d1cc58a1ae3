-- The rule: what goes out for an input, by the whole history before it.
use Rattle.std.specs.Prelude.{ℕ, Bool, false, ◌==◌, ◌&&◌, max, List, [], ◌∷◌, ◌++◌, length, find, map, option_map, option_to_list, Option, Some, None, Result, Ok, Err, if◌then◌else◌}
use Rattle.std.specs.List.{enumerate_from}
use Rattle.radius_packet.specs.declared.reasons.Reason.{Reason}
use Rattle.radius_packet.specs.declared.reasons.Reason.TheVariants as reasons
use Rattle.diameter_message.specs.declared.fault.MessageFault.{MessageFault}
use Rattle.diameter_message.specs.declared.header.Header.{Header}
use Rattle.diameter_message.specs.Message.{MessageParts, message_text, parts_of, read_message}
use Rattle.diameter_message.specs.Retransmission.{retransmission_header}
use Rattle.session_carrier.specs.declared.kept.Kind2.{Kind2}
use Rattle.session_carrier.specs.declared.kept.Kind2.TheVariants.{Access, Eap, Start, Interim, Stop}
use Rattle.session_carrier.specs.declared.kept.Kept.{Kept}
use Rattle.session_carrier.specs.declared.kept.Numbers.{Numbers}
use Rattle.session_carrier.specs.declared.kept.Outcome.{Outcome}
use Rattle.agent_settings.specs.declared.config.Config.{Config}
use Rattle.agent_settings.specs.declared.client.Client.{Client}
use Rattle.translation.specs.Answers as access
use Rattle.translation.specs.declared.service.Service.TheVariants as services
use Rattle.accounting_map.specs.Answers as accounting
use Rattle.pending_table.specs.declared.key.Key.{Key}
use Rattle.pending_table.specs.Table.{same_key}
use Rattle.peer_machine.specs.Step.{PeerParts, output_of, act_at, link_at, sent, is_pass}
use Rattle.peer_machine.specs.Rules.{after}
use Rattle.peer_machine.specs.Reading.{said_in}
use Rattle.peer_machine.specs.declared.words.Event.TheVariants.{Opens, Serves, Says, Breaks, Ends, Ticks, Leaves}
use Rattle.peer_machine.specs.declared.words.Event.{Event as LinkEvent}
use Rattle.peer_machine.specs.declared.words.Act.{Act}
use Rattle.peer_machine.specs.declared.peer.PeerOutput.{PeerOutput}
use Rattle.agent_events.specs.declared.events.Input.{Input}
use Rattle.agent_events.specs.declared.events.Input.TheVariants.{Datagram, Up, Ready, Message, Broken, Down, Tick, Drain, Leave}
use Rattle.agent_events.specs.declared.events.Output.{Output}
use Rattle.agent_events.specs.declared.events.Output.TheVariants.{Reply, Send, Dropped, Closed}
use Rattle.agent_core.specs.Settings.{names, numbers_of, end_number}
use Rattle.agent_core.specs.Links.{LinkAt, with_requests, without_requests}
use Rattle.agent_core.specs.Verdict.{Request, verdict}
use Rattle.agent_core.specs.Places.{Event, Place, Taking, now, link, opens, header_of, answer_to, live, waiting, number, used, base, total, serial}
use Rattle.agent_core.specs.Rooms.{rooms, refusal, has_spare}
use Rattle.agent_core.specs.Requests.{is_fresh, kept_of, request_sent}

-- the link stays as it is, and nothing is taken up or matched
abbrev pub still : Config → List Place → ℕ → Input → List Output → Place
still config ps m input outputs = record {
  moment = m;
  input = input;
  link = link ps;
  taken = None;
  matched = None;
  resent = [];
  outputs = outputs;
}

-- ---- datagrams

-- the numbers of the next application request
abbrev pub next_numbers : Config → List Place → Numbers
next_numbers config ps = numbers_of config (used ps) (total ps)

abbrev pub taking_of : Config → List Place → ℕ → Request → Taking
taking_of config ps m request = record {
  place = length ps;
  moment = m;
  settings = request.settings;
  key = request.key;
  hop = used ps;
  sent = request_sent config request (next_numbers config ps) (serial ps);
  kept = kept_of config request (serial ps);
  fresh = is_fresh request;
}

abbrev pub taking_place : Config → List Place → ℕ → Input → Taking → Place
taking_place config ps m input t = record (still config ps m input (Send t.sent ∷ [])) { taken = Some t }

abbrev pub admitted : Config → List Place → ℕ → Input → Request → Option Reason → Place
admitted config ps m input request (Some reason) = still config ps m input (Dropped reason ∷ [])
admitted config ps m input request None = taking_place config ps m input (taking_of config ps m request)

-- what a request gets that comes again: the reply that it got, or why it gets none
abbrev pub repeated : Key → Option (Option (List ℕ)) → List Output
repeated key None = Dropped reasons.Waiting ∷ []
repeated key (Some None) = Dropped reasons.Silent ∷ []
repeated key (Some (Some octets)) = Reply key.via key.address key.port octets ∷ []

-- a request, by the live one of its key
abbrev pub requested : Config → List Place → ℕ → Input → Request → Option Taking → Place
requested config ps m input request (Some t) = still config ps m input (repeated t.key (answer_to t.place ps))
requested config ps m input request None = admitted config ps m input request (refusal config (rooms config ps m))

abbrev pub datagram : Config → List Place → ℕ → Input → Result Request Reason → Place
datagram config ps m input (Err reason) = still config ps m input (Dropped reason ∷ [])
datagram config ps m input (Ok request) =
    requested config ps m input request (find (λ t. same_key t.key request.key) (live config ps m))

-- ---- the link ([Peer rules])

abbrev pub link_outputs : PeerOutput → List Output
link_outputs o =
    option_to_list (option_map Send o.send) ++ option_to_list (option_map Closed o.closed)
    ++ option_to_list (option_map Dropped o.dropped)

-- a request that is sent again: flag T is set, and the hop is another (RFC 6733, section 3)
abbrev pub again : List ℕ → ℕ → List ℕ
again octets hop = message_text (retransmission_header (header_of octets) hop) (parts_of octets).avps

-- each request that waits is sent again, numbered from 0
abbrev pub resends : List Taking → List Output
resends ts = map (λ p. Send (again p.1.sent p.0)) (enumerate_from 0 ts)

-- the link as its rules see it
abbrev pub peer : Config → List Place → PeerParts
peer config ps = record { names = names config; watchdog = config.watchdog; link = with_requests (link ps) (base ps) }

-- what an input does about the link, the link after it, and what goes out for the link itself
abbrev pub link_act : Config → List Place → ℕ → Input → LinkEvent → Act
link_act config ps m input event = act_at (peer config ps) m event (has_spare config ps m input)

abbrev pub link_after : Config → List Place → ℕ → Input → LinkEvent → LinkAt
link_after config ps m input event =
    without_requests (after (link_at (peer config ps) m event) m (link_act config ps m input event))

abbrev pub link_output : Config → List Place → ℕ → Input → LinkEvent → Option MessageParts → PeerOutput
link_output config ps m input event message =
    output_of
    (sent (names config) (link_at (peer config ps) m event) (end_number config (total ps)) message (link_act config ps m input event))
    (link_act config ps m input event)

-- those that are sent again: all that wait, where the link opens
abbrev pub resent_by : Config → List Place → ℕ → LinkAt → List Taking
resent_by config ps m after = if opens (link ps).phase after.phase then waiting config ps m else []

abbrev pub linked : Config → List Place → ℕ → Input → LinkEvent → Option MessageParts → Place
linked config ps m input event message = record {
  moment = m;
  input = input;
  link = link_after config ps m input event;
  taken = None;
  matched = None;
  resent = resent_by config ps m (link_after config ps m input event);
  outputs =
      link_outputs (link_output config ps m input event message)
      ++ resends (resent_by config ps m (link_after config ps m input event));
}

-- ---- answers

abbrev pub command_of : Kind2 → ℕ
command_of Access = 265
command_of Eap = 268
command_of Start = 271
command_of Interim = 271
command_of Stop = 271

-- what an answer comes to, by the kind of the request
abbrev pub outcome : Kind2 → Client → Kept → MessageParts → Numbers → Outcome
outcome Access client kept message numbers = access.outcome services.Nasreq client kept message numbers
outcome Eap client kept message numbers = access.outcome services.Eap client kept message numbers
outcome Start client kept message numbers = accounting.outcome client kept message numbers
outcome Interim client kept message numbers = accounting.outcome client kept message numbers
outcome Stop client kept message numbers = accounting.outcome client kept message numbers

abbrev pub reply_outputs : Key → Option (List ℕ) → List Output
reply_outputs key None = []
reply_outputs key (Some octets) = Reply key.via key.address key.port octets ∷ []

abbrev pub is_number : ℕ → Option ℕ → Bool
is_number hop None = false
is_number hop (Some n) = n == hop

-- the request was last sent on this link with the answer's hop, and the answer is one to it
abbrev pub matches : List Place → Header → Taking → Bool
matches ps h t = is_number h.hop (number ps t) && h.command == command_of t.kept.kind

-- the reply, and then the further request
abbrev pub outcome_outputs : Key → Outcome → List Output
outcome_outputs key o = reply_outputs key o.reply ++ option_to_list (option_map Send o.follow)

-- an answer of the home server to a request of the agent, by the waiting one that it matches; the answer to a
-- Session-Termination-Request needs nothing more
abbrev pub answered : Config → List Place → ℕ → MessageParts → Place → Option Taking → Place
answered config ps m message p None =
    record p { outputs = if message.header.command == 275 then [] else Dropped reasons.Unmatched ∷ [] }
answered config ps m message p (Some t) = record p {
  matched = Some t;
  outputs = outcome_outputs t.key (outcome t.kept.kind t.settings t.kept message (next_numbers config ps));
}

-- the link hears a message first
abbrev pub heard : Config → List Place → ℕ → MessageParts → Place → Bool → Place
heard config ps m message p application =
    if application
    then answered config ps m message p (find (matches ps message.header) (waiting config ps m))
    else p

abbrev pub messaged : Config → List Place → ℕ → Input → Result MessageParts MessageFault → Place
messaged config ps m input (Err fault) = still config ps m input (Dropped reasons.BadMessage ∷ [])
messaged config ps m input (Ok message) =
    heard config ps m message (linked config ps m input (Says (said_in message)) (Some message))
    (is_pass (link_act config ps m input (Says (said_in message))))

-- ---- together

abbrev pub at_input : Config → List Place → ℕ → Input → Place
at_input config ps m (Datagram via address port octets) =
    datagram config ps m (Datagram via address port octets) (verdict config via address port octets)
at_input config ps m Up = linked config ps m Up Opens None
at_input config ps m Ready = linked config ps m Ready Serves None
at_input config ps m (Message octets) = messaged config ps m (Message octets) (read_message octets)
at_input config ps m (Broken fault) = linked config ps m (Broken fault) (Breaks fault) None
at_input config ps m Down = linked config ps m Down Ends None
at_input config ps m Tick = linked config ps m Tick Ticks None
at_input config ps m Drain = still config ps m Drain []
at_input config ps m Leave = linked config ps m Leave Leaves None

-- the effective moment is the greatest so far
abbrev pub place : Config → List Place → Event → Place
place config ps e = at_input config ps (max (now ps) e.moment) e.input

abbrev pub places : Config → List Place → List Event → List Place
places config ps [] = ps
places config ps (e ∷ es) = places config (place config ps e ∷ ps) es

-- the places of a history, the newest first
abbrev pub past : Config → List Event → List Place
past config history = places config [] history

-- what goes out for an event after a history
abbrev pub outputs_after : Config → List Event → Event → List Output
outputs_after config history e = (place config (past config history) e).outputs
