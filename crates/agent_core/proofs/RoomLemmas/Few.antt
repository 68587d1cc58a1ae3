-- A step has few outputs.
use Rattle.std.proofs.Common.{◌≡◌, ℕ, suc, ◌+◌, ◌≤◌, ◌==◌, Bool, true, false, List, [], ◌∷◌, ◌++◌, length, map, option_map, option_to_list, if◌then◌else◌, Option, Some, None, Result, Ok, Err, refl, ap, arith}
use Rattle.std.specs.Prelude.{slice_get, IfOk}
use Rattle.std.specs.List.{enumerate_from}
use Rattle.std.proofs.lemmas.List.{length-append}
use Rattle.radius_packet.specs.declared.reasons.Reason.{Reason}
use Rattle.radius_packet.specs.declared.reasons.Reason.TheVariants as reasons
use Rattle.diameter_message.specs.declared.fault.MessageFault.{MessageFault}
use Rattle.diameter_message.specs.Message.{MessageParts, read_message}
use Rattle.session_carrier.specs.declared.kept.Outcome.{Outcome}
use Rattle.agent_settings.specs.declared.client.Client.{Client}
use Rattle.pending_table.specs.declared.key.Key.{Key}
use Rattle.pending_table.specs.declared.entry.Entry.{Entry}
use Rattle.pending_table.specs.Table as table
use Rattle.pending_table.specs.Table.{Row, Told, Nothing, StillWaiting, NoReply}
use Rattle.peer_machine.specs.declared.words.Event.{Event as LinkEvent}
use Rattle.peer_machine.specs.declared.words.Event.TheVariants.{Opens, Serves, Says, Breaks, Ends, Ticks, Leaves}
use Rattle.peer_machine.specs.declared.peer.PeerOutput.{PeerOutput}
use Rattle.peer_machine.specs.Reading.{said_in}
use Rattle.agent_events.specs.declared.events.Input.{Input}
use Rattle.agent_events.specs.declared.events.Input.TheVariants.{Datagram, Up, Ready, Message, Broken, Down, Tick, Drain, Leave}
use Rattle.agent_events.specs.declared.events.Output.{Output}
use Rattle.agent_events.specs.declared.events.Output.TheVariants.{Send, Dropped, Closed}
use Rattle.agent_core.specs.declared.ledger.Ledger.{Ledger}
use Rattle.agent_core.specs.Verdict.{Request, verdict}
use Rattle.agent_core.specs.Rooms.{refusal}
use Rattle.agent_core.specs.History.{command_of, link_outputs, reply_outputs, outcome, outcome_outputs}
use Rattle.agent_core.specs.Machine.{Next, at_moment, kept_waiting, kept_rooms, kept_numbers, kept_resends, row_again, on_look, on_admission, on_request, on_datagram, opens_then, output_for, on_link, on_client, on_found, on_answer, passes, on_message, reply_key, on_input, next}
use Rattle.agent_core.specs.Standing.{IsSteady}
use Rattle.agent_core.proofs.RoomLemmas.Limits.{limits}
use Rattle.agent_core.proofs.StandingLemmas.Later.{steady-later}

-- at most so many outputs
abbrev IsFew : ℕ → Next → Type 0
IsFew n x = length x.outputs ≤ n

either-few : (b : Bool) (x y : Next) (n : ℕ) → IsFew n x → IsFew n y → IsFew n (if b then x else y)
either-few true x y n few many = few
either-few false x y n few many = many

more-few : (x : Next) (n m : ℕ) → n ≤ m → IsFew n x → IsFew m x
more-few x n m below few = omega (arith, below, few)

option-few : {A : Type 0} (o : Option A) (f : A → Output) → length (option_to_list (option_map f o)) ≤ 1
option-few None f = omega arith
option-few (Some x) f = omega arith

-- what the link says of itself
pub said-few : (o : PeerOutput) → length (link_outputs o) ≤ 3
said-few o =
    let a = option-few o.send Send in
    let b = option-few o.closed Closed in
    let d = option-few o.dropped Dropped in
    let front = option_to_list (option_map Send o.send) ++ option_to_list (option_map Closed o.closed) in
    let all : length (link_outputs o) ≡ length front + length (option_to_list (option_map Dropped o.dropped)) = length-append front (option_to_list (option_map Dropped o.dropped)) in
    let first : length front ≡ length (option_to_list (option_map Send o.send)) + length (option_to_list (option_map Closed o.closed)) =
    length-append (option_to_list (option_map Send o.send)) (option_to_list (option_map Closed o.closed)) in
    omega (arith, a, b, d, all, first)

length-rows : (k : ℕ) (rows : List Row) → length (map row_again (enumerate_from k rows)) ≡ length rows
length-rows k [] = refl
length-rows k (r ∷ rows) = ap suc (length-rows (k + 1) rows)

again-few : (S : Ledger) (opening : Bool) → IsSteady S → length (if opening then kept_resends S else []) ≤ 32768
again-few S true steady =
    let most = (limits S.config steady.limits.settings).backlog in
    omega (arith, length-rows 0 (kept_waiting S), steady.rooms.again, most)
again-few S false steady = omega arith

linked-few : (S : Ledger) (event : LinkEvent) (message : Option MessageParts) → IsSteady S → IsFew 32771 (on_link S event message)
linked-few S event message steady =
    let said = link_outputs (output_for S event message) in
    let again = if opens_then S event then kept_resends S else [] in
    let all : length (on_link S event message).outputs ≡ length said + length again = length-append said again in
    let few : length said ≤ 3 = said-few (output_for S event message) in
    let most : length again ≤ 32768 = again-few S (opens_then S event) steady in
    omega (arith, all, few, most)

-- a datagram

admission-few : (S : Ledger) (request : Request) (r : Option Reason) → IsFew 1 (on_admission S request r)
admission-few S request None = omega arith
admission-few S request (Some reason) = omega arith

request-few : (S : Ledger) (request : Request) (told : Told) → IsFew 1 (on_request S request (on_look request.key told))
request-few S request Nothing = admission-few S request (refusal S.config (kept_rooms S))
request-few S request StillWaiting = omega arith
request-few S request NoReply = omega arith
request-few S request (table.Reply octets) = omega arith

datagram-few : (S : Ledger) (r : Result Request Reason) → IsFew 1 (on_datagram S r)
datagram-few S (Err reason) = omega arith
datagram-few S (Ok request) = request-few S request (table.told (table.find_key S.table request.key S.moment))

-- a message

reply-few : (key : Key) (o : Option (List ℕ)) → length (reply_outputs key o) ≤ 1
reply-few key None = omega arith
reply-few key (Some octets) = omega arith

pub outcome-few : (key : Key) (o : Outcome) → length (outcome_outputs key o) ≤ 2
outcome-few key o =
    let reply = reply_outputs key o.reply in
    let follow = option_to_list (option_map Send o.follow) in
    let all : length (outcome_outputs key o) ≡ length reply + length follow = length-append reply follow in
    let one : length reply ≤ 1 = reply-few key o.reply in
    let more : length follow ≤ 1 = option-few o.follow Send in
    omega (arith, all, one, more)

client-few : (S : Ledger) (message : MessageParts) (e : Entry) (client : Option Client) → IsFew 2 (on_client S message e client)
client-few S message e None = omega arith
client-few S message e (Some client) = outcome-few (reply_key e) (outcome e.kept.kind client e.kept message (kept_numbers S))

pub unmatched-few : (b : Bool) → length (if b then [] else Dropped reasons.Unmatched ∷ []) ≤ 2
unmatched-few true = omega arith
unmatched-few false = omega arith

found-few : (S : Ledger) (message : MessageParts) (row : Option Row) → IsFew 2 (on_found S message row)
found-few S message None = unmatched-few (message.header.command == 275)
found-few S message (Some row) =
    either-few (message.header.command == command_of row.1.kept.kind) _ _ 2
    (client-few S message row.1 (slice_get S.config.clients row.1.kept.client))
    (unmatched-few (message.header.command == 275))

message-few : (S : Ledger) (r : Result MessageParts MessageFault) → IsSteady S → IsFew 32771 (on_message S r)
message-few S (Err fault) steady = omega arith
message-few S (Ok message) steady =
    either-few (passes S message) (on_answer S message) (on_link S (Says (said_in message)) (Some message)) 32771
    (more-few (on_answer S message) 2 32771 (omega arith) (found-few S message (table.find_number S.table S.peer.link.number message.header.hop S.moment)))
    (linked-few S (Says (said_in message)) (Some message) steady)

-- together

input-few : (S : Ledger) (input : Input) → IsSteady S → IsFew 32771 (on_input S input)
input-few S (Datagram via address port octets) steady =
    more-few (on_datagram S (verdict S.config via address port octets)) 1 32771 (omega arith) (datagram-few S (verdict S.config via address port octets))
input-few S Up steady = linked-few S Opens None steady
input-few S Ready steady = linked-few S Serves None steady
input-few S (Message octets) steady = message-few S (read_message octets) steady
input-few S (Broken fault) steady = linked-few S (Breaks fault) None steady
input-few S Down steady = linked-few S Ends None steady
input-few S Tick steady = linked-few S Ticks None steady
input-few S Drain steady = omega arith
input-few S Leave steady = linked-few S Leaves None steady

pub step-few : (S : Ledger) (m : ℕ) (input : Input) → IsSteady S → length (next S m input).outputs ≤ 32771
step-few S m input steady = input-few (at_moment S m) input (steady-later S m steady)

-- of what a step gives
pub few-of : {E : Type 0} (S : Ledger) (m : ℕ) (input : Input) (r : Result (List Output) E) → IfOk r (λ o. o ≡ (next S m input).outputs) → IsSteady S → IfOk r (λ o. length o ≤ 32771)
few-of S m input (Ok o) is steady = omega (arith, ap length is, step-few S m input steady)
few-of S m input (Err e) is steady = tt
