-- Each step leaves room in the counts.
use Rattle.std.proofs.Common.{◌≡◌, ℕ, ◌+◌, ◌≤◌, Bool, true, false, cond, List, length, Option, Some, None, Result, Ok, Err, refl, sym, ◌∙◌, ap, arith, max}
use Rattle.std.specs.Prelude.{◌==◌, slice_get}
use Rattle.radius_packet.specs.declared.reasons.Reason.{Reason}
use Rattle.diameter_message.specs.declared.fault.MessageFault.{MessageFault}
use Rattle.diameter_message.specs.Message.{MessageParts, read_message}
use Rattle.agent_settings.specs.declared.client.Client.{Client}
use Rattle.pending_table.specs.Table as table
use Rattle.pending_table.specs.Table.{Row}
use Rattle.peer_machine.specs.declared.Phase.TheVariants.{Greeting}
use Rattle.peer_machine.specs.declared.words.Event.TheVariants.{Opens, Serves, Says, Breaks, Ends, Ticks, Leaves}
use Rattle.peer_machine.specs.declared.words.Act.{Act}
use Rattle.peer_machine.specs.declared.words.Act.TheVariants.{Nothing, Serve, Discard, Pass, Close, Request, Answer, AnswerAndClose}
use Rattle.peer_machine.specs.Step.{is_pass, link_at}
use Rattle.peer_machine.specs.Reading.{said_in}
use Rattle.peer_machine.specs.Rules.{after}
use Rattle.agent_events.specs.declared.events.Input.{Input}
use Rattle.agent_events.specs.declared.events.Input.TheVariants.{Datagram, Up, Ready, Message, Broken, Down, Tick, Drain, Leave}
use Rattle.agent_events.specs.declared.events.Output.{Output}
use Rattle.agent_core.specs.declared.ledger.Ledger.{Ledger}
use Rattle.agent_core.specs.History.{command_of}
use Rattle.agent_core.specs.Verdict.{Request as Asked, verdict}
use Rattle.agent_core.specs.Rooms.{refusal}
use Rattle.agent_core.specs.Requests.{is_fresh}
use Rattle.agent_core.specs.Machine.{at_moment, count_of, kept_waiting, kept_rooms, keeps_spare, act_for, link_then, on_admission, on_request, on_look, on_datagram, row_for, on_answer, on_found, on_client, on_unmatched, on_link, on_message, on_input, next, heard_ledger, settled_ledger, passes}
use Rattle.agent_core.specs.Standing.{IsRoomy}
use Rattle.agent_core.proofs.LinkLemmas.Opening.{noted-phase}
use Rattle.agent_core.proofs.LinkLemmas.Greets.{is_quiet, quiet-greets}
use Rattle.agent_core.proofs.RoomLemmas.Waiters.{waiting-settled}
use Rattle.agent_core.proofs.RoomLemmas.Roomy.{fresh-by, early-by, IsRoomy-later, IsRoomy-purged, IsRoomy-drained, IsRoomy-row, IsRoomy-linked}

-- ---- an answer that the link hands on

pub pass-act : (act : Act) → is_pass act ≡ true → act ≡ Pass
pass-act Nothing e = absurd (cc)
pass-act Serve e = absurd (cc)
pass-act (Discard reason) e = absurd (cc)
pass-act Pass e = refl
pass-act (Close cause) e = absurd (cc)
pass-act (Request request) e = absurd (cc)
pass-act (Answer code error) e = absurd (cc)
pass-act (AnswerAndClose code cause) e = absurd (cc)

-- the phase is the same then, and the link doesn't greet
heard-phase : (S : Ledger) (message : MessageParts) → passes S message ≡ true → (link_then S (Says (said_in message))).phase ≡ S.peer.link.phase
heard-phase S message e =
    ap (λ act. (after (link_at S.peer S.moment (Says (said_in message))) S.moment act).phase) (pass-act (act_for S (Says (said_in message))) e)
    ∙ noted-phase S.peer.link S.moment (Says (said_in message))

greets-not : (S : Ledger) (message : MessageParts) → passes S message ≡ true → (link_then S (Says (said_in message))).phase ≡ Greeting → ⊥
greets-not S message e greets =
    let before = sym (heard-phase S message e) ∙ greets in
    let quiet = quiet-greets S.peer.link S.peer.watchdog S.moment (Says (said_in message)) (keeps_spare S (Says (said_in message))) before in
    let no : false ≡ true = sym (ap is_quiet (pass-act (act_for S (Says (said_in message))) e)) ∙ quiet in
    absurd (cc)

IsRoomy-heard : (S : Ledger) (message : MessageParts) → passes S message ≡ true → IsRoomy S → IsRoomy (heard_ledger S message)
IsRoomy-heard S message e roomy = record {
  rooms = record { outbox = roomy.rooms.outbox; again = roomy.rooms.again; used = roomy.rooms.used };
  greeting = fresh-by (link_then S (Says (said_in message))).phase S.used (λ greets. absurd (greets-not S message e greets));
  early = early-by (link_then S (Says (said_in message))).phase S.outbox (λ greets. absurd (greets-not S message e greets));
}

one-at-most : (b : Bool) → count_of b ≤ 1
one-at-most true = omega arith
one-at-most false = omega arith

IsRoomy-settled : (S : Ledger) (message : MessageParts) (reply : Option (List ℕ)) (follows : Bool) (r : Row) → passes S message ≡ true → table.find_number S.table S.peer.link.number message.header.hop S.moment ≡ Some r → IsRoomy S → IsRoomy (settled_ledger S message reply follows)
IsRoomy-settled S message reply follows r e found roomy =
    let left : length (kept_waiting (settled_ledger S message reply follows)) + 1 ≡ length (kept_waiting S) = waiting-settled S.table S.peer.link.number message.header.hop S.moment reply r found in
    let one = one-at-most follows in
    let rooms = roomy.rooms in
    record {
      rooms = record {
        outbox = let h = rooms.outbox in omega arith;
        again = let h = rooms.again in omega arith;
        used = let h = rooms.used in omega arith;
      };
      greeting = fresh-by (link_then S (Says (said_in message))).phase (S.used + count_of follows) (λ greets. absurd (greets-not S message e greets));
      early = early-by (link_then S (Says (said_in message))).phase (S.outbox + count_of follows) (λ greets. absurd (greets-not S message e greets));
    }

client-by : (S : Ledger) (message : MessageParts) (r : Row) → passes S message ≡ true → table.find_number S.table S.peer.link.number message.header.hop S.moment ≡ Some r → IsRoomy S → (client : Option Client) → IsRoomy (on_client S message r.1 client).ledger
client-by S message r e found roomy None = IsRoomy-heard S message e roomy
client-by S message r e found roomy (Some client) = IsRoomy-settled S message _ _ r e found roomy

found-by : (S : Ledger) (message : MessageParts) → passes S message ≡ true → IsRoomy S → (o : Option Row) → table.find_number S.table S.peer.link.number message.header.hop S.moment ≡ o → IsRoomy (on_found S message o).ledger
found-by S message e roomy None found = IsRoomy-heard S message e roomy
found-by S message e roomy (Some r) found =
    elim (message.header.command == command_of r.1.kept.kind) as (λ (b : Bool). IsRoomy (cond b (on_client S message r.1 (slice_get S.config.clients r.1.kept.client)) (on_unmatched S message)).ledger) [
      | true ↦ client-by S message r e found roomy (slice_get S.config.clients r.1.kept.client)
      | false ↦ IsRoomy-heard S message e roomy
    ]

message-by : (S : Ledger) → S.config.backlog ≤ 65536 → IsRoomy S → (r : Result MessageParts MessageFault) → IsRoomy (on_message S r).ledger
message-by S small roomy (Err fault) = roomy
message-by S small roomy (Ok message) =
    elim (passes S message) as (λ (b : Bool). passes S message ≡ b → IsRoomy (cond b (on_answer S message) (on_link S (Says (said_in message)) (Some message))).ledger) [
      | true ↦ (λ e. found-by S message e roomy _ refl)
      | false ↦ (λ e. IsRoomy-linked S (Says (said_in message)) (Some message) small roomy)
    ] refl

-- ---- a datagram

admission-by : (S : Ledger) (request : Asked) → IsRoomy S → (o : Option Reason) → refusal S.config (kept_rooms S) ≡ o → IsRoomy (on_admission S request o).ledger
admission-by S request roomy (Some reason) e = roomy
admission-by S request roomy None e = IsRoomy-row S (row_for S request) (is_fresh request) e roomy

request-by : (S : Ledger) (request : Asked) → IsRoomy S → (o : Option (List Output)) → IsRoomy (on_request S request o).ledger
request-by S request roomy (Some outputs) = roomy
request-by S request roomy None = admission-by S request roomy (refusal S.config (kept_rooms S)) refl

datagram-by : (S : Ledger) → IsRoomy S → (r : Result Asked Reason) → IsRoomy (on_datagram S r).ledger
datagram-by S roomy (Err reason) = roomy
datagram-by S roomy (Ok request) = request-by S request roomy (on_look request.key (table.told (table.find_key S.table request.key S.moment)))

-- ---- together

input-by : (S : Ledger) → S.config.backlog ≤ 65536 → IsRoomy S → (input : Input) → IsRoomy (on_input S input).ledger
input-by S small roomy (Datagram via address port octets) = datagram-by S roomy (verdict S.config via address port octets)
input-by S small roomy Up = IsRoomy-linked S Opens None small roomy
input-by S small roomy Ready = IsRoomy-linked S Serves None small roomy
input-by S small roomy (Message octets) = message-by S small roomy (read_message octets)
input-by S small roomy (Broken fault) = IsRoomy-linked S (Breaks fault) None small roomy
input-by S small roomy Down = IsRoomy-linked S Ends None small roomy
input-by S small roomy Tick = IsRoomy-linked S Ticks None small roomy
input-by S small roomy Drain = IsRoomy-drained S roomy
input-by S small roomy Leave = IsRoomy-linked S Leaves None small roomy

pub IsRoomy-next : (S : Ledger) (m : ℕ) (input : Input) → S.config.backlog ≤ 65536 → IsRoomy S → IsRoomy (next S m input).ledger
IsRoomy-next S m input small roomy =
    let later : S.moment ≤ max S.moment m = omega arith in
    IsRoomy-purged (on_input (at_moment S m) input).ledger (input-by (at_moment S m) small (IsRoomy-later S (max S.moment m) later roomy) input)
