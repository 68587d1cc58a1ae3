-- What is counted of an input, of what goes out for it, and of what it answers (profile).
use Rattle.std.specs.Prelude.{ℕ, ◌+◌, ◌-◌, Bool, true, false, nat_le, bit_and, List, [], ◌∷◌, ◌++◌, length, codes, decimal, slice_index, Option, Some, None, Result, Ok, Err, if◌then◌else◌}
use Rattle.radius_packet.specs.declared.reasons.Reason.{Reason}
use Rattle.radius_packet.specs.declared.reasons.Via.{Via}
use Rattle.radius_packet.specs.declared.reasons.Via.TheVariants.{Auth, Acct}
use Rattle.radius_packet.specs.Reasons.{reason_number}
use Rattle.diameter_message.specs.declared.fault.MessageFault.{MessageFault}
use Rattle.diameter_message.specs.declared.header.Header.{Header}
use Rattle.diameter_message.specs.Message.{MessageParts, read_message}
use Rattle.agent_settings.specs.declared.client.Client.{Client}
use Rattle.agent_settings.specs.declared.config.Config.{Config}
use Rattle.agent_settings.specs.Config.{find_address}
use Rattle.peer_machine.specs.declared.LinkCause.{LinkCause}
use Rattle.peer_machine.specs.declared.LinkCause.TheVariants as link
use Rattle.agent_events.specs.declared.events.Input.{Input}
use Rattle.agent_events.specs.declared.events.Input.TheVariants.{Datagram}
use Rattle.agent_events.specs.declared.events.Output.{Output}
use Rattle.agent_events.specs.declared.events.Output.TheVariants.{Reply, Send, Dropped, Closed}
use Rattle.answer_causes.specs.declared.cause.Cause.{Cause}
use Rattle.answer_causes.specs.CauseNames.{cause_name, cause_number}
use Rattle.names.specs.Names.{command_named, packet_named}
use Rattle.named_lines.specs.NamedText.{command_name, packet_name}
use Rattle.printed_lines.specs.Text.{close_name, reason_name, via_name}
use Rattle.transcript_runs.specs.declared.answers.HomeAnswer.{HomeAnswer}
use Rattle.count_command.specs.declared.events.TheConstants.{REQUESTS, REPLIES, DROPS, SENDS, CLOSES}
use Rattle.count_command.specs.declared.answers.TheConstants.{ANSWERS, BAD_ANSWERS, BUCKETS, SUM, COUNT}
use Rattle.count_command.specs.declared.tally.Order.{Order}
use Rattle.count_command.specs.Tally.{Hit}

-- ---- lines

-- a label behind a sign, and a metric with labels
abbrev pub label : ℕ → List ℕ → List ℕ → List ℕ
label sign name value = sign ∷ name ++ 61 ∷ 34 ∷ value ++ 34 ∷ []

abbrev pub with_one : List ℕ → List ℕ → List ℕ → List ℕ
with_one metric name value = metric ++ label 123 name value ++ 125 ∷ []

abbrev pub with_two : List ℕ → List ℕ → List ℕ → List ℕ → List ℕ → List ℕ
with_two metric name value second second_value = metric ++ label 123 name value ++ label 44 second second_value ++ 125 ∷ []

abbrev pub with_three : List ℕ → List ℕ → List ℕ → List ℕ → List ℕ → List ℕ → List ℕ → List ℕ
with_three metric name value second second_value third third_value =
    metric ++ label 123 name value ++ label 44 second second_value ++ label 44 third third_value ++ 125 ∷ []

abbrev pub ordered : ℕ → ℕ → ℕ → ℕ → Order
ordered metric first second third = record { metric = metric; first = first; second = second; third = third }

-- ---- clients

-- the place in the settings of the client that was found, and its name; others stand behind all clients, and have no name
abbrev pub found_client : Config → Option (ℕ × Client) → ℕ × List ℕ
found_client config (Some (place, client)) = (place, client.name)
found_client config None = (length config.clients, [])

abbrev pub client_at : Config → ℕ → ℕ × List ℕ
client_at config address = found_client config (find_address address config.clients)

-- whose input it is
abbrev pub client_of : Config → Input → ℕ × List ℕ
client_of config (Datagram via address port octets) = client_at config address
client_of config x = found_client config None

-- ---- an input

abbrev pub via_number : Via → ℕ
via_number Auth = 0
via_number Acct = 1

abbrev pub request_hit : ℕ × List ℕ → Via → Hit
request_hit client via = record {
  order = ordered REQUESTS client.0 (via_number via) 0;
  head = with_two (codes "agent_requests_total") (codes "client") client.1 (codes "port") (via_name via);
  amount = 1;
}

abbrev pub input_hits : Config → Input → List Hit
input_hits config (Datagram via address port octets) = request_hit (client_at config address) via ∷ []
input_hits config x = []

-- ---- what goes out

-- a reply to a datagram is one that was given before
abbrev pub is_datagram : Input → Bool
is_datagram (Datagram via address port octets) = true
is_datagram x = false

abbrev pub number_if : Bool → ℕ
number_if holds = if holds then 1 else 0

abbrev pub reply_kind : Bool → List ℕ
reply_kind repeated = if repeated then codes "repeat" else codes "first"

abbrev pub reply_hit : ℕ × List ℕ → ℕ → Bool → Hit
reply_hit client code repeated = record {
  order = ordered REPLIES client.0 code (number_if repeated);
  head = with_three (codes "agent_replies_total") (codes "client") client.1 (codes "code") (packet_name code (packet_named code)) (codes "kind") (reply_kind repeated);
  amount = 1;
}

abbrev pub drop_hit : ℕ × List ℕ → Reason → Hit
drop_hit client reason = record {
  order = ordered DROPS client.0 (reason_number reason) 0;
  head = with_two (codes "agent_drops_total") (codes "client") client.1 (codes "reason") (reason_name reason);
  amount = 1;
}

-- flag T is set: it was sent before on another link (RFC 6733, section 3)
abbrev pub is_again : Header → Bool
is_again h = nat_le 1 (bit_and h.flags 16)

abbrev pub send_kind : Bool → List ℕ
send_kind again = if again then codes "again" else codes "first"

abbrev pub send_hit : Header → Hit
send_hit h = record {
  order = ordered SENDS h.command (number_if (nat_le 128 h.flags)) (number_if (is_again h));
  head = with_two (codes "agent_sends_total") (codes "command") (command_name h.command h.flags (command_named h.command)) (codes "kind") (send_kind (is_again h));
  amount = 1;
}

abbrev pub send_hits : Result MessageParts MessageFault → List Hit
send_hits (Ok message) = send_hit message.header ∷ []
send_hits (Err fault) = []

abbrev pub close_number : LinkCause → ℕ
close_number (link.Refused result) = 1
close_number (link.PeerLeft cause) = 2
close_number (link.Broken fault) = 3
close_number link.Ended = 4
close_number link.Watchdog = 5
close_number link.Stalled = 6
close_number link.Left = 7

abbrev pub close_hit : LinkCause → Hit
close_hit cause = record {
  order = ordered CLOSES (close_number cause) 0 0;
  head = with_one (codes "agent_closes_total") (codes "cause") (close_name cause);
  amount = 1;
}

-- what is counted of an output for an input
abbrev pub output_hits : Config → Input → Output → List Hit
output_hits config x (Reply via address port octets) = reply_hit (client_at config address) (slice_index octets 0) (is_datagram x) ∷ []
output_hits config x (Send octets) = send_hits (read_message octets)
output_hits config x (Dropped reason) = drop_hit (client_of config x) reason ∷ []
output_hits config x (Closed cause) = close_hit cause ∷ []

-- ---- an answer

abbrev pub answer_name : ℕ → List ℕ
answer_name command = command_name command 0 (command_named command)

abbrev pub answer_hit : HomeAnswer → Hit
answer_hit a = record {
  order = ordered ANSWERS a.command a.result 0;
  head = with_two (codes "agent_answers_total") (codes "command") (answer_name a.command) (codes "result") (decimal a.result);
  amount = 1;
}

-- why it doesn't give what it says
abbrev pub cause_hits : ℕ → Option Cause → List Hit
cause_hits command None = []
cause_hits command (Some cause) = record {
  order = ordered BAD_ANSWERS command (cause_number cause) 0;
  head = with_two (codes "agent_bad_answers_total") (codes "command") (answer_name command) (codes "cause") (cause_name cause);
  amount = 1;
} ∷ []

-- the time from its request's taking, in milliseconds: whether it is within each bound, its sum, and how many there were
abbrev pub bucket_hit : ℕ → ℕ → ℕ → ℕ → List ℕ → Hit
bucket_hit command time place bound name = record {
  order = ordered BUCKETS command place 0;
  head = with_two (codes "agent_answer_seconds_bucket") (codes "command") (answer_name command) (codes "le") name;
  amount = number_if (nat_le time bound);
}

abbrev pub sum_hit : ℕ → ℕ → Hit
sum_hit command time = record {
  order = ordered SUM command 0 0;
  head = with_one (codes "agent_answer_seconds_sum") (codes "command") (answer_name command);
  amount = time;
}

abbrev pub count_hit : ℕ → Hit
count_hit command = record {
  order = ordered COUNT command 0 0;
  head = with_one (codes "agent_answer_seconds_count") (codes "command") (answer_name command);
  amount = 1;
}

-- the bounds in milliseconds, and as they are told in seconds
abbrev pub short_bucket_hits : ℕ → ℕ → List Hit
short_bucket_hits command time =
    bucket_hit command time 0 1 (codes "0.001") ∷ bucket_hit command time 1 5 (codes "0.005") ∷ bucket_hit command time 2 10 (codes "0.01")
    ∷ bucket_hit command time 3 50 (codes "0.05") ∷ bucket_hit command time 4 100 (codes "0.1") ∷ []

abbrev pub long_bucket_hits : ℕ → ℕ → List Hit
long_bucket_hits command time =
    bucket_hit command time 5 500 (codes "0.5") ∷ bucket_hit command time 6 1000 (codes "1") ∷ bucket_hit command time 7 5000 (codes "5")
    ∷ bucket_hit command time 8 18446744073709551615 (codes "+Inf") ∷ []

abbrev pub time_hits : ℕ → ℕ → List Hit
time_hits command time = short_bucket_hits command time ++ long_bucket_hits command time ++ sum_hit command time ∷ count_hit command ∷ []

-- of an answer that came at this moment
abbrev pub answer_hits : ℕ → Option HomeAnswer → List Hit
answer_hits moment None = []
answer_hits moment (Some a) = answer_hit a ∷ cause_hits a.command a.cause ++ time_hits a.command (moment - a.taken)
