-- The rule: what goes out for an input, by the whole history before it.
use Rattle.std.specs.Prelude.{ℕ, ◌%◌, Bool, true, false, ◌==◌, nat_eq, nat_lt, ◌&&◌, ◌||◌, not, max, List, [], ◌∷◌, ◌++◌, length, map, Option, Some, None, option_map, option_and_then, Result, Ok, Err, if◌then◌else◌}
use Rattle.std.specs.List.{list_any, flat_map}
use Rattle.std.specs.Option.{option_or}
use Rattle.std.specs.Cmp.Lexicographic.{pointwise}
use Rattle.radius_packet.specs.Packet.{PacketParts, read_packet}
use Rattle.radius_packet.specs.declared.fault.PacketFault.{PacketFault}
use Rattle.agent_settings.specs.declared.config.Config.{Config}
use Rattle.agent_settings.specs.declared.client.Client.{Client}
use Rattle.agent_settings.specs.Config.{find_address}
use Rattle.accounting_map.specs.Numbers.{first_value}
use Rattle.agent_events.specs.declared.events.Input.{Input}
use Rattle.agent_events.specs.declared.events.Input.TheVariants as inputs
use Rattle.agent_events.specs.declared.events.Output.{Output}
use Rattle.agent_events.specs.declared.events.Output.TheVariants as outputs
use Rattle.diameter_message.specs.Message.{read_message}
use Rattle.peer_machine.specs.declared.Phase.{Phase}
use Rattle.peer_machine.specs.declared.Phase.TheVariants.{Closed, Greeting, Serving, Closing}
use Rattle.agent_core.specs.Places as core
use Rattle.agent_core.specs.History as core_rule
use Rattle.disconnect_map.specs.Disconnects.{disconnect_text}
use Rattle.disconnect_map.specs.Verdicts.{verdict_of}
use Rattle.session_book.specs.declared.aborts.Abort.{Abort}
use Rattle.session_book.specs.declared.aborts.OpenAbort.{OpenAbort}
use Rattle.session_book.specs.declared.events.BookInput.{BookInput}
use Rattle.session_book.specs.declared.events.BookInput.TheVariants as book_inputs
use Rattle.session_book.specs.declared.events.BookOutput.{BookOutput}
use Rattle.session_book.specs.declared.events.BookOutput.TheVariants.{Core, Control, Dropped}
use Rattle.session_book.specs.declared.events.BookReason.TheVariants.{AbortOpen, StrangeControl}
use Rattle.session_book.specs.declared.sessions.Entry.{Entry}
use Rattle.session_book.specs.Aborts.{Deed, Nothing, Opens, Answers, Ages, Ends, is_due, is_last}
use Rattle.session_book.specs.Answers.{answer_text}
use Rattle.session_book.specs.Book.{Change, Keep, Append, Remove, entry_of}
use Rattle.session_book.specs.Places.{BookEvent, BookPlace, now, core_history, book, open_aborts, count}
use Rattle.session_book.specs.Reading.{AskParts, ask_of, session_in, status}

-- ---- what the book takes for itself

-- while the link can send an answer
abbrev pub can_answer : Phase → Bool
can_answer Closed = false
can_answer Greeting = false
can_answer Serving = true
can_answer Closing = true

-- what the book takes for itself, and doesn't hand on to the core
abbrev pub caught : Phase → Input → Option AskParts
caught phase (inputs.Message octets) = if can_answer phase then ask_of (read_message octets) else None
caught phase input = None

-- ---- what goes out for the book

-- the Abort-Session-Answer with this Result-Code
abbrev pub answer : Config → AskParts → ℕ → BookOutput
answer config ask code = Core (outputs.Send (answer_text config.host config.realm ask.asked ask.session code))

abbrev pub answer_to : Config → Abort → ℕ → BookOutput
answer_to config a code = Core (outputs.Send (answer_text config.host config.realm a.asked a.session code))

-- the Disconnect-Request, to the port for it (RFC 5176, section 2.1)
abbrev pub control : Abort → BookOutput
control a = Control a.address 3799 a.request

-- what a place of the book's own leads to
pub record Own : Type 0 where
  pub change : Change
  pub deed : Deed
  pub outputs : List BookOutput

abbrev pub says : BookOutput → Own
says output = record { change = Keep; deed = Nothing; outputs = output ∷ [] }

-- the client at an address
abbrev pub client_at : Config → ℕ → Option Client
client_at config address = option_map (λ p. p.1) (find_address address config.clients)

-- ---- an Abort-Session-Request (RFC 6733, section 8.5; profile)

-- it came before, and its abort is still open
abbrev pub is_repeat : AskParts → OpenAbort → Bool
is_repeat ask o = pointwise nat_eq o.abort.host ask.host && o.abort.asked.end == ask.asked.end

-- one that stands in the way of the abort of this number: it has its session or its identifier
abbrev pub is_in_the_way : AskParts → ℕ → OpenAbort → Bool
is_in_the_way ask number o = pointwise nat_eq o.abort.session ask.session || o.abort.number % 256 == number % 256

-- at most 64 are open at once
abbrev pub may_open : List OpenAbort → AskParts → ℕ → Bool
may_open os ask number = nat_lt (length os) 64 && not (list_any (is_in_the_way ask number) os)

-- the abort of this number, which asks this client
abbrev pub abort_of : AskParts → ℕ → Entry → Client → Abort
abort_of ask number entry client = record {
  number = number;
  asked = ask.asked;
  host = ask.host;
  session = ask.session;
  address = entry.address;
  request = disconnect_text client (number % 256) entry.user entry.acct;
}

-- an entry's address is always a client's
abbrev pub opening : Config → AskParts → ℕ → Entry → Option Client → Own
opening config ask number entry None = says (answer config ask 5012)
opening config ask number entry (Some client) = record {
  change = Keep;
  deed = Opens (abort_of ask number entry client);
  outputs = control (abort_of ask number entry client) ∷ [];
}

-- DIAMETER_UNKNOWN_SESSION_ID, DIAMETER_UNABLE_TO_COMPLY (section 7.1.5)
abbrev pub on_session : Config → List OpenAbort → AskParts → ℕ → Option Entry → Own
on_session config os ask number None = says (answer config ask 5002)
on_session config os ask number (Some entry) =
    if may_open os ask number
    then opening config ask number entry (client_at config entry.address)
    else says (answer config ask 5012)

-- by the open aborts, how many were opened, and the session's entry
abbrev pub on_ask : Config → List OpenAbort → ℕ → Option Entry → AskParts → Own
on_ask config os number entry ask =
    if list_any (is_repeat ask) os then says (Dropped AbortOpen) else on_session config os ask number entry

-- ---- a datagram of an access server (RFC 5176, section 2.3)

abbrev pub verdict_at : Option Client → Abort → List ℕ → Option Bool
verdict_at None a octets = None
verdict_at (Some client) a octets = verdict_of client a.request octets

-- what it says to the Disconnect-Request of an abort
abbrev pub said_to : Config → ℕ → ℕ → List ℕ → Abort → Option Bool
said_to config address port octets a =
    if a.address == address && port == 3799 then verdict_at (client_at config address) a octets else None

-- the first to whose Disconnect-Request it is the answer, and whether the session was ended
abbrev pub first_answered : (Abort → Option Bool) → List OpenAbort → Option (Abort × Bool)
first_answered said [] = None
first_answered said (o ∷ os) = option_or (option_map (λ ended. (o.abort, ended)) (said o.abort)) (first_answered said os)

-- DIAMETER_SUCCESS, DIAMETER_UNABLE_TO_COMPLY
abbrev pub code_of : Bool → ℕ
code_of true = 2001
code_of false = 5012

abbrev pub answered : Config → Option (Abort × Bool) → Own
answered config None = says (Dropped StrangeControl)
answered config (Some found) = record {
  change = if found.1 then Remove found.0.session else Keep;
  deed = Answers found.0 found.1;
  outputs = answer_to config found.0 (code_of found.1) ∷ [];
}

abbrev pub on_control : Config → List OpenAbort → ℕ → ℕ → List ℕ → Own
on_control config os address port octets = answered config (first_answered (said_to config address port octets) os)

-- ---- what goes to the core

-- what a record with these attributes does to the book: a Start appends, a Stop removes (RFC 2866, section 5.1)
abbrev pub started : ℕ → PacketParts → List ℕ → Option (List ℕ) → Change
started address packet session None = Keep
started address packet session (Some acct) =
    Append session (record { address = address; user = first_value 1 packet.attributes; acct = acct })

abbrev pub recorded : ℕ → PacketParts → List ℕ → Change
recorded address packet session =
    if status packet == 1 then started address packet session (first_value 44 packet.attributes)
    else if status packet == 2 then Remove session
    else Keep

abbrev pub packet_change : ℕ → Result PacketParts PacketFault → List ℕ → Change
packet_change address (Err fault) session = Keep
packet_change address (Ok packet) session = recorded address packet session

abbrev pub input_change : Input → List ℕ → Change
input_change (inputs.Datagram via address port octets) session = packet_change address (read_packet octets) session
input_change input session = Keep

-- where a request was taken up, and this is its session
abbrev pub taken_change : Input → Option (List ℕ) → Change
taken_change input None = Keep
taken_change input (Some session) = input_change input session

-- the session of a request that was taken up: its Send's
abbrev pub taken_session : Option core.Taking → Option (List ℕ)
taken_session taken = option_and_then (λ t. session_in t.sent) taken

abbrev pub is_closing : Output → Bool
is_closing (outputs.Closed cause) = true
is_closing output = false

abbrev pub tick_deed : Input → Deed
tick_deed inputs.Tick = Ages
tick_deed input = Nothing

-- all aborts end where the link is closed; else a Tick ages them
abbrev pub passed_deed : Input → List Output → Deed
passed_deed input os = if list_any is_closing os then Ends else tick_deed input

-- an overdue Disconnect-Request goes out again, or the abort is answered
abbrev pub overdue : Config → ℕ → OpenAbort → List BookOutput
overdue config moment o =
    if is_due moment o.sent
    then (if is_last o.sent then answer_to config o.abort 5012 else control o.abort) ∷ []
    else []

abbrev pub deed_outputs : Config → ℕ → Deed → List OpenAbort → List BookOutput
deed_outputs config moment Ages os = flat_map (overdue config moment) os
deed_outputs config moment deed os = []

-- the core's outputs, and then those of the open aborts in the order of opening
abbrev pub passed_outputs : Config → ℕ → Input → List Output → List OpenAbort → List BookOutput
passed_outputs config moment input os aborts =
    map Core os ++ deed_outputs config moment (passed_deed input os) aborts

-- ---- together

-- the event that the core is given
abbrev pub core_event : ℕ → Input → core.Event
core_event moment input = record { moment = moment; input = input }

-- the core's place for it
abbrev pub core_place : Config → List BookPlace → ℕ → Input → core.Place
core_place config ps moment input = core_rule.place config (core_rule.past config (core_history ps)) (core_event moment input)

abbrev pub passed : Config → List BookPlace → ℕ → Input → core.Place → BookPlace
passed config ps moment input q = record {
  moment = moment;
  input = book_inputs.Core input;
  passed = Some (core_event moment input);
  change = taken_change input (taken_session q.taken);
  deed = passed_deed input q.outputs;
  outputs = passed_outputs config moment input q.outputs (open_aborts ps);
}

-- the core isn't given what the book takes for itself
abbrev pub own : ℕ → BookInput → Own → BookPlace
own moment input o =
    record { moment = moment; input = input; passed = None; change = o.change; deed = o.deed; outputs = o.outputs }

abbrev pub core_input : Config → List BookPlace → ℕ → Input → Option AskParts → BookPlace
core_input config ps moment input None = passed config ps moment input (core_place config ps moment input)
core_input config ps moment input (Some ask) =
    own moment (book_inputs.Core input)
    (on_ask config (open_aborts ps) (count ps) (entry_of ask.session (book config.capacity ps)) ask)

-- where the link to the home server stands
abbrev pub link_phase : Config → List BookPlace → Phase
link_phase config ps = (core.link (core_rule.past config (core_history ps))).phase

abbrev pub at_input : Config → List BookPlace → ℕ → BookInput → BookPlace
at_input config ps moment (book_inputs.Core input) =
    core_input config ps moment input (caught (link_phase config ps) input)
at_input config ps moment (book_inputs.Control address port octets) =
    own moment (book_inputs.Control address port octets) (on_control config (open_aborts ps) address port octets)

-- the effective moment is the greatest so far, of all inputs
abbrev pub place : Config → List BookPlace → BookEvent → BookPlace
place config ps e = at_input config ps (max (now ps) e.moment) e.input

abbrev pub places : Config → List BookPlace → List BookEvent → List BookPlace
places config ps [] = ps
places config ps (e ∷ es) = places config (place config ps e ∷ ps) es

-- the places of a history, the newest first
abbrev pub past : Config → List BookEvent → List BookPlace
past config history = places config [] history

-- what goes out for an event after a history
abbrev pub book_outputs_after : Config → List BookEvent → BookEvent → List BookOutput
book_outputs_after config history e = (place config (past config history) e).outputs
