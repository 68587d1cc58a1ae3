-- While a link is closed nothing is sent, so a later Drain hands over nothing.
use Rattle.std.proofs.Common.{◌≡◌, ◌≢◌, ℕ, ◌==◌, Bool, true, false, cond, max, List, [], ◌∷◌, ◌++◌, find, option_map, option_to_list, if◌then◌else◌, Option, Some, None, Result, Ok, Err, refl, sym, ◌∙◌, ap, subst, append_assoc, arith}
use Rattle.std.proofs.lemmas.Bool.Decides.{nat_tests}
use Rattle.radius_packet.specs.declared.reasons.Reason.{Reason}
use Rattle.radius_packet.specs.declared.reasons.Reason.TheVariants as reasons
use Rattle.diameter_message.specs.declared.fault.MessageFault.{MessageFault}
use Rattle.diameter_message.specs.Message.{MessageParts, read_message}
use Rattle.agent_settings.specs.declared.config.Config.{Config}
use Rattle.pending_table.specs.declared.key.Key.{Key}
use Rattle.pending_table.specs.Table.{same_key}
use Rattle.peer_machine.specs.declared.Phase.{Phase}
use Rattle.peer_machine.specs.declared.Phase.TheVariants.{Closed}
use Rattle.peer_machine.specs.declared.LinkCause.{LinkCause}
use Rattle.peer_machine.specs.declared.messages.Names.{Names}
use Rattle.peer_machine.specs.declared.words.Event.{Event as LinkEvent}
use Rattle.peer_machine.specs.declared.words.Event.TheVariants.{Opens, Serves, Says, Breaks, Ends, Ticks, Leaves}
use Rattle.peer_machine.specs.declared.words.Act.{Act}
use Rattle.peer_machine.specs.declared.words.Act.TheVariants.{Nothing, Serve, Discard, Pass, Close, Request, Answer, AnswerAndClose}
use Rattle.peer_machine.specs.declared.words.LinkState.{LinkState}
use Rattle.peer_machine.specs.Reading.{said_in}
use Rattle.peer_machine.specs.Rules.{act_on}
use Rattle.peer_machine.specs.Step.{closed_by, dropped_by, is_pass, link_at, sent}
use Rattle.agent_events.specs.declared.events.Input.{Input}
use Rattle.agent_events.specs.declared.events.Input.TheVariants as inputs
use Rattle.agent_events.specs.declared.events.Output.{Output}
use Rattle.agent_events.specs.declared.events.Output.TheVariants as outputs
use Rattle.agent_core.specs.Settings.{end_number, names}
use Rattle.agent_core.specs.Places.{Event, Place, Taking, answer_to, begins, link, live, now, opens, total, waiting}
use Rattle.agent_events.specs.Kinds.{is_drain}
use Rattle.agent_core.specs.Rooms.{Rooms, has_spare, refusal, rooms}
use Rattle.agent_core.specs.Verdict.{Request as AccessRequest, verdict}
use Rattle.agent_core.specs.History.{admitted, at_input, datagram, heard, link_act, linked, messaged, past, peer, place, places, repeated, requested, resends}
use Rattle.turnstile.specs.Turns.{of, plain}
use Rattle.server_workers.specs.declared.heard.Heard.{Heard}
use Rattle.server_workers.specs.Entries.{EachEntry, RunTurn, octets_in}
use Rattle.server_workers.specs.Running.{LateDrainsAreEmpty}
use Rattle.agent_server.specs.Runs.{IsRun, closed, event_of, history, places_of, sends_in, unsent, unsent_with}
use Rattle.server_workers.specs.Segments.{ServerTurn, is_beginning}
use Rattle.agent_server.proofs.LinkHistory.{closed-phase, idle-act, idle-room, is_idle, makes, moves-at, place-moves, shut-more}
use Rattle.agent_server.proofs.SpanLemmas.{begins-none, places-on, run-at}
use Rattle.server_workers.proofs.TurnLemmas.{of-there, plain-append}

-- ---- a closed link sends nothing

-- where nothing is done, nothing is sent and nothing is passed on
idle-sends : (names : Names) (l : LinkState) (end : ℕ) (message : Option MessageParts) (act : Act) → is_idle act ≡ true
    → sent names l end message act ≡ None
idle-sends names l end message Nothing idle = refl
idle-sends names l end message (Discard reason) idle = refl
idle-sends names l end message Serve idle = refl
idle-sends names l end message Pass idle = refl
idle-sends names l end message (Close cause) idle = refl
idle-sends names l end message (Request request) idle = cc
idle-sends names l end message (Answer code error) idle = cc
idle-sends names l end message (AnswerAndClose code cause) idle = cc

idle-passes : (act : Act) → is_idle act ≡ true → is_pass act ≡ false
idle-passes Pass idle = cc
idle-passes Nothing idle = refl
idle-passes (Discard reason) idle = refl
idle-passes Serve idle = refl
idle-passes (Close cause) idle = refl
idle-passes (Request request) idle = refl
idle-passes (Answer code error) idle = refl
idle-passes (AnswerAndClose code cause) idle = refl

-- the outputs of an input of the link, by their parts
abbrev said_by : Option (List ℕ) → Option LinkCause → Option Reason → List Taking → List Output
said_by send cause dropped resent =
    option_to_list (option_map outputs.Send send) ++ option_to_list (option_map outputs.Closed cause)
    ++ option_to_list (option_map outputs.Dropped dropped) ++ resends resent

-- where the link itself sends nothing and nothing is sent again, nothing is sent
said-silent : (cause : Option LinkCause) (dropped : Option Reason) → sends_in (said_by None cause dropped []) ≡ []
said-silent None None = refl
said-silent None (Some reason) = refl
said-silent (Some cause) None = refl
said-silent (Some cause) (Some reason) = refl

repeated-silent : (key : Key) (answer : Option (Option (List ℕ))) → sends_in (repeated key answer) ≡ []
repeated-silent key None = refl
repeated-silent key (Some None) = refl
repeated-silent key (Some (Some octets)) = refl

-- while the link is closed a new request is refused
closed-refusal : (config : Config) (r : Rooms) → r.phase ≡ Closed → refusal config r ≡ Some reasons.LinkDown
closed-refusal config r is = rw is refl

module _ (config : Config) (ps : List Place) (m : ℕ) where
  admitted-silent : (input : Input) (request : AccessRequest) (reason : Option Reason) → reason ≡ Some reasons.LinkDown
      → sends_in (admitted config ps m input request reason).outputs ≡ []
  admitted-silent input request (Some reason) is = refl
  admitted-silent input request None is = cc

  requested-silent : (input : Input) (request : AccessRequest) (found : Option Taking) → (link ps).phase ≡ Closed
      → sends_in (requested config ps m input request found).outputs ≡ []
  requested-silent input request (Some t) is = repeated-silent t.key (answer_to t.place ps)
  requested-silent input request None is =
      admitted-silent input request (refusal config (rooms config ps m)) (closed-refusal config (rooms config ps m) is)

  datagram-silent : (input : Input) (said : Result AccessRequest Reason) → (link ps).phase ≡ Closed
      → sends_in (datagram config ps m input said).outputs ≡ []
  datagram-silent input (Err reason) is = refl
  datagram-silent input (Ok request) is = requested-silent input request (find (λ t. same_key t.key request.key) (live config ps m)) is

  link-idle : (input : Input) (event : LinkEvent) → (link ps).phase ≡ Closed → makes (peer config ps).link event ≡ false
      → is_idle (link_act config ps m input event) ≡ true
  link-idle input event is none =
      let l = (peer config ps).link in
      idle-room (has_spare config ps m input) (act_on l config.watchdog m event) (idle-act l config.watchdog m event is none)

  -- a link that was closed and still is sends nothing, also nothing again
  linked-silent : (input : Input) (event : LinkEvent) (message : Option MessageParts) → (link ps).phase ≡ Closed
      → makes (peer config ps).link event ≡ false → (linked config ps m input event message).link.phase ≡ Closed
      → sends_in (linked config ps m input event message).outputs ≡ []
  linked-silent input event message is none still_is =
      let p = linked config ps m input event message in
      let act = link_act config ps m input event in
      let send = sent (names config) (link_at (peer config ps) m event) (end_number config (total ps)) message act in
      let sends : send ≡ None =
      idle-sends (names config) (link_at (peer config ps) m event) (end_number config (total ps)) message act (link-idle input event is none) in
      let resent : p.resent ≡ [] =
      ap (λ (x : Phase). if opens x p.link.phase then waiting config ps m else []) is
      ∙ ap (λ (x : Phase). if opens Closed x then waiting config ps m else []) still_is in
      ap (λ (o : Option (List ℕ)). sends_in (said_by o (closed_by act) (dropped_by act) p.resent)) sends
      ∙ ap (λ (ts : List Taking). sends_in (said_by None (closed_by act) (dropped_by act) ts)) resent
      ∙ said-silent (closed_by act) (dropped_by act)

  heard-silent : (octets : List ℕ) (message : MessageParts) (b : Bool) → (link ps).phase ≡ Closed → b ≡ false
      → (heard config ps m message (linked config ps m (inputs.Message octets) (Says (said_in message)) (Some message)) b).link.phase ≡ Closed
      → sends_in (heard config ps m message (linked config ps m (inputs.Message octets) (Says (said_in message)) (Some message)) b).outputs ≡ []
  heard-silent octets message false is passes still_is =
      linked-silent (inputs.Message octets) (Says (said_in message)) (Some message) is refl still_is
  heard-silent octets message true is passes still_is = cc

  messaged-silent : (octets : List ℕ) (said : Result MessageParts MessageFault) → (link ps).phase ≡ Closed
      → (messaged config ps m (inputs.Message octets) said).link.phase ≡ Closed
      → sends_in (messaged config ps m (inputs.Message octets) said).outputs ≡ []
  messaged-silent octets (Err fault) is still_is = refl
  messaged-silent octets (Ok message) is still_is =
      let act = link_act config ps m (inputs.Message octets) (Says (said_in message)) in
      heard-silent octets message (is_pass act) is
      (idle-passes act (link-idle (inputs.Message octets) (Says (said_in message)) is refl)) still_is

  input-silent : (input : Input) → (link ps).phase ≡ Closed → begins ps input ≡ false → (at_input config ps m input).link.phase ≡ Closed
      → sends_in (at_input config ps m input).outputs ≡ []
  input-silent (inputs.Datagram via address port octets) is none still_is =
      datagram-silent (inputs.Datagram via address port octets) (verdict config via address port octets) is
  input-silent inputs.Up is none still_is = linked-silent inputs.Up Opens None is none still_is
  input-silent inputs.Ready is none still_is = linked-silent inputs.Ready Serves None is none still_is
  input-silent (inputs.Message octets) is none still_is = messaged-silent octets (read_message octets) is still_is
  input-silent (inputs.Broken fault) is none still_is = linked-silent (inputs.Broken fault) (Breaks fault) None is refl still_is
  input-silent inputs.Down is none still_is = linked-silent inputs.Down Ends None is refl still_is
  input-silent inputs.Tick is none still_is = linked-silent inputs.Tick Ticks None is refl still_is
  input-silent inputs.Drain is none still_is = refl
  input-silent inputs.Leave is none still_is = linked-silent inputs.Leave Leaves None is refl still_is

phase-silent : (config : Config) (ps : List Place) (e : Event) → (link ps).phase ≡ Closed → begins ps e.input ≡ false
    → sends_in (place config ps e).outputs ≡ []
phase-silent config ps e is none =
    input-silent config ps (max (now ps) e.moment) e.input is none ((place-moves config ps e).rests is none).1

-- while the link is closed nothing is sent
pub place-silent : (config : Config) (H : List Event) (e : Event) (cause : LinkCause) → closed (past config H) ≡ Some cause
    → begins (past config H) e.input ≡ false → sends_in (place config (past config H) e).outputs ≡ []
place-silent config H e cause is = phase-silent config (past config H) e (closed-phase config H cause is)

-- ---- turns after which nothing is unsent

-- the link is closed, and all that was sent on it is handed over
record IsSilent (ps : List Place) : Type 0 where
  phase : (link ps).phase ≡ Closed
  unsent : unsent ps ≡ []

unsent-none : (drained begun : Bool) (before outputs : List Output) → before ≡ [] → sends_in outputs ≡ []
    → unsent_with drained begun before outputs ≡ []
unsent-none true begun before outputs none silent = refl
unsent-none false true before outputs none silent = silent
unsent-none false false before outputs none silent = ap (λ l. l ++ sends_in outputs) none ∙ silent

-- the same after turns that begin nothing
silent-places : (config : Config) (ps : List Place) (turns : List RunTurn) → EachEntry (λ ask heard. is_beginning ask ≡ false) turns
    → IsSilent ps → IsSilent (places config ps (history turns))
silent-places config ps [] each is = is
silent-places config ps (None ∷ turns) each is = silent-places config ps turns each is
silent-places config ps (Some entry ∷ turns) each is =
    let e = event_of entry.0 entry.1 in
    let p = place config ps e in
    let none = begins-none ps entry.0 each.0 in
    silent-places config (p ∷ ps) turns each.1 (record {
      phase = ((place-moves config ps e).rests is.phase none).1;
      unsent = unsent-none (is_drain p.input) (begins ps p.input) (unsent ps) p.outputs is.unsent (phase-silent config ps e is.phase none);
    })

-- ---- turns that begin nothing

-- no turn of another number than 0 begins a link
abbrev OthersKeep : List ServerTurn → Type 0
OthersKeep turns =
    (n : ℕ) (ask : Input) (heard : Heard) (front back : List ServerTurn)
    → turns ≡ front ++ (n, Some (ask, heard)) ∷ back → n ≢ 0 → is_beginning ask ≡ false

others-back : (xs ys : List ServerTurn) → OthersKeep (xs ++ ys) → OthersKeep ys
others-back xs ys keep n ask heard front back whole =
    keep n ask heard (xs ++ front) back (ap (λ l. xs ++ l) whole ∙ sym (append_assoc xs front ((n, Some (ask, heard)) ∷ back)))

others-front : (xs ys : List ServerTurn) → OthersKeep (xs ++ ys) → OthersKeep xs
others-front xs ys keep n ask heard front back whole =
    keep n ask heard front (back ++ ys) (ap (λ l. l ++ ys) whole ∙ append_assoc front ((n, Some (ask, heard)) ∷ back) ys)

each-rest : (b : Bool) (turn : RunTurn) (turns : List RunTurn) → EachEntry (λ ask heard. is_beginning ask ≡ false) (cond b (turn ∷ turns) turns)
    → EachEntry (λ ask heard. is_beginning ask ≡ false) turns
each-rest false turn turns each = each
each-rest true None turns each = each
each-rest true (Some entry) turns each = each.1

other-number : (n : ℕ) → (0 == n) ≡ false → n ≢ 0
other-number n isnt = grind (arith, nat_tests)

each-first : (b : Bool) (n : ℕ) (ask : Input) (heard : Heard) (turns : List RunTurn) → (0 == n) ≡ b → (n ≢ 0 → is_beginning ask ≡ false)
    → EachEntry (λ ask heard. is_beginning ask ≡ false) (cond b (Some (ask, heard) ∷ turns) turns) → is_beginning ask ≡ false
each-first true n ask heard turns number other each = each.0
each-first false n ask heard turns number other each = other (other-number n number)

-- where those of number 0 begin nothing either, none does
each-plain : (turns : List ServerTurn) → OthersKeep turns → EachEntry (λ ask heard. is_beginning ask ≡ false) (of 0 turns)
    → EachEntry (λ ask heard. is_beginning ask ≡ false) (plain turns)
each-plain [] keep each = tt
each-plain ((n, None) ∷ turns) keep each =
    each-plain turns (others-back ((n, None) ∷ []) turns keep) (each-rest (0 == n) None (of 0 turns) each)
each-plain ((n, Some entry) ∷ turns) keep each = (
  each-first (0 == n) n entry.0 entry.1 (of 0 turns) refl (keep n entry.0 entry.1 [] turns refl) each,
  each-plain turns (others-back ((n, Some entry) ∷ []) turns keep) (each-rest (0 == n) (Some entry) (of 0 turns) each),
)

-- ---- late Drains

late-run : (config : Config) (until : ℕ) (front between back : List RunTurn) (heard last : Heard) (cause : LinkCause)
    → IsRun config until (front ++ Some (inputs.Drain, heard) ∷ (between ++ Some (inputs.Drain, last) ∷ back)) → heard.closed ≡ Some cause
    → EachEntry (λ ask heard. is_beginning ask ≡ false) between → octets_in last.sends ≡ []
late-run config until front between back heard last cause run is each =
    let ps = places_of config front in
    let e = event_of inputs.Drain heard in
    let p = place config ps e in
    let told = run-at config until front (between ++ Some (inputs.Drain, last) ∷ back) inputs.Drain heard run in
    let shut : p.link.phase ≡ Closed =
    shut-more ps p (moves-at config ps e) (closed-phase config (history front)) cause (sym (ap (λ (h : Heard). h.closed) told) ∙ is) in
    let before = front ++ Some (inputs.Drain, heard) ∷ between in
    let whole : front ++ Some (inputs.Drain, heard) ∷ (between ++ Some (inputs.Drain, last) ∷ back) ≡ before ++ Some (inputs.Drain, last) ∷ back =
    sym (append_assoc front (Some (inputs.Drain, heard) ∷ between) (Some (inputs.Drain, last) ∷ back)) in
    let answer = run-at config until before back inputs.Drain last (subst (IsRun config until) whole run) in
    let silent = silent-places config (p ∷ ps) between each (record { phase = shut; unsent = refl }) in
    ap (λ (h : Heard). octets_in h.sends) answer
    ∙ ap (λ qs. octets_in (unsent qs)) (places-on config front (Some (inputs.Drain, heard) ∷ between))
    ∙ ap octets_in silent.unsent

pub late-empty : (config : Config) (until : ℕ) (turns : List ServerTurn) → IsRun config until (plain turns)
    → ((n : ℕ) (ask : Input) (heard : Heard) (front back : List ServerTurn) → turns ≡ front ++ (n, Some (ask, heard)) ∷ back → n ≢ 0
    → is_beginning ask ≡ false)
    → LateDrainsAreEmpty (of 0 turns)
late-empty config until turns run keep front between back heard last cause is closed_is each =
    let first : ServerTurn = (0, Some (inputs.Drain, heard)) in
    let second : ServerTurn = (0, Some (inputs.Drain, last)) in
    let s = of-there 0 turns front (Some (inputs.Drain, heard)) (between ++ Some (inputs.Drain, last) ∷ back) is in
    let t = of-there 0 s.back between (Some (inputs.Drain, last)) back s.after in
    let whole : turns ≡ s.front ++ first ∷ (t.front ++ second ∷ t.back) = s.whole ∙ ap (λ l. s.front ++ first ∷ l) t.whole in
    let plain_is : plain turns ≡ plain s.front ++ Some (inputs.Drain, heard) ∷ (plain t.front ++ Some (inputs.Drain, last) ∷ plain t.back) =
    ap (λ (l : List ServerTurn). plain l) whole ∙ plain-append s.front (first ∷ (t.front ++ second ∷ t.back))
    ∙ ap (λ l. plain s.front ++ Some (inputs.Drain, heard) ∷ l) (plain-append t.front (second ∷ t.back)) in
    let keep_all : OthersKeep (s.front ++ first ∷ (t.front ++ second ∷ t.back)) = subst OthersKeep whole keep in
    let keep_between : OthersKeep t.front =
    others-front t.front (second ∷ t.back)
    (others-back (first ∷ []) (t.front ++ second ∷ t.back) (others-back s.front (first ∷ (t.front ++ second ∷ t.back)) keep_all)) in
    let none = each-plain t.front keep_between (subst (EachEntry (λ ask heard. is_beginning ask ≡ false)) (sym t.before) each) in
    late-run config until (plain s.front) (plain t.front) (plain t.back) heard last cause (subst (IsRun config until) plain_is run) closed_is none
