-- What a history says of the link's phase, of its number and of the causes for which links were closed.
use Rattle.std.proofs.Common.{◌≡◌, ℕ, ◌+◌, ◌==◌, ◌||◌, ◌⊎◌, inl, inr, Bool, true, false, max, List, [], ◌∷◌, ◌++◌, find, map, option_map, option_to_list, if◌then◌else◌, Option, Some, None, Result, Ok, Err, refl, sym, ◌∙◌, ap, subst, append_assoc}
use Rattle.std.specs.List.{enumerate_from}
use Rattle.std.specs.Option.{option_or}
use Rattle.radius_packet.specs.declared.reasons.Via.{Via}
use Rattle.radius_packet.specs.declared.reasons.Reason.{Reason}
use Rattle.radius_packet.specs.declared.reasons.Reason.TheVariants as reasons
use Rattle.diameter_message.specs.declared.fault.MessageFault.{MessageFault}
use Rattle.diameter_message.specs.Message.{MessageParts, read_message}
use Rattle.diameter_message.specs.Results.{is_success}
use Rattle.agent_settings.specs.declared.config.Config.{Config}
use Rattle.pending_table.specs.declared.key.Key.{Key}
use Rattle.pending_table.specs.Table.{same_key}
use Rattle.peer_machine.specs.declared.Phase.{Phase}
use Rattle.peer_machine.specs.declared.Phase.TheVariants.{Closed, Greeting, Serving, Closing}
use Rattle.peer_machine.specs.declared.LinkCause.{LinkCause}
use Rattle.peer_machine.specs.declared.LinkCause.TheVariants as causes
use Rattle.peer_machine.specs.declared.words.BaseRequest.TheVariants.{CapabilitiesExchange, DeviceWatchdog, DisconnectPeer}
use Rattle.peer_machine.specs.declared.words.Said.{Said}
use Rattle.peer_machine.specs.declared.words.Said.TheVariants.{CapabilitiesRequest, CapabilitiesAnswer, WatchdogRequest, WatchdogAnswer, DisconnectRequest, DisconnectAnswer, SessionRequest, OtherRequest, ApplicationAnswer, OtherAnswer}
use Rattle.peer_machine.specs.declared.words.Event.{Event as LinkEvent}
use Rattle.peer_machine.specs.declared.words.Event.TheVariants.{Opens, Serves, Says, Breaks, Ends, Ticks, Leaves}
use Rattle.peer_machine.specs.declared.words.Act.{Act}
use Rattle.peer_machine.specs.declared.words.Act.TheVariants.{Nothing, Serve, Discard, Pass, Close, Request, Answer, AnswerAndClose}
use Rattle.peer_machine.specs.declared.words.LinkState.{LinkState}
use Rattle.peer_machine.specs.declared.peer.PeerOutput.{PeerOutput}
use Rattle.peer_machine.specs.Reading.{said_in}
use Rattle.peer_machine.specs.Rules.{act_on, after, begun, heard_at, if_begun, if_past, if_room, is_past, may_begin, after_event, on_begin, on_end, on_leave, on_said, on_tick, serving_tick}
use Rattle.peer_machine.specs.Step.{closed_by, is_pass, sent}
use Rattle.agent_events.specs.declared.events.Input.{Input}
use Rattle.agent_events.specs.declared.events.Input.TheVariants as inputs
use Rattle.agent_events.specs.declared.events.Output.{Output}
use Rattle.agent_events.specs.declared.events.Output.TheVariants as outputs
use Rattle.agent_core.specs.Places.{Event, Place, Taking, answer_to, begins, link, live, now, waiting}
use Rattle.agent_core.specs.Rooms.{has_spare, refusal, rooms}
use Rattle.agent_core.specs.Verdict.{Request as AccessRequest, verdict}
use Rattle.agent_core.specs.History.{admitted, again, answered, at_input, datagram, heard, link_act, link_output, link_outputs, linked, matches, messaged, next_numbers, outcome, past, peer, place, places, repeated, reply_outputs, requested, resends, still, taking_of}
use Rattle.agent_server.specs.Runs.{closed, has_left, last_cause}
use Rattle.agent_events.specs.Kinds.{is_leave}
use Rattle.agent_server.specs.Spans.{causes_in}
use Rattle.agent_server.proofs.PlaceLemmas.{place-at}

-- ---- the table

-- whether the input begins a link, and whether it is the agent's leave
abbrev pub makes : LinkState → LinkEvent → Bool
makes l Opens = may_begin l.phase l.number
makes l Serves = may_begin l.phase l.number
makes l event = false

abbrev is_leaving : LinkEvent → Bool
is_leaving Leaves = true
is_leaving event = false

-- the phase after an act
abbrev phase_after : Phase → Act → Phase
phase_after phase Serve = Serving
phase_after phase (Close cause) = Closed
phase_after phase (AnswerAndClose code cause) = Closed
phase_after phase (Request CapabilitiesExchange) = Greeting
phase_after phase (Request DisconnectPeer) = Closing
phase_after phase act = phase

-- what an act makes of the phase and of the number
after-phase : (l : LinkState) (m : ℕ) (act : Act) → (after l m act).phase ≡ phase_after l.phase act
after-phase l m Nothing = refl
after-phase l m Serve = refl
after-phase l m (Discard reason) = refl
after-phase l m Pass = refl
after-phase l m (Close cause) = refl
after-phase l m (Request CapabilitiesExchange) = refl
after-phase l m (Request DeviceWatchdog) = refl
after-phase l m (Request DisconnectPeer) = refl
after-phase l m (Answer code error) = refl
after-phase l m (AnswerAndClose code cause) = refl

after-number : (l : LinkState) (m : ℕ) (act : Act) → (after l m act).number ≡ l.number
after-number l m Nothing = refl
after-number l m Serve = refl
after-number l m (Discard reason) = refl
after-number l m Pass = refl
after-number l m (Close cause) = refl
after-number l m (Request CapabilitiesExchange) = refl
after-number l m (Request DeviceWatchdog) = refl
after-number l m (Request DisconnectPeer) = refl
after-number l m (Answer code error) = refl
after-number l m (AnswerAndClose code cause) = refl

begun-phase : (l : LinkState) (m : ℕ) → (if_begun l m).phase ≡ l.phase
begun-phase l m = elim (may_begin l.phase l.number) as (λ b. (if b then begun l m else l).phase ≡ l.phase) [ true ↦ refl | false ↦ refl ]

begun-number : (l : LinkState) (m : ℕ) → (if_begun l m).number ≡ (if may_begin l.phase l.number then l.number + 1 else l.number)
begun-number l m =
    elim (may_begin l.phase l.number) as (λ b. (if b then begun l m else l).number ≡ (if b then l.number + 1 else l.number)) [
      | true ↦ refl
      | false ↦ refl
    ]

heard-phase : (phase : Phase) (l : LinkState) (m : ℕ) → (heard_at phase l m).phase ≡ l.phase
heard-phase Closed l m = refl
heard-phase Greeting l m = refl
heard-phase Serving l m = refl
heard-phase Closing l m = refl

heard-number : (phase : Phase) (l : LinkState) (m : ℕ) → (heard_at phase l m).number ≡ l.number
heard-number Closed l m = refl
heard-number Greeting l m = refl
heard-number Serving l m = refl
heard-number Closing l m = refl

-- an input itself changes the number alone
noted-phase : (l : LinkState) (m : ℕ) (event : LinkEvent) → (after_event l m event).phase ≡ l.phase
noted-phase l m Opens = begun-phase l m
noted-phase l m Serves = begun-phase l m
noted-phase l m (Says said) = heard-phase l.phase l m
noted-phase l m (Breaks fault) = refl
noted-phase l m Ends = refl
noted-phase l m Ticks = refl
noted-phase l m Leaves = refl

noted-number : (l : LinkState) (m : ℕ) (event : LinkEvent) → (after_event l m event).number ≡ (if makes l event then l.number + 1 else l.number)
noted-number l m Opens = begun-number l m
noted-number l m Serves = begun-number l m
noted-number l m (Says said) = heard-number l.phase l m
noted-number l m (Breaks fault) = refl
noted-number l m Ends = refl
noted-number l m Ticks = refl
noted-number l m Leaves = refl

-- ---- a closed link rests

abbrev pub is_idle : Act → Bool
is_idle Nothing = true
is_idle (Discard reason) = true
is_idle act = false

pub idle-room : (spare : Bool) (act : Act) → is_idle act ≡ true → is_idle (if_room spare act) ≡ true
idle-room true act idle = idle
idle-room false Nothing idle = refl
idle-room false (Discard reason) idle = refl
idle-room false Serve idle = cc
idle-room false Pass idle = cc
idle-room false (Close cause) idle = cc
idle-room false (Request request) idle = cc
idle-room false (Answer code error) idle = cc
idle-room false (AnswerAndClose code cause) idle = cc

idle-begin : (b : Bool) (act : Act) → b ≡ false → is_idle (if b then act else Discard reasons.WrongPhase) ≡ true
idle-begin false act is = refl
idle-begin true act is = cc

idle-said : (phase : Phase) (said : Said) → phase ≡ Closed → is_idle (on_said phase said) ≡ true
idle-said Closed said is = refl
idle-said Greeting said is = cc
idle-said Serving said is = cc
idle-said Closing said is = cc

idle-end : (phase : Phase) (cause : LinkCause) → phase ≡ Closed → is_idle (on_end phase cause) ≡ true
idle-end Closed cause is = refl
idle-end Greeting cause is = cc
idle-end Serving cause is = cc
idle-end Closing cause is = cc

idle-tick : (phase : Phase) (l : LinkState) (watchdog m : ℕ) → phase ≡ Closed → is_idle (on_tick phase l watchdog m) ≡ true
idle-tick Closed l watchdog m is = refl
idle-tick Greeting l watchdog m is = cc
idle-tick Serving l watchdog m is = cc
idle-tick Closing l watchdog m is = cc

idle-leave : (phase : Phase) → phase ≡ Closed → is_idle (on_leave phase) ≡ true
idle-leave Closed is = refl
idle-leave Greeting is = cc
idle-leave Serving is = cc
idle-leave Closing is = cc

pub idle-act : (l : LinkState) (watchdog m : ℕ) (event : LinkEvent) → l.phase ≡ Closed → makes l event ≡ false → is_idle (act_on l watchdog m event) ≡ true
idle-act l watchdog m Opens is none = idle-begin (may_begin l.phase l.number) (Request CapabilitiesExchange) none
idle-act l watchdog m Serves is none = idle-begin (may_begin l.phase l.number) Serve none
idle-act l watchdog m (Says said) is none = idle-said l.phase said is
idle-act l watchdog m (Breaks fault) is none = idle-end l.phase (causes.Broken fault) is
idle-act l watchdog m Ends is none = idle-end l.phase causes.Ended is
idle-act l watchdog m Ticks is none = idle-tick l.phase l watchdog m is
idle-act l watchdog m Leaves is none = idle-leave l.phase is

idle-closes : (act : Act) → is_idle act ≡ true → closed_by act ≡ None
idle-closes Nothing idle = refl
idle-closes (Discard reason) idle = refl
idle-closes Serve idle = refl
idle-closes Pass idle = refl
idle-closes (Request request) idle = refl
idle-closes (Answer code error) idle = refl
idle-closes (Close cause) idle = cc
idle-closes (AnswerAndClose code cause) idle = cc

idle-phase : (phase : Phase) (act : Act) → is_idle act ≡ true → phase_after phase act ≡ phase
idle-phase phase Nothing idle = refl
idle-phase phase (Discard reason) idle = refl
idle-phase phase Serve idle = cc
idle-phase phase Pass idle = refl
idle-phase phase (Request CapabilitiesExchange) idle = cc
idle-phase phase (Request DeviceWatchdog) idle = cc
idle-phase phase (Request DisconnectPeer) idle = cc
idle-phase phase (Answer code error) idle = refl
idle-phase phase (Close cause) idle = cc
idle-phase phase (AnswerAndClose code cause) idle = cc

-- ---- a link closes

closing-phase : (phase : Phase) (act : Act) (cause : LinkCause) → closed_by act ≡ Some cause → phase_after phase act ≡ Closed
closing-phase phase (Close other) cause is = refl
closing-phase phase (AnswerAndClose code other) cause is = refl
closing-phase phase Nothing cause is = cc
closing-phase phase Serve cause is = cc
closing-phase phase (Discard reason) cause is = cc
closing-phase phase Pass cause is = cc
closing-phase phase (Request request) cause is = cc
closing-phase phase (Answer code error) cause is = cc

-- ---- only a Leave leads to leaving

-- what a link does only where it closes already, or where the agent leaves
abbrev is_parting : Act → Bool
is_parting (Close causes.Left) = true
is_parting (AnswerAndClose code causes.Left) = true
is_parting (Request DisconnectPeer) = true
is_parting act = false

abbrev Parts : Phase → Bool → Act → Type 0
Parts phase leaving act = is_parting act ≡ true → (phase ≡ Closing) ⊎ (leaving ≡ true)

parting-room : (spare : Bool) (act : Act) → is_parting (if_room spare act) ≡ true → is_parting act ≡ true
parting-room true act is = is
parting-room false Nothing is = is
parting-room false Serve is = is
parting-room false (Discard reason) is = is
parting-room false Pass is = is
parting-room false (Close cause) is = is
parting-room false (Request request) is = cc
parting-room false (Answer code error) is = cc
parting-room false (AnswerAndClose code cause) is = cc

parting-begin : (b : Bool) (act : Act) → is_parting act ≡ false → is_parting (if b then act else Discard reasons.WrongPhase) ≡ false
parting-begin true act is = is
parting-begin false act is = refl

parting-greeted : (b : Bool) (result : ℕ) → is_parting (if b then Serve else Close (causes.Refused result)) ≡ false
parting-greeted true result = refl
parting-greeted false result = refl

parting-greeting : (said : Said) → is_parting (on_said Greeting said) ≡ false
parting-greeting (CapabilitiesAnswer result) = parting-greeted (is_success result) result
parting-greeting CapabilitiesRequest = refl
parting-greeting WatchdogRequest = refl
parting-greeting WatchdogAnswer = refl
parting-greeting (DisconnectRequest cause) = refl
parting-greeting DisconnectAnswer = refl
parting-greeting SessionRequest = refl
parting-greeting OtherRequest = refl
parting-greeting ApplicationAnswer = refl
parting-greeting OtherAnswer = refl

parting-open : (said : Said) → is_parting (on_said Serving said) ≡ false
parting-open (CapabilitiesAnswer result) = refl
parting-open CapabilitiesRequest = refl
parting-open WatchdogRequest = refl
parting-open WatchdogAnswer = refl
parting-open (DisconnectRequest cause) = refl
parting-open DisconnectAnswer = refl
parting-open SessionRequest = refl
parting-open OtherRequest = refl
parting-open ApplicationAnswer = refl
parting-open OtherAnswer = refl

parting-past : (b : Bool) (act : Act) → is_parting act ≡ false → is_parting (if b then act else Nothing) ≡ false
parting-past true act is = is
parting-past false act is = refl

parting-serving : (asked : Option ℕ) (heard watchdog m : ℕ) → is_parting (serving_tick asked heard watchdog m) ≡ false
parting-serving None heard watchdog m = parting-past (is_past heard watchdog m) (Request DeviceWatchdog) refl
parting-serving (Some asked) heard watchdog m = parting-past (is_past asked watchdog m) (Close causes.Watchdog) refl

never : {A : Type 0} (b : Bool) → b ≡ false → b ≡ true → A
never b isnt is = cc

parts-said : (phase : Phase) (said : Said) → Parts phase false (on_said phase said)
parts-said Closed said is = cc
parts-said Greeting said is = never (is_parting (on_said Greeting said)) (parting-greeting said) is
parts-said Serving said is = never (is_parting (on_said Serving said)) (parting-open said) is
parts-said Closing said is = inl refl

parts-end : (phase : Phase) (cause : LinkCause) → is_parting (Close cause) ≡ false → Parts phase false (on_end phase cause)
parts-end Closed cause isnt is = cc
parts-end Greeting cause isnt is = never (is_parting (Close cause)) isnt is
parts-end Serving cause isnt is = never (is_parting (Close cause)) isnt is
parts-end Closing cause isnt is = inl refl

parts-tick : (phase : Phase) (l : LinkState) (watchdog m : ℕ) → Parts phase false (on_tick phase l watchdog m)
parts-tick Closed l watchdog m is = cc
parts-tick Greeting l watchdog m is =
    never (is_parting (if_past l.heard watchdog m (Close causes.Watchdog))) (parting-past (is_past l.heard watchdog m) (Close causes.Watchdog) refl) is
parts-tick Serving l watchdog m is = never (is_parting (serving_tick l.asked l.heard watchdog m)) (parting-serving l.asked l.heard watchdog m) is
parts-tick Closing l watchdog m is = inl refl

parts-act : (l : LinkState) (watchdog m : ℕ) (event : LinkEvent) → Parts l.phase (is_leaving event) (act_on l watchdog m event)
parts-act l watchdog m Opens is =
    never (is_parting (on_begin l (Request CapabilitiesExchange))) (parting-begin (may_begin l.phase l.number) (Request CapabilitiesExchange) refl) is
parts-act l watchdog m Serves is = never (is_parting (on_begin l Serve)) (parting-begin (may_begin l.phase l.number) Serve refl) is
parts-act l watchdog m (Says said) is = parts-said l.phase said is
parts-act l watchdog m (Breaks fault) is = parts-end l.phase (causes.Broken fault) refl is
parts-act l watchdog m Ends is = parts-end l.phase causes.Ended refl is
parts-act l watchdog m Ticks is = parts-tick l.phase l watchdog m is
parts-act l watchdog m Leaves is = inr refl

-- a link that closes for its own leave, or that begins to, parts
left-parts : (act : Act) → closed_by act ≡ Some causes.Left → is_parting act ≡ true
left-parts (Close causes.Left) is = refl
left-parts (AnswerAndClose code causes.Left) is = refl
left-parts act is = cc

closing-parts : (phase : Phase) (act : Act) → phase_after phase act ≡ Closing → (phase ≡ Closing) ⊎ (is_parting act ≡ true)
closing-parts phase (Request DisconnectPeer) is = inr refl
closing-parts phase Nothing is = inl is
closing-parts phase (Discard reason) is = inl is
closing-parts phase Pass is = inl is
closing-parts phase (Request DeviceWatchdog) is = inl is
closing-parts phase (Answer code error) is = inl is
closing-parts phase (Request CapabilitiesExchange) is = cc
closing-parts phase Serve is = cc
closing-parts phase (Close cause) is = cc
closing-parts phase (AnswerAndClose code cause) is = cc

-- ---- what outputs say of causes

-- these outputs have this cause and no other
pub record Tells (cause : Option LinkCause) (os : List Output) : Type 0 where
  pub all : causes_in os ≡ option_to_list cause
  pub last : last_cause os ≡ cause

pub or-none : {A : Type 0} (o : Option A) → option_or o None ≡ o
or-none None = refl
or-none (Some x) = refl

tells-none : Tells None []
tells-none = record { all = refl; last = refl }

-- an output that is no Closed says nothing of causes
tells-reply : (via : Via) (address port : ℕ) (octets : List ℕ) (cause : Option LinkCause) (os : List Output) → Tells cause os
    → Tells cause (outputs.Reply via address port octets ∷ os)
tells-reply via address port octets cause os tells = record { all = tells.all; last = or-none (last_cause os) ∙ tells.last }

tells-send : (octets : List ℕ) (cause : Option LinkCause) (os : List Output) → Tells cause os → Tells cause (outputs.Send octets ∷ os)
tells-send octets cause os tells = record { all = tells.all; last = or-none (last_cause os) ∙ tells.last }

tells-dropped : (reason : Reason) (cause : Option LinkCause) (os : List Output) → Tells cause os → Tells cause (outputs.Dropped reason ∷ os)
tells-dropped reason cause os tells = record { all = tells.all; last = or-none (last_cause os) ∙ tells.last }

tells-closed : (cause : LinkCause) (os : List Output) → Tells None os → Tells (Some cause) (outputs.Closed cause ∷ os)
tells-closed cause os tells = record { all = ap (λ cs. cause ∷ cs) tells.all; last = ap (λ c. option_or c (Some cause)) tells.last }

tells-again : (ts : List (ℕ × Taking)) → Tells None (map (λ p. outputs.Send (again p.1.sent p.0)) ts)
tells-again [] = tells-none
tells-again (t ∷ ts) = tells-send (again t.1.sent t.0) None (map (λ p. outputs.Send (again p.1.sent p.0)) ts) (tells-again ts)

tells-drop : (dropped : Option Reason) (os : List Output) → Tells None os → Tells None (option_to_list (option_map outputs.Dropped dropped) ++ os)
tells-drop None os tells = tells
tells-drop (Some reason) os tells = tells-dropped reason None os tells

tells-close : (cause : Option LinkCause) (os : List Output) → Tells None os → Tells cause (option_to_list (option_map outputs.Closed cause) ++ os)
tells-close None os tells = tells
tells-close (Some cause) os tells = tells-closed cause os tells

tells-sent : (send : Option (List ℕ)) (cause : Option LinkCause) (os : List Output) → Tells cause os
    → Tells cause (option_to_list (option_map outputs.Send send) ++ os)
tells-sent None cause os tells = tells
tells-sent (Some octets) cause os tells = tells-send octets cause os tells

-- what the link says of itself closes it for the cause of its output
tells-link : (o : PeerOutput) (os : List Output) → Tells None os → Tells o.closed (link_outputs o ++ os)
tells-link o os tells =
    let sends = option_to_list (option_map outputs.Send o.send) in
    let closes = option_to_list (option_map outputs.Closed o.closed) in
    let drops = option_to_list (option_map outputs.Dropped o.dropped) in
    let whole : link_outputs o ++ os ≡ sends ++ (closes ++ (drops ++ os)) =
    append_assoc (sends ++ closes) drops os ∙ append_assoc sends closes (drops ++ os) in
    subst (Tells o.closed) (sym whole)
    (tells-sent o.send o.closed (closes ++ (drops ++ os)) (tells-close o.closed (drops ++ os) (tells-drop o.dropped os tells)))

tells-outcome : (key : Key) (reply follow : Option (List ℕ)) → Tells None (reply_outputs key reply ++ option_to_list (option_map outputs.Send follow))
tells-outcome key None None = tells-none
tells-outcome key None (Some sent) = tells-send sent None [] tells-none
tells-outcome key (Some octets) None = tells-reply key.via key.address key.port octets None [] tells-none
tells-outcome key (Some octets) (Some sent) =
    tells-reply key.via key.address key.port octets None (outputs.Send sent ∷ []) (tells-send sent None [] tells-none)

tells-repeated : (key : Key) (answer : Option (Option (List ℕ))) → Tells None (repeated key answer)
tells-repeated key None = tells-dropped reasons.Waiting None [] tells-none
tells-repeated key (Some None) = tells-dropped reasons.Silent None [] tells-none
tells-repeated key (Some (Some octets)) = tells-reply key.via key.address key.port octets None [] tells-none

tells-unmatched : (b : Bool) → Tells None (if b then [] else outputs.Dropped reasons.Unmatched ∷ [])
tells-unmatched true = tells-none
tells-unmatched false = tells-dropped reasons.Unmatched None [] tells-none

-- ---- what a place makes of the link

map-right : (A B C : Type 0) → (B → C) → A ⊎ B → A ⊎ C
map-right A B C f (inl a) = inl a
map-right A B C f (inr b) = inr (f b)

either-way : (A B C : Type 0) → (B → A ⊎ C) → A ⊎ B → A ⊎ C
either-way A B C f (inl a) = inl a
either-way A B C f (inr b) = f b

-- what an input makes of the link, and for which causes it is closed
pub record Moves (ps : List Place) (input : Input) (p : Place) : Type 0 where
  pub once : causes_in p.outputs ≡ option_to_list (last_cause p.outputs)
  pub shuts : (cause : LinkCause) → last_cause p.outputs ≡ Some cause → p.link.phase ≡ Closed
  pub rests : (link ps).phase ≡ Closed → begins ps input ≡ false → (last_cause p.outputs ≡ None) × (p.link.phase ≡ Closed)
  pub parts : p.link.phase ≡ Closing → ((link ps).phase ≡ Closing) ⊎ (is_leave input ≡ true)
  pub leaves : last_cause p.outputs ≡ Some causes.Left → ((link ps).phase ≡ Closing) ⊎ (is_leave input ≡ true)
  pub number : p.link.number ≡ (if begins ps input then (link ps).number + 1 else (link ps).number)

-- where the link stays as it is
still-moves : (ps : List Place) (input : Input) (p : Place) → begins ps input ≡ false → p.link.phase ≡ (link ps).phase
    → p.link.number ≡ (link ps).number → Tells None p.outputs → Moves ps input p
still-moves ps input p none phase number tells = record {
  once = tells.all ∙ sym (ap option_to_list tells.last);
  shuts = λ cause is. cc (tells.last, is);
  rests = λ closed none'. (tells.last, phase ∙ closed);
  parts = λ is. inl (sym phase ∙ is);
  leaves = λ is. cc (tells.last, is);
  number = number ∙ sym (ap (λ b. if b then (link ps).number + 1 else (link ps).number) none);
}

module _ (config : Config) (ps : List Place) (m : ℕ) where
  admitted-moves : (input : Input) (request : AccessRequest) (reason : Option Reason) → begins ps input ≡ false
      → Moves ps input (admitted config ps m input request reason)
  admitted-moves input request (Some reason) none =
      still-moves ps input (admitted config ps m input request (Some reason)) none refl refl (tells-dropped reason None [] tells-none)
  admitted-moves input request None none =
      still-moves ps input (admitted config ps m input request None) none refl refl
      (tells-send (taking_of config ps m request).sent None [] tells-none)

  requested-moves : (input : Input) (request : AccessRequest) (found : Option Taking) → begins ps input ≡ false
      → Moves ps input (requested config ps m input request found)
  requested-moves input request (Some t) none =
      still-moves ps input (requested config ps m input request (Some t)) none refl refl (tells-repeated t.key (answer_to t.place ps))
  requested-moves input request None none = admitted-moves input request (refusal config (rooms config ps m)) none

  datagram-moves : (input : Input) (said : Result AccessRequest Reason) → begins ps input ≡ false → Moves ps input (datagram config ps m input said)
  datagram-moves input (Err reason) none =
      still-moves ps input (datagram config ps m input (Err reason)) none refl refl (tells-dropped reason None [] tells-none)
  datagram-moves input (Ok request) none = requested-moves input request (find (λ t. same_key t.key request.key) (live config ps m)) none

  -- the link as its rules see it, before an input and after it
  link-phase : (event : LinkEvent) (act : Act) → (after (after_event (peer config ps).link m event) m act).phase ≡ phase_after (link ps).phase act
  link-phase event act =
      let l = (peer config ps).link in
      after-phase (after_event l m event) m act ∙ ap (λ (x : Phase). phase_after x act) (noted-phase l m event)

  link-number : (event : LinkEvent) (act : Act)
      → (after (after_event (peer config ps).link m event) m act).number ≡ (if makes (peer config ps).link event then (link ps).number + 1 else (link ps).number)
  link-number event act =
      let l = (peer config ps).link in
      after-number (after_event l m event) m act ∙ noted-number l m event

  -- an input of the link
  linked-moves : (input : Input) (event : LinkEvent) (message : Option MessageParts) → begins ps input ≡ makes (peer config ps).link event
      → is_leave input ≡ is_leaving event → Moves ps input (linked config ps m input event message)
  linked-moves input event message makes_is leaving_is =
      let l = (peer config ps).link in
      let spare = has_spare config ps m input in
      let table = act_on l config.watchdog m event in
      let act = link_act config ps m input event in
      let p = linked config ps m input event message in
      let tells : Tells (closed_by act) p.outputs =
      tells-link (link_output config ps m input event message) (resends p.resent) (tells-again (enumerate_from 0 p.resent)) in
      let parting : is_parting act ≡ true → ((link ps).phase ≡ Closing) ⊎ (is_leave input ≡ true) =
      λ is. map-right _ _ _ (λ (e : is_leaving event ≡ true). leaving_is ∙ e) (parts-act l config.watchdog m event (parting-room spare table is)) in
      record {
        once = tells.all ∙ sym (ap option_to_list tells.last);
        shuts = λ cause is. link-phase event act ∙ closing-phase (link ps).phase act cause (sym tells.last ∙ is);
        rests = λ closed none.
            let idle = idle-room spare table (idle-act l config.watchdog m event closed (sym makes_is ∙ none)) in
            (tells.last ∙ idle-closes act idle, link-phase event act ∙ idle-phase (link ps).phase act idle ∙ closed);
        parts = λ is. either-way _ _ _ parting (closing-parts (link ps).phase act (sym (link-phase event act) ∙ is));
        leaves = λ is. parting (left-parts act (sym tells.last ∙ is));
        number = link-number event act ∙ sym (ap (λ b. if b then (link ps).number + 1 else (link ps).number) makes_is);
      }

  -- an answer that is handed on leaves the link's phase as it is
  pass-phase : (act : Act) → is_pass act ≡ true → phase_after (link ps).phase act ≡ (link ps).phase
  pass-phase Pass is = refl
  pass-phase act is = cc

  answered-moves : (input : Input) (message : MessageParts) (p : Place) (found : Option Taking) → begins ps input ≡ false
      → p.link.phase ≡ (link ps).phase → p.link.number ≡ (link ps).number → Moves ps input (answered config ps m message p found)
  answered-moves input message p None none phase number =
      still-moves ps input (answered config ps m message p None) none phase number (tells-unmatched (message.header.command == 275))
  answered-moves input message p (Some t) none phase number =
      let o = outcome t.kept.kind t.settings t.kept message (next_numbers config ps) in
      still-moves ps input (answered config ps m message p (Some t)) none phase number (tells-outcome t.key o.reply o.follow)

  heard-moves : (octets : List ℕ) (message : MessageParts) (b : Bool)
      → is_pass (link_act config ps m (inputs.Message octets) (Says (said_in message))) ≡ b
      → Moves ps (inputs.Message octets)
      (heard config ps m message (linked config ps m (inputs.Message octets) (Says (said_in message)) (Some message)) b)
  heard-moves octets message false passes = linked-moves (inputs.Message octets) (Says (said_in message)) (Some message) refl refl
  heard-moves octets message true passes =
      let event = Says (said_in message) in
      let act = link_act config ps m (inputs.Message octets) event in
      answered-moves (inputs.Message octets) message (linked config ps m (inputs.Message octets) event (Some message))
      (find (matches ps message.header) (waiting config ps m)) refl (link-phase event act ∙ pass-phase act passes) (link-number event act)

  messaged-moves : (octets : List ℕ) (said : Result MessageParts MessageFault)
      → Moves ps (inputs.Message octets) (messaged config ps m (inputs.Message octets) said)
  messaged-moves octets (Err fault) =
      still-moves ps (inputs.Message octets) (messaged config ps m (inputs.Message octets) (Err fault)) refl refl refl
      (tells-dropped reasons.BadMessage None [] tells-none)
  messaged-moves octets (Ok message) =
      heard-moves octets message (is_pass (link_act config ps m (inputs.Message octets) (Says (said_in message)))) refl

  input-moves : (input : Input) → Moves ps input (at_input config ps m input)
  input-moves (inputs.Datagram via address port octets) =
      datagram-moves (inputs.Datagram via address port octets) (verdict config via address port octets) refl
  input-moves inputs.Up = linked-moves inputs.Up Opens None refl refl
  input-moves inputs.Ready = linked-moves inputs.Ready Serves None refl refl
  input-moves (inputs.Message octets) = messaged-moves octets (read_message octets)
  input-moves (inputs.Broken fault) = linked-moves (inputs.Broken fault) (Breaks fault) None refl refl
  input-moves inputs.Down = linked-moves inputs.Down Ends None refl refl
  input-moves inputs.Tick = linked-moves inputs.Tick Ticks None refl refl
  input-moves inputs.Drain = still-moves ps inputs.Drain (still config ps m inputs.Drain []) refl refl refl tells-none
  input-moves inputs.Leave = linked-moves inputs.Leave Leaves None refl refl

pub place-moves : (config : Config) (ps : List Place) (e : Event) → Moves ps e.input (place config ps e)
place-moves config ps e = input-moves config ps (max (now ps) e.moment) e.input

-- the same, by the input that the place has
pub moves-at : (config : Config) (ps : List Place) (e : Event) → Moves ps (place config ps e).input (place config ps e)
moves-at config ps e = subst (λ (i : Input). Moves ps i (place config ps e)) (sym (place-at config ps e).input) (place-moves config ps e)

-- ---- histories

-- what each place keeps holds of each history
pub places-keep : (config : Config) (P : List Place → Type 0) → ((ps : List Place) (e : Event) → P ps → P (place config ps e ∷ ps))
    → (ps : List Place) (es : List Event) → P ps → P (places config ps es)
places-keep config P step ps [] so_far = so_far
places-keep config P step ps (e ∷ es) so_far = places-keep config P step (place config ps e ∷ ps) es (step ps e so_far)

-- after a Closed and no new link, the link is closed
abbrev pub IsShut : List Place → Type 0
IsShut ps = (cause : LinkCause) → closed ps ≡ Some cause → (link ps).phase ≡ Closed

shut-by : (ps : List Place) (p : Place) (cause : LinkCause) → Moves ps p.input p → IsShut ps → (last : Option LinkCause) → last_cause p.outputs ≡ last
    → (begun : Bool) → begins ps p.input ≡ begun → option_or last (if begun then None else closed ps) ≡ Some cause → p.link.phase ≡ Closed
shut-by ps p cause moves shut (Some other) last begun begun_is is = moves.shuts other last
shut-by ps p cause moves shut None last true begun_is is = cc
shut-by ps p cause moves shut None last false begun_is is = (moves.rests (shut cause is) begun_is).1

pub shut-more : (ps : List Place) (p : Place) → Moves ps p.input p → IsShut ps → IsShut (p ∷ ps)
shut-more ps p moves shut cause is = shut-by ps p cause moves shut (last_cause p.outputs) refl (begins ps p.input) refl is

pub places-shut : (config : Config) (ps : List Place) (es : List Event) → IsShut ps → IsShut (places config ps es)
places-shut config = places-keep config IsShut (λ ps e. shut-more ps (place config ps e) (moves-at config ps e))

pub closed-phase : (config : Config) (H : List Event) (cause : LinkCause) → closed (past config H) ≡ Some cause → (link (past config H)).phase ≡ Closed
closed-phase config H = places-shut config [] H (λ cause is. cc)

-- a link that closes for the agent's leave, or was closed for it, says that there was a Leave
pub record IsParted (ps : List Place) : Type 0 where
  pub phase : (link ps).phase ≡ Closing → has_left ps ≡ true
  pub cause : closed ps ≡ Some causes.Left → has_left ps ≡ true

or-left : (b c : Bool) → b ≡ true → (b || c) ≡ true
or-left true c is = refl
or-left false c is = cc

or-right : (b c : Bool) → c ≡ true → (b || c) ≡ true
or-right true c is = refl
or-right false c is = is

parted-by : (ps : List Place) (p : Place) → Moves ps p.input p → IsParted ps → ((link ps).phase ≡ Closing) ⊎ (is_leave p.input ≡ true)
    → has_left (p ∷ ps) ≡ true
parted-by ps p moves parted (inl is) = or-left (has_left ps) (is_leave p.input) (parted.phase is)
parted-by ps p moves parted (inr is) = or-right (has_left ps) (is_leave p.input) is

parted-cause : (ps : List Place) (p : Place) → Moves ps p.input p → IsParted ps → (last : Option LinkCause) → last_cause p.outputs ≡ last
    → (begun : Bool) → option_or last (if begun then None else closed ps) ≡ Some causes.Left → has_left (p ∷ ps) ≡ true
parted-cause ps p moves parted (Some other) last begun is = parted-by ps p moves parted (moves.leaves (last ∙ is))
parted-cause ps p moves parted None last true is = cc
parted-cause ps p moves parted None last false is = or-left (has_left ps) (is_leave p.input) (parted.cause is)

parted-step : (config : Config) (ps : List Place) (e : Event) → IsParted ps → IsParted (place config ps e ∷ ps)
parted-step config ps e parted =
    let p = place config ps e in
    let moves = moves-at config ps e in
    record {
      phase = λ is. parted-by ps p moves parted (moves.parts is);
      cause = λ is. parted-cause ps p moves parted (last_cause p.outputs) refl (begins ps p.input) is;
    }

pub closed-left : (config : Config) (H : List Event) → closed (past config H) ≡ Some causes.Left → has_left (past config H) ≡ true
closed-left config H = (places-keep config IsParted (parted-step config) [] H (record { phase = λ is. cc; cause = λ is. cc })).cause

-- each place closes the link once at most, and a closed link isn't closed again
pub place-once : (config : Config) (ps : List Place) (e : Event) → causes_in (place config ps e).outputs ≡ option_to_list (last_cause (place config ps e).outputs)
place-once config ps e = (place-moves config ps e).once

pub place-none : (config : Config) (H : List Event) (e : Event) (cause : LinkCause) → closed (past config H) ≡ Some cause
    → begins (past config H) e.input ≡ false → causes_in (place config (past config H) e).outputs ≡ []
place-none config H e cause is none =
    let moves = place-moves config (past config H) e in
    moves.once ∙ ap option_to_list (moves.rests (closed-phase config H cause is) none).0
