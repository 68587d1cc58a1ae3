-- A Tick at which nothing goes out, and a Drain of nothing, may be left out.
use Rattle.std.proofs.Common.{◌≡◌, ℕ, ◌≤◌, Bool, true, false, cond, ◌&&◌, not, List, [], ◌∷◌, ◌++◌, length, map, Option, Some, None, refl, sym, ◌∙◌, ap, subst, arith}
use Rattle.std.specs.Prelude.{◌==◌, max}
use Rattle.std.proofs.lemmas.Bool.{and_parts, eqb-true}
use Rattle.agent_settings.specs.declared.config.Config.{Config}
use Rattle.peer_machine.specs.declared.Phase.{Phase}
use Rattle.peer_machine.specs.declared.Phase.TheVariants.{Closed, Greeting, Serving, Closing}
use Rattle.peer_machine.specs.declared.LinkCause.TheVariants as causes
use Rattle.peer_machine.specs.declared.words.BaseRequest.TheVariants.{DeviceWatchdog}
use Rattle.peer_machine.specs.declared.words.LinkState.{LinkState}
use Rattle.peer_machine.specs.declared.words.Event.TheVariants.{Ticks}
use Rattle.peer_machine.specs.declared.words.Act.{Act}
use Rattle.peer_machine.specs.declared.words.Act.TheVariants.{Nothing, Serve, Discard, Pass, Close, Request, Answer, AnswerAndClose}
use Rattle.peer_machine.specs.Rules.{act_on, on_tick, serving_tick, is_past, if_room, after}
use Rattle.peer_machine.specs.Step.{PeerParts, link_at, output_of, sent}
use Rattle.agent_events.specs.declared.events.Input.{Input}
use Rattle.agent_events.specs.declared.events.Input.TheVariants.{Datagram, Up, Ready, Message, Broken, Down, Tick, Drain, Leave}
use Rattle.agent_events.specs.declared.events.Output.{Output}
use Rattle.agent_core.specs.Settings.{names, end_number}
use Rattle.agent_core.specs.Links.{LinkAt, without_requests}
use Rattle.agent_core.specs.Places.{Event, Place, Taking, now, link, opens, waiting, outbox, total}
use Rattle.agent_core.specs.Rooms.{has_spare}
use Rattle.agent_core.specs.History.{at_input, place, past, still, peer, link_act, link_outputs, resends, linked}
use Rattle.agent_core.specs.LawsOfSends.{IdleInputsChangeNoOutput, IdleInputsMayBeLeftOut, busy_outputs, each_outputs, is_idle, leaves_all, not_before, without_idle}
use Rattle.agent_core.proofs.StandingLemmas.Simulation.{IsUnsent}
use Rattle.agent_core.proofs.StandingLemmas.Histories.{places-append}
use Rattle.agent_core.proofs.LawLemmas.LeftOut.{LeavesAll, left-out, left-outputs, moment-of}

-- ---- a Tick at which nothing goes out

-- what a Tick may lead to
abbrev OfTick : Act → Bool
OfTick Nothing = true
OfTick (Close cause) = true
OfTick (Request request) = true
OfTick act = false

tick-if : (b : Bool) (act : Act) → OfTick act ≡ true → OfTick (cond b act Nothing) ≡ true
tick-if true act is = is
tick-if false act is = refl

tick-serving : (asked : Option ℕ) (heard watchdog m : ℕ) → OfTick (serving_tick asked heard watchdog m) ≡ true
tick-serving None heard watchdog m = tick-if (is_past heard watchdog m) (Request DeviceWatchdog) refl
tick-serving (Some at) heard watchdog m = tick-if (is_past at watchdog m) (Close causes.Watchdog) refl

tick-phase : (phase : Phase) (l : LinkState) (watchdog m : ℕ) → OfTick (on_tick phase l watchdog m) ≡ true
tick-phase Closed l watchdog m = refl
tick-phase Greeting l watchdog m = tick-if (is_past l.heard watchdog m) (Close causes.Watchdog) refl
tick-phase Serving l watchdog m = tick-serving l.asked l.heard watchdog m
tick-phase Closing l watchdog m = tick-if (is_past l.leave watchdog m) (Close causes.Left) refl

tick-room : (spare : Bool) (act : Act) → OfTick act ≡ true → OfTick (if_room spare act) ≡ true
tick-room true act is = is
tick-room false Nothing is = refl
tick-room false (Close cause) is = refl
tick-room false (Request request) is = refl
tick-room false Serve is = absurd (cc)
tick-room false (Discard reason) is = absurd (cc)
tick-room false Pass is = absurd (cc)
tick-room false (Answer code error) is = absurd (cc)
tick-room false (AnswerAndClose code cause) is = absurd (cc)

-- nothing goes out only where nothing is done
silent : (p : PeerParts) (m : ℕ) (config : Config) (n : ℕ) (act : Act) (os : List Output) → OfTick act ≡ true → link_outputs (output_of (sent (names config) (link_at p m Ticks) (end_number config n) None act) act) ++ os ≡ [] → act ≡ Nothing
silent p m config n Nothing os is none = refl
silent p m config n (Close cause) os is none = absurd (cc)
silent p m config n (Request request) os is none = absurd (cc)
silent p m config n Serve os is none = absurd (cc)
silent p m config n (Discard reason) os is none = absurd (cc)
silent p m config n Pass os is none = absurd (cc)
silent p m config n (Answer code error) os is none = absurd (cc)
silent p m config n (AnswerAndClose code cause) os is none = absurd (cc)

stays-shut : (phase : Phase) → opens phase phase ≡ false
stays-shut Closed = refl
stays-shut Greeting = refl
stays-shut Serving = refl
stays-shut Closing = refl

-- the place of a Tick, by what is done
abbrev tick_place : Config → List Place → ℕ → Act → Place
tick_place config ps m act =
    let l = without_requests (after (link_at (peer config ps) m Ticks) m act) in
    let resent = cond (opens (link ps).phase l.phase) (waiting config ps m) [] in
    record {
      moment = m;
      input = Tick;
      link = l;
      taken = None;
      matched = None;
      resent = resent;
      outputs = link_outputs (output_of (sent (names config) (link_at (peer config ps) m Ticks) (end_number config (total ps)) None act) act) ++ resends resent;
    }

tick-still : (config : Config) (ps : List Place) (m : ℕ) → (linked config ps m Tick Ticks None).outputs ≡ [] → linked config ps m Tick Ticks None ≡ still config ps m Tick []
tick-still config ps m none =
    let act = link_act config ps m Tick Ticks in
    let idle : act ≡ Nothing =
    silent (peer config ps) m config (total ps) act _ (tick-room (has_spare config ps m Tick) (act_on (peer config ps).link config.watchdog m Ticks) (tick-phase (link ps).phase (peer config ps).link config.watchdog m)) none
    in
    ap (tick_place config ps m) idle
    ∙ ap (λ b. record (still config ps m Tick (resends (cond b (waiting config ps m) []))) { resent = cond b (waiting config ps m) [] }) (stays-shut (link ps).phase)

-- ---- the place of what is idle

record Leaves (config : Config) (ps : List Place) (m : ℕ) (input : Input) : Type 0 where
  pub is : at_input config ps m input ≡ still config ps m input []
  pub all : LeavesAll ps input []

nothing : (outputs : List Output) → (length outputs == 0) ≡ true → outputs ≡ []
nothing [] e = refl
nothing (o ∷ os) e = let none : length (o ∷ os) ≡ 0 = eqb-true _ _ e in absurd (omega arith)

unsent-none : IsUnsent []
unsent-none = record { application = refl; base = refl; first = refl; any = refl }

idle-leaves : (config : Config) (ps : List Place) (m : ℕ) (input : Input) → leaves_all input (outbox ps) ≡ true → (at_input config ps m input).outputs ≡ [] → Leaves config ps m input
idle-leaves config ps m Tick leaves none = record {
  is = tick-still config ps m none;
  all = record { begins_none = refl; unsent = unsent-none; drains_none = λ drain. absurd (cc) };
}
idle-leaves config ps m Drain leaves none = record {
  is = refl;
  all = record { begins_none = refl; unsent = unsent-none; drains_none = λ drain. eqb-true _ _ leaves };
}
idle-leaves config ps m (Datagram via address port octets) leaves none = absurd (cc)
idle-leaves config ps m Up leaves none = absurd (cc)
idle-leaves config ps m Ready leaves none = absurd (cc)
idle-leaves config ps m (Message octets) leaves none = absurd (cc)
idle-leaves config ps m (Broken fault) leaves none = absurd (cc)
idle-leaves config ps m Down leaves none = absurd (cc)
idle-leaves config ps m Leave leaves none = absurd (cc)

idles : (config : Config) (ps : List Place) (e : Event) → is_idle config ps e ≡ true → Leaves config ps (max (now ps) e.moment) e.input
idles config ps e idle =
    let both = and_parts (leaves_all e.input (outbox ps)) (length (place config ps e).outputs == 0) idle in
    idle-leaves config ps (max (now ps) e.moment) e.input both.0 (nothing (place config ps e).outputs both.1)

pub left_out : IdleInputsMayBeLeftOut
left_out config history more idle e is =
    let found = idles config (past config history) idle is in
    left-out config history more idle.moment idle.input [] e found.is found.all

-- ---- all that is idle

-- what comes later comes no earlier
without-late : (config : Config) (qs : List Place) (es : List Event) (m : ℕ) → m ≤ now qs → map (not_before m) (without_idle config qs es) ≡ without_idle config qs es
without-late config qs [] m late = refl
without-late config qs (e ∷ es) m late =
    let q = place config qs e in
    let at : q.moment ≡ max (now qs) e.moment = moment-of config qs (max (now qs) e.moment) e.input in
    let rest = without_idle config (q ∷ qs) es in
    let later : map (not_before m) rest ≡ rest = without-late config (q ∷ qs) es m (omega arith) in
    let same : max m (max (now qs) e.moment) ≡ max (now qs) e.moment = omega arith in
    elim (is_idle config qs e) as (λ b. map (not_before m) (cond b rest (not_before (now qs) e ∷ rest)) ≡ cond b rest (not_before (now qs) e ∷ rest)) [
      | true ↦ later
      | false ↦ ap (λ n. record e { moment = n } ∷ map (not_before m) rest) same ∙ ap (λ es. not_before (now qs) e ∷ es) later
    ]

outputs-without : (config : Config) (history es : List Event) → each_outputs config (past config history) (without_idle config (past config history) es) ≡ busy_outputs config (past config history) es
outputs-without config history [] = refl
outputs-without config history (e ∷ es) =
    let ps = past config history in
    let p = place config ps e in
    let rest = without_idle config (p ∷ ps) es in
    let so : each_outputs config (p ∷ ps) rest ≡ busy_outputs config (p ∷ ps) es =
    subst (λ qs. each_outputs config qs (without_idle config qs es) ≡ busy_outputs config qs es) (places-append config [] history e) (outputs-without config (history ++ e ∷ []) es)
    in
    let at : p.moment ≡ max (now ps) e.moment = moment-of config ps (max (now ps) e.moment) e.input in
    let same : max (now ps) (max (now ps) e.moment) ≡ max (now ps) e.moment = omega arith in
    elim (is_idle config ps e) as (λ b. is_idle config ps e ≡ b → each_outputs config ps (cond b rest (not_before (now ps) e ∷ rest)) ≡ cond b (busy_outputs config (p ∷ ps) es) (p.outputs ∷ busy_outputs config (p ∷ ps) es)) [
      | true ↦ (λ idle.
          let found = idles config ps e idle in
          ap (each_outputs config ps) (sym (without-late config (p ∷ ps) es (max (now ps) e.moment) (omega arith)))
          ∙ left-outputs config history rest e.moment e.input [] found.is found.all
          ∙ so)
      | false ↦ (λ busy.
          ap (λ n. (at_input config ps n e.input).outputs ∷ each_outputs config (at_input config ps n e.input ∷ ps) rest) same
          ∙ ap (λ os. p.outputs ∷ os) so)
    ] refl

pub no_output : IdleInputsChangeNoOutput
no_output config history = outputs-without config [] history
