-- A Tick watches over a link that serves.
use Rattle.std.proofs.Common.{◌≡◌, ℕ, ◌+◌, ◌≤◌, Bool, true, false, cond, ◌||◌, not, List, ◌∷◌, Option, Some, None, refl, sym, ◌∙◌, ap, arith, max}
use Rattle.std.specs.Prelude.{nat_le, ◌==◌, ◌&&◌}
use Rattle.std.proofs.lemmas.Bool.{le-leb}
use Rattle.diameter_message.specs.Message.{MessageParts}
use Rattle.session_carrier.specs.declared.kept.Kind2.{Kind2}
use Rattle.session_carrier.specs.declared.kept.Kind2.TheVariants.{Access, Eap, Start, Interim, Stop}
use Rattle.session_carrier.specs.declared.kept.Numbers.{Numbers}
use Rattle.agent_settings.specs.declared.config.Config.{Config}
use Rattle.agent_settings.specs.Config.{InLimits}
use Rattle.peer_machine.specs.declared.Phase.TheVariants.{Serving, Closed}
use Rattle.peer_machine.specs.declared.Phase.{Phase}
use Rattle.peer_machine.specs.declared.Phase.TheVariants as phases
use Rattle.peer_machine.specs.declared.LinkCause.{LinkCause}
use Rattle.peer_machine.specs.declared.LinkCause.TheVariants as causes
use Rattle.peer_machine.specs.declared.words.BaseRequest.TheVariants.{DeviceWatchdog}
use Rattle.peer_machine.specs.declared.words.Event.{Event as LinkEvent}
use Rattle.peer_machine.specs.declared.words.Event.TheVariants.{Says, Ticks}
use Rattle.peer_machine.specs.declared.words.Act.{Act}
use Rattle.peer_machine.specs.declared.words.Act.TheVariants.{Nothing, Close, Request}
use Rattle.peer_machine.specs.Reading.{said_in}
use Rattle.peer_machine.specs.Rules.{after, on_tick, serving_tick, is_past, if_room}
use Rattle.peer_machine.specs.Step.{link_at}
use Rattle.agent_events.specs.declared.events.Input.{Input}
use Rattle.agent_events.specs.declared.events.Input.TheVariants.{Message, Tick}
use Rattle.agent_core.specs.Settings.{names, end_number}
use Rattle.agent_core.specs.Fits.{header_by}
use Rattle.agent_core.specs.Places.{Event, Place, now, link, begins, total, serial, send_count}
use Rattle.agent_core.specs.Rooms.{has_spare}
use Rattle.agent_core.specs.History.{at_input, past, peer, linked, link_act, link_after, next_numbers}
use Rattle.agent_core.specs.Machine.{count_of}
use Rattle.agent_core.specs.Links.{LinkAt}
use Rattle.agent_core.specs.LawsOfRequests.{is_open}
use Rattle.agent_core.specs.LawsOfLinks.{Closes, Watches, TicksWatchTheLink, is_closed, is_watchdog_request, is_word, last_word, unanswered}
use Rattle.agent_core.proofs.LawLemmas.Counts.{LooksAt, Wants}
use Rattle.agent_core.proofs.ListLemmas.Lists.{AllByRecursion-weaken}
use Rattle.agent_core.proofs.RequestLemmas.TakenSteps.{sent-header}
use Rattle.agent_core.proofs.LinkLemmas.LinkPlaces.{linked-sends}
use Rattle.agent_core.proofs.LawLemmas.LawOfImages.{Ready, ready, numbers-ready, resent-fits}
use Rattle.agent_core.proofs.LawLemmas.LawPlaces.{Comes, history-by, known}
use Rattle.agent_core.proofs.LinkLemmas.LinkKinds.{IsEventOf, hears_by, kind-by, message-event, shut-says}
use Rattle.agent_core.proofs.LinkLemmas.LinkActs.{Remembers, remembers, refreshes_by, refreshes-is, asks_for, own-by, opens-unless}
use Rattle.agent_core.proofs.LawLemmas.LawOfLinks.{input-at, hands-open, again-command}

watchdog-looks : LooksAt is_watchdog_request
watchdog-looks h g flags command = rw (flags, command) refl

watchdog-wants : Wants is_watchdog_request
watchdog-wants h e = ap (λ b. b && h.command == 280) e

-- ---- the last word, and the watchdog request since then

-- what the place leaves of both
record Tracks (ps : List Place) (m : ℕ) (input : Input) (p : Place) : Type 0 where
  pub heard : p.link.heard ≡ cond (begins ps input || is_word ps input) m (link ps).heard
  pub asked : p.link.asked ≡ cond (begins ps input || is_word ps input) None (cond (nat_le 1 (send_count is_watchdog_request p)) (Some m) (link ps).asked)

-- where nothing is sent and the link stays both do
unmoved : (ps : List Place) (m : ℕ) (input : Input) (p : Place) → p.link ≡ link ps → begins ps input ≡ false → is_word ps input ≡ false → send_count is_watchdog_request p ≡ 0 → Tracks ps m input p
unmoved ps m input p same old unheard none =
    let neither : (begins ps input || is_word ps input) ≡ false = rw (old, unheard) refl in
    record {
      heard = ap (λ (l : LinkAt). l.heard) same ∙ sym (ap (λ b. cond b m (link ps).heard) neither);
      asked =
          ap (λ (l : LinkAt). l.asked) same
          ∙ sym (ap (λ n. cond (nat_le 1 n) (Some m) (link ps).asked) none)
          ∙ sym (ap (λ b. cond b None (cond (nat_le 1 (send_count is_watchdog_request p)) (Some m) (link ps).asked)) neither);
    }

open-word : (phase : Phase) → is_open phase ≡ true → not (is_closed phase) ≡ true
open-word phases.Closed e = absurd (cc)
open-word phases.Greeting e = absurd (cc)
open-word phases.Serving e = refl
open-word phases.Closing e = refl

pub refreshes : (config : Config) (ps : List Place) (input : Input) (event : LinkEvent) (message : Option MessageParts) → IsEventOf config ps input event message → refreshes_by (peer config ps).link event ≡ (begins ps input || is_word ps input)
refreshes config ps input event message is =
    sym (refreshes-is (peer config ps).link event)
    ∙ ap (λ b. b || hears_by (link ps).phase event) is.begun
    ∙ ap (λ b. begins ps input || b) is.word

counts-one : (b : Bool) → b ≡ nat_le 1 (count_of b + 0)
counts-one true = refl
counts-one false = refl

-- how many watchdog requests the link sends
pub watchdogs : (config : Config) (ps : List Place) (m : ℕ) (input : Input) (event : LinkEvent) (message : Option MessageParts) → Ready config ps m → send_count is_watchdog_request (linked config ps m input event message) ≡ count_of (asks_for is_watchdog_request (link_act config ps m input event)) + 0
watchdogs config ps m input event message is =
    linked-sends config ps m input event message is_watchdog_request false _
    (own-by is_watchdog_request watchdog-looks watchdog-wants (names config) (link_at (peer config ps) m event) (end_number config (total ps)) message (link_act config ps m input event))
    (AllByRecursion-weaken _ _ (again-command is_watchdog_request watchdog-looks 280 refl (λ h. refl)) (linked config ps m input event message).resent (resent-fits config ps m input event message is))

link-remembers : (config : Config) (ps : List Place) (m : ℕ) (input : Input) (event : LinkEvent) → Remembers (peer config ps).link m (refreshes_by (peer config ps).link event) (asks_for is_watchdog_request (link_act config ps m input event)) (link_after config ps m input event).heard (link_after config ps m input event).asked
link-remembers config ps m input event =
    remembers (peer config ps).link config.watchdog m event (has_spare config ps m input) (link_act config ps m input event) refl

link-tracks : (config : Config) (ps : List Place) (m : ℕ) (input : Input) (event : LinkEvent) (message : Option MessageParts) → Ready config ps m → IsEventOf config ps input event message → Tracks ps m input (linked config ps m input event message)
link-tracks config ps m input event message is spoken =
    let p = linked config ps m input event message in
    let r = link-remembers config ps m input event in
    let fresh = refreshes config ps input event message spoken in
    let asks : asks_for is_watchdog_request (link_act config ps m input event) ≡ nat_le 1 (send_count is_watchdog_request p) =
    counts-one _ ∙ ap (nat_le 1) (sym (watchdogs config ps m input event message is))
    in
    record {
      heard = r.heard ∙ ap (λ b. cond b m (link ps).heard) fresh;
      asked =
          r.asked
          ∙ ap (λ b. cond b None (cond (asks_for is_watchdog_request (link_act config ps m input event)) (Some m) (link ps).asked)) fresh
          ∙ ap (λ b. cond (begins ps input || is_word ps input) None (cond b (Some m) (link ps).asked)) asks;
    }

-- an answer that is handed on is a word
word-tracks : (config : Config) (ps : List Place) (m : ℕ) (input : Input) (octets : List ℕ) (message : MessageParts) → Comes config ps m input octets message → (p : Place) → p.link ≡ link_after config ps m (Message octets) (Says (said_in message)) → Tracks ps m input p
word-tracks config ps m input octets message comes p same =
    let event = Says (said_in message) in
    let r = link-remembers config ps m (Message octets) event in
    let fresh = refreshes config ps (Message octets) event (Some message) (message-event config ps octets message comes.read) in
    let open_one = hands-open config ps m octets message comes.hands in
    let word : refreshes_by (peer config ps).link event ≡ true = open-word (link ps).phase open_one in
    let both : (begins ps input || is_word ps input) ≡ true = ap (λ i. begins ps i || is_word ps i) comes.is ∙ sym fresh ∙ word in
    record {
      heard =
          ap (λ (l : LinkAt). l.heard) same ∙ r.heard ∙ ap (λ b. cond b m (link ps).heard) word
          ∙ sym (ap (λ b. cond b m (link ps).heard) both);
      asked =
          ap (λ (l : LinkAt). l.asked) same ∙ r.asked
          ∙ ap (λ b. cond b None (cond (asks_for is_watchdog_request (link_act config ps m (Message octets) event)) (Some m) (link ps).asked)) word
          ∙ sym (ap (λ b. cond b None (cond (nat_le 1 (send_count is_watchdog_request p)) (Some m) (link ps).asked)) both);
    }

pub taken-watchdogs : (kind : Kind2) (numbers : Numbers) → is_watchdog_request (header_by kind numbers) ≡ false
taken-watchdogs Access numbers = refl
taken-watchdogs Eap numbers = refl
taken-watchdogs Start numbers = refl
taken-watchdogs Interim numbers = refl
taken-watchdogs Stop numbers = refl

tracks-at : (config : Config) (ps : List Place) (m : ℕ) (input : Input) → Ready config ps m → Tracks ps m input (at_input config ps m input)
tracks-at config ps m input is = kind-by (Tracks ps m input) config ps m input (record {
  stays = λ quiet unheard outputs silent. unmoved ps m input _ refl quiet unheard (silent.0 is_watchdog_request);
  takes = λ quiet unheard request takes.
      unmoved ps m input _ refl quiet unheard (ap (λ b. 0 + cond b 1 0)
      (ap is_watchdog_request (sent-header config request (next_numbers config ps) (serial ps) (numbers-ready config ps m is)) ∙ taken-watchdogs request.kind (next_numbers config ps)));
  links = λ event message spoken. link-tracks config ps m input event message is spoken;
  unmatched = λ octets message comes. word-tracks config ps m input octets message comes _ refl;
  matched = λ octets message comes t found. word-tracks config ps m input octets message comes _ refl;
})

-- what the link remembers is what the places say
pub record Remembered (ps : List Place) : Type 0 where
  pub heard : (link ps).heard ≡ last_word ps
  pub asked : (link ps).asked ≡ unanswered ps

pub moment-at : (config : Config) (ps : List Place) (m : ℕ) (input : Input) → (at_input config ps m input).moment ≡ m
moment-at config ps m input = kind-by (λ p. p.moment ≡ m) config ps m input (record {
  stays = λ quiet unheard outputs silent. refl;
  takes = λ quiet unheard request takes. refl;
  links = λ event message is. refl;
  unmatched = λ octets message comes. refl;
  matched = λ octets message comes t found. refl;
})

remembered-on : (config : Config) (ps : List Place) (m : ℕ) (input : Input) → Ready config ps m → Remembered ps → Remembered (at_input config ps m input ∷ ps)
remembered-on config ps m input is before =
    let p = at_input config ps m input in
    let t = tracks-at config ps m input is in
    let same : input ≡ p.input = sym (input-at config ps m input) in
    let when : m ≡ p.moment = sym (moment-at config ps m input) in
    let here : (begins ps input || is_word ps input) ≡ (begins ps p.input || is_word ps p.input) = ap (λ i. begins ps i || is_word ps i) same in
    record {
      heard =
          t.heard
          ∙ ap (λ b. cond b m (link ps).heard) here
          ∙ ap (λ n. cond (begins ps p.input || is_word ps p.input) n (link ps).heard) when
          ∙ ap (λ n. cond (begins ps p.input || is_word ps p.input) p.moment n) before.heard;
      asked =
          t.asked
          ∙ ap (λ b. cond b None (cond (nat_le 1 (send_count is_watchdog_request p)) (Some m) (link ps).asked)) here
          ∙ ap (λ n. cond (begins ps p.input || is_word ps p.input) None (cond (nat_le 1 (send_count is_watchdog_request p)) (Some n) (link ps).asked)) when
          ∙ ap (λ o. cond (begins ps p.input || is_word ps p.input) None (cond (nat_le 1 (send_count is_watchdog_request p)) (Some p.moment) o)) before.asked;
    }

pub remembered : (config : Config) → InLimits config → (history : List Event) → Remembered (past config history)
remembered config within history = history-by config Remembered (record { heard = refl; asked = refl })
    (λ past_events e before.
    let ps = past config past_events in
    let m = max (now ps) e.moment in
    remembered-on config ps m e.input (ready config ps m (omega arith) (known config within past_events)) before) history

-- ---- a Tick

pub tick-is : (config : Config) (ps : List Place) (m : ℕ) → (link ps).phase ≡ Serving → link_act config ps m Tick Ticks ≡ if_room (has_spare config ps m Tick) (serving_tick (link ps).asked (link ps).heard config.watchdog m)
tick-is config ps m serving =
    ap (λ (phase : Phase). if_room (has_spare config ps m Tick) (on_tick phase (peer config ps).link config.watchdog m)) serving

is-past : (since watchdog m : ℕ) → since + watchdog ≤ m → is_past since watchdog m ≡ true
is-past since watchdog m later = le-leb _ _ later

asks-past : (config : Config) (ps : List Place) (m : ℕ) → (link ps).phase ≡ Serving → (link ps).asked ≡ None → (link ps).heard + config.watchdog ≤ m → link_act config ps m Tick Ticks ≡ if_room (has_spare config ps m Tick) (Request DeviceWatchdog)
asks-past config ps m serving unasked later =
    tick-is config ps m serving
    ∙ ap (λ o. if_room (has_spare config ps m Tick) (serving_tick o (link ps).heard config.watchdog m)) unasked
    ∙ ap (λ b. if_room (has_spare config ps m Tick) (cond b (Request DeviceWatchdog) Nothing)) (is-past (link ps).heard config.watchdog m later)

pub room-closes : (spare : Bool) (cause : LinkCause) → if_room spare (Close cause) ≡ Close cause
room-closes true cause = refl
room-closes false cause = refl

closes-past : (config : Config) (ps : List Place) (m asked : ℕ) → (link ps).phase ≡ Serving → (link ps).asked ≡ Some asked → asked + config.watchdog ≤ m → link_act config ps m Tick Ticks ≡ Close causes.Watchdog
closes-past config ps m asked serving is later =
    tick-is config ps m serving
    ∙ ap (λ o. if_room (has_spare config ps m Tick) (serving_tick o (link ps).heard config.watchdog m)) is
    ∙ ap (λ b. if_room (has_spare config ps m Tick) (cond b (Close causes.Watchdog) Nothing)) (is-past asked config.watchdog m later)
    ∙ room-closes (has_spare config ps m Tick) causes.Watchdog

closes-by : (config : Config) (ps : List Place) (m : ℕ) (cause : LinkCause) → link_act config ps m Tick Ticks ≡ Close cause → Closes cause (at_input config ps m Tick)
closes-by config ps m cause is = record {
  phase = ap (λ a. (after (link_at (peer config ps) m Ticks) m a).phase) is;
  outputs = shut-says config ps m Tick Ticks None (Close cause) is (opens-unless (link ps).phase Closed refl);
}

watches-at : (config : Config) (ps : List Place) (m : ℕ) → Ready config ps m → Remembered ps → (link ps).phase ≡ Serving → Watches config ps (at_input config ps m Tick)
watches-at config ps m is r serving =
    let word : last_word ps ≡ (link ps).heard = sym r.heard in
    let later : last_word ps + config.watchdog ≤ m → (link ps).heard + config.watchdog ≤ m = (λ past_it. omega arith) in
    record {
      asks = λ unasked past_it spare.
          watchdogs config ps m Tick Ticks None is
          ∙ ap (λ (a : Act). count_of (asks_for is_watchdog_request a) + 0)
          (asks-past config ps m serving (r.asked ∙ unasked) (later past_it) ∙ ap (λ b. if_room b (Request DeviceWatchdog)) spare);
      stalls = λ unasked past_it full.
          closes-by config ps m causes.Stalled
          (asks-past config ps m serving (r.asked ∙ unasked) (later past_it) ∙ ap (λ b. if_room b (Request DeviceWatchdog)) full);
      closes = λ asked is_asked past_it.
          closes-by config ps m causes.Watchdog (closes-past config ps m asked serving (r.asked ∙ is_asked) past_it);
    }

pub ticks_watch : TicksWatchTheLink
ticks_watch config history moment within serving =
    let ps = past config history in
    let m = max (now ps) moment in
    watches-at config ps m (ready config ps m (omega arith) (known config within history)) (remembered config within history) serving
