-- A link that serves isn't silent for long.
use Rattle.std.proofs.Common.{◌≡◌, ℕ, ◌+◌, ◌<◌, ◌≤◌, ◌⊎◌, inl, inr, Bool, true, false, cond, ◌||◌, not, List, [], ◌∷◌, Option, Some, None, refl, sym, ◌∙◌, ap, subst, arith, max}
use Rattle.std.specs.Prelude.{nat_le, ◌==◌}
use Rattle.std.specs.List.{AllByRecursion}
use Rattle.std.proofs.lemmas.Bool.{leb-true, leb-false}
use Rattle.radius_packet.specs.declared.reasons.Reason.TheVariants.{WrongPhase}
use Rattle.agent_settings.specs.declared.config.Config.{Config}
use Rattle.agent_settings.specs.Config.{InLimits}
use Rattle.agent_settings.proofs.Limits.{settings_facts}
use Rattle.peer_machine.specs.declared.Phase.{Phase}
use Rattle.peer_machine.specs.declared.Phase.TheVariants.{Closed, Greeting, Serving, Closing}
use Rattle.peer_machine.specs.declared.LinkCause.{LinkCause}
use Rattle.peer_machine.specs.declared.LinkCause.TheVariants as causes
use Rattle.peer_machine.specs.declared.words.LinkState.{LinkState}
use Rattle.peer_machine.specs.declared.words.BaseRequest.TheVariants.{CapabilitiesExchange, DeviceWatchdog, DisconnectPeer}
use Rattle.peer_machine.specs.declared.words.Said.{Said}
use Rattle.peer_machine.specs.declared.words.Event.{Event as LinkEvent}
use Rattle.peer_machine.specs.declared.words.Event.TheVariants.{Opens, Serves, Says, Breaks, Ends, Ticks, Leaves}
use Rattle.peer_machine.specs.declared.words.Act.{Act}
use Rattle.peer_machine.specs.declared.words.Act.TheVariants.{Nothing, Serve, Discard, Pass, Close, Request, Answer, AnswerAndClose}
use Rattle.peer_machine.specs.Rules.{act_on, on_said, on_end, on_tick, on_leave, serving_tick, is_past, if_room, may_begin, after_event, after}
use Rattle.peer_machine.specs.Step.{link_at}
use Rattle.agent_events.specs.declared.events.Input.{Input}
use Rattle.agent_events.specs.declared.events.Input.TheVariants.{Tick}
use Rattle.agent_core.specs.Places.{Event, Place, now, link, begins, send_count, serial}
use Rattle.agent_core.specs.Rooms.{has_spare}
use Rattle.agent_core.specs.History.{at_input, past, peer, link_act, next_numbers, outcome}
use Rattle.agent_core.specs.Machine.{count_of}
use Rattle.agent_core.specs.LawsOfLinks.{SilentLinksClose, is_closed, is_watchdog_request, is_word, is_tick, last_word, unanswered, silent_ticks}
use Rattle.agent_core.proofs.ListLemmas.Lists.{AllByRecursion-weaken}
use Rattle.agent_core.proofs.RequestLemmas.TakenSteps.{sent-header}
use Rattle.agent_core.proofs.AnswerLemmas.HeardPlaces.{heard-phase}
use Rattle.agent_core.proofs.LinkLemmas.Opening.{noted-phase}
use Rattle.agent_core.proofs.LawLemmas.LawOfImages.{Ready, ready, numbers-ready}
use Rattle.agent_core.proofs.LawLemmas.LawPlaces.{history-by, known}
use Rattle.agent_core.proofs.LinkLemmas.LinkKinds.{kind-by, ticks_by}
use Rattle.agent_core.proofs.LinkLemmas.LinkActs.{refreshes_by, asks_for, said-unasked, begin-unasked, room-unasked}
use Rattle.agent_core.proofs.LawLemmas.LawOfLinks.{input-at, outcome-counts, follow-test, unmatched-counts}
use Rattle.agent_core.proofs.LawLemmas.LawOfWatches.{Remembered, remembered, refreshes, watchdogs, taken-watchdogs, tick-is, moment-at, room-closes}

-- ---- what only a Tick does

end-unasked : (phase : Phase) (cause : LinkCause) → asks_for is_watchdog_request (on_end phase cause) ≡ false
end-unasked Closed cause = refl
end-unasked Greeting cause = refl
end-unasked Serving cause = refl
end-unasked Closing cause = refl

leave-unasked : (phase : Phase) → asks_for is_watchdog_request (on_leave phase) ≡ false
leave-unasked Closed = refl
leave-unasked Greeting = refl
leave-unasked Serving = refl
leave-unasked Closing = refl

tick-unasked : (l : LinkState) (watchdog m : ℕ) (event : LinkEvent) → ticks_by event ≡ false → asks_for is_watchdog_request (act_on l watchdog m event) ≡ false
tick-unasked l watchdog m Opens e = begin-unasked (may_begin l.phase l.number) (Request CapabilitiesExchange) refl
tick-unasked l watchdog m Serves e = begin-unasked (may_begin l.phase l.number) Serve refl
tick-unasked l watchdog m (Says said) e = said-unasked l.phase said
tick-unasked l watchdog m (Breaks fault) e = end-unasked l.phase (causes.Broken fault)
tick-unasked l watchdog m Ends e = end-unasked l.phase causes.Ended
tick-unasked l watchdog m Ticks e = absurd (cc)
tick-unasked l watchdog m Leaves e = leave-unasked l.phase

-- no other input sends a watchdog request
unasked-at : (config : Config) (ps : List Place) (m : ℕ) (input : Input) → Ready config ps m → is_tick input ≡ false → send_count is_watchdog_request (at_input config ps m input) ≡ 0
unasked-at config ps m input is other = kind-by (λ p. send_count is_watchdog_request p ≡ 0) config ps m input (record {
  stays = λ quiet unheard outputs silent. silent.0 is_watchdog_request;
  takes = λ quiet unheard request takes.
      ap (λ b. 0 + cond b 1 0)
      (ap is_watchdog_request (sent-header config request (next_numbers config ps) (serial ps) (numbers-ready config ps m is)) ∙ taken-watchdogs request.kind (next_numbers config ps));
  links = λ event message spoken.
      watchdogs config ps m input event message is
      ∙ ap (λ b. count_of b + 0)
      (room-unasked (has_spare config ps m input) (act_on (peer config ps).link config.watchdog m event)
      (tick-unasked (peer config ps).link config.watchdog m event (spoken.tick ∙ other)));
  unmatched = λ octets message comes. unmatched-counts is_watchdog_request (message.header.command == 275);
  matched = λ octets message comes t found.
      let o = outcome t.kept.kind t.settings t.kept message (next_numbers config ps) in
      outcome-counts is_watchdog_request t.key o.reply o.follow (follow-test is_watchdog_request config ps m t message is (λ more ends. ap is_watchdog_request ends.1));
})

-- ---- a link that serves without a word served before

abbrev is_serve : Act → Bool
is_serve Serve = true
is_serve act = false

serve-if : (b : Bool) (act : Act) → is_serve act ≡ false → is_serve (cond b act Nothing) ≡ false
serve-if true act e = e
serve-if false act e = refl

serve-begin : (b : Bool) → is_serve (cond b (Request CapabilitiesExchange) (Discard WrongPhase)) ≡ false
serve-begin true = refl
serve-begin false = refl

serve-said : (phase : Phase) (said : Said) → not (is_closed phase) ≡ false → is_serve (on_said phase said) ≡ false
serve-said Closed said e = refl
serve-said Greeting said e = absurd (cc)
serve-said Serving said e = absurd (cc)
serve-said Closing said e = absurd (cc)

serve-end : (phase : Phase) (cause : LinkCause) → is_serve (on_end phase cause) ≡ false
serve-end Closed cause = refl
serve-end Greeting cause = refl
serve-end Serving cause = refl
serve-end Closing cause = refl

serve-serving : (asked : Option ℕ) (heard watchdog m : ℕ) → is_serve (serving_tick asked heard watchdog m) ≡ false
serve-serving None heard watchdog m = serve-if (is_past heard watchdog m) (Request DeviceWatchdog) refl
serve-serving (Some asked) heard watchdog m = serve-if (is_past asked watchdog m) (Close causes.Watchdog) refl

serve-tick : (phase : Phase) (l : LinkState) (watchdog m : ℕ) → is_serve (on_tick phase l watchdog m) ≡ false
serve-tick Closed l watchdog m = refl
serve-tick Greeting l watchdog m = serve-if (is_past l.heard watchdog m) (Close causes.Watchdog) refl
serve-tick Serving l watchdog m = serve-serving l.asked l.heard watchdog m
serve-tick Closing l watchdog m = serve-if (is_past l.leave watchdog m) (Close causes.Left) refl

serve-leave : (phase : Phase) → is_serve (on_leave phase) ≡ false
serve-leave Closed = refl
serve-leave Greeting = refl
serve-leave Serving = refl
serve-leave Closing = refl

serve-act : (l : LinkState) (watchdog m : ℕ) (event : LinkEvent) → refreshes_by l event ≡ false → is_serve (act_on l watchdog m event) ≡ false
serve-act l watchdog m Opens e = serve-begin (may_begin l.phase l.number)
serve-act l watchdog m Serves e = ap (λ b. is_serve (cond b Serve (Discard WrongPhase))) e
serve-act l watchdog m (Says said) e = serve-said l.phase said e
serve-act l watchdog m (Breaks fault) e = serve-end l.phase (causes.Broken fault)
serve-act l watchdog m Ends e = serve-end l.phase causes.Ended
serve-act l watchdog m Ticks e = serve-tick l.phase l watchdog m
serve-act l watchdog m Leaves e = serve-leave l.phase

serve-room : (spare : Bool) (act : Act) → is_serve act ≡ false → is_serve (if_room spare act) ≡ false
serve-room true act e = e
serve-room false Nothing e = refl
serve-room false Serve e = absurd (cc)
serve-room false (Discard reason) e = refl
serve-room false Pass e = refl
serve-room false (Close cause) e = refl
serve-room false (Request request) e = refl
serve-room false (Answer code error) e = refl
serve-room false (AnswerAndClose code cause) e = refl

served-after : (l : LinkState) (m : ℕ) (act : Act) → is_serve act ≡ false → (after l m act).phase ≡ Serving → l.phase ≡ Serving
served-after l m Nothing e serves = serves
served-after l m Serve e serves = absurd (cc)
served-after l m (Discard reason) e serves = serves
served-after l m Pass e serves = serves
served-after l m (Close cause) e serves = absurd (cc)
served-after l m (Request CapabilitiesExchange) e serves = absurd (cc)
served-after l m (Request DeviceWatchdog) e serves = serves
served-after l m (Request DisconnectPeer) e serves = absurd (cc)
served-after l m (Answer code error) e serves = serves
served-after l m (AnswerAndClose code cause) e serves = absurd (cc)

served-at : (config : Config) (ps : List Place) (m : ℕ) (input : Input) → (begins ps input || is_word ps input) ≡ false → (at_input config ps m input).link.phase ≡ Serving → (link ps).phase ≡ Serving
served-at config ps m input old = kind-by (λ p. p.link.phase ≡ Serving → (link ps).phase ≡ Serving) config ps m input (record {
  stays = λ quiet unheard outputs silent serves. serves;
  takes = λ quiet unheard request takes serves. serves;
  links = λ event message spoken serves.
      let l = (peer config ps).link in
      sym (noted-phase l m event)
      ∙ served-after (after_event l m event) m (link_act config ps m input event)
      (serve-room (has_spare config ps m input) (act_on l config.watchdog m event) (serve-act l config.watchdog m event (refreshes config ps input event message spoken ∙ old))) serves;
  unmatched = λ octets message comes serves. sym (heard-phase config ps m octets message comes.hands) ∙ serves;
  matched = λ octets message comes t found serves. sym (heard-phase config ps m octets message comes.hands) ∙ serves;
})

-- ---- a Tick after which the link serves

-- what it leaves of the watchdog request: it is sent once the time has passed, and then the time mustn't pass again
record TickLeaves (watchdog last m : ℕ) (asked : Option ℕ) (asks : Bool) : Type 0 where
  pub unasked : asked ≡ None → ((last + watchdog ≤ m) × (asks ≡ true)) ⊎ ((m < last + watchdog) × (asks ≡ false))
  pub waits : (a : ℕ) → asked ≡ Some a → (m < a + watchdog) × (asks ≡ false)

asks-of : (config : Config) (ps : List Place) (m : ℕ) (act : Act) → Ready config ps m → link_act config ps m Tick Ticks ≡ act → nat_le 1 (send_count is_watchdog_request (at_input config ps m Tick)) ≡ nat_le 1 (count_of (asks_for is_watchdog_request act) + 0)
asks-of config ps m act is acts =
    ap (nat_le 1) (watchdogs config ps m Tick Ticks None is ∙ ap (λ (a : Act). count_of (asks_for is_watchdog_request a) + 0) acts)

closed-not : (config : Config) (ps : List Place) (m : ℕ) (cause : LinkCause) → link_act config ps m Tick Ticks ≡ Close cause → (at_input config ps m Tick).link.phase ≡ Serving → ⊥
closed-not config ps m cause acts serves =
    let closed : (at_input config ps m Tick).link.phase ≡ Closed = ap (λ a. (after (link_at (peer config ps) m Ticks) m a).phase) acts in
    let both : Closed ≡ Serving = sym closed ∙ serves in
    absurd (cc)

nothing-room : (spare : Bool) → if_room spare Nothing ≡ Nothing
nothing-room true = refl
nothing-room false = refl

unasked-leaves : (config : Config) (ps : List Place) (m : ℕ) (late spare : Bool) → Ready config ps m → is_past (last_word ps) config.watchdog m ≡ late → has_spare config ps m Tick ≡ spare → link_act config ps m Tick Ticks ≡ if_room spare (cond late (Request DeviceWatchdog) Nothing) → (at_input config ps m Tick).link.phase ≡ Serving → ((last_word ps + config.watchdog ≤ m) × (nat_le 1 (send_count is_watchdog_request (at_input config ps m Tick)) ≡ true)) ⊎ ((m < last_word ps + config.watchdog) × (nat_le 1 (send_count is_watchdog_request (at_input config ps m Tick)) ≡ false))
unasked-leaves config ps m true true is late spare acts serves =
    inl (leb-true _ _ late, asks-of config ps m (Request DeviceWatchdog) is acts)
unasked-leaves config ps m true false is late spare acts serves = absurd (closed-not config ps m causes.Stalled acts serves)
unasked-leaves config ps m false spare is late is_spare acts serves =
    inr (leb-false _ _ late, asks-of config ps m Nothing is (acts ∙ nothing-room spare))

waits-leaves : (config : Config) (ps : List Place) (m asked : ℕ) (late : Bool) → Ready config ps m → is_past asked config.watchdog m ≡ late → link_act config ps m Tick Ticks ≡ if_room (has_spare config ps m Tick) (cond late (Close causes.Watchdog) Nothing) → (at_input config ps m Tick).link.phase ≡ Serving → (m < asked + config.watchdog) × (nat_le 1 (send_count is_watchdog_request (at_input config ps m Tick)) ≡ false)
waits-leaves config ps m asked true is late acts serves =
    absurd (closed-not config ps m causes.Watchdog (acts ∙ room-closes (has_spare config ps m Tick) causes.Watchdog) serves)
waits-leaves config ps m asked false is late acts serves =
    (leb-false _ _ late, asks-of config ps m Nothing is (acts ∙ nothing-room (has_spare config ps m Tick)))

tick-leaves : (config : Config) (ps : List Place) (m : ℕ) → Ready config ps m → Remembered ps → (link ps).phase ≡ Serving → (at_input config ps m Tick).link.phase ≡ Serving → TickLeaves config.watchdog (last_word ps) m (unanswered ps) (nat_le 1 (send_count is_watchdog_request (at_input config ps m Tick)))
tick-leaves config ps m is r served serves =
    let act : link_act config ps m Tick Ticks ≡ if_room (has_spare config ps m Tick) (serving_tick (unanswered ps) (last_word ps) config.watchdog m) =
    tick-is config ps m served
    ∙ ap (λ o. if_room (has_spare config ps m Tick) (serving_tick o (link ps).heard config.watchdog m)) r.asked
    ∙ ap (λ n. if_room (has_spare config ps m Tick) (serving_tick (unanswered ps) n config.watchdog m)) r.heard
    in
    record {
      unasked = λ none.
          unasked-leaves config ps m (is_past (last_word ps) config.watchdog m) (has_spare config ps m Tick) is refl refl
          (act ∙ ap (λ o. if_room (has_spare config ps m Tick) (serving_tick o (last_word ps) config.watchdog m)) none) serves;
      waits = λ asked some.
          waits-leaves config ps m asked (is_past asked config.watchdog m) is refl
          (act ∙ ap (λ o. if_room (has_spare config ps m Tick) (serving_tick o (last_word ps) config.watchdog m)) some) serves;
    }

-- ---- the Ticks since the last word

record IsSilent (watchdog last : ℕ) (asked : Option ℕ) (ticks : List ℕ) : Type 0 where
  pub early : asked ≡ None → AllByRecursion (λ t. t < last + watchdog) ticks
  pub near : (a : ℕ) → asked ≡ Some a → AllByRecursion (λ t. (t < a + watchdog) × (last + watchdog ≤ t → a ≤ t)) ticks

record Waits (config : Config) (ps : List Place) : Type 0 where
  pub so_far : (a : ℕ) → unanswered ps ≡ Some a → a ≤ now ps
  pub silent : (link ps).phase ≡ Serving → IsSilent config.watchdog (last_word ps) (unanswered ps) (silent_ticks ps)

same-moment : (a b : ℕ) → Some a ≡ Some b → a ≡ b
same-moment a b is = cc

silent-tick : (watchdog last m : ℕ) (asked : Option ℕ) (ticks : List ℕ) (asks : Bool) → 0 < watchdog → ((a : ℕ) → asked ≡ Some a → a ≤ m) → IsSilent watchdog last asked ticks → TickLeaves watchdog last m asked asks → IsSilent watchdog last (cond asks (Some m) asked) (m ∷ ticks)
silent-tick watchdog last m None ticks true some so_far silent leaves =
    let late : last + watchdog ≤ m = (elim (leaves.unasked refl) as (λ _. last + watchdog ≤ m) [ inl both ↦ both.0 | inr both ↦ absurd (let no = both.1 in cc) ]) in
    record {
      early = λ none. absurd (cc);
      near = λ a is.
          let same : m ≡ a = same-moment m a is in (
            (omega arith, λ _. omega arith),
            AllByRecursion-weaken (λ t. t < last + watchdog) (λ t. (t < a + watchdog) × (last + watchdog ≤ t → a ≤ t))
                (λ t before. (omega arith, λ past_it. absurd (omega arith))) ticks (silent.early refl),
          );
    }
silent-tick watchdog last m None ticks false some so_far silent leaves =
    let soon : m < last + watchdog = (elim (leaves.unasked refl) as (λ _. m < last + watchdog) [ inl both ↦ absurd (let no = both.1 in cc) | inr both ↦ both.0 ]) in
    record {
      early = λ none. (soon, silent.early refl);
      near = λ a is. absurd (cc);
    }
silent-tick watchdog last m (Some b) ticks true some so_far silent leaves = absurd (let no = (leaves.waits b refl).1 in cc)
silent-tick watchdog last m (Some b) ticks false some so_far silent leaves = record {
  early = λ none. absurd (cc);
  near = λ a is.
      let same : b ≡ a = same-moment b a is in
      let soon = (leaves.waits a is).0 in
      let before = so_far a is in
      ((soon, λ _. before), silent.near a is);
}

silent-by : (watchdog last m : ℕ) (asked : Option ℕ) (ticks : List ℕ) (refreshed tick asks : Bool) → 0 < watchdog → ((a : ℕ) → asked ≡ Some a → a ≤ m) → (refreshed ≡ false → IsSilent watchdog last asked ticks) → (tick ≡ false → asks ≡ false) → (refreshed ≡ false → tick ≡ true → TickLeaves watchdog last m asked asks) → IsSilent watchdog (cond refreshed m last) (cond refreshed None (cond asks (Some m) asked)) (cond refreshed [] (cond tick (m ∷ ticks) ticks))
silent-by watchdog last m asked ticks true tick asks some so_far silent other leaves =
    record { early = λ none. tt; near = λ a is. absurd (cc) }
silent-by watchdog last m asked ticks false true asks some so_far silent other leaves =
    silent-tick watchdog last m asked ticks asks some so_far (silent refl) (leaves refl refl)
silent-by watchdog last m asked ticks false false true some so_far silent other leaves = absurd (let no = other refl in cc)
silent-by watchdog last m asked ticks false false false some so_far silent other leaves = silent refl

so-far-by : (m before : ℕ) (asked : Option ℕ) (refreshed asks : Bool) → before ≤ m → ((a : ℕ) → asked ≡ Some a → a ≤ before) → (a : ℕ) → cond refreshed None (cond asks (Some m) asked) ≡ Some a → a ≤ m
so-far-by m before asked true asks later so_far a is = absurd (cc)
so-far-by m before asked false true later so_far a is = let same : m ≡ a = same-moment m a is in omega arith
so-far-by m before asked false false later so_far a is = let old = so_far a is in omega arith

is-tick : (input : Input) → is_tick input ≡ true → input ≡ Tick
is-tick Tick e = refl
is-tick _ e = absurd (cc)

none-of : (n : ℕ) → n ≡ 0 → nat_le 1 n ≡ false
none-of n none = ap (nat_le 1) none

waits-on : (config : Config) (ps : List Place) (m : ℕ) (input : Input) → 0 < config.watchdog → now ps ≤ m → Ready config ps m → Remembered ps → Waits config ps → Waits config (at_input config ps m input ∷ ps)
waits-on config ps m input some later is r before =
    let p = at_input config ps m input in
    let same : p.input ≡ input = input-at config ps m input in
    let when : p.moment ≡ m = moment-at config ps m input in
    let later_place : now ps ≤ p.moment = omega arith in
    record {
      so_far = so-far-by p.moment (now ps) (unanswered ps) (begins ps p.input || is_word ps p.input) (nat_le 1 (send_count is_watchdog_request p)) later_place before.so_far;
      silent = λ serves.
          let served : (begins ps p.input || is_word ps p.input) ≡ false → (link ps).phase ≡ Serving =
          (λ old. served-at config ps m input (sym (ap (λ i. begins ps i || is_word ps i) same) ∙ old) serves)
          in
          silent-by config.watchdog (last_word ps) p.moment (unanswered ps) (silent_ticks ps) (begins ps p.input || is_word ps p.input) (is_tick p.input) (nat_le 1 (send_count is_watchdog_request p)) some
          (λ a asked. let old = before.so_far a asked in omega arith)
          (λ old. before.silent (served old))
          (λ other. none-of _ (unasked-at config ps m input is (sym (ap is_tick same) ∙ other)))
          (λ old ticked.
          let tick : input ≡ Tick = is-tick input (sym (ap is_tick same) ∙ ticked) in
          let still_serves : (at_input config ps m Tick).link.phase ≡ Serving = sym (ap (λ i. (at_input config ps m i).link.phase) tick) ∙ serves in
          let leaves = tick-leaves config ps m is r (served old) still_serves in
          subst (λ n. TickLeaves config.watchdog (last_word ps) n (unanswered ps) (nat_le 1 (send_count is_watchdog_request p))) (sym when)
          (subst (λ (i : Input). TickLeaves config.watchdog (last_word ps) m (unanswered ps) (nat_le 1 (send_count is_watchdog_request (at_input config ps m i)))) (sym tick) leaves));
    }

waits : (config : Config) → InLimits config → (history : List Event) → Waits config (past config history)
waits config within history =
    let low = (settings_facts config within.settings).watchdog_low in
    history-by config (Waits config) (record { so_far = λ a is. absurd (cc); silent = λ serves. absurd (cc) })
    (λ past_events e before.
    let ps = past config past_events in
    let m = max (now ps) e.moment in
    waits-on config ps m e.input (omega arith) (omega arith) (ready config ps m (omega arith) (known config within past_events)) (remembered config within past_events) before) history

-- ---- together

silent-first : (watchdog last : ℕ) (asked : Option ℕ) (ticks : List ℕ) → IsSilent watchdog last asked ticks → AllByRecursion (λ first. last + watchdog ≤ first → AllByRecursion (λ second. second < first + watchdog) ticks) ticks
silent-first watchdog last None ticks silent =
    AllByRecursion-weaken (λ t. t < last + watchdog) (λ first. last + watchdog ≤ first → AllByRecursion (λ second. second < first + watchdog) ticks)
    (λ t early late. absurd (omega arith)) ticks (silent.early refl)
silent-first watchdog last (Some a) ticks silent =
    AllByRecursion-weaken (λ t. (t < a + watchdog) × (last + watchdog ≤ t → a ≤ t)) (λ first. last + watchdog ≤ first → AllByRecursion (λ second. second < first + watchdog) ticks)
    (λ first both late.
    AllByRecursion-weaken (λ t. (t < a + watchdog) × (last + watchdog ≤ t → a ≤ t)) (λ second. second < first + watchdog)
    (λ second soon. let old = both.1 late in let near = soon.0 in omega arith) ticks (silent.near a refl)) ticks (silent.near a refl)

pub silent_links : SilentLinksClose
silent_links config history within serves =
    silent-first config.watchdog (last_word (past config history)) (unanswered (past config history)) (silent_ticks (past config history)) ((waits config within history).silent serves)
