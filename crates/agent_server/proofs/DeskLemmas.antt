-- How a desk stands for one more turn.
use Rattle.std.proofs.Common.{◌≡◌, ℕ, ◌-◌, ◌^◌, ◌≤◌, max, min, Bool, ◌||◌, ◌&&◌, ◌==◌, true, false, if◌then◌else◌, nat_le, map, List, [], ◌∷◌, ◌++◌, length, Option, Some, None, Result, Ok, Err, refl, sym, ap, ◌∙◌, subst, append_assoc, arith}
use Rattle.std.proofs.lemmas.List.{length-append}
use Rattle.wire_core.specs.Counts.{one_more}
use Rattle.wire_devices.specs.Telling.{Adds}
use Rattle.agent_settings.specs.declared.config.Config.{Config}
use Rattle.peer_machine.specs.declared.LinkCause.{LinkCause}
use Rattle.agent_events.specs.declared.events.Input.{Input}
use Rattle.agent_events.specs.declared.events.Input.TheVariants.{Datagram, Up, Ready, Message, Broken, Down, Tick, Drain, Leave}
use Rattle.agent_events.specs.declared.events.Output.{Output}
use Rattle.std.specs.Result.{IsErr}
use Rattle.turnstile.specs.Turns.{entry_of}
use Rattle.agent_core.specs.declared.ledger.Ledger.{Ledger}
use Rattle.agent_core.specs.Laws.{PastGoesOn}
use Rattle.agent_core.specs.LawsOfSends.{is_idle, leaves_all, not_before, without_idle}
use Rattle.agent_core.specs.Places.{Event, Place, begins, now, outbox}
use Rattle.run_record.specs.Recordings.{Sending}
use Rattle.agent_events.specs.Kinds.{is_drain}
use Rattle.agent_core.specs.History.{outputs_after, past, place, places}
use Rattle.agent_core.specs.Standing.{StandsFor}
use Rattle.agent_server.specs.declared.desk.AgentDesk.{AgentDesk}
use Rattle.server_workers.specs.declared.base.RunBase.{RunBase}
use Rattle.server_workers.specs.declared.heard.Heard.{Heard}
use Rattle.agent_server.specs.Desks.{AreRead, Enters, HasRead, HasSent, IsCalm, IsSame, StandsBy, Tells, event, sent_with}
use Rattle.agent_server.specs.Runs.{IsRunFrom, closed, closed_with, event_of, handed_over, has_left, heard_at, history, others_in, places_of, entries_recorded, unsent, unsent_with}
use Rattle.agent_events.specs.Kinds.{is_leave}
use Rattle.agent_server.proofs.PlaceLemmas.{place-at}

-- ---- histories of runs

abbrev RunTurns : Type 0
RunTurns = List (Option (Input × Heard))

history-push : (turns : RunTurns) (ask : Input) (heard : Heard) → history (turns ++ Some (ask, heard) ∷ []) ≡ history turns ++ event_of ask heard ∷ []
history-push [] ask heard = refl
history-push (None ∷ turns) ask heard = history-push turns ask heard
history-push (Some entry ∷ turns) ask heard = ap (λ es. event_of entry.0 entry.1 ∷ es) (history-push turns ask heard)

pub history-blank : (turns : RunTurns) → history (turns ++ None ∷ []) ≡ history turns
history-blank [] = refl
history-blank (None ∷ turns) = history-blank turns
history-blank (Some entry ∷ turns) = ap (λ es. event_of entry.0 entry.1 ∷ es) (history-blank turns)

run-push : (config : Config) (until : ℕ) (ps : List Place) (turns : RunTurns) (ask : Input) (heard : Heard) → IsRunFrom config until ps turns
    → heard ≡ heard_at until (place config (places config ps (history turns)) (event_of ask heard)) (places config ps (history turns))
    → IsRunFrom config until ps (turns ++ Some (ask, heard) ∷ [])
run-push config until ps [] ask heard run is = (is, tt)
run-push config until ps (None ∷ turns) ask heard run is = run-push config until ps turns ask heard run is
run-push config until ps (Some entry ∷ turns) ask heard run is =
    (run.0, run-push config until (place config ps (event_of entry.0 entry.1) ∷ ps) turns ask heard run.1 is)

run-blank : (config : Config) (until : ℕ) (ps : List Place) (turns : RunTurns) → IsRunFrom config until ps turns
    → IsRunFrom config until ps (turns ++ None ∷ [])
run-blank config until ps [] run = tt
run-blank config until ps (None ∷ turns) run = run-blank config until ps turns run
run-blank config until ps (Some entry ∷ turns) run =
    (run.0, run-blank config until (place config ps (event_of entry.0 entry.1) ∷ ps) turns run.1)

-- ---- readings of the clock

-- the greatest moment after these turns
abbrev greatest : ℕ → RunTurns → ℕ
greatest m [] = m
greatest m (None ∷ turns) = greatest m turns
greatest m (Some entry ∷ turns) = greatest entry.1.moment turns

run-greatest : (config : Config) (until m : ℕ) (ps : List Place) (turns : RunTurns) → IsRunFrom config until ps turns → now ps ≡ m
    → now (places config ps (history turns)) ≡ greatest m turns
run-greatest config until m ps [] run is = is
run-greatest config until m ps (None ∷ turns) run is = run-greatest config until m ps turns run is
run-greatest config until m ps (Some entry ∷ turns) run is =
    run-greatest config until entry.1.moment (place config ps (event_of entry.0 entry.1) ∷ ps) turns run.1
    (sym (ap (λ (h : Heard). h.moment) run.0))

read-push : (m r : ℕ) (turns : RunTurns) (readings : List ℕ) (ask : Input) (heard : Heard) → heard.moment ≡ max (greatest m turns) r
    → AreRead m turns readings → AreRead m (turns ++ Some (ask, heard) ∷ []) (readings ++ r ∷ [])
read-push m r [] [] ask heard is read = (is, tt)
read-push m r [] (x ∷ readings) ask heard is read = absurd read
read-push m r (turn ∷ turns) [] ask heard is read = absurd read
read-push m r (None ∷ turns) (x ∷ readings) ask heard is read = read-push m r turns readings ask heard is read
read-push m r (Some entry ∷ turns) (x ∷ readings) ask heard is read =
    (read.0, read-push entry.1.moment r turns readings ask heard is read.1)

read-blank : (m r : ℕ) (turns : RunTurns) (readings : List ℕ) → AreRead m turns readings
    → AreRead m (turns ++ None ∷ []) (readings ++ r ∷ [])
read-blank m r [] [] read = tt
read-blank m r [] (x ∷ readings) read = absurd read
read-blank m r (turn ∷ turns) [] read = absurd read
read-blank m r (None ∷ turns) (x ∷ readings) read = read-blank m r turns readings read
read-blank m r (Some entry ∷ turns) (x ∷ readings) read = (read.0, read-blank entry.1.moment r turns readings read.1)

-- one more reading was told, or none is told any more
read-on : (told told' : Option (List ℕ)) (r : ℕ) (before : List ℕ) (turns : RunTurns) (turn : Option (Input × Heard)) → Adds told told' (r ∷ [])
    → HasRead told before turns
    → ((readings : List ℕ) → AreRead 0 turns readings → AreRead 0 (turns ++ turn ∷ []) (readings ++ r ∷ []))
    → HasRead told' before (turns ++ turn ∷ [])
read-on None told' r before turns turn adds has on all is = cc (adds.still all is)
read-on (Some xs) told' r before turns turn adds has on all is =
    let (readings, whole, read) = has xs refl in
    let same : Some (xs ++ r ∷ []) ≡ Some all = adds.still all is in
    let longer : xs ++ r ∷ [] ≡ all = cc in
    (readings ++ r ∷ [], sym longer ∙ ap (λ l. l ++ r ∷ []) whole ∙ append_assoc before readings (r ∷ []), on readings read)

-- ---- what is given to the record

idle-push-by : (idle : Bool) (x : Event) (es fs more : List Event) → es ≡ fs ++ more → (if idle then es else x ∷ es) ≡ (if idle then fs else x ∷ fs) ++ more
idle-push-by true x es fs more is = is
idle-push-by false x es fs more is = ap (λ es. x ∷ es) is

-- one more event, which is left out where it is idle
idle-push : (config : Config) (ps : List Place) (es : List Event) (e : Event)
    → without_idle config ps (es ++ e ∷ [])
    ≡ without_idle config ps es ++ (if is_idle config (places config ps es) e then [] else not_before (now (places config ps es)) e ∷ [])
idle-push config ps [] e = refl
idle-push config ps (x ∷ es) e = idle-push-by (is_idle config ps x) (not_before (now ps) x) _ _ _ (idle-push config (place config ps x ∷ ps) es e)

-- what was given is the event, no earlier than what came before
sent-is : (idle : Bool) (m moment : ℕ) (ask : Input) → m ≤ moment
    → map event (sent_with idle (record { moment = moment; input = ask })) ≡ (if idle then [] else not_before m (record { moment = moment; input = ask }) ∷ [])
sent-is true m moment ask late = refl
sent-is false m moment ask late =
    let greatest_is : moment ≡ max m moment = omega (arith, late) in ap (λ n. record { moment = n; input = ask } ∷ []) greatest_is

-- ---- one more turn

-- what an answer is made of
abbrev made : ℕ → List Output → Input → List Output → Bool → ℕ → Bool → Option LinkCause → Heard
made moment all ask unsent left until begun cause = record {
  moment = moment;
  outputs = others_in all;
  sends = handed_over (is_drain ask) unsent;
  finished = (left || is_leave ask) || nat_le until moment;
  closed = closed_with begun cause all;
}

made-same : (os : List Output) {m m' : ℕ} {i i' : Input} {b b' : List Output} {l l' : Bool} {u u' : ℕ} {g g' : Bool} {c c' : Option LinkCause}
    → m ≡ m' → i ≡ i' → b ≡ b' → l ≡ l' → u ≡ u' → g ≡ g' → c ≡ c' → made m os i b l u g c ≡ made m' os i' b' l' u' g' c'
made-same os em ei eb el eu eg ec = rw (em, ei, eb, el, eu, eg, ec) refl

-- how a step went that the core didn't refuse: what it gave, and what was made of it
pub record Goes {C : Type 0} (readings : C → Option (List ℕ)) (old new : AgentDesk C) (reading time : ℕ) (ask : Input) (begun idle : Bool) (all : List Output) (answer : Heard) : Type 0 where
  pub told : Adds (readings old.clock) (readings new.clock) (reading ∷ [])
  pub effective : time ≡ max old.moment reading
  pub config : new.core.config ≡ old.core.config
  pub answers : (H : List Event) → StandsFor old.core H → all ≡ outputs_after old.core.config H (record { moment = time; input = ask })
  pub stands : (H : List Event) → StandsFor old.core H → StandsFor new.core (H ++ record { moment = time; input = ask } ∷ [])
  pub began : (H : List Event) → StandsFor old.core H → begun ≡ begins (past old.core.config H) ask
  pub until : new.until ≡ old.until
  pub moment : new.moment ≡ time
  pub send_queue : new.send_queue.items ≡ unsent_with (is_drain ask) begun old.send_queue.items all
  pub closed : new.closed ≡ closed_with begun old.closed all
  pub left : new.left ≡ (old.left || is_leave ask)
  pub entries : new.entries ≡ one_more old.entries
  pub idles : (H : List Event) → StandsFor old.core H → idle ≡ is_idle old.core.config (past old.core.config H) (record { moment = time; input = ask })
  pub sent : (before : Option Sending) (events : List Event) → HasSent before old.sender events
      → HasSent before new.sender (events ++ map event (sent_with idle (record { moment = time; input = ask })))
  pub heard : answer ≡ made time all ask old.send_queue.items old.left old.until begun old.closed

-- a step is a reading of the clock, room, the core's step, and what is made of it
pub goes-by : {C : Type 0} (readings : C → Option (List ℕ)) (old mid entered new : AgentDesk C) (clock : C) (core : Ledger) (reading time outbox_was : ℕ) (ask : Input) (begun idle : Bool) (all : List Output) (answer : Heard)
    → Adds (readings old.clock) (readings clock) (reading ∷ []) → time ≡ max old.moment reading
    → IsSame (record old { clock = clock }) mid → Enters (record mid { core = core }) entered time ask begun all answer
    → Tells entered new time ask idle → idle ≡ (leaves_all ask outbox_was && length all == 0)
    → ((H : List Event) → StandsFor mid.core H → outbox_was ≡ outbox (past mid.core.config H))
    → core.config ≡ mid.core.config
    → ((H : List Event) → StandsFor mid.core H → all ≡ outputs_after mid.core.config H (record { moment = time; input = ask }))
    → ((H : List Event) → StandsFor mid.core H → StandsFor core (H ++ record { moment = time; input = ask } ∷ []))
    → ((H : List Event) → StandsFor mid.core H → begun ≡ begins (past mid.core.config H) ask)
    → Goes readings old new reading time ask begun idle all answer
goes-by readings old mid entered new clock core reading time outbox_was ask begun idle all answer told effective same enters tells idle_is unsent_is config answers stands began =
    let back : (H : List Event) → StandsFor old.core H → StandsFor mid.core H =
    λ H st. subst (λ (c : Ledger). StandsFor c H) (sym same.core) st in
    record {
      told = subst (λ k. Adds (readings old.clock) (readings k) (reading ∷ [])) (sym (tells.clock ∙ enters.clock ∙ same.clock)) told;
      effective = effective;
      config = ap (λ (c : Ledger). c.config) (tells.core ∙ enters.core) ∙ config ∙ ap (λ (c : Ledger). c.config) same.core;
      answers = λ H st. answers H (back H st) ∙ ap (λ (c : Ledger). outputs_after c.config H (record { moment = time; input = ask })) same.core;
      stands = λ H st. subst (λ (c : Ledger). StandsFor c (H ++ record { moment = time; input = ask } ∷ [])) (sym (tells.core ∙ enters.core)) (stands H (back H st));
      began = λ H st. began H (back H st) ∙ ap (λ (c : Ledger). begins (past c.config H) ask) same.core;
      until = tells.until ∙ enters.until ∙ same.until;
      moment = tells.moment ∙ enters.moment;
      send_queue = tells.send_queue ∙ enters.send_queue ∙ ap (λ (b : List Output). unsent_with (is_drain ask) begun b all) same.send_queue;
      closed = tells.closed ∙ enters.closed ∙ ap (λ (b : Option LinkCause). closed_with begun b all) same.closed;
      left = tells.left ∙ enters.left ∙ ap (λ (b : Bool). b || is_leave ask) same.left;
      entries = tells.entries ∙ enters.entries ∙ ap one_more same.entries;
      idles = λ H st.
          let e : Event = record { moment = time; input = ask } in
          let as_said : all ≡ outputs_after mid.core.config H e = answers H (back H st) in
          idle_is ∙ ap (λ n. leaves_all ask n && length all == 0) (unsent_is H (back H st))
          ∙ ap (λ (os : List Output). leaves_all ask (outbox (past mid.core.config H)) && length os == 0) as_said
          ∙ ap (λ (c : Ledger). is_idle c.config (past c.config H) e) same.core;
      sent = λ before events has. tells.sent before events (subst (λ s. HasSent before s events) (sym (enters.sender ∙ same.sender)) has);
      heard = enters.heard ∙ rw (same.send_queue, same.left, same.until, same.closed) refl;
    }

-- for a Drain nothing goes out, and it begins no link
pub calm : (config : Config) (H : List Event) (time : ℕ) (ask : Input) (begun : Bool) (all : List Output) → begun ≡ begins (past config H) ask
    → all ≡ outputs_after config H (record { moment = time; input = ask }) → IsCalm (is_drain ask) begun all
calm config H time Drain begun all began is = (began, is)
calm config H time Up begun all began is = tt
calm config H time Ready begun all began is = tt
calm config H time Down begun all began is = tt
calm config H time Tick begun all began is = tt
calm config H time Leave begun all began is = tt
calm config H time (Datagram via address port octets) begun all began is = tt
calm config H time (Message octets) begun all began is = tt
calm config H time (Broken fault) begun all began is = tt

-- a step that the core refused is a blank turn
pub blank-of : {A B E : Type 0} (ask : A) (r : Result B E) → IsErr r → entry_of ask r ≡ None
blank-of ask (Err e) is = refl
blank-of ask (Ok x) is = cc

module _ {C : Type 0} (readings : C → Option (List ℕ)) (law : PastGoesOn) where
  -- the place of the entry
  entered : (old : AgentDesk C) (base : RunBase) (turns : RunTurns) (moment : ℕ) (ask : Input) → Place
  entered old base turns moment ask = place base.config (places_of base.config turns) (record { moment = moment; input = ask })

  pub stands-on : (old new : AgentDesk C) (base : RunBase) (turns : RunTurns) (reading moment : ℕ) (ask : Input) (begun idle : Bool) (all : List Output) (heard : Heard)
      → StandsBy readings old base turns → Goes readings old new reading moment ask begun idle all heard
      → StandsBy readings new base (turns ++ Some (ask, heard) ∷ [])
  stands-on old new base turns reading moment ask begun idle all heard s go =
      let ps = places_of base.config turns in
      let e : Event = record { moment = moment; input = ask } in
      let p = place base.config ps e in
      let at = place-at base.config ps e in
      let late : now ps ≤ moment = omega (arith, go.effective, s.moment) in
      let moment_is : p.moment ≡ moment = at.moment ∙ (let h : max (now ps) moment ≡ moment = omega (arith, late) in h) in
      let all_is : all ≡ p.outputs = go.answers (history turns) s.core ∙ ap (λ (c : Config). outputs_after c (history turns) e) s.config in
      let begun_is : begun ≡ begins ps ask = go.began (history turns) s.core ∙ ap (λ (c : Config). begins (past c (history turns)) ask) s.config in
      let heard_moment : heard.moment ≡ moment = ap (λ (h : Heard). h.moment) go.heard in
      let event_is : event_of ask heard ≡ e = ap (λ (m : ℕ). record { moment = m; input = ask }) heard_moment in
      let same_place : place base.config ps (event_of ask heard) ≡ p = ap (place base.config ps) event_is in
      let history_is : history (turns ++ Some (ask, heard) ∷ []) ≡ history turns ++ e ∷ [] =
      history-push turns ask heard ∙ ap (λ (x : Event). history turns ++ x ∷ []) event_is in
      let places_are : places_of base.config (turns ++ Some (ask, heard) ∷ []) ≡ p ∷ ps =
      ap (past base.config) history_is ∙ law base.config (history turns) e in
      let heard_is : heard ≡ heard_at base.until p ps =
      go.heard ∙ ap (λ (os : List Output). made moment os ask old.send_queue.items old.left old.until begun old.closed) all_is
      ∙ made-same p.outputs (sym moment_is) (sym at.input) s.send_queue s.left s.until (begun_is ∙ ap (begins ps) (sym at.input)) s.closed in
      record {
        config = go.config ∙ s.config;
        until = go.until ∙ s.until;
        run = run-push base.config base.until [] turns ask heard s.run (heard_is ∙ ap (λ (x : Place). heard_at base.until x ps) (sym same_place));
        core = subst (StandsFor new.core) (sym history_is) (go.stands (history turns) s.core);
        moment = go.moment ∙ sym moment_is ∙ sym (ap now places_are);
        send_queue =
            go.send_queue ∙ rw (all_is, begun_is, s.send_queue) refl ∙ ap (λ (x : Input). unsent_with (is_drain x) (begins ps x) (unsent ps) p.outputs) (sym at.input)
            ∙ sym (ap unsent places_are);
        closed =
            go.closed ∙ rw (all_is, begun_is, s.closed) refl ∙ ap (λ (x : Input). closed_with (begins ps x) (closed ps) p.outputs) (sym at.input)
            ∙ sym (ap closed places_are);
        left = go.left ∙ ap (λ (b : Bool). b || is_leave ask) s.left ∙ ap (λ (x : Input). has_left ps || is_leave x) (sym at.input) ∙ sym (ap has_left places_are);
        entries = omega (arith, go.entries, s.entries, ap length history_is, length-append (history turns) (e ∷ []));
        clock = read-on (readings old.clock) (readings new.clock) reading base.before turns (Some (ask, heard)) go.told s.clock
            (λ rs read. read-push 0 reading turns rs ask heard
            (heard_moment ∙ go.effective ∙ ap (λ (m : ℕ). max m reading) (s.moment ∙ run-greatest base.config base.until 0 [] turns s.run refl)) read);
        sent =
            let idle_is : idle ≡ is_idle base.config ps e =
            go.idles (history turns) s.core ∙ ap (λ (c : Config). is_idle c (past c (history turns)) e) s.config in
            subst (HasSent base.sender new.sender)
            (ap (λ es. entries_recorded base.config turns ++ es) (sent-is idle (now ps) moment ask late ∙ ap (λ b. if b then [] else not_before (now ps) e ∷ []) idle_is)
            ∙ sym (idle-push base.config [] (history turns) e) ∙ sym (ap (without_idle base.config []) history_is))
            (go.sent base.sender (entries_recorded base.config turns) s.sent);
      }

  pub stands-blank : (old new : AgentDesk C) (base : RunBase) (turns : RunTurns) (reading : ℕ) → StandsBy readings old base turns
      → Adds (readings old.clock) (readings new.clock) (reading ∷ []) → new.core ≡ old.core → new.until ≡ old.until → new.moment ≡ old.moment
      → new.send_queue.items ≡ old.send_queue.items → new.closed ≡ old.closed → new.left ≡ old.left → new.entries ≡ old.entries → new.sender ≡ old.sender
      → StandsBy readings new base (turns ++ None ∷ [])
  stands-blank old new base turns reading s told core until moment send_queue closed_same left entries sender =
      let same = history-blank turns in
      let places_are : places_of base.config (turns ++ None ∷ []) ≡ places_of base.config turns = ap (past base.config) same in
      record {
        config = ap (λ (c : Ledger). c.config) core ∙ s.config;
        until = until ∙ s.until;
        run = run-blank base.config base.until [] turns s.run;
        core = subst (λ (c : Ledger). StandsFor c (history (turns ++ None ∷ []))) (sym core) (subst (StandsFor old.core) (sym same) s.core);
        moment = moment ∙ s.moment ∙ sym (ap now places_are);
        send_queue = send_queue ∙ s.send_queue ∙ sym (ap unsent places_are);
        closed = closed_same ∙ s.closed ∙ sym (ap closed places_are);
        left = left ∙ s.left ∙ sym (ap has_left places_are);
        entries = entries ∙ s.entries ∙ ap (λ (H : List Event). min (length H) (2 ^ 64 - 1)) (sym same);
        clock = read-on (readings old.clock) (readings new.clock) reading base.before turns None told s.clock (λ rs read. read-blank 0 reading turns rs read);
        sent =
            subst (HasSent base.sender new.sender) (sym (ap (without_idle base.config []) same))
            (subst (λ (x : Option Sending). HasSent base.sender x (entries_recorded base.config turns)) (sym sender) s.sent);
      }
