-- What is known of runs, and how a run falls into the spans of its links.
use Rattle.std.proofs.Common.{◌≡◌, ℕ, suc, ◌+◌, ◌-◌, ◌^◌, ◌<◌, ◌≤◌, ◌==◌, ◌⊎◌, inl, inr, Bool, true, false, cond, max, nat_le, ◌||◌, List, [], ◌∷◌, ◌++◌, length, option_to_list, if◌then◌else◌, Option, Some, None, refl, sym, ◌∙◌, ap, subst, append_assoc, arith}
use Rattle.std.specs.List.{All}
use Rattle.std.specs.Option.{option_or}
use Rattle.std.proofs.lemmas.Bool.{leb-true, le-leb, or_cases}
use Rattle.std.proofs.lemmas.List.{append-nil, length-append}
use Rattle.std.proofs.lemmas.List.Elements.{All-head, All-nil, All-push, All-tail}
use Rattle.agent_settings.specs.declared.config.Config.{Config}
use Rattle.peer_machine.specs.declared.Phase.{Phase}
use Rattle.peer_machine.specs.declared.Phase.TheVariants.{Closed}
use Rattle.peer_machine.specs.declared.LinkCause.{LinkCause}
use Rattle.peer_machine.specs.Rules.{may_begin}
use Rattle.agent_events.specs.declared.events.Input.{Input}
use Rattle.agent_events.specs.declared.events.Input.TheVariants.{Up, Ready, Drain, Leave}
use Rattle.agent_events.specs.declared.events.Output.{Output}
use Rattle.agent_core.specs.Places.{Event, Place, begins, link, now}
use Rattle.agent_events.specs.Kinds.{is_drain}
use Rattle.agent_core.specs.History.{at_input, past, place, places}
use Rattle.turnstile.specs.Turns.{of, plain}
use Rattle.server_workers.specs.declared.heard.Heard.{Heard}
use Rattle.server_workers.specs.Entries.{EachEntry, RunTurn, handed_at, is_final, octets_in, octets_of, sends}
use Rattle.agent_server.specs.Runs.{IsRun, IsRunFrom, closed, event_of, handed_over, has_left, heard_at, history, last_cause, places_of, sends_in, unsent}
use Rattle.agent_events.specs.Kinds.{is_leave}
use Rattle.agent_server.specs.Spans.{ClosingsFit, SpanFits, SpansFit, causes_in, closings, link_sends}
use Rattle.server_workers.specs.Segments.{AreSpans, IsClosed, IsSpan, IsWithin, ServerTurn, flat, is_beginning}
use Rattle.agent_server.proofs.LinkHistory.{IsShut, Moves, closed-phase, moves-at, or-none, shut-more}
use Rattle.agent_server.proofs.PlaceLemmas.{place-at}
use Rattle.server_workers.proofs.TurnLemmas.{plain-append}

-- ---- runs

history-append : (front more : List RunTurn) → history (front ++ more) ≡ history front ++ history more
history-append [] more = refl
history-append (None ∷ front) more = history-append front more
history-append (Some entry ∷ front) more = ap (λ es. event_of entry.0 entry.1 ∷ es) (history-append front more)

places-append : (config : Config) (ps : List Place) (es more : List Event) → places config ps (es ++ more) ≡ places config (places config ps es) more
places-append config ps [] more = refl
places-append config ps (e ∷ es) more = places-append config (place config ps e ∷ ps) es more

-- the places of turns and more turns
pub places-on : (config : Config) (front more : List RunTurn) → places_of config (front ++ more) ≡ places config (places_of config front) (history more)
places-on config front more = ap (past config) (history-append front more) ∙ places-append config [] (history front) (history more)

run-on : (config : Config) (until : ℕ) (ps : List Place) (front more : List RunTurn) → IsRunFrom config until ps (front ++ more)
    → IsRunFrom config until (places config ps (history front)) more
run-on config until ps [] more run = run
run-on config until ps (None ∷ front) more run = run-on config until ps front more run
run-on config until ps (Some entry ∷ front) more run = run-on config until (place config ps (event_of entry.0 entry.1) ∷ ps) front more run.1

-- the turns of a run without its last ones are a run
run-front : (config : Config) (until : ℕ) (ps : List Place) (front more : List RunTurn) → IsRunFrom config until ps (front ++ more)
    → IsRunFrom config until ps front
run-front config until ps [] more run = tt
run-front config until ps (None ∷ front) more run = run-front config until ps front more run
run-front config until ps (Some entry ∷ front) more run =
    (run.0, run-front config until (place config ps (event_of entry.0 entry.1) ∷ ps) front more run.1)

-- the answer of an entry of a run is that of its place
pub run-at : (config : Config) (until : ℕ) (front back : List RunTurn) (ask : Input) (heard : Heard)
    → IsRun config until (front ++ Some (ask, heard) ∷ back)
    → heard ≡ heard_at until (place config (places_of config front) (event_of ask heard)) (places_of config front)
run-at config until front back ask heard run = (run-on config until [] front (Some (ask, heard) ∷ back) run).0

-- a run is at its end where its time is over or the agent wanted to end
pub finished-by : (config : Config) (until : ℕ) (front back : List RunTurn) (ask : Input) (heard : Heard)
    → IsRun config until (front ++ Some (ask, heard) ∷ back) → heard.finished ≡ true
    → (until ≤ heard.moment) ⊎ ((has_left (places_of config front) || is_leave ask) ≡ true)
finished-by config until front back ask heard run finished =
    let ps = places_of config front in
    let p = place config ps (event_of ask heard) in
    let is = run-at config until front back ask heard run in
    let at = place-at config ps (event_of ask heard) in
    elim (or_cases (has_left (p ∷ ps)) (nat_le until p.moment) (sym (ap (λ (h : Heard). h.finished) is) ∙ finished))
    as (λ _. (until ≤ heard.moment) ⊎ ((has_left ps || is_leave ask) ≡ true)) [
      | inl left ↦ inr (ap (λ (i : Input). has_left ps || is_leave i) (sym at.input) ∙ left)
      | inr late ↦ inl (subst (λ (m : ℕ). until ≤ m) (sym (ap (λ (h : Heard). h.moment) is)) (leb-true until p.moment late))
    ]

-- a Leave stands among these turns
abbrev HasLeave : List RunTurn → Type 0
HasLeave turns = (front : List RunTurn) × (heard : Heard) × (back : List RunTurn) × (turns ≡ front ++ Some (Leave, heard) ∷ back)

leave-later : (turn : RunTurn) (turns : List RunTurn) → HasLeave turns → HasLeave (turn ∷ turns)
leave-later turn turns (front, heard, back, whole) = (turn ∷ front, heard, back, ap (λ l. turn ∷ l) whole)

leave-here : (ask : Input) (heard : Heard) (turns : List RunTurn) → is_leave ask ≡ true → HasLeave (Some (ask, heard) ∷ turns)
leave-here Leave heard turns is = ([], heard, turns, refl)
leave-here ask heard turns is = cc

leave-from : (config : Config) (ps : List Place) (turns : List RunTurn) → has_left (places config ps (history turns)) ≡ true
    → (has_left ps ≡ true) ⊎ HasLeave turns
leave-from config ps [] left = inl left
leave-from config ps (None ∷ turns) left =
    elim (leave-from config ps turns left) as (λ _. (has_left ps ≡ true) ⊎ HasLeave (None ∷ turns)) [
      | inl before ↦ inl before
      | inr found ↦ inr (leave-later None turns found)
    ]
leave-from config ps (Some entry ∷ turns) left =
    let e = event_of entry.0 entry.1 in
    let at = place-at config ps e in
    elim (leave-from config (place config ps e ∷ ps) turns left) as (λ _. (has_left ps ≡ true) ⊎ HasLeave (Some entry ∷ turns)) [
      | inl before ↦ elim (or_cases (has_left ps) (is_leave (place config ps e).input) before) as (λ _. (has_left ps ≡ true) ⊎ HasLeave (Some entry ∷ turns)) [
        | inl earlier ↦ inl earlier
        | inr here ↦ inr (leave-here entry.0 entry.1 turns (ap is_leave (sym at.input) ∙ here))
      ]
      | inr found ↦ inr (leave-later (Some entry) turns found)
    ]

-- where the agent wanted to end, there was a Leave
pub leave-there : (config : Config) (turns : List RunTurn) → has_left (places_of config turns) ≡ true
    → (front : List RunTurn) × (heard : Heard) × (back : List RunTurn) × (turns ≡ front ++ Some (Leave, heard) ∷ back)
leave-there config turns left = elim (leave-from config [] turns left) as (λ _. HasLeave turns) [ inl before ↦ cc | inr found ↦ found ]

-- an entry is told for which cause the link is closed
pub closed-heard : (config : Config) (until : ℕ) (front back : List RunTurn) (ask : Input) (heard : Heard)
    → IsRun config until (front ++ Some (ask, heard) ∷ back) → heard.closed ≡ closed (places_of config (front ++ Some (ask, heard) ∷ []))
closed-heard config until front back ask heard run =
    ap (λ (h : Heard). h.closed) (run-at config until front back ask heard run) ∙ sym (ap closed (places-on config front (Some (ask, heard) ∷ [])))

-- ---- where nothing begins

pub begins-none : (ps : List Place) (ask : Input) → is_beginning ask ≡ false → begins ps ask ≡ false
begins-none ps Up isnt = cc
begins-none ps Ready isnt = cc
begins-none ps ask isnt = refl

-- a closed link that stays closed for this cause
pub record IsClosedFor (cause : LinkCause) (ps : List Place) : Type 0 where
  pub phase : (link ps).phase ≡ Closed
  pub closed : closed ps ≡ Some cause

closed-on : (ps : List Place) (p : Place) (cause : LinkCause) → Moves ps p.input p → begins ps p.input ≡ false → IsClosedFor cause ps
    → IsClosedFor cause (p ∷ ps)
closed-on ps p cause moves none is =
    let rests = moves.rests is.phase none in
    record { phase = rests.1; closed = rw (rests.0, none) is.closed }

-- the same after turns that begin nothing
closed-places : (config : Config) (cause : LinkCause) (ps : List Place) (more : List RunTurn) → EachEntry (λ ask heard. is_beginning ask ≡ false) more
    → IsClosedFor cause ps → IsClosedFor cause (places config ps (history more))
closed-places config cause ps [] each is = is
closed-places config cause ps (None ∷ more) each is = closed-places config cause ps more each is
closed-places config cause ps (Some entry ∷ more) each is =
    let e = event_of entry.0 entry.1 in
    let p = place config ps e in
    let none : begins ps p.input ≡ false = ap (begins ps) (place-at config ps e).input ∙ begins-none ps entry.0 each.0 in
    closed-places config cause (p ∷ ps) more each.1 (closed-on ps p cause (moves-at config ps e) none is)

-- a link that is closed stays closed for its cause up to the next one
stays : (config : Config) (front more : List RunTurn) (cause : LinkCause) → EachEntry (λ ask heard. is_beginning ask ≡ false) more
    → closed (places_of config front) ≡ Some cause → closed (places_of config (front ++ more)) ≡ Some cause
stays config front more cause each is =
    ap closed (places-on config front more)
    ∙ (closed-places config cause (places_of config front) more each
    (record { phase = closed-phase config (history front) cause is; closed = is })).closed

pub closed-stays : (config : Config) (until : ℕ) (front more : List RunTurn) (cause : LinkCause) → IsRun config until (front ++ more)
    → EachEntry (λ ask heard. is_beginning ask ≡ false) more → closed (places_of config front) ≡ Some cause
    → closed (places_of config (front ++ more)) ≡ Some cause
closed-stays config until front more cause run each is = stays config front more cause each is

-- ---- turns with their numbers

-- nothing begins within a span
pub within-each : (turns : List ServerTurn) → All IsWithin turns → EachEntry (λ ask heard. is_beginning ask ≡ false) (plain turns)
within-each [] all = tt
within-each ((n, None) ∷ turns) all = within-each turns (All-tail IsWithin (n, None) turns all)
within-each ((n, Some entry) ∷ turns) all =
    ((All-head IsWithin (n, Some entry) turns all entry.0 entry.1 refl).0, within-each turns (All-tail IsWithin (n, Some entry) turns all))

All-back : (xs ys : List ServerTurn) → All IsWithin (xs ++ ys) → All IsWithin ys
All-back [] ys all = all
All-back (x ∷ xs) ys all = All-back xs ys (All-tail IsWithin x (xs ++ ys) all)

-- what is known of the places while nothing begins: what each place keeps that begins nothing
within-keep : (config : Config) (P : List Place → Type 0)
    → ((ps : List Place) (p : Place) → Moves ps p.input p → begins ps p.input ≡ false → P ps → P (p ∷ ps))
    → (ps : List Place) (turns : List ServerTurn) → All IsWithin turns → P ps → P (places config ps (history (plain turns)))
within-keep config P step ps [] all so_far = so_far
within-keep config P step ps ((n, None) ∷ turns) all so_far =
    within-keep config P step ps turns (All-tail IsWithin (n, None) turns all) so_far
within-keep config P step ps ((n, Some entry) ∷ turns) all so_far =
    let e = event_of entry.0 entry.1 in
    let p = place config ps e in
    let isnt = (All-head IsWithin (n, Some entry) turns all entry.0 entry.1 refl).0 in
    let none : begins ps p.input ≡ false = ap (begins ps) (place-at config ps e).input ∙ begins-none ps entry.0 isnt in
    within-keep config P step (p ∷ ps) turns (All-tail IsWithin (n, Some entry) turns all) (step ps p (moves-at config ps e) none so_far)

-- ---- the links of a run, one after another

-- so many links began, the last of which is closed; these are the causes, and after each another link is made
pub record IsBetween (count : ℕ) (earlier : List LinkCause) (ps : List Place) : Type 0 where
  pub shut : IsShut ps
  pub phase : (link ps).phase ≡ Closed
  pub number : (link ps).number ≡ count
  pub all : closings ps ≡ earlier
  pub each : All (λ cause. is_final cause ≡ false) earlier
  pub count_is : length earlier ≡ count

-- so many links began, and these are the causes for which the earlier ones were closed
pub record IsDuring (count : ℕ) (earlier : List LinkCause) (ps : List Place) : Type 0 where
  pub shut : IsShut ps
  pub number : (link ps).number ≡ count
  pub all : closings ps ≡ earlier ++ option_to_list (closed ps)

number-same : (ps : List Place) (p : Place) → Moves ps p.input p → begins ps p.input ≡ false → p.link.number ≡ (link ps).number
number-same ps p moves none = moves.number ∙ ap (λ b. if b then (link ps).number + 1 else (link ps).number) none

-- before the first link
record IsFirst (ps : List Place) : Type 0 where
  phase : (link ps).phase ≡ Closed
  number : (link ps).number ≡ 0
  all : closings ps ≡ []
  closed : closed ps ≡ None

first-step : (ps : List Place) (p : Place) → Moves ps p.input p → begins ps p.input ≡ false → IsFirst ps → IsFirst (p ∷ ps)
first-step ps p moves none first =
    let rests = moves.rests first.phase none in
    record {
      phase = rests.1;
      number = number-same ps p moves none ∙ first.number;
      all = rw (first.all) (moves.once ∙ ap option_to_list rests.0);
      closed = rw (rests.0, none) first.closed;
    }

pub front-between : (config : Config) (front : List ServerTurn) → All IsWithin front → IsBetween 0 [] (places_of config (plain front))
front-between config front all =
    let first : IsFirst (places_of config (plain front)) =
    within-keep config IsFirst first-step [] front all (record { phase = refl; number = refl; all = refl; closed = refl }) in
    record {
      shut = λ cause is. cc;
      phase = first.phase;
      number = first.number;
      all = first.all;
      each = All-nil (λ cause. is_final cause ≡ false);
      count_is = refl;
    }

-- where nothing begins, a link that is open is closed once at most, and a closed one isn't closed again
during-all : (ps : List Place) (p : Place) (earlier : List LinkCause) → Moves ps p.input p → begins ps p.input ≡ false → IsShut ps
    → (now : Option LinkCause) → closed ps ≡ now → closings ps ≡ earlier ++ option_to_list now
    → closings ps ++ causes_in p.outputs ≡ earlier ++ option_to_list (option_or (last_cause p.outputs) now)
during-all ps p earlier moves none shut None is all =
    rw (all, moves.once, append-nil) (ap (λ c. earlier ++ option_to_list c) (sym (or-none (last_cause p.outputs))))
during-all ps p earlier moves none shut (Some cause) is all =
    let rests = moves.rests (shut cause is) none in
    rw (moves.once, rests.0, append-nil) all

during-step : (count : ℕ) (earlier : List LinkCause) (ps : List Place) (p : Place) → Moves ps p.input p → begins ps p.input ≡ false
    → IsDuring count earlier ps → IsDuring count earlier (p ∷ ps)
during-step count earlier ps p moves none during = record {
  shut = shut-more ps p moves during.shut;
  number = number-same ps p moves none ∙ during.number;
  all =
      during-all ps p earlier moves none during.shut (closed ps) refl during.all
      ∙ sym (ap (λ b. earlier ++ option_to_list (option_or (last_cause p.outputs) (if b then None else closed ps))) none);
}

-- where the numbers aren't used up, an Up after these begins a link
up-begins : (count : ℕ) (earlier : List LinkCause) (ps : List Place) → IsBetween count earlier ps → count < 2 ^ 64 - 1 → begins ps Up ≡ true
up-begins count earlier ps between few =
    ap (λ (x : Phase). may_begin x (link ps).number) between.phase ∙ ap (λ n. may_begin Closed n) between.number
    ∙ le-leb (suc count) (2 ^ 64 - 1) (omega arith)

-- the Up of the next link's writer
up-during : (count : ℕ) (earlier : List LinkCause) (ps : List Place) (p : Place) → Moves ps p.input p → begins ps p.input ≡ true
    → IsBetween count earlier ps → IsDuring (count + 1) earlier (p ∷ ps)
up-during count earlier ps p moves begun between = record {
  shut = shut-more ps p moves between.shut;
  number = moves.number ∙ ap (λ b. if b then (link ps).number + 1 else (link ps).number) begun ∙ ap (λ n. n + 1) between.number;
  all =
      ap (λ l. l ++ causes_in p.outputs) between.all ∙ ap (λ l. earlier ++ l) moves.once
      ∙ ap (λ c. earlier ++ option_to_list c) (sym (or-none (last_cause p.outputs)))
      ∙ sym (ap (λ b. earlier ++ option_to_list (option_or (last_cause p.outputs) (if b then None else closed ps))) begun);
}

-- a link that was closed is followed by another
between-next : (count : ℕ) (earlier : List LinkCause) (ps : List Place) (cause : LinkCause) → IsDuring (count + 1) earlier ps
    → All (λ c. is_final c ≡ false) earlier → length earlier ≡ count → closed ps ≡ Some cause → is_final cause ≡ false
    → IsBetween (count + 1) (earlier ++ cause ∷ []) ps
between-next count earlier ps cause during each count_is is goes_on = record {
  shut = during.shut;
  phase = during.shut cause is;
  number = during.number;
  all = during.all ∙ ap (λ c. earlier ++ option_to_list c) is;
  each = All-push (λ c. is_final c ≡ false) earlier cause each goes_on;
  count_is = length-append earlier (cause ∷ []) ∙ ap (λ n. n + 1) count_is;
}

-- ---- what was sent on a link

-- the octets of two stretches of outputs stand one after another
octets-append : (xs ys : List Output) → octets_in (xs ++ ys) ≡ octets_in xs ++ octets_in ys
octets-append [] ys = refl
octets-append (x ∷ xs) ys = ap (λ l. octets_of x ++ l) (octets-append xs ys) ∙ sym (append_assoc (octets_of x) (octets_in xs) (octets_in ys))

-- on the present link went these octets and then those of what is unsent
abbrev IsSent : List ℕ → List Place → Type 0
IsSent sent ps = octets_in (link_sends ps) ≡ sent ++ octets_in (unsent ps)

-- as the link begins, all that was sent on it is unsent
begun-sent : (ps : List Place) (p : Place) → begins ps p.input ≡ true → is_drain p.input ≡ false → IsSent [] (p ∷ ps)
begun-sent ps p begun kept = rw (begun, kept) refl

other-sent : (ps : List Place) (p : Place) (sent : List ℕ) → begins ps p.input ≡ false → is_drain p.input ≡ false → IsSent sent ps
    → IsSent sent (p ∷ ps)
other-sent ps p sent none kept is =
    rw (none, kept) (octets-append (link_sends ps) (sends_in p.outputs) ∙ ap (λ l. l ++ octets_in (sends_in p.outputs)) is
    ∙ append_assoc sent (octets_in (unsent ps)) (octets_in (sends_in p.outputs))
    ∙ ap (λ l. sent ++ l) (sym (octets-append (unsent ps) (sends_in p.outputs))))

drain-sent : (ps : List Place) (p : Place) (sent : List ℕ) (heard : Heard) → begins ps p.input ≡ false → is_drain p.input ≡ true
    → p.outputs ≡ [] → heard.sends ≡ handed_over (is_drain p.input) (unsent ps) → IsSent sent ps → IsSent (sent ++ octets_in heard.sends) (p ∷ ps)
drain-sent ps p sent heard none drained outputs hands is =
    let over : heard.sends ≡ unsent ps = hands ∙ ap (λ b. handed_over b (unsent ps)) drained in
    rw (none, drained, outputs) (ap octets_in (append-nil (link_sends ps)) ∙ is ∙ ap (λ os. sent ++ octets_in os) (sym over)
    ∙ sym (append-nil (sent ++ octets_in heard.sends)))

-- at a Drain nothing goes out
drain-outputs : (config : Config) (ps : List Place) (m : ℕ) (ask : Input) → is_drain ask ≡ true → (at_input config ps m ask).outputs ≡ []
drain-outputs config ps m Drain is = refl
drain-outputs config ps m ask is = cc

handed-drain : (ask : Input) (heard : Heard) → is_drain ask ≡ true → handed_at ask heard ≡ octets_in heard.sends
handed-drain Drain heard is = refl
handed-drain ask heard is = cc

handed-none : (ask : Input) (heard : Heard) → is_drain ask ≡ false → handed_at ask heard ≡ []
handed-none Drain heard isnt = cc
handed-none ask heard isnt = refl

-- what an entry hands over under the number 0
abbrev handed : ℕ → Input → Heard → List ℕ
handed n ask heard = cond (0 == n) (handed_at ask heard) []

either-none : (b : Bool) → cond {A = List ℕ} b [] [] ≡ []
either-none true = refl
either-none false = refl

sends-blank : (b : Bool) (turns : List RunTurn) → sends (cond b (None ∷ turns) turns) ≡ sends turns
sends-blank true turns = refl
sends-blank false turns = refl

sends-entry : (b : Bool) (ask : Input) (heard : Heard) (turns : List RunTurn)
    → sends (cond b (Some (ask, heard) ∷ turns) turns) ≡ cond b (handed_at ask heard) [] ++ sends turns
sends-entry true ask heard turns = refl
sends-entry false ask heard turns = refl

-- an entry that begins nothing keeps this: a Drain hands over what was unsent
entry-sent : (config : Config) (until : ℕ) (ps : List Place) (n : ℕ) (ask : Input) (heard : Heard) (sent : List ℕ) → IsWithin (n, Some (ask, heard))
    → heard ≡ heard_at until (place config ps (event_of ask heard)) ps → IsSent sent ps → (drained : Bool) → is_drain ask ≡ drained
    → IsSent (sent ++ handed n ask heard) (place config ps (event_of ask heard) ∷ ps)
entry-sent config until ps n ask heard sent within is so_far true drained =
    let e = event_of ask heard in
    let p = place config ps e in
    let at = place-at config ps e in
    let known = within ask heard refl in
    let none : begins ps p.input ≡ false = ap (begins ps) at.input ∙ begins-none ps ask known.0 in
    let hands : handed n ask heard ≡ octets_in heard.sends =
    ap (λ k. cond (0 == k) (handed_at ask heard) []) (known.1 drained) ∙ handed-drain ask heard drained in
    subst (λ (l : List ℕ). IsSent (sent ++ l) (p ∷ ps)) (sym hands)
    (drain-sent ps p sent heard none (ap is_drain at.input ∙ drained) (drain-outputs config ps (max (now ps) heard.moment) ask drained)
    (ap (λ (h : Heard). h.sends) is) so_far)
entry-sent config until ps n ask heard sent within is so_far false kept =
    let e = event_of ask heard in
    let p = place config ps e in
    let at = place-at config ps e in
    let none : begins ps p.input ≡ false = ap (begins ps) at.input ∙ begins-none ps ask (within ask heard refl).0 in
    let hands : handed n ask heard ≡ [] = ap (λ l. cond (0 == n) l []) (handed-none ask heard kept) ∙ either-none (0 == n) in
    subst (λ (l : List ℕ). IsSent l (p ∷ ps)) (sym (ap (λ l. sent ++ l) hands ∙ append-nil sent))
    (other-sent ps p sent none (ap is_drain at.input ∙ kept) so_far)

-- the same of all turns of a span after its Up
turns-sent : (config : Config) (until : ℕ) (ps : List Place) (turns : List ServerTurn) (sent : List ℕ) → All IsWithin turns
    → IsRunFrom config until ps (plain turns) → IsSent sent ps → IsSent (sent ++ sends (of 0 turns)) (places config ps (history (plain turns)))
turns-sent config until ps [] sent all run is = subst (λ (l : List ℕ). IsSent l ps) (sym (append-nil sent)) is
turns-sent config until ps ((n, None) ∷ turns) sent all run is =
    subst (λ (l : List ℕ). IsSent (sent ++ l) (places config ps (history (plain turns)))) (sym (sends-blank (0 == n) (of 0 turns)))
    (turns-sent config until ps turns sent (All-tail IsWithin (n, None) turns all) run is)
turns-sent config until ps ((n, Some entry) ∷ turns) sent all run is =
    let p = place config ps (event_of entry.0 entry.1) in
    let one = handed n entry.0 entry.1 in
    let within = All-head IsWithin (n, Some entry) turns all in
    let more : sent ++ sends (of 0 ((n, Some entry) ∷ turns)) ≡ (sent ++ one) ++ sends (of 0 turns) =
    ap (λ l. sent ++ l) (sends-entry (0 == n) entry.0 entry.1 (of 0 turns)) ∙ sym (append_assoc sent one (sends (of 0 turns))) in
    subst (λ (l : List ℕ). IsSent l (places config (p ∷ ps) (history (plain turns)))) (sym more)
    (turns-sent config until (p ∷ ps) turns (sent ++ one) (All-tail IsWithin (n, Some entry) turns all) run.1
    (entry-sent config until ps n entry.0 entry.1 sent within run.0 is (is_drain entry.0) refl))

-- ---- one span

-- whether the first of these asks a Drain
abbrev drains_first : List ServerTurn → Bool
drains_first [] = false
drains_first ((n, None) ∷ turns) = false
drains_first ((n, Some entry) ∷ turns) = is_drain entry.0

module _ (config : Config) (until : ℕ) where
  -- the place of the Up with which a span begins
  abbrev first-place : List ServerTurn → Heard → Place
  first-place front opened = place config (places_of config (plain front)) (event_of Up opened)

  span-places : (front seg : List ServerTurn) (s : IsSpan seg)
      → places_of config (plain (front ++ seg))
      ≡ places config (first-place front s.opened ∷ places_of config (plain front)) (history (plain s.rest))
  span-places front seg s =
      ap (places_of config) (plain-append front seg) ∙ places-on config (plain front) (plain seg)
      ∙ ap (λ (l : List ServerTurn). places config (places_of config (plain front)) (history (plain l))) s.whole

  span-begins : (count : ℕ) (earlier : List LinkCause) (front : List ServerTurn) (opened : Heard)
      → IsBetween count earlier (places_of config (plain front)) → count < 2 ^ 64 - 1
      → begins (places_of config (plain front)) (first-place front opened).input ≡ true
  span-begins count earlier front opened between few =
      ap (begins (places_of config (plain front))) (place-at config (places_of config (plain front)) (event_of Up opened)).input
      ∙ up-begins count earlier (places_of config (plain front)) between few

  -- at the end of a span one more link began
  span-during : (count : ℕ) (earlier : List LinkCause) (front seg : List ServerTurn) → IsBetween count earlier (places_of config (plain front))
      → IsSpan seg → count < 2 ^ 64 - 1 → IsDuring (count + 1) earlier (places_of config (plain (front ++ seg)))
  span-during count earlier front seg between s few =
      let ps = places_of config (plain front) in
      let p = first-place front s.opened in
      subst (IsDuring (count + 1) earlier) (sym (span-places front seg s))
      (within-keep config (IsDuring (count + 1) earlier) (during-step (count + 1) earlier) (p ∷ ps) s.rest s.within
      (up-during count earlier ps p (moves-at config ps (event_of Up s.opened)) (span-begins count earlier front s.opened between few) between))

  -- the turns of a span after its Up go on with the run
  span-run : (front seg more : List ServerTurn) (s : IsSpan seg) → IsRun config until (plain (front ++ (seg ++ more)))
      → IsRunFrom config until (first-place front s.opened ∷ places_of config (plain front)) (plain s.rest)
  span-run front seg more s run =
      let whole : plain (front ++ (seg ++ more)) ≡ plain front ++ (Some (Up, s.opened) ∷ (plain s.rest ++ plain more)) =
      plain-append front (seg ++ more) ∙ ap (λ l. plain front ++ l) (plain-append seg more)
      ∙ ap (λ (l : List ServerTurn). plain front ++ (plain l ++ plain more)) s.whole in
      run-front config until (first-place front s.opened ∷ places_of config (plain front)) (plain s.rest) (plain more)
      (run-on config until [] (plain front) (Some (Up, s.opened) ∷ (plain s.rest ++ plain more)) (subst (IsRun config until) whole run)).1

  span-fits : (count : ℕ) (earlier : List LinkCause) (front seg more : List ServerTurn) → IsBetween count earlier (places_of config (plain front))
      → IsSpan seg → count < 2 ^ 64 - 1 → IsRun config until (plain (front ++ (seg ++ more))) → SpanFits config front seg
  span-fits count earlier front seg more between s few run =
      let ps = places_of config (plain front) in
      let p = first-place front s.opened in
      let begun = span-begins count earlier front s.opened between few in
      let handed_is : sends (of 0 seg) ≡ sends (of 0 s.rest) = ap (λ (l : List ServerTurn). sends (of 0 l)) s.whole in
      record {
        begun = up-begins count earlier ps between few;
        sent =
            ap (λ qs. octets_in (link_sends qs)) (span-places front seg s)
            ∙ turns-sent config until (p ∷ ps) s.rest [] s.within (span-run front seg more s run)
            (begun-sent ps p begun (ap is_drain (place-at config ps (event_of Up s.opened)).input))
            ∙ ap (λ l. l ++ octets_in (unsent (places config (p ∷ ps) (history (plain s.rest))))) (sym handed_is)
            ∙ ap (λ qs. sends (of 0 seg) ++ octets_in (unsent qs)) (sym (span-places front seg s));
      }

  -- the turns after the Drain that is told of the closing
  pub within-after : (opened heard : Heard) (rest front back : List ServerTurn) → (0, Some (Up, opened)) ∷ rest ≡ front ++ (0, Some (Drain, heard)) ∷ back
      → All IsWithin rest → All IsWithin back
  within-after opened heard rest [] back whole all = let apart : false ≡ true = ap drains_first whole in cc
  within-after opened heard rest (x ∷ front) back whole all =
      let same : rest ≡ front ++ (0, Some (Drain, heard)) ∷ back = cc in
      All-tail IsWithin (0, Some (Drain, heard)) back
      (All-back front ((0, Some (Drain, heard)) ∷ back) (subst (All IsWithin) same all))

  -- at the end of a span whose writer was told so, the link is closed for that cause
  span-cause : (front seg more : List ServerTurn) → IsSpan seg → (c : IsClosed seg) → IsRun config until (plain (front ++ (seg ++ more)))
      → closed (places_of config (plain (front ++ seg))) ≡ Some c.cause
  span-cause front seg more s c run =
      let turn : ServerTurn = (0, Some (Drain, c.heard)) in
      let before = plain front ++ plain c.front in
      let seg_is : plain seg ≡ plain c.front ++ (Some (Drain, c.heard) ∷ plain c.back) =
      ap (λ (l : List ServerTurn). plain l) c.whole ∙ plain-append c.front (turn ∷ c.back) in
      let whole : plain (front ++ (seg ++ more)) ≡ before ++ (Some (Drain, c.heard) ∷ (plain c.back ++ plain more)) =
      plain-append front (seg ++ more) ∙ ap (λ l. plain front ++ l) (plain-append seg more ∙ ap (λ l. l ++ plain more) seg_is
      ∙ append_assoc (plain c.front) (Some (Drain, c.heard) ∷ plain c.back) (plain more))
      ∙ sym (append_assoc (plain front) (plain c.front) (Some (Drain, c.heard) ∷ (plain c.back ++ plain more))) in
      let ended : plain (front ++ seg) ≡ (before ++ (Some (Drain, c.heard) ∷ [])) ++ plain c.back =
      plain-append front seg ∙ ap (λ l. plain front ++ l) seg_is
      ∙ sym (append_assoc (plain front) (plain c.front) (Some (Drain, c.heard) ∷ plain c.back))
      ∙ sym (append_assoc before (Some (Drain, c.heard) ∷ []) (plain c.back)) in
      ap (λ l. closed (places_of config l)) ended
      ∙ stays config (before ++ (Some (Drain, c.heard) ∷ [])) (plain c.back) c.cause
      (within-each c.back (within-after s.opened c.heard s.rest c.front c.back (sym s.whole ∙ c.whole) s.within))
      (sym (closed-heard config until before (plain c.back ++ plain more) Drain c.heard (subst (IsRun config until) whole run)) ∙ c.closed)

  -- after a span whose link was closed another may begin
  span-next : (count : ℕ) (earlier : List LinkCause) (front seg more : List ServerTurn) → IsBetween count earlier (places_of config (plain front))
      → IsSpan seg → (c : IsClosed seg) → count < 2 ^ 64 - 1 → IsRun config until (plain (front ++ (seg ++ more)))
      → IsBetween (count + 1) (earlier ++ c.cause ∷ []) (places_of config (plain (front ++ seg)))
  span-next count earlier front seg more between s c few run =
      between-next count earlier (places_of config (plain (front ++ seg))) c.cause (span-during count earlier front seg between s few) between.each
      between.count_is (span-cause front seg more s c run) c.goes_on

  run-regroup : (front seg more : List ServerTurn) → IsRun config until (plain (front ++ (seg ++ more))) → IsRun config until (plain ((front ++ seg) ++ more))
  run-regroup front seg more run = subst (λ (l : List ServerTurn). IsRun config until (plain l)) (sym (append_assoc front seg more)) run

  -- ---- all spans

  fits-from : (count : ℕ) (earlier : List LinkCause) (front : List ServerTurn) (segs : List (List ServerTurn))
      → IsBetween count earlier (places_of config (plain front)) → AreSpans segs → count + length segs < 2 ^ 64
      → IsRun config until (plain (front ++ flat segs)) → SpansFit config front segs
  fits-from count earlier front [] between spans few run = tt
  fits-from count earlier front (seg ∷ []) between s few run = (span-fits count earlier front seg [] between s (omega arith) run, tt)
  fits-from count earlier front (seg ∷ next ∷ segs) between (s, c, spans) few run =
      let more = flat (next ∷ segs) in
      let fewer : count < 2 ^ 64 - 1 = omega arith in (
        span-fits count earlier front seg more between s fewer run,
        fits-from (count + 1) (earlier ++ c.cause ∷ []) (front ++ seg) (next ∷ segs) (span-next count earlier front seg more between s c fewer run) spans
            (omega arith) (run-regroup front seg more run),
      )

  closings-from : (count : ℕ) (earlier : List LinkCause) (front : List ServerTurn) (segs : List (List ServerTurn))
      → IsBetween count earlier (places_of config (plain front)) → AreSpans segs → count + length segs < 2 ^ 64 → 0 < length segs
      → IsRun config until (plain (front ++ flat segs)) → ClosingsFit (count + length segs) (places_of config (plain (front ++ flat segs)))
  closings-from count earlier front [] between spans few some run = absurd (omega arith)
  closings-from count earlier front (seg ∷ []) between s few some run =
      let during = span-during count earlier front seg between s (omega arith) in
      subst (λ (l : List ServerTurn). ClosingsFit (count + length (seg ∷ [])) (places_of config (plain (front ++ l)))) (sym (append-nil seg)) (record {
        earlier = earlier;
        all = during.all;
        each = between.each;
        count_is = omega (arith, between.count_is);
      })
  closings-from count earlier front (seg ∷ next ∷ segs) between (s, c, spans) few some run =
      let more = flat (next ∷ segs) in
      let fewer : count < 2 ^ 64 - 1 = omega arith in
      let rest : ClosingsFit (count + 1 + length (next ∷ segs)) (places_of config (plain ((front ++ seg) ++ more))) =
      closings-from (count + 1) (earlier ++ c.cause ∷ []) (front ++ seg) (next ∷ segs) (span-next count earlier front seg more between s c fewer run) spans
      (omega arith) (omega arith) (run-regroup front seg more run) in
      let same : count + 1 + length (next ∷ segs) ≡ count + length (seg ∷ next ∷ segs) = omega arith in
      subst (λ (n : ℕ). ClosingsFit n (places_of config (plain (front ++ (seg ++ more))))) same
      (subst (λ (l : List ServerTurn). ClosingsFit (count + 1 + length (next ∷ segs)) (places_of config (plain l))) (append_assoc front seg more) rest)

-- each span's Up begins a link, and the writer's Drains hand over what is sent on it
pub spans-fit : (config : Config) (until : ℕ) (front : List ServerTurn) (segs : List (List ServerTurn)) → All IsWithin front → AreSpans segs
    → length segs < 2 ^ 64 → IsRun config until (plain (front ++ flat segs)) → SpansFit config front segs
spans-fit config until front segs all spans few run =
    fits-from config until 0 [] front segs (front-between config front all) spans (omega arith) run

-- each link but the last was closed once, and the last once at most
pub closings-fit : (config : Config) (until : ℕ) (front : List ServerTurn) (segs : List (List ServerTurn)) → All IsWithin front → AreSpans segs
    → length segs < 2 ^ 64 → IsRun config until (plain (front ++ flat segs)) → 0 < length segs
    → ClosingsFit (length segs) (places_of config (plain (front ++ flat segs)))
closings-fit config until front segs all spans few run some =
    let same : 0 + length segs ≡ length segs = omega arith in
    subst (λ (n : ℕ). ClosingsFit n (places_of config (plain (front ++ flat segs)))) same
    (closings-from config until 0 [] front segs (front-between config front all) spans (omega arith) some run)
