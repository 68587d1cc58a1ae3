-- Why a run that is over has its status.
use Rattle.std.proofs.Common.{◌≡◌, ◌≢◌, ℕ, ◌+◌, ◌<◌, ◌≤◌, ◌==◌, ◌⊎◌, inl, inr, Bool, true, false, cond, not, nat_le, ◌||◌, if◌then◌else◌, option_to_list, List, [], ◌∷◌, ◌++◌, length, Option, Some, None, refl, sym, ap, ◌∙◌, subst, append_assoc, eq-eqb, eqb-true, arith}
use Rattle.std.specs.List.{All}
use Rattle.std.proofs.lemmas.Bool.{true≢false, or_cases, le-leb, leb-true}
use Rattle.std.proofs.lemmas.List.{append-nil, length_push, same_from_push}
use Rattle.std.proofs.lemmas.List.Elements.{All-head, All-push, All-tail, filter-append}
use Rattle.agent_settings.specs.declared.config.Config.{Config}
use Rattle.peer_machine.specs.declared.LinkCause.{LinkCause}
use Rattle.peer_machine.specs.declared.LinkCause.TheVariants.{Left, Refused}
use Rattle.agent_status.specs.declared.status.Status.{Status}
use Rattle.agent_status.specs.declared.status.Status.TheVariants.{DatagramFault, Done, LinkEnded, LinkFault, NoThread, PeerRefused}
use Rattle.agent_events.specs.declared.events.Input.{Input}
use Rattle.agent_events.specs.declared.events.Input.TheVariants.{Drain, Leave}
use Rattle.turnstile.specs.Turns.{of, plain}
use Rattle.server_workers.specs.declared.heard.Heard.{Heard}
use Rattle.server_workers.specs.declared.running.RunEnd.{RunEnd}
use Rattle.server_workers.specs.declared.running.RunEnd.TheVariants as run
use Rattle.server_workers.specs.Entries.{HasLeave, RunTurn, is_final}
use Rattle.server_workers.specs.Running.{LeftAtEnd, NoLeave, StopsFor}
use Rattle.agent_server.specs.Runs.{IsRun, closed, has_left, history, places_of}
use Rattle.agent_events.specs.Kinds.{is_leave}
use Rattle.agent_server.specs.Server.{AreWorn, Because, HasFinished, IsGiven, LeavesAfterUntil, ended_status, others, rank, status_given}
use Rattle.agent_server.specs.Spans.{closings}
use Rattle.server_workers.specs.Segments.{ServerTurn}
use Rattle.agent_server.proofs.AskingLemmas.{All-left, Asks, leave-at, no-leave, one-leave}
use Rattle.server_workers.proofs.DialLemmas.{each-append}
use Rattle.agent_server.proofs.LinkHistory.{closed-left}
use Rattle.agent_server.proofs.SpanLemmas.{finished-by, leave-there}
use Rattle.server_workers.proofs.TurnLemmas.{of-there, plain-append}

-- ---- the moment of a leave

-- where the writer took the agent's leave at the end of the run, and no socket failed for good, no Leave came earlier
left-leaves : (config : Config) (until a c : ℕ) → a ≢ 16 → c ≢ 16 → (turns : List ServerTurn) → IsRun config until (plain turns) → All (Asks a c) turns
    → LeftAtEnd (of 0 turns) → LeavesAfterUntil until (plain turns)
left-leaves config until a c auth acct turns run all l front back left is =
    let m = leave-at a c auth acct turns all front back left is in
    let entry : RunTurn = Some (l.ask, l.heard) in
    let quiet : NoLeave (l.front ++ entry ∷ l.between) =
    each-append (λ ask heard. is_leave ask ≡ false) l.front (entry ∷ l.between) l.quiet.0 (l.stays, l.quiet.1) in
    let last : List RunTurn = Some (Drain, l.last) ∷ l.rest in
    let same : of 0 m.front ++ Some (Leave, left) ∷ of 0 m.back ≡ (l.front ++ entry ∷ l.between) ++ Some (Leave, l.left) ∷ last =
    sym m.own ∙ l.whole ∙ sym (append_assoc l.front (entry ∷ l.between) (Some (Leave, l.left) ∷ last)) in
    let p = of-there 0 m.front l.front entry l.between
    (one-leave (of 0 m.front) (of 0 m.back) (l.front ++ entry ∷ l.between) last left l.left same quiet (refl, l.quiet.2)) in
    let front_is : front ≡ plain p.front ++ entry ∷ plain p.back =
    sym m.before ∙ ap (λ (ts : List ServerTurn). plain ts) p.whole ∙ plain-append p.front ((0, entry) ∷ p.back) in
    let whole : plain turns ≡ plain p.front ++ entry ∷ (plain p.back ++ Some (Leave, left) ∷ back) =
    is ∙ ap (λ ts. ts ++ Some (Leave, left) ∷ back) front_is ∙ append_assoc (plain p.front) (entry ∷ plain p.back) (Some (Leave, left) ∷ back) in
    let asked : All (Asks a c) p.front =
    All-left (Asks a c) p.front ((0, entry) ∷ p.back) (subst (All (Asks a c)) p.whole
    (All-left (Asks a c) m.front ((0, Some (Leave, left)) ∷ m.back) (subst (All (Asks a c)) m.whole all))) in
    elim (finished-by config until (plain p.front) (plain p.back ++ Some (Leave, left) ∷ back) l.ask l.heard (subst (IsRun config until) whole run) l.finished)
    as (λ _. (before after : List RunTurn) × ((ask : Input) × ((heard : Heard) × (front ≡ before ++ Some (ask, heard) ∷ after) × (until ≤ heard.moment)))) [
      | inl late ↦ (plain p.front, plain p.back, (l.ask, (l.heard, front_is, late)))
      | inr went ↦
          absurd (elim (or_cases (has_left (places_of config (plain p.front))) (is_leave l.ask) went) as (λ _. ⊥) [
            | inl before ↦
                let there = leave-there config (plain p.front) before in
                no-leave a c auth acct p.front asked (subst NoLeave (sym p.before) l.quiet.0) there.0 there.2 there.1 there.3
            | inr leaves ↦ true≢false (sym leaves ∙ l.stays)
          ])
    ]

-- an answer by which the run was at its end
left-finished : (turns : List ServerTurn) → LeftAtEnd (of 0 turns) → HasFinished (plain turns)
left-finished turns l =
    let entry : RunTurn = Some (l.ask, l.heard) in
    let p = of-there 0 turns l.front entry (l.between ++ Some (Leave, l.left) ∷ Some (Drain, l.last) ∷ l.rest) l.whole in (
      plain p.front,
      plain p.back,
      (l.ask, (l.heard, ap (λ (ts : List ServerTurn). plain ts) p.whole ∙ plain-append p.front ((0, entry) ∷ p.back), l.finished)),
    )

left-has : (turns : List ServerTurn) → LeftAtEnd (of 0 turns) → HasLeave (of 0 turns)
left-has turns l =
    let entry : RunTurn = Some (l.ask, l.heard) in
    (l.front ++ entry ∷ l.between, Some (Drain, l.last) ∷ l.rest, (l.left, l.whole ∙ sym (append_assoc l.front (entry ∷ l.between) (Some (Leave, l.left) ∷ Some (Drain, l.last) ∷ l.rest))))

-- ---- causes

abbrev IsOther : LinkCause → Type 0
IsOther cause = is_final cause ≡ false

holds-nothing : (front back : List LinkCause) (x : LinkCause) → [] ≡ front ++ x ∷ back → ⊥
holds-nothing [] back x is = cc
holds-nothing (y ∷ front) back x is = cc

-- a cause after which no link is made is the last
final-last : (earlier : List LinkCause) (last : Option LinkCause) (front back : List LinkCause) (x : LinkCause) → All IsOther earlier → is_final x ≡ true
    → earlier ++ option_to_list last ≡ front ++ x ∷ back → last ≡ Some x
final-last [] None front back x each final is = absurd (holds-nothing front back x is)
final-last [] (Some z) [] back x each final is = let e : z ≡ x = cc in ap Some e
final-last [] (Some z) (y ∷ front) back x each final is = let rest : [] ≡ front ++ x ∷ back = cc in absurd (holds-nothing front back x rest)
final-last (e ∷ es) last [] back x each final is =
    let same : e ≡ x = cc in
    absurd (true≢false (sym final ∙ ap is_final (sym same) ∙ All-head IsOther e es each))
final-last (e ∷ es) last (y ∷ front) back x each final is =
    let rest : es ++ option_to_list last ≡ front ++ x ∷ back = cc in
    final-last es last front back x (All-tail IsOther e es each) final rest

others-same : (causes : List LinkCause) → All IsOther causes → others causes ≡ causes
others-same [] all = refl
others-same (x ∷ xs) all =
    ap (λ b. cond (not b) (x ∷ others xs) (others xs)) (All-head IsOther x xs all) ∙ ap (λ l. x ∷ l) (others-same xs (All-tail IsOther x xs all))

worn-by : (earlier front : List LinkCause) (y x : LinkCause) (b : Bool) → is_final y ≡ b → length earlier < 256
    → length (earlier ++ cond (not b) (y ∷ []) []) ≡ 256 → earlier ++ cond (not b) (y ∷ []) [] ≡ front ++ x ∷ []
    → (Some y ≡ Some x) × (is_final x ≡ false) × (length earlier + 1 ≡ 256)
worn-by earlier front y x true final few many is = absurd (omega (arith, ap length (append-nil earlier)))
worn-by earlier front y x false other few many is =
    let same = (same_from_push earlier front y x is).1 in
    (ap Some same, ap is_final (sym same) ∙ other, sym (length_push earlier y) ∙ many)

-- where 256 links were closed for other causes, the last was so for this one
worn-last : (earlier : List LinkCause) (last : Option LinkCause) (x : LinkCause) → All IsOther earlier → length earlier < 256
    → AreWorn (earlier ++ option_to_list last) x → (last ≡ Some x) × (is_final x ≡ false) × (length earlier + 1 ≡ 256)
worn-last earlier None x each few worn =
    absurd (omega (arith, few, worn.many, ap (λ l. length (others l)) (append-nil earlier), ap length (others-same earlier each)))
worn-last earlier (Some y) x each few worn =
    let all : others (earlier ++ y ∷ []) ≡ earlier ++ others (y ∷ []) =
    filter-append (λ cause. not (is_final cause)) earlier (y ∷ []) ∙ ap (λ l. l ++ others (y ∷ [])) (others-same earlier each) in
    worn-by earlier worn.last.0 y x (is_final y) refl few (sym (ap length all) ∙ worn.many) (sym all ∙ worn.last.1)

worn-holds : (earlier : List LinkCause) (x : LinkCause) → All IsOther earlier → is_final x ≡ false → length earlier + 1 ≡ 256
    → AreWorn (earlier ++ x ∷ []) x
worn-holds earlier x each other many =
    let same = others-same (earlier ++ x ∷ []) (All-push IsOther earlier x each other) in
    record { many = ap length same ∙ length_push earlier x ∙ many; last = (earlier, same) }

-- ---- what is known where a run is over

-- why no further link is made, by the cause for which the last of so many links was closed, and by the writer's turns
abbrev pub EndsBy : RunEnd → ℕ → Type 0 → ℕ → Option LinkCause → List RunTurn → Type 0
EndsBy run.Closed row refused count last own = NoLeave own × ((cause : LinkCause) × (is_final cause ≡ true) × (last ≡ Some cause))
EndsBy run.Left row refused count last own = LeftAtEnd own
EndsBy run.Worn row refused count last own = (count ≡ 256) × HasLeave own × ((cause : LinkCause) × (is_final cause ≡ false) × (last ≡ Some cause))
EndsBy run.LinkFault row refused count last own = (row ≡ 16) × HasLeave own
EndsBy run.NoThread row refused count last own = refused × HasLeave own
EndsBy run.NoMemory row refused count last own = Unit {0}

-- each link has its span, but where memory was wanting
abbrev pub HasAll : RunEnd → ℕ → ℕ → Type 0
HasAll run.NoMemory links count = Unit {0}
HasAll end links count = links ≡ count

pub record Facts (config : Config) (until : ℕ) (end : RunEnd) (row : ℕ) (refused : Type 0) (links : ℕ) (turns : List ServerTurn) (a c : ℕ)
    (last : Option LinkCause) : Type 0 where
  pub run : IsRun config until (plain turns)
  pub asks : All (Asks a c) turns
  pub last_is : closed (places_of config (plain turns)) ≡ last
  pub earlier : List LinkCause
  pub closes : closings (places_of config (plain turns)) ≡ earlier ++ option_to_list last
  pub each : All IsOther earlier
  pub few : length earlier + 1 ≤ 256
  pub all : HasAll end links (length earlier + 1)
  pub ends : EndsBy end row refused (length earlier + 1) last (of 0 turns)

failed-row : (a c : ℕ) → true ≡ ((a == 16) || (c == 16)) → (a ≡ 16) ⊎ (c ≡ 16)
failed-row a c is = elim (or_cases (a == 16) (c == 16) (sym is)) as (λ _. (a ≡ 16) ⊎ (c ≡ 16)) [
  | inl first ↦ inl (eqb-true a 16 first)
  | inr second ↦ inr (eqb-true c 16 second)
]

row-failed : (a c : ℕ) → (a ≡ 16) ⊎ (c ≡ 16) → ((a == 16) || (c == 16)) ≡ true
row-failed a c (inl first) = ap (λ b. b || (c == 16)) (eq-eqb a 16 first)
row-failed a c (inr second) = ap (λ b. (a == 16) || b) (eq-eqb c 16 second) ∙ or-true (a == 16)
  where
    or-true : (b : Bool) → (b || true) ≡ true
    or-true true = refl
    or-true false = refl

no-row : (a c : ℕ) → false ≡ ((a == 16) || (c == 16)) → (a ≢ 16) × (c ≢ 16)
no-row a c is = (λ first. true≢false (sym (row-failed a c (inl first)) ∙ sym is), λ second. true≢false (sym (row-failed a c (inr second)) ∙ sym is))

-- ---- the status of an end

ended-other : (cause : LinkCause) (links : ℕ) → is_final cause ≡ false → 256 ≤ links → ended_status (Some cause) links ≡ LinkEnded cause
ended-other (Refused code) links other many = cc
ended-other Left links other many = cc
ended-other cause links other many = ap (λ b. if b then LinkEnded cause else Done) (le-leb 256 links many)

-- a link that is closed for good ends the run with Done only where the agent left it
not-done : (last : Option LinkCause) (links : ℕ) (cause : LinkCause) → is_final cause ≡ true → last ≡ Some cause → (last ≡ Some Left → ⊥)
    → ended_status last links ≡ Done → ⊥
not-done last links (Refused code) final is left done = let e : PeerRefused code ≡ Done = ap (λ l. ended_status l links) (sym is) ∙ done in cc
not-done last links Left final is left done = left is
not-done last links cause final is left done = cc

other-refused : (cause : LinkCause) (code : ℕ) → is_final cause ≡ false → Some cause ≡ Some (Refused code) → ⊥
other-refused cause code other is = let same : cause ≡ Refused code = cc in true≢false (ap is_final (sym same) ∙ other)

module _ (own turns : List RunTurn) (causes earlier : List LinkCause) (a c row : ℕ) (refused : Type 0) where
  done-because : (last : Option LinkCause) → causes ≡ earlier ++ option_to_list last → All IsOther earlier
      → ((code : ℕ) → last ≡ Some (Refused code) → ⊥) → LeftAtEnd own × HasFinished turns → Because Done own turns causes a c row refused
  done-because last closes each unrefused done = (
    done.0,
    done.1,
    λ code (front, (back, is)). unrefused code (final-last earlier last front back (Refused code) each refl (sym closes ∙ is)),
  )

  other-because : (cause : LinkCause) (links : ℕ) (b : Bool) → nat_le 256 links ≡ b → is_final cause ≡ false → causes ≡ earlier ++ cause ∷ [] → All IsOther earlier
      → links ≡ length earlier + 1 → length earlier + 1 ≤ 256
      → ((if b then LinkEnded cause else Done) ≡ Done → LeftAtEnd own × HasFinished turns) → HasLeave own
      → Because (if b then LinkEnded cause else Done) own turns causes a c row refused
  other-because cause links true is other closes each all few done left =
      let many = leb-true 256 links is in
      (subst (λ l. AreWorn l cause) (sym closes) (worn-holds earlier cause each other (omega arith)), left)
  other-because cause links false is other closes each all few done left =
      done-because (Some cause) closes each (λ code same. other-refused cause code other same) (done refl)

  ended-because : (last : Option LinkCause) (links : ℕ) → causes ≡ earlier ++ option_to_list last → All IsOther earlier → links ≡ length earlier + 1
      → length earlier + 1 ≤ 256 → (ended_status last links ≡ Done → LeftAtEnd own × HasFinished turns)
      → ((cause : LinkCause) → last ≡ Some cause → is_final cause ≡ false → HasLeave own)
      → Because (ended_status last links) own turns causes a c row refused
  ended-because None links closes each all few done left = done-because None closes each (λ code same. cc) (done refl)
  ended-because (Some (Refused code)) links closes each all few done left = (earlier, ([], closes))
  ended-because (Some Left) links closes each all few done left = done-because (Some Left) closes each (λ code same. cc) (done refl)
  ended-because (Some cause) links closes each all few done left = other-because cause links (nat_le 256 links) refl refl closes each all few done (left cause refl refl)

-- where the link was closed for the agent's leave, some socket failed for good or the writer took it
closed-leave : (config : Config) (a c : ℕ) → a ≢ 16 → c ≢ 16 → (turns : List ServerTurn) → All (Asks a c) turns → NoLeave (of 0 turns)
    → closed (places_of config (plain turns)) ≡ Some Left → ⊥
closed-leave config a c auth acct turns all quiet is =
    let there = leave-there config (plain turns) (closed-left config (history (plain turns)) is) in
    no-leave a c auth acct turns all quiet there.0 there.2 there.1 there.3

-- each of these statuses is given where it stands, unless one with a lesser rank is

given-failed : (end : RunEnd) (last : Option LinkCause) (links : ℕ)
    → (status_given end true last links ≡ DatagramFault) ⊎ (rank (status_given end true last links) < 2)
given-failed run.NoMemory last links = inr (omega arith)
given-failed run.NoThread last links = inr (omega arith)
given-failed run.LinkFault last links = inl refl
given-failed run.Closed last links = inl refl
given-failed run.Left last links = inl refl
given-failed run.Worn last links = inl refl

given-dialled : (failed : Bool) (last : Option LinkCause) (links : ℕ)
    → (status_given run.LinkFault failed last links ≡ LinkFault) ⊎ (rank (status_given run.LinkFault failed last links) < 3)
given-dialled true last links = inr (omega arith)
given-dialled false last links = inl refl

given-refused : (end : RunEnd) (failed : Bool) (code links : ℕ)
    → (status_given end failed (Some (Refused code)) links ≡ PeerRefused code) ⊎ (rank (status_given end failed (Some (Refused code)) links) < 4)
given-refused run.NoMemory failed code links = inr (omega arith)
given-refused run.NoThread failed code links = inr (omega arith)
given-refused run.LinkFault true code links = inr (omega arith)
given-refused run.LinkFault false code links = inr (omega arith)
given-refused end true code links = inr (omega arith)
given-refused run.Closed false code links = inl refl
given-refused run.Left false code links = inl refl
given-refused run.Worn false code links = inl refl

given-worn : (end : RunEnd) (failed : Bool) (cause : LinkCause) (links count : ℕ) → is_final cause ≡ false → HasAll end links count → count ≡ 256
    → (status_given end failed (Some cause) links ≡ LinkEnded cause) ⊎ (rank (status_given end failed (Some cause) links) < 5)
given-worn run.NoMemory failed cause links count other all many = inr (omega arith)
given-worn run.NoThread failed cause links count other all many = inr (omega arith)
given-worn run.LinkFault true cause links count other all many = inr (omega arith)
given-worn run.LinkFault false cause links count other all many = inr (omega arith)
given-worn end true cause links count other all many = inr (omega arith)
given-worn run.Closed false cause links count other all many = inl (ended-other cause links other (omega arith))
given-worn run.Left false cause links count other all many = inl (ended-other cause links other (omega arith))
given-worn run.Worn false cause links count other all many = inl (ended-other cause links other (omega arith))

-- ---- what is said of the status

module _ (config : Config) (until row : ℕ) (refused : Type 0) (links : ℕ) (turns : List ServerTurn) (a c : ℕ) (last : Option LinkCause) where
  abbrev At : RunEnd → Type 0
  At end = Facts config until end row refused links turns a c last

  abbrev causes : List LinkCause
  causes = closings (places_of config (plain turns))

  abbrev Says : Status → Type 0
  Says status = Because status (of 0 turns) (plain turns) causes a c row refused

  ended-says : (end : RunEnd) (f : At end) → links ≡ length f.earlier + 1
      → (ended_status last links ≡ Done → LeftAtEnd (of 0 turns) × HasFinished (plain turns))
      → ((cause : LinkCause) → last ≡ Some cause → is_final cause ≡ false → HasLeave (of 0 turns)) → Says (ended_status last links)
  ended-says end f all done left =
      ended-because (of 0 turns) (plain turns) causes f.earlier a c row refused last links f.closes f.each all f.few done left

  closed-finally : (f : At run.Closed) (cause : LinkCause) → last ≡ Some cause → is_final cause ≡ false → HasLeave (of 0 turns)
  closed-finally f cause is other =
      let (quiet, (last_cause, final, last_is)) = f.ends in
      let same : last_cause ≡ cause = let e : Some last_cause ≡ Some cause = sym last_is ∙ is in cc in
      absurd (true≢false (sym final ∙ ap is_final same ∙ other))

  closed-done : (f : At run.Closed) → false ≡ ((a == 16) || (c == 16)) → ended_status last links ≡ Done → ⊥
  closed-done f sound done =
      let rows = no-row a c sound in
      let (quiet, (cause, final, is)) = f.ends in
      not-done last links cause final is (λ left. closed-leave config a c rows.0 rows.1 turns f.asks quiet (f.last_is ∙ left)) done

  worn-done : (f : At run.Worn) → ended_status last links ≡ Done → ⊥
  worn-done f done =
      let (many, left, (cause, other, is)) = f.ends in
      let e : LinkEnded cause ≡ Done =
      sym (ended-other cause links other (omega (arith, f.all, many))) ∙ ap (λ l. ended_status l links) (sym is) ∙ done in
      cc

  -- why the status is given
  pub says : (end : RunEnd) (failed : Bool) → failed ≡ ((a == 16) || (c == 16)) → At end → Says (status_given end failed last links)
  says run.NoMemory failed is f = tt
  says run.NoThread failed is f = f.ends
  says run.LinkFault true is f = failed-row a c is
  says run.LinkFault false is f = f.ends
  says run.Closed true is f = failed-row a c is
  says run.Closed false is f = ended-says run.Closed f f.all (λ done. absurd (closed-done f is done)) (closed-finally f)
  says run.Left true is f = failed-row a c is
  says run.Left false is f = ended-says run.Left f f.all (λ done. (f.ends, left-finished turns f.ends)) (λ cause at other. left-has turns f.ends)
  says run.Worn true is f = failed-row a c is
  says run.Worn false is f = ended-says run.Worn f f.all (λ done. absurd (worn-done f done)) (λ cause at other. f.ends.1)

  -- each status that stands is given, unless one with a lesser rank is
  pub is-given : (end : RunEnd) (failed : Bool) (starts starts' : ℕ) → failed ≡ ((a == 16) || (c == 16)) → StopsFor end row starts starts' → At end
      → IsGiven (status_given end failed last links) causes a c row starts starts'
  is-given end failed starts starts' is stops f = record {
    threads = λ more.
        subst (λ (e : RunEnd). (status_given e failed last links ≡ NoThread) ⊎ (rank (status_given e failed last links) < 1)) (sym (stops.threads more)) (inl refl);
    dialled = λ full.
        subst (λ (e : RunEnd). (status_given e failed last links ≡ LinkFault) ⊎ (rank (status_given e failed last links) < 3)) (sym (stops.dials full))
        (given-dialled failed last links);
    sockets = λ over.
        subst (λ (b : Bool). (status_given end b last links ≡ DatagramFault) ⊎ (rank (status_given end b last links) < 2)) (sym (is ∙ row-failed a c over))
        (given-failed end last links);
    refused = λ code (front, (back, holds)).
        let same = final-last f.earlier last front back (Refused code) f.each refl (sym f.closes ∙ holds) in
        subst (λ (l : Option LinkCause). (status_given end failed l links ≡ PeerRefused code) ⊎ (rank (status_given end failed l links) < 4)) (sym same)
        (given-refused end failed code links);
    worn = λ cause worn.
        let (same, other, many) =
        worn-last f.earlier last cause f.each (omega (arith, f.few)) (subst (λ l. AreWorn l cause) f.closes worn) in
        subst (λ (l : Option LinkCause). (status_given end failed l links ≡ LinkEnded cause) ⊎ (rank (status_given end failed l links) < 5)) (sym same)
        (given-worn end failed cause links (length f.earlier + 1) other f.all many);
  }

  is-worn : (f : At run.Worn) → (cause : LinkCause) × AreWorn causes cause
  is-worn f =
      let (many, left, (cause, other, is)) = f.ends in
      (cause, subst (λ l. AreWorn l cause) (sym (f.closes ∙ ap (λ l. f.earlier ++ option_to_list l) is)) (worn-holds f.earlier cause f.each other many))

  -- where nothing else ended the run, the agent took its leave at its end
  pub leaves-at : (end : RunEnd) (failed : Bool) → failed ≡ ((a == 16) || (c == 16)) → At end → 3 < rank (status_given end failed last links)
      → ((cause : LinkCause) → ¬ AreWorn causes cause) → LeavesAfterUntil until (plain turns)
  leaves-at run.NoMemory failed is f high unworn = absurd (omega arith)
  leaves-at run.NoThread failed is f high unworn = absurd (omega arith)
  leaves-at run.LinkFault true is f high unworn = absurd (omega arith)
  leaves-at run.LinkFault false is f high unworn = absurd (omega arith)
  leaves-at end true is f high unworn = absurd (omega arith)
  leaves-at run.Closed false is f high unworn = λ front back left whole.
      let rows = no-row a c is in
      absurd (no-leave a c rows.0 rows.1 turns f.asks f.ends.0 front back left whole)
  leaves-at run.Left false is f high unworn =
      let rows = no-row a c is in
      left-leaves config until a c rows.0 rows.1 turns f.run f.asks f.ends
  leaves-at run.Worn false is f high unworn = let worn = is-worn f in absurd (unworn worn.0 worn.1)
