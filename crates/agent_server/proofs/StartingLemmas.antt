-- How a run starts, and how it ends where no worker was started.
use Rattle.std.proofs.Common.{◌≡◌, ◌≢◌, ℕ, zero, suc, ◌+◌, ◌<◌, ◌≤◌, ◌⊎◌, inl, inr, max, Bool, true, false, cond, ◌||◌, map, List, [], ◌∷◌, ◌++◌, length, Option, Some, None, Result, Ok, Err, IfOk, IfErr, IfSome, IfNone, IsSome, MatchResult, is_some, true≢false, vec_capacity, refl, sym, ap, ◌∙◌, subst, append_assoc, arith}
use Rattle.std.proofs.lemmas.Bool.{cases_order}
use Rattle.std.proofs.lemmas.List.{append-nil, same_from_push}
use Rattle.std.proofs.lemmas.List.Elements.{All-nil}
use Rattle.std.proofs.lemmas.List.Sums.{count_by-le-length, sum_by-append}
use Rattle.std.specs.Bool.{then_some}
use Rattle.wire_core.specs.Counts.{Rose}
use Rattle.atomic_table.specs.Seated.{TableId}
use Rattle.radius_packet.specs.declared.reasons.Via.{Via}
use Rattle.radius_packet.specs.declared.reasons.Via.TheVariants.{Auth, Acct}
use Rattle.agent_settings.specs.declared.config.Config.{Config}
use Rattle.agent_status.specs.declared.status.Status.{Status}
use Rattle.agent_status.specs.declared.status.Status.TheVariants.{DatagramFault, LinkFault, OutOfMemory}
use Rattle.wire_devices.specs.Dialling.{Dials}
use Rattle.wire_devices.specs.Links.{Inlet, IsFreshInlet, Outlet}
use Rattle.wire_devices.specs.Sockets.{Socket, IsFreshSocket}
use Rattle.wire_devices.specs.Telling.{TellsOnly}
use Rattle.turnstile.specs.declared.pass.PassOf.{PassOf}
use Rattle.turnstile.specs.declared.view.Known.{Known}
use Rattle.turnstile.specs.Knowing.{Carries, left_of, right_of}
use Rattle.turnstile.specs.Passes.{known}
use Rattle.turnstile.specs.Turns.{In, Numbered, greatest, least, of, plain, without}
use Rattle.agent_events.specs.declared.events.Input.{Input}
use Rattle.agent_events.specs.declared.events.Input.TheVariants as inputs
use Rattle.agent_server.specs.declared.desk.AgentDesk.{AgentDesk}
use Rattle.agent_server.specs.declared.desk.DeskEnd.{DeskEnd}
use Rattle.server_workers.specs.declared.base.RunBase.{RunBase}
use Rattle.server_workers.specs.declared.heard.Heard.{Heard}
use Rattle.server_workers.specs.declared.link_making.Dialling.TheVariants as dialling
use Rattle.server_workers.specs.declared.running.Past.{Past}
use Rattle.server_workers.specs.declared.running.Twins.{Twins}
use Rattle.agent_server.specs.declared.stand.FirstLink.{FirstLink}
use Rattle.agent_server.specs.declared.stand.Stand.{Stand}
use Rattle.agent_server.specs.declared.team.Team.{Team}
use Rattle.agent_server.specs.declared.team.Unteamed.{Unteamed}
use Rattle.agent_server.specs.declared.team.Workers.{Workers}
use Rattle.server_workers.specs.declared.links.Pair.{Pair}
use Rattle.agent_server.specs.declared.trail.Trail.{Trail}
use Rattle.server_workers.specs.declared.workers.Ended.TheVariants as ended
use Rattle.server_workers.specs.declared.workers.Worker.{Worker}
use Rattle.server_workers.specs.declared.workers.Worker.TheVariants as worker
use Rattle.agent_server.specs.Desks.{AreRead, HasRead, HasSent, StandsBy, event}
use Rattle.server_workers.specs.Entries.{EachEntry, RunTurn, is_entry_of, is_tick, replies_by, ticks, turn_of}
use Rattle.server_workers.specs.Going.{SeenLast, Went}
use Rattle.server_workers.specs.Running.{Dialled, IsFinishedTick, NoLeave, Opened, RoseBy, StartedAs}
use Rattle.agent_server.specs.Runs.{IsRun, has_left, places_of, entries_recorded}
use Rattle.agent_events.specs.Kinds.{is_leave}
use Rattle.run_record.specs.Recordings.{Sending}
use Rattle.agent_server.specs.declared.desk.Tools.{Tools}
use Rattle.agent_server.specs.Server.{EndsEarly, HasPassed, HasTrail, Holds, RunTold, Served}
use Rattle.server_workers.specs.Serving.{IsTick, WasRead}
use Rattle.server_workers.specs.Serving.Spans.{no_more}
use Rattle.server_workers.specs.SocketReading.{ReadsSocket}
use Rattle.server_workers.specs.Segments.{IsClosed, ServerTurn}
use Rattle.agent_server.specs.Starting.{Alike, BeganFrom, FinishedAlone, FirstFails, FirstOpened, IsAlone, IsLinkReader, IsLinkReaderOf, IsRead, IsReader, IsReaderOf, IsSocketBack, IsStart, StartsFor}
use Rattle.server_workers.specs.Workers.{CanRun, Ran}
use Rattle.agent_server.proofs.AskingLemmas.{each-at}
use Rattle.server_workers.proofs.GoingLemmas.{went-on}
use Rattle.server_workers.proofs.LinkOverLemmas.{each-weaker}
use Rattle.agent_server.proofs.SpanLemmas.{finished-by, leave-there}
use Rattle.server_workers.proofs.TurnLemmas.{of-append}

-- ---- what is left of a turnstile that was closed

-- nothing was given to a sender
pub none-sent : (sender : Option Sending) → HasSent sender sender []
none-sent None = refl
none-sent (Some s) = (s, refl, refl, sym (append-nil (map event s.told)))

module _ {C : Type 0} (readings : C → Option (List ℕ)) where
  pub read-at : (desk : AgentDesk C) (base : RunBase) (turns seen : List ServerTurn) (end : DeskEnd C) → StandsBy readings desk base (plain turns)
      → (turns ≡ seen) × Numbered turns
      → end ≡ record { tools = record { clock = desk.clock; sender = desk.sender }; entries = desk.entries; closed = desk.closed } → IsRead readings end.tools base seen
  read-at desk base turns seen end stands (same, numbered) is =
      subst (λ ts. IsRead readings end.tools base ts) same (record {
        run = stands.run;
        numbered = numbered;
        clock_read = subst (λ (e : DeskEnd C). HasRead (readings e.tools.clock) base.before (plain turns)) (sym is) stands.clock;
        sent = subst (λ (e : DeskEnd C). HasSent base.sender e.tools.sender (entries_recorded base.config (plain turns))) (sym is) stands.sent;
      })

  pub read-began : (tools : Tools C) (base : RunBase) (seen : List ServerTurn) → IsRead readings tools base seen → BeganFrom readings base tools
  read-began tools base seen read = record { turns = plain seen; run = read.run; clock_read = read.clock_read; of_record = read.sent }

  -- no turn was taken
  pub none-began : (tools : Tools C) (base : RunBase) → HasRead (readings tools.clock) base.before [] → tools.sender ≡ base.sender → BeganFrom readings base tools
  none-began tools base read sender = record {
    turns = [];
    run = tt;
    clock_read = read;
    of_record = subst (λ (s : Option Sending). HasSent s tools.sender []) sender (none-sent tools.sender);
  }

  pub carries-on : {I O E : Type 0} (base : RunBase) (r : Result (Stand C I O) E) (pass : PassOf (AgentDesk C) Input Heard) → IfOk r (λ stand. stand.pass ≡ pass)
      → Carries (StandsBy readings) (known pass) base → IfOk r (λ stand. Carries (StandsBy readings) (known stand.pass) base)
  carries-on base (Ok stand) pass same carries = subst (λ p. Carries (StandsBy readings) (known p) base) (sym same) carries
  carries-on base (Err refused) pass same carries = tt

-- ---- the first link

module _ {C : Type 0} where
  -- what is seen of each number where the writer has all of them
  pub alone-went : (k l : Known (AgentDesk C) Input Heard) (mine : List RunTurn) → k.numbers ≡ 0 ∷ 1 ∷ 2 ∷ 3 ∷ [] → k.seen ≡ [] → Went mine k l
      → (of 0 l.seen ≡ mine) × IsAlone l.seen
  alone-went k l mine numbers none went =
      let low : least k.numbers ≡ 0 = ap least numbers in
      let others : (n : ℕ) → In n (0 ∷ 1 ∷ 2 ∷ 3 ∷ []) → n ≢ 0 → of n l.seen ≡ [] =
      λ n is other. went.others n (subst (In n) (sym numbers) is) (λ e. other (e ∙ low)) ∙ ap (of n) none in (
        subst (λ n. of n l.seen ≡ of n k.seen ++ mine) low went.own ∙ ap (λ s. of 0 s ++ mine) none,
        (
          others 1 (inr (inl refl)) (λ e. omega (arith, e)),
          others 2 (inr (inr (inl refl))) (λ e. omega (arith, e)),
          others 3 (inr (inr (inr (inl refl)))) (λ e. omega (arith, e)),
        ),
      )

tick-stays : (ask : Input) (heard : Heard) → IsTick ask → is_leave ask ≡ false
tick-stays inputs.Tick heard is = refl
tick-stays inputs.Up heard is = absurd is
tick-stays inputs.Ready heard is = absurd is
tick-stays inputs.Down heard is = absurd is
tick-stays inputs.Drain heard is = absurd is
tick-stays inputs.Leave heard is = absurd is
tick-stays (inputs.Message octets) heard is = absurd is
tick-stays (inputs.Broken fault) heard is = absurd is
tick-stays (inputs.Datagram via address port octets) heard is = absurd is

up-ticks : (mine : List RunTurn) (heard : Heard) → ticks (mine ++ Some (inputs.Up, heard) ∷ []) ≤ length mine
up-ticks mine heard =
    let sum : ticks (mine ++ Some (inputs.Up, heard) ∷ []) ≡ ticks mine + 0 =
    sum_by-append (λ t. cond (is_entry_of is_tick t) 1 0) mine (Some (inputs.Up, heard) ∷ []) in
    let few : ticks mine ≤ length mine = count_by-le-length (is_entry_of is_tick) mine in
    omega (arith, sum, few)

module _ {C D I O : Type 0} (told : D → Socket) (hears : I → Inlet) (speaks : O → Outlet) where
  pub first-opened : (k l m : Known (AgentDesk C) Input Heard) (d e : Dials) (first : FirstLink D I O) (mine : List RunTurn) (answer : Option Heard) (heard : Heard)
      → k.numbers ≡ 0 ∷ 1 ∷ 2 ∷ 3 ∷ [] → k.seen ≡ [] → Went mine k l → Dialled hears speaks (dialling.Made first.pair.link_in first.pair.link_out) mine d e
      → answer ≡ Some heard → Went (turn_of inputs.Up answer ∷ []) l m → SeenLast (turn_of inputs.Up answer) l m
      → IsFreshSocket (told first.twins.auth) → IsFreshSocket (told first.twins.acct) → FirstOpened hears speaks told first m.seen d e
  first-opened k l m d e first mine answer heard numbers none went dialled is up last auth acct =
      let turn : RunTurn = Some (inputs.Up, heard) in
      let up' : Went (turn ∷ []) l m = subst (λ (r : Option Heard). Went (turn_of inputs.Up r ∷ []) l m) is up in
      let last' : SeenLast turn l m = subst (λ (r : Option Heard). SeenLast (turn_of inputs.Up r) l m) is last in
      let now = alone-went k m (mine ++ turn ∷ []) numbers none (went-on mine (turn ∷ []) k l m went up') in
      let before : List ServerTurn = l.seen ++ last'.between in
      let low : least l.numbers ≡ 0 = ap least (went.numbers ∙ numbers) in
      let whole : m.seen ≡ before ++ (0, turn) ∷ [] = subst (λ (n : ℕ). m.seen ≡ before ++ (n, turn) ∷ []) low last'.seen in
      let own : of 0 before ≡ mine =
      (same_from_push (of 0 before) mine turn turn (sym (of-append 0 before ((0, turn) ∷ [])) ∙ sym (ap (of 0) whole) ∙ now.0)).0 in
      let three : of 3 before ≡ [] = sym (append-nil (of 3 before)) ∙ sym (of-append 3 before ((0, turn) ∷ [])) ∙ sym (ap (of 3) whole) ∙ now.1.2 in
      record {
        fresh_in = dialled.ends.1;
        fresh_out = dialled.ends.2;
        auth = auth;
        acct = acct;
        alone = now.1;
        opened = record {
          before = before;
          between = record {
            segs = [];
            spanned = record {
              front = before;
              dialled = subst (EachEntry (λ ask heard. IsTick ask)) (sym own) dialled.asks;
              alone = three;
              whole = sym (append-nil before);
              spans = no_more;
            };
            closed = All-nil IsClosed;
            read = All-nil WasRead;
            quiet = subst NoLeave (sym own) (each-weaker (λ ask heard. IsTick ask) (λ ask heard. is_leave ask ≡ false) mine tick-stays dialled.asks);
          };
          opened = heard;
          whole = whole;
        };
        dialled = subst (λ (ts : List RunTurn). RoseBy (ticks ts) d.faults e.faults) (sym now.0)
            (let few = up-ticks mine heard in let rose = dialled.faults in omega (arith, few, rose));
        grows = dialled.grows;
        row = dialled.ends.0;
      }

module _ {C I O : Type 0} (hears : I → Inlet) (speaks : O → Outlet) where
  -- the run was at its end before a link was made
  pub dial-finished : (k l : Known (AgentDesk C) Input Heard) (d e : Dials) (mine : List RunTurn) → d.row ≡ 0 → k.numbers ≡ 0 ∷ 1 ∷ 2 ∷ 3 ∷ [] → k.seen ≡ []
      → Went mine k l → Dialled hears speaks dialling.Finished mine d e → Rose d.faults e.faults × ((e.row ≡ 16) ⊎ ((0 < e.row) × FinishedAlone l.seen))
  dial-finished k l d e mine low numbers none went dialled =
      let now = alone-went k l mine numbers none went in
      let some = dialled.ends.0 in (
        dialled.failed (omega (arith, low, some)),
        inr (
          some,
          record {
            asks = subst (EachEntry (λ ask heard. IsTick ask)) (sym now.0) dialled.asks;
            last = subst (λ (ts : List RunTurn). (front : List RunTurn) × (x : RunTurn) × (ts ≡ front ++ x ∷ []) × IsFinishedTick x) (sym now.0) dialled.ends.2;
            alone = now.1;
          },
        ),
      )

-- ---- the clock's readings

-- where only the writer took turns, these are all
plain-own : (seen : List ServerTurn) → Numbered seen → IsAlone seen → plain seen ≡ of 0 seen
plain-own [] numbered alone = refl
plain-own ((zero, x) ∷ seen) numbered alone = ap (λ ts. x ∷ ts) (plain-own seen numbered.1 alone)
plain-own ((suc zero, x) ∷ seen) numbered alone = let e : x ∷ of 1 seen ≡ [] = alone.0 in cc
plain-own ((suc (suc zero), x) ∷ seen) numbered alone = let e : x ∷ of 2 seen ≡ [] = alone.1 in cc
plain-own ((suc (suc (suc zero)), x) ∷ seen) numbered alone = let e : x ∷ of 3 seen ≡ [] = alone.2 in cc
plain-own ((suc (suc (suc (suc n))), x) ∷ seen) numbered alone = let low = numbered.0 in absurd (omega (arith, low))

at-or-below : (a b : ℕ) → (a ≤ b) ⊎ (b < a)
at-or-below a b = elim (cases_order a b) as (λ _. (a ≤ b) ⊎ (b < a)) [
  | inl same ↦ inl (omega (arith, same))
  | inr either ↦ elim either as (λ _. (a ≤ b) ⊎ (b < a)) [ inl less ↦ inl (omega (arith, less)) | inr more ↦ inr more ]
]

abbrev HasSuch : List ℕ → ℕ → Type 0
HasSuch readings until = (reading : ℕ) × Holds readings reading × (until ≤ reading)

such-later : (r : ℕ) (readings : List ℕ) (until : ℕ) → HasSuch readings until → HasSuch (r ∷ readings) until
such-later r readings until (reading, (front, (back, is)), late) = (reading, (r ∷ front, (back, ap (λ rs. r ∷ rs) is)), late)

-- the moment is the greatest reading so far
such-here : (until g r : ℕ) (readings : List ℕ) → until ≤ max g r → ((0 < until) × (until ≤ g)) ⊎ HasSuch (r ∷ readings) until
such-here until g r readings late =
    elim (at-or-below until r) as (λ _. ((0 < until) × (until ≤ g)) ⊎ HasSuch (r ∷ readings) until) [
      | inl low ↦ inr (r, ([], (readings, refl)), low)
      | inr high ↦ inl (omega (arith, high), omega (arith, high, late))
    ]

passed-from : (until g : ℕ) (front back : List RunTurn) (ask : Input) (heard : Heard) (readings : List ℕ) → AreRead g (front ++ Some (ask, heard) ∷ back) readings
    → until ≤ heard.moment → ((0 < until) × (until ≤ g)) ⊎ HasSuch readings until
passed-from until g [] back ask heard [] read late = absurd read
passed-from until g [] back ask heard (r ∷ rs) read late = such-here until g r rs (let is = read.0 in omega (arith, late, is))
passed-from until g (turn ∷ front) back ask heard [] read late = absurd read
passed-from until g (None ∷ front) back ask heard (r ∷ rs) read late =
    elim (passed-from until g front back ask heard rs read late) as (λ _. ((0 < until) × (until ≤ g)) ⊎ HasSuch (r ∷ rs) until) [
      | inl low ↦ inl low
      | inr such ↦ inr (such-later r rs until such)
    ]
passed-from until g (Some entry ∷ front) back ask heard (r ∷ rs) read late =
    elim (passed-from until entry.1.moment front back ask heard rs read.1 late) as (λ _. ((0 < until) × (until ≤ g)) ⊎ HasSuch (r ∷ rs) until) [
      | inl low ↦ such-here until g r rs (let is = read.0 in let under = low.1 in omega (arith, under, is))
      | inr such ↦ inr (such-later r rs until such)
    ]

such-behind : (before readings : List ℕ) (until : ℕ) → HasSuch readings until → HasSuch (before ++ readings) until
such-behind before readings until (reading, (front, (back, is)), late) =
    (reading, (before ++ front, (back, ap (λ rs. before ++ rs) is ∙ sym (append_assoc before front (reading ∷ back)))), late)

left-by : (b c : Bool) → (b || c) ≡ true → c ≡ false → b ≡ true
left-by true c is stays = refl
left-by false c is stays = let e : true ≡ false = sym is ∙ stays in cc

-- an entry had reached that moment, so a reading had
has-passed : (told : Option (List ℕ)) (before : List ℕ) (until : ℕ) (front back : List RunTurn) (ask : Input) (heard : Heard)
    → HasRead told before (front ++ Some (ask, heard) ∷ back) → until ≤ heard.moment → HasPassed told until
has-passed told before until front back ask heard has late = λ all is.
    let (readings, whole, read) = has all is in
    elim (passed-from until 0 front back ask heard readings read late) as (λ _. HasSuch all until) [
      | inl none ↦ let some = none.0 in let low = none.1 in absurd (omega (arith, some, low))
      | inr such ↦ subst (λ rs. HasSuch rs until) (sym whole) (such-behind before readings until such)
    ]

-- among Ticks is no Leave
no-leave : (config : Config) (front : List RunTurn) (ask : Input) (heard : Heard) → EachEntry (λ ask heard. IsTick ask) (front ++ Some (ask, heard) ∷ [])
    → (has_left (places_of config front) || is_leave ask) ≡ true → ⊥
no-leave config front ask heard each left =
    let stays = tick-stays ask heard (each-at (λ ask heard. IsTick ask) front [] ask heard each) in
    let (f, h, b, whole) = leave-there config front (left-by (has_left (places_of config front)) (is_leave ask) left stays) in
    each-at (λ ask heard. IsTick ask) f (b ++ Some (ask, heard) ∷ []) inputs.Leave h
    (subst (EachEntry (λ ask heard. IsTick ask)) (ap (λ ts. ts ++ Some (ask, heard) ∷ []) whole ∙ append_assoc f (Some (inputs.Leave, h) ∷ b) (Some (ask, heard) ∷ [])) each)

-- by the last Tick the run was at its end, and the agent took no leave, so the time was over
finished-late : (told : Option (List ℕ)) (before : List ℕ) (config : Config) (until : ℕ) (turns front : List RunTurn) (x : RunTurn) → turns ≡ front ++ x ∷ []
    → IsFinishedTick x → EachEntry (λ ask heard. IsTick ask) turns → IsRun config until turns → HasRead told before turns → HasPassed told until
finished-late told before config until turns front None is tick each run read = absurd tick
finished-late told before config until turns front (Some entry) is tick each run read =
    let run' : IsRun config until (front ++ Some (entry.0, entry.1) ∷ []) = subst (IsRun config until) is run in
    let each' : EachEntry (λ ask heard. IsTick ask) (front ++ Some entry ∷ []) = subst (EachEntry (λ ask heard. IsTick ask)) is each in
    let read' : HasRead told before (front ++ Some (entry.0, entry.1) ∷ []) = subst (HasRead told before) is read in
    elim (finished-by config until front [] entry.0 entry.1 run' tick.1) as (λ _. HasPassed told until) [
      | inl late ↦ has-passed told before until front [] entry.0 entry.1 read' late
      | inr left ↦ absurd (no-leave config front entry.0 entry.1 each' left)
    ]

pub finished-passed : {C : Type 0} (readings : C → Option (List ℕ)) (tools : Tools C) (base : RunBase) (seen : List ServerTurn) → IsRead readings tools base seen → FinishedAlone seen
    → HasPassed (readings tools.clock) base.until
finished-passed readings tools base seen read finished =
    let same = plain-own seen read.numbered finished.alone in
    let (front, x, is, tick) = finished.last in
    finished-late (readings tools.clock) base.before base.config base.until (of 0 seen) front x is tick finished.asks (subst (IsRun base.config base.until) same read.run)
    (subst (HasRead (readings tools.clock) base.before) same read.clock_read)

-- ---- the passes of the workers

-- what is known by the four passes into which the writer's was split
pub record Splits {C : Type 0} (k l link acct auth : Known (AgentDesk C) Input Heard) : Type 0 where
  pub own : l.numbers ≡ 0 ∷ []
  pub seen : l.seen ≡ k.seen
  pub first : l.first ≡ k.first
  pub link_numbers : link.numbers ≡ 3 ∷ []
  pub link_seen : link.seen ≡ l.seen
  pub link_first : link.first ≡ l.first
  pub acct_numbers : acct.numbers ≡ 2 ∷ []
  pub acct_seen : acct.seen ≡ l.seen
  pub acct_first : acct.first ≡ l.first
  pub auth_numbers : auth.numbers ≡ 1 ∷ []
  pub auth_seen : auth.seen ≡ l.seen
  pub auth_first : auth.first ≡ l.first

module _ {C : Type 0} where
  -- what is left of the numbers, and which is given away
  left-numbers : (k l : Known (AgentDesk C) Input Heard) (ns : List ℕ) → l ≡ left_of k → k.numbers ≡ ns → l.numbers ≡ without (greatest ns) ns
  left-numbers k l ns is numbers = ap (λ (v : Known (AgentDesk C) Input Heard). v.numbers) is ∙ ap (λ ns. without (greatest ns) ns) numbers

  right-numbers : (k r : Known (AgentDesk C) Input Heard) (ns : List ℕ) → r ≡ right_of k → k.numbers ≡ ns → r.numbers ≡ greatest ns ∷ []
  right-numbers k r ns is numbers = ap (λ (v : Known (AgentDesk C) Input Heard). v.numbers) is ∙ ap (λ ns. greatest ns ∷ []) numbers

  pub splits-of : (k l1 l2 l3 link acct auth : Known (AgentDesk C) Input Heard) → k.numbers ≡ 0 ∷ 1 ∷ 2 ∷ 3 ∷ []
      → l1 ≡ left_of k → link ≡ right_of k → l2 ≡ left_of l1 → acct ≡ right_of l1 → l3 ≡ left_of l2 → auth ≡ right_of l2 → Splits k l3 link acct auth
  splits-of k l1 l2 l3 link acct auth numbers l1_is link_is l2_is acct_is l3_is auth_is =
      let seen = λ (v : Known (AgentDesk C) Input Heard). v.seen in
      let first = λ (v : Known (AgentDesk C) Input Heard). v.first in
      let one : l1.numbers ≡ 0 ∷ 1 ∷ 2 ∷ [] = left-numbers k l1 (0 ∷ 1 ∷ 2 ∷ 3 ∷ []) l1_is numbers in
      let two : l2.numbers ≡ 0 ∷ 1 ∷ [] = left-numbers l1 l2 (0 ∷ 1 ∷ 2 ∷ []) l2_is one in
      let seen1 : l1.seen ≡ k.seen = ap seen l1_is in
      let seen2 : l2.seen ≡ l1.seen = ap seen l2_is in
      let seen3 : l3.seen ≡ l2.seen = ap seen l3_is in
      let first1 : l1.first ≡ k.first = ap first l1_is in
      let first2 : l2.first ≡ l1.first = ap first l2_is in
      let first3 : l3.first ≡ l2.first = ap first l3_is in
      let link_seen : link.seen ≡ k.seen = ap seen link_is in
      let link_first : link.first ≡ k.first = ap first link_is in
      let acct_seen : acct.seen ≡ l1.seen = ap seen acct_is in
      let acct_first : acct.first ≡ l1.first = ap first acct_is in
      let auth_seen : auth.seen ≡ l2.seen = ap seen auth_is in
      let auth_first : auth.first ≡ l2.first = ap first auth_is in
      record {
        own = left-numbers l2 l3 (0 ∷ 1 ∷ []) l3_is two;
        seen = seen3 ∙ seen2 ∙ seen1;
        first = first3 ∙ first2 ∙ first1;
        link_numbers = right-numbers k link (0 ∷ 1 ∷ 2 ∷ 3 ∷ []) link_is numbers;
        link_seen = link_seen ∙ sym (seen3 ∙ seen2 ∙ seen1);
        link_first = link_first ∙ sym (first3 ∙ first2 ∙ first1);
        acct_numbers = right-numbers l1 acct (0 ∷ 1 ∷ 2 ∷ []) acct_is one;
        acct_seen = acct_seen ∙ sym (seen3 ∙ seen2);
        acct_first = acct_first ∙ sym (first3 ∙ first2);
        auth_numbers = right-numbers l2 auth (0 ∷ 1 ∷ []) auth_is two;
        auth_seen = auth_seen ∙ sym seen3;
        auth_first = auth_first ∙ sym first3;
      }

-- ---- what the workers begin with

module _ {C D I O : Type 0} (told : D → Socket) (hears : I → Inlet) (speaks : O → Outlet) where
  pub link-started : (turnstile : TableId) (k l : Known (AgentDesk C) Input Heard) (handed : Worker (AgentDesk C) D I) (first : FirstLink D I O) (past : Past I O) (d e : Dials)
      → IsLinkReaderOf turnstile 3 l first.pair.link_in first.twins handed → l.numbers ≡ 0 ∷ [] → l.seen ≡ k.seen → FirstOpened hears speaks told first k.seen d e
      → past.pairs.items ≡ [] → past.lost ≡ 0 → past.again ≡ 0 → 256 ≤ vec_capacity past.pairs
      → StartedAs hears speaks told turnstile l handed first.pair.link_out past
  link-started turnstile k l (worker.Link alloc shared pass link auth acct) first past d e (place, link_is, auth_is, acct_is) own seen opened none lost again room =
      let three : of 3 l.seen ≡ [] = ap (of 3) seen ∙ opened.alone.2 in
      record {
        table = place.table;
        mine = own;
        theirs = place.numbers;
        seen = place.seen;
        first = place.first;
        fresh_in = subst (λ (i : I). IsFreshInlet (hears i)) (sym link_is) opened.fresh_in;
        fresh_out = opened.fresh_out;
        out = 0;
        retries = 0;
        few = omega (arith, ap length none);
        opened = subst (λ (ps : List (Pair I O)). Opened hears speaks ps l.seen 0 0) (sym none)
            (subst (λ (ts : List ServerTurn). Opened hears speaks [] ts 0 0) (sym seen) opened.opened);
        tally = record {
          lost = lost;
          again = again;
          auth_handed = subst (λ (twin : D). TellsOnly (told twin).handed (replies_by Auth (of 3 l.seen))) (sym auth_is)
              (subst (λ (ts : List RunTurn). TellsOnly (told first.twins.auth).handed (replies_by Auth ts)) (sym three) opened.auth.handed);
          acct_handed = subst (λ (twin : D). TellsOnly (told twin).handed (replies_by Acct (of 3 l.seen))) (sym acct_is)
              (subst (λ (ts : List RunTurn). TellsOnly (told first.twins.acct).handed (replies_by Acct ts)) (sym three) opened.acct.handed);
          room = room;
        };
      }
  link-started turnstile k l (worker.Reader alloc shared pass via socket) first past d e is own seen opened none lost again room = absurd is

module _ {C D I : Type 0} (told : D → Socket) where
  pub reader-starts : (turnstile : TableId) (via : Via) (n : ℕ) (k l : Known (AgentDesk C) Input Heard) (handed : Worker (AgentDesk C) D I) (device : D) (before : Socket)
      → IsReaderOf turnstile n via l device handed → l.seen ≡ k.seen → of n k.seen ≡ [] → Alike before (told device) → before.row ≡ 0
      → StartsFor told via n l before handed
  reader-starts turnstile via n k l (worker.Reader alloc shared pass port socket) device before (place, same, is) seen none alike low = (
    same,
    record {
      numbers = place.numbers;
      seen = place.seen;
      none = ap (of n) seen ∙ none;
      alike = subst (λ (d : D). Alike before (told d)) (sym is) alike;
      row = low;
    },
  )
  reader-starts turnstile via n k l (worker.Link alloc shared pass link auth acct) device before is seen none alike low = absurd is

  pub reader-can-run : (hears : I → Inlet) (turnstile : TableId) (n : ℕ) (via : Via) (k : Known (AgentDesk C) Input Heard) (device : D) (handed : Worker (AgentDesk C) D I)
      → IsReaderOf turnstile n via k device handed → (told device).row ≡ 0 → CanRun told hears handed
  reader-can-run hears turnstile n via k device (worker.Reader alloc shared pass port socket) (place, same, is) low =
      (place.table ∙ sym place.shared, subst (λ (d : D). (told d).row ≡ 0) (sym is) low)
  reader-can-run hears turnstile n via k device (worker.Link alloc shared pass link auth acct) is low = absurd is

  pub link-can-run : (hears : I → Inlet) (turnstile : TableId) (n : ℕ) (k : Known (AgentDesk C) Input Heard) (inlet : I) (twins : Twins D) (handed : Worker (AgentDesk C) D I)
      → IsLinkReaderOf turnstile n k inlet twins handed → IsFreshInlet (hears inlet) → CanRun told hears handed
  link-can-run hears turnstile n k inlet twins (worker.Link alloc shared pass link auth acct) (place, is, auth_is, acct_is) fresh =
      (place.table ∙ sym place.shared, subst (λ (i : I). ((hears i).ends ≡ 0) × ((hears i).faults ≡ 0)) (sym is) (fresh.ends, fresh.faults))
  link-can-run hears turnstile n k inlet twins (worker.Reader alloc shared pass via socket) is fresh = absurd is

module _ {C D I : Type 0} (turnstile : TableId) (n : ℕ) (k : Known (AgentDesk C) Input Heard) where
  pub reader-at : (via : Via) (device : D) (handed : Worker (AgentDesk C) D I) → IsReaderOf turnstile n via k device handed → IsReader turnstile n handed
  reader-at via device (worker.Reader alloc shared pass port socket) (place, same, is) = (place.table, place.numbers)
  reader-at via device (worker.Link alloc shared pass link auth acct) is = absurd is

  link-reader-at : (inlet : I) (twins : Twins D) (handed : Worker (AgentDesk C) D I) → IsLinkReaderOf turnstile n k inlet twins handed → IsLinkReader turnstile n handed
  link-reader-at inlet twins (worker.Link alloc shared pass link auth acct) (place, is, auth_is, acct_is) = (place.table, place.numbers)
  link-reader-at inlet twins (worker.Reader alloc shared pass via socket) is = absurd is

  -- whether or not it was started
  reader-back-at : (via : Via) (device : D) (handed : Worker (AgentDesk C) D I) (start : Result (Worker (AgentDesk C) D I) (Worker (AgentDesk C) D I)) → IsReaderOf turnstile n via k device handed → IsStart handed start
      → MatchResult start (IsReader turnstile n) (IsReader turnstile n)
  reader-back-at via device handed (Ok started) is same = subst (IsReader turnstile n) (sym same) (reader-at via device handed is)
  reader-back-at via device handed (Err back) is same = subst (IsReader turnstile n) (sym same) (reader-at via device handed is)

module _ {C D I : Type 0} (turnstile : TableId) (k : Known (AgentDesk C) Input Heard) (auth acct : D) (link : I) (twins : Twins D) (workers : Workers C D I)
    (auth_is : IsReaderOf turnstile 1 Auth k auth workers.auth) (acct_is : IsReaderOf turnstile 2 Acct k acct workers.acct)
    (link_is : IsLinkReaderOf turnstile 3 k link twins workers.link) where
  pub team-of : (r : Result (Team C D I) (Unteamed C D I))
      → IfOk r (λ team. (team.auth ≡ workers.auth) × (team.acct ≡ workers.acct) × (team.link ≡ workers.link))
      → IfOk r (λ team. IsReaderOf turnstile 1 Auth k auth team.auth × IsReaderOf turnstile 2 Acct k acct team.acct × IsLinkReaderOf turnstile 3 k link twins team.link)
  team-of (Ok team) (auth_same, acct_same, link_same) = (
    subst (IsReaderOf turnstile 1 Auth k auth) (sym auth_same) auth_is,
    subst (IsReaderOf turnstile 2 Acct k acct) (sym acct_same) acct_is,
    subst (IsLinkReaderOf turnstile 3 k link twins) (sym link_same) link_is,
  )
  team-of (Err team) same = tt

  pub unteamed-of : (r : Result (Team C D I) (Unteamed C D I))
      → IfErr r (λ team. IsStart workers.auth team.auth × IsStart workers.acct team.acct × (team.link ≡ workers.link))
      → IfErr r (λ team. MatchResult team.auth (IsReader turnstile 1) (IsReader turnstile 1) × MatchResult team.acct (IsReader turnstile 2) (IsReader turnstile 2)
      × IsLinkReader turnstile 3 team.link)
  unteamed-of (Ok team) same = tt
  unteamed-of (Err team) (auth_same, acct_same, link_same) = (
    reader-back-at turnstile 1 k Auth auth workers.auth team.auth auth_is auth_same,
    reader-back-at turnstile 2 k Acct acct workers.acct team.acct acct_is acct_same,
    subst (IsLinkReader turnstile 3) (sym link_same) (link-reader-at turnstile 3 k link twins workers.link link_is),
  )

-- ---- the reader of a socket, back

some-then : {A : Type 0} (b : Bool) (x : A) → is_some (then_some b x) ≡ b
some-then true x = refl
some-then false x = refl

pub socket-ran : {C D I : Type 0} (told : D → Socket) (hears : I → Inlet) (reader : Worker (AgentDesk C) D I) (socket : D) (pass : PassOf (AgentDesk C) Input Heard) (lost : ℕ)
    (fault : Option Status) (failed : Bool) → Ran told hears reader (ended.Reader socket pass lost fault) → failed ≡ is_some fault
    → IsSocketBack told (Ok reader) (record { pass = pass; socket = socket; lost = lost; failed = failed })
socket-ran told hears (worker.Reader alloc shared begun via made) socket pass lost fault failed (table, (there, fault_is, reads)) is = (
  table,
  subst (λ (b : Bool). ReadsSocket via (known begun) (known pass) (told made) (told socket) lost b)
      (sym (is ∙ ap is_some fault_is ∙ some-then there DatagramFault)) reads,
)
socket-ran told hears (worker.Link alloc shared begun link auth acct) socket pass lost fault failed ran is = absurd ran

-- ---- the end of a run without workers

pub ends-early : {C : Type 0} (readings : C → Option (List ℕ)) (tools : Tools C) (base : RunBase) (seen : List ServerTurn) (status : Status) (d e : Dials) (twin start : Type 0)
    → IsRead readings tools base seen → FirstFails status seen d e twin → EndsEarly status (readings tools.clock) base.until d e twin start
ends-early readings tools base seen OutOfMemory d e twin start read fails = tt
ends-early readings tools base seen LinkFault d e twin start read (rose, inl many) = (rose, inl many)
ends-early readings tools base seen LinkFault d e twin start read (rose, inr (some, finished)) =
    (rose, inr (some, finished-passed readings tools base seen read finished))
ends-early readings tools base seen DatagramFault d e twin start read fails = fails
ends-early readings tools base seen status d e twin start read fails = absurd fails

pub carries-same : {C : Type 0} (readings : C → Option (List ℕ)) (k l : Known (AgentDesk C) Input Heard) (base : RunBase) → l.first ≡ k.first
    → Carries (StandsBy readings) k base → Carries (StandsBy readings) l base
carries-same readings k l base same (desk, is, stands) = (desk, same ∙ is, stands)

pub rose-same : {C : Type 0} (k l : Known (AgentDesk C) Input Heard) (d e : Dials) → l.seen ≡ k.seen → RoseBy (ticks (of 0 k.seen)) d.faults e.faults
    → RoseBy (ticks (of 0 l.seen)) d.faults e.faults
rose-same k l d e same rose = subst (λ (ts : List ServerTurn). RoseBy (ticks (of 0 ts)) d.faults e.faults) (sym same) rose

-- the crew's count of refused starts is as it was
pub served-from : {C D I O : Type 0} (readings : C → Option (List ℕ)) (told : D → Socket) (hears : I → Inlet) (speaks : O → Outlet) (run : Trail C D I O → RunTold C D I O)
    (starts starts' : ℕ) (trail : Option (Trail C D I O)) → starts' ≡ starts
    → IfSome trail (λ t. Served readings told hears speaks (record (run t) { starts = starts' }))
    → IfSome trail (λ t. Served readings told hears speaks (record (run t) { starts = starts }))
served-from readings told hears speaks run starts starts' trail same served =
    subst (λ (n : ℕ). IfSome trail (λ t. Served readings told hears speaks (record (run t) { starts = n }))) same served

-- ---- whether there is a trail

pub none-started : (n : ℕ) → n < n + 3
none-started n = omega arith

pub has-trail : {A : Type 0} (trail : Option A) (before then now : ℕ) → IsSome trail → RoseBy 3 before then → then ≤ now → HasTrail trail before now
has-trail None before then now some rose more = absurd (true≢false (sym some))
has-trail (Some x) before then now some rose more = omega (arith, rose, more)

pub no-trail : {A : Type 0} (trail : Option A) (before then now : ℕ) → trail ≡ None → then < before + 3 → now ≡ then → HasTrail trail before now
no-trail {A} trail before then now none few same = subst (λ (t : Option A). HasTrail t before now) (sym none) (omega (arith, few, same))

pub if-none : {A : Type 0} (o : Option A) (P : Type 0) → P → IfNone o P
if-none None P has = has
if-none (Some x) P has = tt
