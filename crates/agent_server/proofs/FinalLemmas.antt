-- What follows of a run that is over.
use Rattle.std.proofs.Common.{◌≡◌, ◌≢◌, ℕ, ◌+◌, ◌^◌, ◌<◌, ◌≤◌, ◌==◌, inl, inr, Bool, ◌||◌, option_to_list, List, [], ◌∷◌, ◌++◌, length, Option, Some, refl, sym, ap, ◌∙◌, subst, append_assoc, length-append, arith}
use Rattle.std.specs.List.{All}
use Rattle.std.proofs.lemmas.List.{append-nil, append_cancel_left}
use Rattle.std.proofs.lemmas.List.Elements.{All-tail}
use Rattle.agent_settings.specs.declared.config.Config.{Config}
use Rattle.radius_packet.specs.declared.reasons.Via.TheVariants.{Auth, Acct}
use Rattle.peer_machine.specs.declared.LinkCause.{LinkCause}
use Rattle.agent_status.specs.declared.status.Status.{Status}
use Rattle.agent_status.specs.declared.status.Status.TheVariants.{NoThread, OutOfMemory}
use Rattle.wire_devices.specs.Links.{Inlet, Outlet}
use Rattle.wire_devices.specs.Sockets.{Socket}
use Rattle.agent_events.specs.declared.events.Input.TheVariants.{Drain, Up}
use Rattle.turnstile.specs.Turns.{Numbered, StartsWith, of, plain}
use Rattle.server_workers.specs.declared.running.RunEnd.{RunEnd}
use Rattle.server_workers.specs.declared.running.RunEnd.TheVariants as run
use Rattle.server_workers.specs.declared.links.Pair.{Pair}
use Rattle.server_workers.specs.Entries.{HasLeave, EachEntry, EndsWith}
use Rattle.server_workers.specs.LinkReading.{LinkMayTake}
use Rattle.server_workers.specs.Running.{ClosedFor, EndsRun, HasReaders, HasSpare, LeftAtEnd, NoLeave, RunOver, StopsFor}
use Rattle.agent_server.specs.Runs.{IsRun, closed, places_of}
use Rattle.agent_server.specs.Server.{AreWorn, Because, IsGiven, LeavesAfterUntil, Linked, MayTurn, rank, status_given}
use Rattle.server_workers.specs.Serving.{AllBut, IsTick, Span, Spanned, Spans, WasRead}
use Rattle.server_workers.specs.Serving.Spans.{no_more, one_more}
use Rattle.server_workers.specs.SocketReading.{ServedSocket, SocketMayTake}
use Rattle.agent_server.specs.Spans.{closings}
use Rattle.server_workers.specs.Segments.{AreSpans, IsClosed, IsSpan, IsWithin, ServerTurn, flat}
use Rattle.agent_server.proofs.AskingLemmas.{All-left, All-right, Asks, IsOwn, IsWritten, all-of, asks-by, own-asks, within-all, write-tick}
use Rattle.server_workers.proofs.DialLemmas.{each-append}
use Rattle.server_workers.proofs.GrowthLemmas.{all_but-grow, all_but-of, closed_for-grow, ends-grow, first-grow, grow, length-grow, others-follow, readers-grow, spanned-grow}
use Rattle.server_workers.proofs.LinkOverLemmas.{each-weaker}
use Rattle.server_workers.proofs.NextLinkLemmas.{spans-length, spans-reads}
use Rattle.agent_server.proofs.SpanLemmas.{closed-heard, closed-stays, closings-fit, spans-fit, within-after, within-each}
use Rattle.agent_server.proofs.StatusLemmas.{EndsBy, Facts, HasAll, is-given, leaves-at, says}
use Rattle.server_workers.proofs.TurnLemmas.{flat-push, of-append, plain-append}

-- ---- more turns

ends-wider : (end : RunEnd) (row : ℕ) (refused : Type 0) (segs : List (List ServerTurn)) (seen seen' more : List ServerTurn) → of 0 seen' ≡ of 0 seen
    → EndsRun end row refused segs seen → EndsRun end row refused (grow segs more) seen'
ends-wider run.Closed row refused segs seen seen' more own (quiet, (cause, final, ends)) = (
  subst NoLeave (sym own) quiet,
  (cause, final, ends-grow (ClosedFor cause) segs more (λ seg. closed_for-grow cause seg more) ends),
)
ends-wider run.Left row refused segs seen seen' more own ends = subst LeftAtEnd (sym own) ends
ends-wider run.Worn row refused segs seen seen' more own (many, left, (cause, goes_on, ends)) = (
  length-grow segs more ∙ many,
  subst HasLeave (sym own) left,
  (cause, goes_on, ends-grow (ClosedFor cause) segs more (λ seg. closed_for-grow cause seg more) ends),
)
ends-wider run.LinkFault row refused segs seen seen' more own (full, left) = (full, subst HasLeave (sym own) left)
ends-wider run.NoThread row refused segs seen seen' more own (rose, left) = (rose, subst HasLeave (sym own) left)
ends-wider run.NoMemory row refused segs seen seen' more own ends = tt

module _ {I O : Type 0} (hears : I → Inlet) (speaks : O → Outlet) where
  -- more turns were seen, none of them the writer's or a link reader's
  pub over-wider : (end : RunEnd) (row : ℕ) (refused : Type 0) (pairs : List (Pair I O)) (seen seen' : List ServerTurn) (out retries : ℕ)
      → StartsWith seen' seen → of 0 seen' ≡ of 0 seen → of 3 seen' ≡ of 3 seen
      → RunOver hears speaks end row refused pairs seen out retries → RunOver hears speaks end row refused pairs seen' out retries
  over-wider end row refused pairs seen seen' out retries (more, whole) own alone over =
      let none = λ (n : ℕ) (same : of n seen' ≡ of n seen).
      append_cancel_left (of n seen) (of n more) [] (sym (of-append n seen more) ∙ sym (ap (of n) whole) ∙ same ∙ sym (append-nil (of n seen))) in
      let may = others-follow more (none 0 own) (none 3 alone) in
      record {
        served = over.served;
        spare = over.spare;
        paired = over.paired;
        unopened = over.unopened;
        only = over.only;
        segs = grow over.segs more;
        spanned = subst (λ l. Spanned hears speaks over.served (grow over.segs more) l out retries) (sym whole)
            (spanned-grow hears speaks over.served over.segs seen more out retries may over.some over.spanned);
        some = subst (λ n. 0 < n) (sym (length-grow over.segs more)) over.some;
        few = over.few;
        closed = all_but-grow IsClosed over.segs more over.closed;
        first = first-grow over.segs more over.first;
        read = readers-grow end over.segs more over.read;
        ends = ends-wider end row refused over.segs seen seen' more own over.ends;
      }

-- ---- the spans of a run

last-span : (front : List (List ServerTurn)) (seg : List ServerTurn) → AreSpans (front ++ seg ∷ []) → IsSpan seg
last-span [] seg spans = spans
last-span (x ∷ []) seg spans = spans.2
last-span (x ∷ y ∷ front) seg spans = last-span (y ∷ front) seg spans.2

-- where the writer was told in the last span that the link is closed, it is so at the end
told-last : (config : Config) (until : ℕ) (front seg : List ServerTurn) (cause : LinkCause) → IsSpan seg → ClosedFor cause seg
    → IsRun config until (plain (front ++ seg)) → closed (places_of config (plain (front ++ seg))) ≡ Some cause
told-last config until front seg cause s c run =
    let drain : ServerTurn = (0, Some (Drain, c.heard)) in
    let before = plain front ++ plain c.front in
    let whole : plain (front ++ seg) ≡ before ++ (Some (Drain, c.heard) ∷ plain c.back) =
    plain-append front seg
    ∙ ap (λ l. plain front ++ l) (ap (λ (l : List ServerTurn). plain l) c.whole ∙ plain-append c.front (drain ∷ c.back))
    ∙ sym (append_assoc (plain front) (plain c.front) (Some (Drain, c.heard) ∷ plain c.back)) in
    let ended : plain (front ++ seg) ≡ (before ++ (Some (Drain, c.heard) ∷ [])) ++ plain c.back =
    whole ∙ sym (append_assoc before (Some (Drain, c.heard) ∷ []) (plain c.back)) in
    ap (λ l. closed (places_of config l)) ended
    ∙ closed-stays config until (before ++ (Some (Drain, c.heard) ∷ [])) (plain c.back) cause (subst (IsRun config until) ended run)
    (within-each c.back (within-after config until s.opened c.heard s.rest c.front c.back (sym s.whole ∙ c.whole) s.within))
    (sym (closed-heard config until before (plain c.back) Drain c.heard (subst (IsRun config until) whole run)) ∙ c.closed)

told-end : (config : Config) (until : ℕ) (front : List ServerTurn) (segs : List (List ServerTurn)) (cause : LinkCause) → AreSpans segs
    → EndsWith (ClosedFor cause) segs → IsRun config until (plain (front ++ flat segs))
    → closed (places_of config (plain (front ++ flat segs))) ≡ Some cause
told-end config until front segs cause spans (init, seg, is, told) run =
    let whole : front ++ flat segs ≡ (front ++ flat init) ++ seg =
    ap (λ (l : List (List ServerTurn)). front ++ flat l) is ∙ ap (λ l. front ++ l) (flat-push init seg) ∙ sym (append_assoc front (flat init) seg) in
    ap (λ (l : List ServerTurn). closed (places_of config (plain l))) whole
    ∙ told-last config until (front ++ flat init) seg cause (last-span init seg (subst AreSpans is spans)) told
    (subst (λ (l : List ServerTurn). IsRun config until (plain l)) whole run)

ends-by : (end : RunEnd) (row : ℕ) (refused : Type 0) (segs : List (List ServerTurn)) (turns : List ServerTurn) (count : ℕ) (last : Option LinkCause)
    → ((cause : LinkCause) → EndsWith (ClosedFor cause) segs → last ≡ Some cause) → count ≡ length segs
    → EndsRun end row refused segs turns → EndsBy end row refused count last (of 0 turns)
ends-by run.Closed row refused segs turns count last told same (quiet, (cause, final, ends)) = (quiet, (cause, final, told cause ends))
ends-by run.Left row refused segs turns count last told same ends = ends
ends-by run.Worn row refused segs turns count last told same (many, left, (cause, other, ends)) = (same ∙ many, left, (cause, other, told cause ends))
ends-by run.LinkFault row refused segs turns count last told same ends = ends
ends-by run.NoThread row refused segs turns count last told same ends = ends
ends-by run.NoMemory row refused segs turns count last told same ends = tt

has-all : {A : Type 0} (end : RunEnd) (served spare : List A) (count : ℕ) → HasSpare end spare → count ≡ length served
    → HasAll end (length (served ++ spare)) count
has-all {A} run.NoMemory served spare count only same = tt
has-all {A} end served spare count only same = ap (λ l. length (served ++ l)) only ∙ ap length (append-nil served) ∙ sym same

only-spare : {A : Type 0} (end : RunEnd) (failed : Bool) (last : Option LinkCause) (links : ℕ) (spare : List A) → HasSpare end spare
    → status_given end failed last links ≢ OutOfMemory → spare ≡ []
only-spare {A} run.NoMemory failed last links spare only memory = absurd (memory refl)
only-spare {A} end failed last links spare only memory = only

-- each reader ran, but the last where it couldn't be started
readers-but : (end : RunEnd) (segs : List (List ServerTurn)) → HasReaders end segs → AllBut WasRead segs
readers-but run.NoThread segs read = read
readers-but run.NoMemory segs read = read
readers-but end segs read = all_but-of WasRead segs read

readers-whole : (end : RunEnd) (failed : Bool) (last : Option LinkCause) (links : ℕ) (segs : List (List ServerTurn)) → HasReaders end segs
    → status_given end failed last links ≢ NoThread → status_given end failed last links ≢ OutOfMemory → All WasRead segs
readers-whole run.NoThread failed last links segs read thread memory = absurd (thread refl)
readers-whole run.NoMemory failed last links segs read thread memory = absurd (memory refl)
readers-whole end failed last links segs read thread memory = read

module _ {I O : Type 0} (hears : I → Inlet) (speaks : O → Outlet) where
  span-own : (pair : Pair I O) (seg : List ServerTurn) (out retries : ℕ) → Span hears speaks pair seg out retries → EachEntry IsOwn (of 0 seg)
  span-own pair seg out retries s =
      subst (λ (l : List ServerTurn). EachEntry IsOwn (of 0 l)) (sym s.whole)
      (inr tt, each-weaker IsWritten IsOwn (of 0 s.rest) (λ ask heard may. inl may) s.asks)

  -- what the writer and the readers ask in spans
  spans-own : (pairs : List (Pair I O)) (segs : List (List ServerTurn)) (out retries : ℕ) → Spans hears speaks pairs segs out retries
      → EachEntry IsOwn (of 0 (flat segs))
  spans-own pairs segs out retries no_more = tt
  spans-own pairs segs out retries (one_more pair seg n r pairs' segs' m q s spans) =
      subst (EachEntry IsOwn) (sym (of-append 0 seg (flat segs')))
      (each-append IsOwn (of 0 seg) (of 0 (flat segs')) (span-own pair seg n r s) (spans-own pairs' segs' m q spans))

  span-is : (a c : ℕ) (pair : Pair I O) (seg : List ServerTurn) (out retries : ℕ) → Span hears speaks pair seg out retries → All (Asks a c) seg → IsSpan seg
  span-is a c pair seg out retries s all =
      let first : ServerTurn = (0, Some (Up, s.opened)) in
      record {
        opened = s.opened;
        rest = s.rest;
        whole = s.whole;
        within = within-all a c s.rest (All-tail (Asks a c) first s.rest (subst (All (Asks a c)) s.whole all)) s.asks;
      }

  spans-are : (a c : ℕ) (pairs : List (Pair I O)) (segs : List (List ServerTurn)) (out retries : ℕ) → Spans hears speaks pairs segs out retries
      → All (Asks a c) (flat segs) → AllBut IsClosed segs → AreSpans segs
  spans-are a c pairs segs out retries no_more all but = tt
  spans-are a c pairs segs out retries (one_more pair seg n r pairs' [] m q s spans) all but =
      span-is a c pair seg n r s (All-left (Asks a c) seg [] all)
  spans-are a c pairs segs out retries (one_more pair seg n r pairs' (next ∷ segs') m q s spans) all (shut, but) = (
    span-is a c pair seg n r s (All-left (Asks a c) seg (flat (next ∷ segs')) all),
    shut,
    spans-are a c pairs' (next ∷ segs') m q spans (All-right (Asks a c) seg (flat (next ∷ segs')) all) but,
  )

  -- What is said of a run that is over: who asked what, its spans, its status, and when the agent took its leave.
  pub record Finals (config : Config) (until : ℕ) (end : RunEnd) (row : ℕ) (refused : Type 0) (starts starts' : ℕ) (pairs : List (Pair I O)) (turns : List ServerTurn)
      (out retries : ℕ) (auth acct : Socket) (status : Status) : Type 0 where
    pub asks : All (λ (turn : ServerTurn). MayTurn auth.row acct.row turn.0 turn.1) turns
    pub linked : Linked hears speaks config pairs turns status out retries
    pub because : Because status (of 0 turns) (plain turns) (closings (places_of config (plain turns))) auth.row acct.row row refused
    pub given : IsGiven status (closings (places_of config (plain turns))) auth.row acct.row row starts starts'
    pub leaves : 3 < rank status → ((cause : LinkCause) → ¬ AreWorn (closings (places_of config (plain turns))) cause) → LeavesAfterUntil until (plain turns)

  final-asks : (a c : ℕ) (pairs : List (Pair I O)) (segs : List (List ServerTurn)) (turns : List ServerTurn) (out retries : ℕ) → Numbered turns
      → Spanned hears speaks pairs segs turns out retries → All (SocketMayTake Auth a) (of 1 turns) → All (SocketMayTake Acct c) (of 2 turns)
      → All (Asks a c) turns
  final-asks a c pairs segs turns out retries numbered s auth acct =
      let own : EachEntry IsOwn (of 0 turns) =
      subst (λ (l : List ServerTurn). EachEntry IsOwn (of 0 l)) (sym s.whole) (subst (EachEntry IsOwn) (sym (of-append 0 s.front (flat segs)))
      (each-append IsOwn (of 0 s.front) (of 0 (flat segs))
      (each-weaker (λ ask heard. IsTick ask) IsOwn (of 0 s.front) (λ ask heard tick. inl (write-tick ask tick)) s.dialled)
      (spans-own pairs segs out retries s.spans))) in
      let links : of 3 turns ≡ of 3 (flat segs) =
      ap (of 3) s.whole ∙ of-append 3 s.front (flat segs) ∙ ap (λ l. l ++ of 3 (flat segs)) s.alone in
      all-of (MayTurn a c) turns numbered
      (asks-by a c turns (own-asks (of 0 turns) own) auth acct (subst (All LinkMayTake) (sym links) (spans-reads hears speaks pairs segs out retries s.spans)))

  module _ (end : RunEnd) (row : ℕ) (refused : Type 0) (pairs : List (Pair I O)) (turns : List ServerTurn) (out retries : ℕ) (a c : ℕ)
      (over : RunOver hears speaks end row refused pairs turns out retries) (asked : All (Asks a c) turns) where
    over-parts : All (Asks a c) (over.spanned.front ++ flat over.segs)
    over-parts = subst (All (Asks a c)) over.spanned.whole asked

    over-front : All IsWithin over.spanned.front
    over-front =
        let s = over.spanned in
        within-all a c s.front (All-left (Asks a c) s.front (flat over.segs) over-parts)
        (each-weaker (λ ask heard. IsTick ask) IsWritten (of 0 s.front) (λ ask heard tick. write-tick ask tick) s.dialled)

    over-spans : AreSpans over.segs
    over-spans =
        let s = over.spanned in
        spans-are a c over.served over.segs out retries s.spans (All-right (Asks a c) s.front (flat over.segs) over-parts) over.closed

    over-few : length over.segs ≤ 256
    over-few =
        let same = spans-length hears speaks over.served over.segs out retries over.spanned.spans in
        omega (arith, same, over.few, ap length over.paired, length-append over.served over.spare)

    over-facts : (config : Config) (until : ℕ) (last : Option LinkCause) → IsRun config until (plain turns) → closed (places_of config (plain turns)) ≡ last
        → Facts config until end row refused (length pairs) turns a c last
    over-facts config until last run last_is =
        let s = over.spanned in
        let run_on : IsRun config until (plain (s.front ++ flat over.segs)) = subst (λ (l : List ServerTurn). IsRun config until (plain l)) s.whole run in
        let places_are : places_of config (plain turns) ≡ places_of config (plain (s.front ++ flat over.segs)) =
        ap (λ (l : List ServerTurn). places_of config (plain l)) s.whole in
        let few : length over.segs < 2 ^ 64 = omega (arith, over-few) in
        let fit = closings-fit config until s.front over.segs over-front over-spans few run_on over.some in
        let count_is : length fit.earlier + 1 ≡ length over.segs = fit.count_is in
        let same : length over.segs ≡ length over.served = sym (spans-length hears speaks over.served over.segs out retries s.spans) in
        record {
          run = run;
          asks = asked;
          last_is = last_is;
          earlier = fit.earlier;
          closes = ap closings places_are ∙ fit.all
              ∙ ap (λ l. fit.earlier ++ option_to_list l) (sym (ap closed places_are) ∙ last_is);
          each = fit.each;
          few = omega (arith, over-few, count_is);
          all = subst (λ (l : List (Pair I O)). HasAll end (length l) (length fit.earlier + 1)) (sym over.paired)
              (has-all end over.served over.spare (length fit.earlier + 1) over.only (count_is ∙ same));
          ends = ends-by end row refused over.segs turns (length fit.earlier + 1) last
              (λ cause told. sym last_is ∙ ap closed places_are ∙ told-end config until s.front over.segs cause over-spans told run_on) count_is over.ends;
        }

    over-linked : (config : Config) (until : ℕ) (failed : Bool) (last : Option LinkCause) → IsRun config until (plain turns)
        → Linked hears speaks config pairs turns (status_given end failed last (length pairs)) out retries
    over-linked config until failed last run =
        let s = over.spanned in
        let run_on : IsRun config until (plain (s.front ++ flat over.segs)) = subst (λ (l : List ServerTurn). IsRun config until (plain l)) s.whole run in
        let few : length over.segs < 2 ^ 64 = omega (arith, over-few) in
        record {
          opened = over.served;
          spare = over.spare;
          paired = over.paired;
          unopened = over.unopened;
          only = only-spare end failed last (length pairs) over.spare over.only;
          segs = over.segs;
          spanned = s;
          spans = over-spans;
          fit = spans-fit config until s.front over.segs over-front over-spans few run_on;
          first = over.first;
          earlier = readers-but end over.segs over.read;
          read = readers-whole end failed last (length pairs) over.segs over.read;
        }

  -- all this holds of a run whose writer is done, and whose sockets' readers are
  pub final : (config : Config) (until : ℕ) (end : RunEnd) (row : ℕ) (refused : Type 0) (starts starts' : ℕ) (pairs : List (Pair I O)) (turns : List ServerTurn) (out retries : ℕ)
      (auth auth' acct acct' : Socket) (n m : ℕ) (cause : Option LinkCause) (failed : Bool) (status : Status)
      → IsRun config until (plain turns) → Numbered turns
      → RunOver hears speaks end row refused pairs turns out retries
      → StopsFor end row starts starts'
      → ServedSocket Auth (of 1 turns) auth auth' n → ServedSocket Acct (of 2 turns) acct acct' m
      → failed ≡ ((auth'.row == 16) || (acct'.row == 16))
      → cause ≡ closed (places_of config (plain turns))
      → status ≡ status_given end failed cause (length pairs)
      → Finals config until end row refused starts starts' pairs turns out retries auth' acct' status
  final config until end row refused starts starts' pairs turns out retries auth auth' acct acct' n m cause failed status run numbered over stops auth_served acct_served
      failed_is cause_is status_is =
      let asked = final-asks auth'.row acct'.row over.served over.segs turns out retries numbered over.spanned auth_served.reads.asks acct_served.reads.asks in
      let facts = over-facts end row refused pairs turns out retries auth'.row acct'.row over asked config until cause run (sym cause_is) in
      subst (Finals config until end row refused starts starts' pairs turns out retries auth' acct') (sym status_is) (record {
        asks = asked;
        linked = over-linked end row refused pairs turns out retries auth'.row acct'.row over asked config until failed cause run;
        because = says config until row refused (length pairs) turns auth'.row acct'.row cause end failed failed_is facts;
        given = is-given config until row refused (length pairs) turns auth'.row acct'.row cause end failed starts starts' failed_is stops facts;
        leaves = leaves-at config until row refused (length pairs) turns auth'.row acct'.row cause end failed failed_is facts;
      })
