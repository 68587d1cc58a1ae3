-- What a run was, once all workers are done.
use Rattle.std.proofs.Common.{◌≡◌, ◌≢◌, ℕ, zero, suc, ◌+◌, ◌-◌, ◌^◌, ◌<◌, ◌≤◌, ◌==◌, inl, inr, min, Bool, false, cond, ◌||◌, List, [], ◌∷◌, ◌++◌, length, Option, Some, None, IfSome, Ok, refl, sym, ap, ◌∙◌, subst, append_assoc, eq-eqb, arith}
use Rattle.std.specs.List.{All}
use Rattle.std.proofs.lemmas.List.Elements.{All-head}
use Rattle.std.proofs.lemmas.List.Sums.{sum_by-append}
use Rattle.wire_core.specs.Counts.{Rose}
use Rattle.radius_packet.specs.declared.reasons.Via.{Via}
use Rattle.radius_packet.specs.declared.reasons.Via.TheVariants.{Auth, Acct}
use Rattle.agent_status.specs.declared.status.Status.{Status}
use Rattle.wire_devices.specs.Dialling.{Dials}
use Rattle.wire_devices.specs.Links.{Inlet, Outlet}
use Rattle.wire_devices.specs.Sockets.{Socket}
use Rattle.wire_devices.specs.Telling.{Adds, TellsOnly}
use Rattle.agent_events.specs.declared.events.Input.{Input}
use Rattle.agent_events.specs.declared.events.Input.TheVariants as inputs
use Rattle.atomic_table.specs.Seated.{TableId}
use Rattle.turnstile.specs.declared.view.Known.{Known}
use Rattle.turnstile.specs.Knowing.{Carries, Joined}
use Rattle.turnstile.specs.Passes.{known}
use Rattle.turnstile.specs.Turns.{In, Numbered, StartsWith, least, of, plain}
use Rattle.agent_server.specs.declared.desk.AgentDesk.{AgentDesk}
use Rattle.agent_server.specs.declared.desk.DeskEnd.{DeskEnd}
use Rattle.server_workers.specs.declared.base.RunBase.{RunBase}
use Rattle.server_workers.specs.declared.heard.Heard.{Heard}
use Rattle.server_workers.specs.declared.running.Past.{Past}
use Rattle.server_workers.specs.declared.running.RunEnd.{RunEnd}
use Rattle.server_workers.specs.declared.running.Twins.{Twins}
use Rattle.agent_server.specs.declared.team.SocketBack.{SocketBack}
use Rattle.server_workers.specs.declared.links.Pair.{Pair}
use Rattle.agent_server.specs.declared.trail.Trail.{Trail}
use Rattle.server_workers.specs.declared.workers.Worker.{Worker}
use Rattle.server_workers.specs.declared.workers.Worker.TheVariants as worker
use Rattle.agent_server.specs.Desks.{HasRead, StandsBy}
use Rattle.server_workers.specs.Entries.{RunTurn, is_entry_of, is_tick, replies, replies_by, ticks}
use Rattle.server_workers.specs.LinkReading.{LinkMayTake}
use Rattle.server_workers.specs.Running.{NoNextLink, Keeps, LateDrainsAreEmpty, RoseBy, RunOver, StopsFor, InOrder, counted, number_in, numbers_of, ports_in, ports_of}
use Rattle.agent_server.specs.Server.{Served, status_given, twins_of}
use Rattle.server_workers.specs.SocketReading.{AddsAtLeast, ReadsSocket, ServedSocket, SocketMayTake}
use Rattle.server_workers.specs.Segments.{ServerTurn, is_beginning}
use Rattle.agent_server.specs.Starting.{Alike, AllDone, IsLinkReaderOf, IsSocketBack, SocketDone, StartsFor}
use Rattle.agent_server.proofs.AskingLemmas.{All-right}
use Rattle.server_workers.proofs.DialLemmas.{rose-on}
use Rattle.server_workers.proofs.LinkOverLemmas.{same-ports}
use Rattle.agent_server.proofs.FinalLemmas.{final, over-wider}
use Rattle.agent_server.proofs.LateDrains.{late-empty}
use Rattle.server_workers.proofs.TurnLemmas.{of-append}

-- ---- who asks what

here-of : (n : ℕ) (x : RunTurn) (back : List ServerTurn) → of n ((n, x) ∷ back) ≡ x ∷ of n back
here-of n x back = ap (λ b. cond b (x ∷ of n back) (of n back)) (eq-eqb n n refl)

-- what holds of each turn of a number holds of the one that stands there
at-number : (P : RunTurn → Type 0) (n : ℕ) (turns front back : List ServerTurn) (x : RunTurn) → turns ≡ front ++ (n, x) ∷ back → All P (of n turns) → P x
at-number P n turns front back x is all =
    let e : of n turns ≡ of n front ++ x ∷ of n back =
    ap (of n) is ∙ of-append n front ((n, x) ∷ back) ∙ ap (λ l. of n front ++ l) (here-of n x back) in
    All-head P x (of n back) (All-right P (of n front) (x ∷ of n back) (subst (All P) e all))

number-there : (front back : List ServerTurn) (n : ℕ) (x : RunTurn) → Numbered (front ++ (n, x) ∷ back) → n < 4
number-there [] back n x numbered = numbered.0
number-there (t ∷ front) back n x numbered = number-there front back n x numbered.1

socket-keeps : (via : Via) (row : ℕ) (ask : Input) (heard : Heard) → SocketMayTake via row (Some (ask, heard)) → is_beginning ask ≡ false
socket-keeps via row (inputs.Datagram port address from octets) heard may = refl
socket-keeps via row inputs.Tick heard may = refl
socket-keeps via row inputs.Leave heard may = refl
socket-keeps via row inputs.Up heard may = absurd may
socket-keeps via row inputs.Ready heard may = absurd may
socket-keeps via row inputs.Down heard may = refl
socket-keeps via row inputs.Drain heard may = refl
socket-keeps via row (inputs.Message octets) heard may = refl
socket-keeps via row (inputs.Broken fault) heard may = refl

link-keeps : (ask : Input) (heard : Heard) → LinkMayTake (Some (ask, heard)) → is_beginning ask ≡ false
link-keeps (inputs.Datagram port address from octets) heard may = refl
link-keeps inputs.Tick heard may = refl
link-keeps inputs.Leave heard may = refl
link-keeps inputs.Up heard may = absurd may
link-keeps inputs.Ready heard may = absurd may
link-keeps inputs.Down heard may = refl
link-keeps inputs.Drain heard may = refl
link-keeps (inputs.Message octets) heard may = refl
link-keeps (inputs.Broken fault) heard may = refl

-- nobody but the writer begins a link
others-keep : (a c : ℕ) (turns : List ServerTurn) → Numbered turns → All (SocketMayTake Auth a) (of 1 turns) → All (SocketMayTake Acct c) (of 2 turns)
    → All LinkMayTake (of 3 turns) → (n : ℕ) (ask : Input) (heard : Heard) (front back : List ServerTurn) → turns ≡ front ++ (n, Some (ask, heard)) ∷ back
    → n ≢ 0 → is_beginning ask ≡ false
others-keep a c turns numbered auth acct links zero ask heard front back is other = absurd (other refl)
others-keep a c turns numbered auth acct links (suc zero) ask heard front back is other =
    socket-keeps Auth a ask heard (at-number (SocketMayTake Auth a) 1 turns front back (Some (ask, heard)) is auth)
others-keep a c turns numbered auth acct links (suc (suc zero)) ask heard front back is other =
    socket-keeps Acct c ask heard (at-number (SocketMayTake Acct c) 2 turns front back (Some (ask, heard)) is acct)
others-keep a c turns numbered auth acct links (suc (suc (suc zero))) ask heard front back is other =
    link-keeps ask heard (at-number LinkMayTake 3 turns front back (Some (ask, heard)) is links)
others-keep a c turns numbered auth acct links (suc (suc (suc (suc n)))) ask heard front back is other =
    let low = number-there front back (suc (suc (suc (suc n)))) (Some (ask, heard)) (subst Numbered is numbered) in
    absurd (omega (arith, low))

-- ---- the readers of sockets

-- what a reader did from a socket of which twins were made, it did from the socket before
socket-before : (via : Via) (mine : List RunTurn) (s t u : Socket) (out : ℕ) → Alike s t → ServedSocket via mine t u out → ServedSocket via mine s u out
socket-before via mine s t u out alike served = record {
  reads = record {
    got = served.reads.got;
    received = subst (λ told. Adds told u.received served.reads.got) alike.received served.reads.received;
    entered = served.reads.entered;
    handed = subst (λ told. Adds told u.handed (replies mine)) alike.handed served.reads.handed;
    idle = subst (λ told. AddsAtLeast told u.idle (ticks mine)) alike.idle served.reads.idle;
    asks = served.reads.asks;
    grows = omega (arith, served.reads.grows, alike.faults.never_falls);
    failed = λ more. let rose = served.reads.failed (omega (arith, more, alike.row)) in omega (arith, rose, alike.faults.never_falls);
    port = served.reads.port ∙ alike.port;
  };
  last = served.last;
}

module _ {C D : Type 0} (told : D → Socket) (via : Via) (n : ℕ) (k : Known (AgentDesk C) Input Heard) (before : Socket) (back : SocketBack C D)
    (done : SocketDone told via n k before back) where
  reader-numbers : (known back.pass).numbers ≡ n ∷ []
  reader-numbers = done.reads.went.numbers ∙ done.begun.numbers

  -- its turns are all that there are of its number
  reader-own : of n (known back.pass).seen ≡ done.reads.mine
  reader-own =
      let went = done.reads.went in
      subst (λ j. of j (known back.pass).seen ≡ of j done.begin.seen ++ done.reads.mine) (ap least done.begun.numbers) went.own
      ∙ ap (λ s. of n s ++ done.reads.mine) done.begun.seen ∙ ap (λ os. os ++ done.reads.mine) done.begun.none

  reader-served : (turns : List ServerTurn) → of n turns ≡ done.reads.mine
      → ServedSocket via (of n turns) before (told back.socket) done.reads.out
  reader-served turns own =
      subst (λ ts. ServedSocket via ts before (told back.socket) done.reads.out) (sym own)
      (socket-before via done.reads.mine before done.made (told back.socket) done.reads.out done.begun.alike done.reads.served)

-- ---- the turns at the end

-- all turns at the end, by what the writer knew when no further link was made, and what the sockets' readers knew
record Turns (first second third last : List ServerTurn) : Type 0 where
  begins : StartsWith last first
  own : of 0 last ≡ of 0 first
  links : of 3 last ≡ of 3 first
  auth : of 1 last ≡ of 1 second
  acct : of 2 last ≡ of 2 third

module _ {C : Type 0} where
  end-turns : (k a c l m : Known (AgentDesk C) Input Heard) → k.numbers ≡ 0 ∷ 3 ∷ [] → a.numbers ≡ 1 ∷ [] → c.numbers ≡ 2 ∷ []
      → Joined k a l → Joined l c m → Turns k.seen a.seen c.seen m.seen
  end-turns k a c l m k_numbers a_numbers c_numbers one two =
      let (x, x_is) = one.begins.0 in
      let (y, y_is) = two.begins.0 in
      let l_numbers : l.numbers ≡ 0 ∷ 3 ∷ 1 ∷ [] = one.numbers ∙ ap (λ ns. ns ++ a.numbers) k_numbers ∙ ap (λ ns. 0 ∷ 3 ∷ ns) a_numbers in
      record {
        begins = (x ++ y, y_is ∙ ap (λ s. s ++ y) x_is ∙ append_assoc k.seen x y);
        own = two.own 0 (subst (In 0) (sym l_numbers) (inl refl)) ∙ one.own 0 (subst (In 0) (sym k_numbers) (inl refl));
        links = two.own 3 (subst (In 3) (sym l_numbers) (inr (inl refl))) ∙ one.own 3 (subst (In 3) (sym k_numbers) (inr (inl refl)));
        auth = two.own 1 (subst (In 1) (sym l_numbers) (inr (inr (inl refl)))) ∙ one.theirs 1 (subst (In 1) (sym a_numbers) (inl refl));
        acct = two.theirs 2 (subst (In 2) (sym c_numbers) (inl refl));
      }

-- ---- counts

-- so many dials failed at first, and so many later
dialled-all : (own more all : List RunTurn) (a b c : ℕ) → all ≡ own ++ more → RoseBy (ticks own) a b → RoseBy (ticks more) b c → RoseBy (ticks all) a c
dialled-all own more all a b c whole one two =
    let sum : ticks all ≡ ticks own + ticks more = ap ticks whole ∙ sum_by-append (λ t. cond (is_entry_of is_tick t) 1 0) own more in
    subst (λ n. RoseBy n a c) (sym sum) (rose-on (ticks own) (ticks more) a b c one two)

lost-all : (lost links auth acct out n m : ℕ) → links ≡ min out (2 ^ 64 - 1) → auth ≡ min n (2 ^ 64 - 1) → acct ≡ min m (2 ^ 64 - 1)
    → lost ≡ min (min (links + auth) (2 ^ 64 - 1) + acct) (2 ^ 64 - 1) → lost ≡ min (out + n + m) (2 ^ 64 - 1)
lost-all lost links auth acct out n m links_is auth_is acct_is is = omega arith

-- ---- all of it

module _ {C D I O : Type 0} (readings : C → Option (List ℕ)) (told : D → Socket) (hears : I → Inlet) (speaks : O → Outlet) where
  -- what is told of the turnstile that was closed, and how the trail was made
  pub record Closes (base : RunBase) (end : RunEnd) (k' m : Known (AgentDesk C) Input Heard) (twins : Twins D) (past : Past I O) (auth_back acct_back : SocketBack C D)
      (desk : AgentDesk C) (last : DeskEnd C) (trail : Trail C D I O) (status : Status) : Type 0 where
    pub middle : Known (AgentDesk C) Input Heard
    pub auth_joined : Joined k' (known auth_back.pass) middle
    pub acct_joined : Joined middle (known acct_back.pass) m
    pub turns : (trail.turns ≡ m.seen) × Numbered trail.turns
    pub stood : Carries (StandsBy readings) m base → StandsBy readings desk base (plain trail.turns)
    pub last_is : last ≡ record { tools = record { clock = desk.clock; sender = desk.sender }; entries = desk.entries; closed = desk.closed }
    pub entries : trail.entries ≡ last.entries
    pub lost : trail.lost ≡ min (min (past.lost + auth_back.lost) (2 ^ 64 - 1) + acct_back.lost) (2 ^ 64 - 1)
    pub again : trail.again ≡ past.again
    pub auth_twin : trail.auth_twin ≡ twins.auth
    pub acct_twin : trail.acct_twin ≡ twins.acct
    pub links : trail.links ≡ past.pairs.items
    pub status_is : status ≡ status_given end (auth_back.failed || acct_back.failed) last.closed (length past.pairs.items)

  pub all-served : (base : RunBase) (dials dials' dials'' : Dials) (starts starts' : ℕ) (auth acct : Socket) (k k' m : Known (AgentDesk C) Input Heard) (end : RunEnd)
      (twins : Twins D) (past : Past I O) (auth_back acct_back : SocketBack C D) (desk : AgentDesk C) (last : DeskEnd C) (trail : Trail C D I O) (status : Status)
      → AllDone readings told hears speaks (record {
        base = base;
        dials = dials;
        dials' = dials';
        dials'' = dials'';
        starts = starts;
        starts' = starts';
        auth = auth;
        acct = acct;
        k = k;
        k' = k';
        end = end;
        twins = twins;
        past = past;
        auth_back = auth_back;
        acct_back = acct_back;
      })
      → Closes base end k' m twins past auth_back acct_back desk last trail status
      → Served readings told hears speaks (record {
        config = base.config;
        until = base.until;
        before = base.before;
        auth = auth;
        acct = acct;
        auth' = told auth_back.socket;
        acct' = told acct_back.socket;
        dials = dials;
        dials' = dials'';
        starts = starts;
        starts' = starts';
        clock = last.tools.clock;
        trail = trail;
        status = status;
      })
  all-served base dials dials' dials'' starts starts' auth acct k k' m end twins past auth_back acct_back desk last trail status done closes =
      let ends = done.ends in
      let a = done.auth_done in
      let c = done.acct_done in
      let ts = trail.turns in
      let numbered : Numbered ts = closes.turns.1 in
      let t = end-turns k' (known auth_back.pass) (known acct_back.pass) closes.middle m ends.numbers
      (reader-numbers told Auth 1 k auth auth_back a) (reader-numbers told Acct 2 k acct acct_back c) closes.auth_joined closes.acct_joined in
      let (d, d_is, d_stands) = done.carries in
      let stands = closes.stood (d, closes.acct_joined.first.0 ∙ closes.auth_joined.first.0 ∙ ends.first ∙ d_is, d_stands) in
      let same = closes.turns.0 in
      let begins : StartsWith ts k'.seen = subst (λ l. StartsWith l k'.seen) (sym same) t.begins in
      let own : of 0 ts ≡ of 0 k'.seen = ap (of 0) same ∙ t.own in
      let links : of 3 ts ≡ of 3 k'.seen = ap (of 3) same ∙ t.links in
      let auth_served = reader-served told Auth 1 k auth auth_back a ts (ap (of 1) same ∙ t.auth ∙ reader-own told Auth 1 k auth auth_back a) in
      let acct_served = reader-served told Acct 2 k acct acct_back c ts (ap (of 2) same ∙ t.acct ∙ reader-own told Acct 2 k acct acct_back c) in
      let keep = others-keep (told auth_back.socket).row (told acct_back.socket).row ts numbered auth_served.reads.asks acct_served.reads.asks
      (subst (All LinkMayTake) (sym links) ends.reads) in
      let late = late-empty base.config base.until ts stands.run keep in
      let over = subst (λ (ps : List (Pair I O)). RunOver hears speaks end dials''.row (Rose starts starts') ps ts ends.out ends.retries) (sym closes.links)
      (over-wider hears speaks end dials''.row (Rose starts starts') past.pairs.items k'.seen ts ends.out ends.retries begins own links
      (ends.over (subst LateDrainsAreEmpty own late))) in
      let failed : Bool = auth_back.failed || acct_back.failed in
      let status_is : status ≡ status_given end failed last.closed (length trail.links) =
      closes.status_is ∙ ap (λ (ps : List (Pair I O)). status_given end failed last.closed (length ps)) (sym closes.links) in
      let finals = final hears speaks base.config base.until end dials''.row (Rose starts starts') starts starts' trail.links ts ends.out ends.retries auth (told auth_back.socket) acct
      (told acct_back.socket) a.reads.out c.reads.out last.closed failed status stands.run numbered over done.stops auth_served acct_served
      (ap (λ b. b || acct_back.failed) a.reads.fault ∙ ap (λ b. ((told auth_back.socket).row == 16) || b) c.reads.fault)
      (ap (λ (e : DeskEnd C). e.closed) closes.last_is ∙ stands.closed) status_is in
      record {
        is_run = stands.run;
        numbered = numbered;
        asks = finals.asks;
        clock_read = subst (λ (e : DeskEnd C). HasRead (readings e.tools.clock) base.before (plain ts)) (sym closes.last_is) stands.clock;
        entries = closes.entries ∙ ap (λ (e : DeskEnd C). e.entries) closes.last_is ∙ stands.entries;
        auth_out = a.reads.out;
        acct_out = c.reads.out;
        out = ends.out;
        retries = ends.retries;
        auth_served = auth_served;
        acct_served = acct_served;
        linked = finals.linked;
        auth_replies = subst (λ (twin : D). TellsOnly (told twin).handed (replies_by Auth (of 3 ts))) (sym closes.auth_twin)
            (subst (λ l. TellsOnly (told twins.auth).handed (replies_by Auth l)) (sym links) ends.tally.auth_handed);
        acct_replies = subst (λ (twin : D). TellsOnly (told twin).handed (replies_by Acct (of 3 ts))) (sym closes.acct_twin)
            (subst (λ l. TellsOnly (told twins.acct).handed (replies_by Acct l)) (sym links) ends.tally.acct_handed);
        lost = lost-all trail.lost past.lost auth_back.lost acct_back.lost ends.out a.reads.out c.reads.out ends.tally.lost a.reads.lost_is c.reads.lost_is closes.lost;
        again = closes.again ∙ ends.tally.again;
        dialled = dialled-all (of 0 k.seen) ends.ticked.more (of 0 ts) dials.faults dials'.faults dials''.faults (own ∙ ends.ticked.whole) done.dialled ends.ticked.counted;
        auth_failed = λ full. auth_served.reads.failed (omega (arith, a.begun.row, full));
        acct_failed = λ full. acct_served.reads.failed (omega (arith, c.begun.row, full));
        dials_failed = λ full. let rose = ends.failed full in omega (arith, rose, done.grows);
        because = finals.because;
        given = finals.given;
        leaves = finals.leaves;
      }

-- ---- how all workers came to be done

module _ {C D : Type 0} (told : D → Socket) where
  socket-done : {I : Type 0} (via : Via) (n : ℕ) (k : Known (AgentDesk C) Input Heard) (before : Socket) (reader : Worker (AgentDesk C) D I) (back : SocketBack C D)
      → StartsFor told via n k before reader → IsSocketBack told (Ok reader) back → SocketDone told via n k before back
  socket-done via n k before (worker.Reader alloc shared pass port socket) back (same, begun) (table, reads) = record {
    begin = known pass;
    made = told socket;
    begun = begun;
    reads = subst (λ (v : Via). ReadsSocket v (known pass) (known back.pass) (told socket) (told back.socket) back.lost back.failed) same reads;
  }
  socket-done via n k before (worker.Link alloc shared pass link auth acct) back starts is = absurd starts

  pub all-done : {I O : Type 0} (readings : C → Option (List ℕ)) (hears : I → Inlet) (speaks : O → Outlet) (base : RunBase) (dials dials' dials'' : Dials)
      (starts middle starts' : ℕ) (auth acct : Socket) (k k' : Known (AgentDesk C) Input Heard) (end : RunEnd) (twins : Twins D) (past : Past I O)
      (auth_reader acct_reader : Worker (AgentDesk C) D I) (auth_back acct_back : SocketBack C D)
      → Carries (StandsBy readings) k base → RoseBy (ticks (of 0 k.seen)) dials.faults dials'.faults → dials.faults ≤ dials'.faults
      → NoNextLink hears speaks told end dials' dials'' (Rose starts middle) k k' twins past → StopsFor end dials''.row starts middle → starts' ≡ middle
      → StartsFor told Auth 1 k auth auth_reader → StartsFor told Acct 2 k acct acct_reader
      → IsSocketBack told (Ok auth_reader) auth_back → IsSocketBack told (Ok acct_reader) acct_back
      → AllDone readings told hears speaks (record {
        base = base;
        dials = dials;
        dials' = dials';
        dials'' = dials'';
        starts = starts;
        starts' = starts';
        auth = auth;
        acct = acct;
        k = k;
        k' = k';
        end = end;
        twins = twins;
        past = past;
        auth_back = auth_back;
        acct_back = acct_back;
      })
  all-done readings hears speaks base dials dials' dials'' starts middle starts' auth acct k k' end twins past auth_reader acct_reader auth_back acct_back
      carries dialled grows ends stops same auth_starts acct_starts auth_is acct_is = record {
        carries = carries;
        dialled = dialled;
        grows = grows;
        ends = subst (λ (n : ℕ). NoNextLink hears speaks told end dials' dials'' (Rose starts n) k k' twins past) (sym same) ends;
        stops = subst (λ (n : ℕ). StopsFor end dials''.row starts n) (sym same) stops;
        auth_done = socket-done Auth 1 k auth auth_reader auth_back auth_starts auth_is;
        acct_done = socket-done Acct 2 k acct acct_reader acct_back acct_starts acct_is;
      }

-- ---- the links of a trail

module _ {C D I O : Type 0} where
  pub kept-links : (trail : Option (Trail C D I O)) (pairs : List (Pair I O)) (links made made' : ℕ) → IfSome trail (λ t. t.links ≡ pairs) → Keeps (links + 1) (length pairs) made made'
      → IfSome trail (λ t. Keeps (links + 1) (length t.links) made made')
  kept-links None pairs links made made' same kept = tt
  kept-links (Some t) pairs links made made' same kept = subst (λ (ps : List (Pair I O)). Keeps (links + 1) (length ps) made made') (sym same) kept

  -- no link was over at first, and one was made
  pub links-all : (trail : Option (Trail C D I O)) (pairs : List (Pair I O)) (first middle last : ℕ) → pairs ≡ [] → middle ≡ counted first 1
      → IfSome trail (λ t. Keeps (length pairs + 1) (length t.links) middle last) → IfSome trail (λ t. last ≡ counted first (length t.links))
  links-all None pairs first middle last none one kept = tt
  links-all (Some t) pairs first middle last none one kept =
      let nothing = ap length none in
      omega (arith, nothing, one, kept.links_are, kept.made_is)

-- ---- where the twins are

pub twins-at : {C D I O : Type 0} (told : D → Socket) (trail : Option (Trail C D I O)) (twins : Twins D) (ports : Option ℕ × Option ℕ) → IfSome trail (λ t. twins_of t ≡ twins)
    → ports_of told twins ≡ ports → IfSome trail (λ t. ports_of told (twins_of t) ≡ ports)
twins-at {C} {D} {I} {O} told None twins ports is at = is
twins-at {C} {D} {I} {O} told (Some trail) twins ports is at = ap (λ (t : Twins D). ports_of told t) is ∙ at

pub ports-on : {C D I O : Type 0} (told : D → Socket) (trail : Option (Trail C D I O)) (ports later : Option ℕ × Option ℕ) → IfSome trail (λ t. ports_of told (twins_of t) ≡ ports)
    → ports ≡ later → IfSome trail (λ t. ports_of told (twins_of t) ≡ later)
ports-on {C} {D} {I} {O} told None ports later at same = at
ports-on {C} {D} {I} {O} told (Some trail) ports later at same = at ∙ same

pub link-ports : {C D I : Type 0} (told : D → Socket) (turnstile : TableId) (number : ℕ) (k : Known (AgentDesk C) Input Heard) (inlet : I) (twins : Twins D) (worker : Worker (AgentDesk C) D I)
    → IsLinkReaderOf turnstile number k inlet twins worker → ports_in told worker ≡ ports_of told twins
link-ports {C} {D} {I} told turnstile number k inlet twins (worker.Link alloc shared pass link auth acct) (place, same, is_auth, is_acct) =
    same-ports (ap (λ (d : D). (told d).port) is_auth) (ap (λ (d : D). (told d).port) is_acct)
link-ports {C} {D} {I} told turnstile number k inlet twins (worker.Reader alloc shared pass via socket) is = absurd is

-- ---- in which order links were made

pub order-at : {C D I O : Type 0} (hears : I → Inlet) (trail : Option (Trail C D I O)) (pairs : List (Pair I O)) (n : ℕ) → IfSome trail (λ t. t.links ≡ pairs)
    → InOrder n (numbers_of hears pairs) → IfSome trail (λ t. InOrder n (numbers_of hears t.links))
order-at {C} {D} {I} {O} hears None pairs n is ordered = is
order-at {C} {D} {I} {O} hears (Some trail) pairs n is ordered = subst (λ (ps : List (Pair I O)). InOrder n (numbers_of hears ps)) (sym is) ordered

-- the first link is the first that was made
pub first-in-order : {C D I O : Type 0} (hears : I → Inlet) (turnstile : TableId) (number : ℕ) (k : Known (AgentDesk C) Input Heard) (inlet : I) (twins : Twins D) (worker : Worker (AgentDesk C) D I)
    (pairs : List (Pair I O)) (n : ℕ) → IsLinkReaderOf turnstile number k inlet twins worker → pairs ≡ [] → TellsOnly (hears inlet).number n
    → InOrder n (numbers_of hears pairs ++ number_in hears worker ∷ [])
first-in-order {C} {D} {I} {O} hears turnstile number k inlet twins (worker.Link alloc shared pass link auth acct) pairs n (place, same, is_auth, is_acct) none known =
    subst (λ (ps : List (Pair I O)). InOrder n (numbers_of hears ps ++ (hears link).number ∷ [])) (sym none)
    (subst (λ (i : I). TellsOnly (hears i).number n) (sym same) known, tt)
first-in-order {C} {D} {I} {O} hears turnstile number k inlet twins (worker.Reader alloc shared pass via socket) pairs n is none known = absurd is
