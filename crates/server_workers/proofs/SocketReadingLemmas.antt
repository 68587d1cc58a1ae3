-- How a reader of a socket goes on from look to look.
use Rattle.std.proofs.Common.{◌≡◌, ℕ, ◌+◌, ◌-◌, ◌^◌, ◌<◌, ◌≤◌, ◌==◌, min, Bool, true, false, cond, List, [], ◌∷◌, ◌++◌, All, flat_map, Option, Some, None, option_map, MatchBool, refl, sym, ap, ◌∙◌, subst, append_assoc, inl, inr, arith}
use Rattle.std.proofs.lemmas.Grind.{flat_map-append}
use Rattle.std.proofs.lemmas.Bool.{MatchBool-at_true, MatchBool-at_false, cases_order}
use Rattle.std.proofs.lemmas.List.Elements.{All-append, All-cons, All-nil, All-weaker}
use Rattle.std.proofs.lemmas.List.Sums.{sum_by-append}
use Rattle.wire_core.specs.Counts.{Rose}
use Rattle.radius_packet.specs.declared.reasons.Via.{Via}
use Rattle.agent_events.specs.declared.events.Input.{Input}
use Rattle.agent_events.specs.declared.events.Input.TheVariants as inputs
use Rattle.turnstile.specs.declared.view.Known.{Known}
use Rattle.wire_devices.specs.declared.devices.Datagram.{Datagram}
use Rattle.wire_devices.specs.Sockets.{FailedToReceive, FoundNone, Gave, Socket}
use Rattle.wire_devices.specs.Telling.{Adds, AddsOne}
use Rattle.wire_devices.proofs.TellingLaws.{Adds-append, Adds-none, Adds-same}
use Rattle.server_workers.specs.declared.heard.Heard.{Heard}
use Rattle.server_workers.specs.declared.socket_reader.ReadCounts.{ReadCounts}
use Rattle.server_workers.specs.Entries.{AsksLeave, EndsWith, Less, RunTurn, entry_replies, is_entry_of, is_tick, replies, reply_of, ticks, turn_of}
use Rattle.server_workers.specs.Entries.Less.{empty, keeps, loses}
use Rattle.server_workers.specs.Going.{Went}
use Rattle.server_workers.specs.SocketReading.{AddsAtLeast, Hands, IsLast, ReadsDatagrams, ReadsOnce, ReadsSocket, SocketMayAsk, SocketMayTake, StopsReading, datagram_in, datagrams, entry_datagram, input_of, is_last}
use Rattle.server_workers.proofs.EntryLemmas.{less-append}
use Rattle.server_workers.proofs.GoingLemmas.{went-none, went-on}
use Rattle.server_workers.proofs.LeaveLemmas.{has-leave, has-leave-behind, leave-datagrams, leave-replies, leave-taken, leave-ticks}

-- ---- lists

ends-after : {A : Type 0} {P : A → Type 0} (xs ys : List A) → EndsWith P ys → EndsWith P (xs ++ ys)
ends-after xs ys (front, x, is, has) = (xs ++ front, x, ap (λ l. xs ++ l) is ∙ sym (append_assoc xs front (x ∷ [])), has)

-- ---- sockets

at_least-on : {a b c : Option ℕ} {n m : ℕ} → AddsAtLeast a b n → AddsAtLeast b c m → AddsAtLeast a c (n + m)
at_least-on {a} {b} {c} {n} {m} one two = record {
  still = λ z is.
      let (y, there, more) = two.still z is in
      let (x, first, some) = one.still y there in
      (x, first, omega (arith, more, some));
}

at_least-none : {a b : Option ℕ} → b ≡ a → AddsAtLeast a b 0
at_least-none {a} {b} same = record { still = λ n is. (n, sym same ∙ is, omega arith) }

at_least-fewer : {a b : Option ℕ} {n m : ℕ} → n ≤ m → AddsAtLeast a b m → AddsAtLeast a b n
at_least-fewer {a} {b} {n} {m} few adds = record {
  still = λ z is. let (x, first, more) = adds.still z is in (x, first, omega (arith, few, more));
}

-- a look that found none
at_least-one : {a b : Option ℕ} → AddsOne a b → AddsAtLeast a b 1
at_least-one {a} {b} adds = record { still = λ n is. by a n (adds.still n is) }
  where
    by : (a : Option ℕ) (n : ℕ) → option_map (λ m. m + 1) a ≡ Some n → (m : ℕ) × (a ≡ Some m) × (m + 1 ≤ n)
    by None n is = cc
    by (Some m) n is = let same : m + 1 ≡ n = cc in (m, refl, omega (arith, same))

pub hands-none : (s : Socket) → Hands s s []
hands-none s = record { handed = Adds-none s.handed; received = refl; idle = refl; row = refl; port = refl; grows = omega arith }

-- the count of faults never fell, and it rose where more receives in a row failed
record CountsFaults (s t : Socket) : Type 0 where
  grows : s.faults ≤ t.faults
  failed : s.row < t.row → Rose s.faults t.faults
  port : t.port ≡ s.port

-- no receive failed
faults-same : (s t : Socket) → t.faults ≡ s.faults → t.row ≡ 0 → t.port ≡ s.port → CountsFaults s t
faults-same s t same low port = record { grows = omega (arith, same); failed = λ more. absurd (omega (arith, more, low)); port = port }

faults-rise : (s t : Socket) → FailedToReceive s t → CountsFaults s t
faults-rise s t failed = let rises = failed.faults in record { grows = omega (arith, rises); failed = λ more. omega (arith, rises); port = failed.port }

rose-then : (s t u : Socket) → CountsFaults s t → t.faults ≤ u.faults → (t.row < u.row → Rose t.faults u.faults) → s.row < u.row → Rose s.faults u.faults
rose-then s t u one grows failed more =
    elim (cases_order t.row u.row) as (λ _. Rose s.faults u.faults) [
      | inl same ↦ let rose = one.failed (omega (arith, more, same)) in omega (arith, rose, grows)
      | inr either ↦ elim either as (λ _. Rose s.faults u.faults) [
        | inl less ↦ let rose = failed less in let before = one.grows in omega (arith, rose, before)
        | inr fewer ↦ let rose = one.failed (omega (arith, more, fewer)) in omega (arith, rose, grows)
      ]
    ]

-- ---- turns of a reader

-- some looks, and then more
reads-on : (via : Via) (mine more : List RunTurn) (s t u : Socket) (n m : ℕ)
    → t.row < 16 → ReadsDatagrams via mine s t n → ReadsDatagrams via more t u m → ReadsDatagrams via (mine ++ more) s u (n + m)
reads-on via mine more s t u n m low one two = record {
  got = one.got ++ two.got;
  received = Adds-append one.received two.received;
  entered = subst (λ (ds : List Datagram). Less (one.got ++ two.got) ds (n + m)) (sym (flat_map-append entry_datagram mine more))
      (less-append one.got (datagrams mine) n two.got (datagrams more) m one.entered two.entered);
  handed = subst (Adds s.handed u.handed) (sym (flat_map-append (entry_replies reply_of) mine more)) (Adds-append one.handed two.handed);
  idle = subst (AddsAtLeast s.idle u.idle) (sym (sum_by-append (λ turn. cond (is_entry_of is_tick turn) 1 0) mine more)) (at_least-on one.idle two.idle);
  asks = All-append (SocketMayTake via u.row) mine more (All-weaker (SocketMayTake via t.row) (SocketMayTake via u.row) (earlier via t.row u.row low) mine one.asks) two.asks;
  grows = omega (arith, one.grows, two.grows);
  failed = rose-then s t u (record { grows = one.grows; failed = one.failed; port = one.port }) two.grows two.failed;
  port = two.port ∙ one.port;
}
  where
    asked : (via : Via) (row later : ℕ) → row < 16 → (ask : Input) → SocketMayAsk via row ask → SocketMayAsk via later ask
    asked via row later low (inputs.Datagram port_via address port octets) may = may
    asked via row later low inputs.Tick may = tt
    asked via row later low inputs.Leave may = absurd (omega (arith, low, may))
    asked via row later low inputs.Up may = may
    asked via row later low inputs.Ready may = may
    asked via row later low inputs.Down may = may
    asked via row later low inputs.Drain may = may
    asked via row later low (inputs.Message octets) may = may
    asked via row later low (inputs.Broken fault) may = may

    earlier : (via : Via) (row later : ℕ) → row < 16 → (turn : RunTurn) → SocketMayTake via row turn → SocketMayTake via later turn
    earlier via row later low None may = tt
    earlier via row later low (Some entry) may = asked via row later low entry.0 may

-- a look and the turns that follow from it, and what was handed to the socket then
reads-by : (via : Via) (mine : List RunTurn) (got : List Datagram) (out : ℕ) (s t u : Socket)
    → Adds s.received t.received got → t.handed ≡ s.handed → AddsAtLeast s.idle t.idle (ticks mine)
    → Less got (datagrams mine) out → CountsFaults s t → Hands t u (replies mine) → All (SocketMayTake via u.row) mine
    → ReadsDatagrams via mine s u out
reads-by via mine got out s t u received same idle entered faults hands asks = record {
  got = got;
  received = subst (λ r. Adds s.received r got) (sym hands.received) received;
  entered = entered;
  handed = subst (λ h. Adds h u.handed (replies mine)) same hands.handed;
  idle = subst (λ i. AddsAtLeast s.idle i (ticks mine)) (sym hands.idle) idle;
  asks = asks;
  grows = omega (arith, faults.grows, hands.grows);
  failed = rose-then s t u faults hands.grows (λ more. absurd (omega (arith, more, hands.row)));
  port = hands.port ∙ faults.port;
}

single : {A : Type 0} (P : A → Type 0) (x : A) → P x → All P (x ∷ [])
single P x has = All-cons P x [] has (All-nil P)

-- a visit with what may be asked
may-take : (via : Via) (row : ℕ) (ask : Input) (heard : Option Heard) → SocketMayAsk via row ask → All (SocketMayTake via row) (turn_of ask heard ∷ [])
may-take via row ask None may = single (SocketMayTake via row) None tt
may-take via row ask (Some h) may = single (SocketMayTake via row) (Some (ask, h)) may

no_datagram : (ask : Input) (heard : Option Heard) → datagram_in ask ≡ [] → Less [] (datagrams (turn_of ask heard ∷ [])) 0
no_datagram ask None is = empty
no_datagram ask (Some h) is = rw is empty

-- whether a turn is the last, where no receive failed
over-by : (row : ℕ) (mine : List RunTurn) (over : Bool) → row ≡ 0 → (over ≡ true → EndsWith IsLast mine) → MatchBool over (StopsReading row mine) (row < 16)
over-by row mine true low last = inr (omega (arith, low), last refl)
over-by row mine false low last = omega (arith, low)

-- whether this answer is the last
abbrev stopped : Option Heard → Bool
stopped None = false
stopped (Some heard) = is_last heard

module _ {T : Type 0} (via : Via) (k l : Known T Input Heard) (s t u : Socket) (before : ReadCounts) (few : before.lost ≤ 2 ^ 64 - 1) where
  pub took-entry : (d : Datagram) (heard : Heard) → Gave s t d → Went (turn_of (input_of via d) (Some heard) ∷ []) k l
      → Hands t u (replies (turn_of (input_of via d) (Some heard) ∷ [])) → ReadsOnce via k l s u before (record { lost = before.lost; row = 0 }) (is_last heard)
  took-entry d heard gave went hands =
      let mine : List RunTurn = Some (input_of via d, heard) ∷ [] in
      let low : u.row ≡ 0 = hands.row ∙ gave.row in
      record {
        mine = mine;
        out = 0;
        went = went;
        reads = reads-by via mine (d ∷ []) 0 s t u gave.received gave.handed (at_least-none gave.idle) (keeps d [] [] 0 empty)
            (faults-same s t gave.faults gave.row gave.port) hands (may-take via u.row (input_of via d) (Some heard) refl);
        counted = omega (arith, few);
        row = sym low;
        last = over-by u.row mine (is_last heard) low (λ is. ([], Some (input_of via d, heard), refl, is));
      }

  -- a datagram that was lost at the visit
  pub lost-entry : (d : Datagram) → Gave s t d → Went (None ∷ []) k l → Hands t u []
      → ReadsOnce via k l s u before (record { lost = min (before.lost + 1) (2 ^ 64 - 1); row = 0 }) false
  lost-entry d gave went hands =
      let low : u.row ≡ 0 = hands.row ∙ gave.row in
      record {
        mine = None ∷ [];
        out = 1;
        went = went;
        reads = reads-by via (None ∷ []) (d ∷ []) 1 s t u gave.received gave.handed (at_least-none gave.idle) (loses d [] [] 0 empty)
            (faults-same s t gave.faults gave.row gave.port) hands (may-take via u.row (input_of via d) None refl);
        counted = refl;
        row = sym low;
        last = omega (arith, low);
      }

  -- one that was lost before
  pub lost-copy : (d : Datagram) → Gave s t d → ReadsOnce via k k s t before (record { lost = min (before.lost + 1) (2 ^ 64 - 1); row = 0 }) false
  lost-copy d gave = record {
    mine = [];
    out = 1;
    went = went-none k;
    reads = reads-by via [] (d ∷ []) 1 s t t gave.received gave.handed (at_least-none gave.idle) (loses d [] [] 0 empty)
        (faults-same s t gave.faults gave.row gave.port) (hands-none t) (All-nil (SocketMayTake via t.row));
    counted = refl;
    row = sym gave.row;
    last = omega (arith, gave.row);
  }

  -- a look that found none, and the Tick after it
  pub took-tick : (heard : Option Heard) → FoundNone s t → Went (turn_of inputs.Tick heard ∷ []) k l → Hands t u (replies (turn_of inputs.Tick heard ∷ []))
      → ReadsOnce via k l s u before (record { lost = before.lost; row = 0 }) (stopped heard)
  took-tick heard found went hands =
      let mine : List RunTurn = turn_of inputs.Tick heard ∷ [] in
      let low : u.row ≡ 0 = hands.row ∙ found.row in
      record {
        mine = mine;
        out = 0;
        went = went;
        reads = reads-by via mine [] 0 s t u (Adds-same found.received) found.handed (tick heard) (no_datagram inputs.Tick heard refl)
            (faults-same s t found.faults found.row found.port) hands (may-take via u.row inputs.Tick heard tt);
        counted = omega (arith, few);
        row = sym low;
        last = over-by u.row mine (stopped heard) low (ends heard);
      }
    where
      tick : (heard : Option Heard) → AddsAtLeast s.idle t.idle (ticks (turn_of inputs.Tick heard ∷ []))
      tick None = at_least-fewer (omega arith) (at_least-one found.idle)
      tick (Some h) = at_least-one found.idle

      ends : (heard : Option Heard) → stopped heard ≡ true → EndsWith IsLast (turn_of inputs.Tick heard ∷ [])
      ends None is = cc
      ends (Some h) is = ([], Some (inputs.Tick, h), refl, is)

  -- a receive that failed, and none too many
  pub took-none : FailedToReceive s t → before.row ≡ s.row → before.row + 1 < 16 → ReadsOnce via k k s t before (record { lost = before.lost; row = before.row + 1 }) false
  took-none failed same few_failed =
      let row : before.row + 1 ≡ t.row = omega (arith, failed.row, same, few_failed) in
      record {
        mine = [];
        out = 0;
        went = went-none k;
        reads = reads-by via [] [] 0 s t t (Adds-same failed.received) failed.handed (at_least-none failed.idle) empty
            (faults-rise s t failed) (hands-none t) (All-nil (SocketMayTake via t.row));
        counted = omega (arith, few);
        row = row;
        last = omega (arith, row, few_failed);
      }

  -- one too many, and the Leave after it
  pub took-leave : (left : Heard) (tries : List RunTurn) → AsksLeave left tries → FailedToReceive s t → before.row ≡ s.row → before.row + 1 ≡ 16 → Went tries k l
      → Hands t u (flat_map reply_of left.outputs) → ReadsOnce via k l s u before (record { lost = before.lost; row = before.row + 1 }) true
  took-leave left tries asked failed same last went hands =
      let row : before.row + 1 ≡ u.row = omega (arith, failed.row, hands.row, same, last) in
      let full : u.row ≡ 16 = sym row ∙ last in
      record {
        mine = tries;
        out = 0;
        went = went;
        reads = reads-by via tries [] 0 s t u (Adds-same failed.received) failed.handed
            (subst (AddsAtLeast s.idle t.idle) (sym (leave-ticks left tries asked)) (at_least-none failed.idle))
            (subst (λ (ds : List Datagram). Less [] ds 0) (sym (leave-datagrams left tries asked)) empty)
            (faults-rise s t failed) (subst (Hands t u) (sym (leave-replies left tries asked)) hands) (leave-taken left tries asked via u.row full);
        counted = omega (arith, few);
        row = row;
        last = inl (full, has-leave left tries asked []);
      }

-- ---- a run of a reader

-- the looks of a reader so far, of which none was the last
pub record ReadsOn {T : Type 0} (via : Via) (k l : Known T Input Heard) (s t : Socket) (counts : ReadCounts) : Type 0 where
  pub mine : List RunTurn
  pub out : ℕ
  pub went : Went mine k l
  pub reads : ReadsDatagrams via mine s t out
  pub counted : counts.lost ≡ min out (2 ^ 64 - 1)
  pub row : counts.row ≡ t.row
  pub low : t.row < 16

module _ {T : Type 0} (via : Via) (k : Known T Input Heard) (s : Socket) where
  pub none-read : s.row ≡ 0 → ReadsOn via k k s s (record { lost = 0; row = 0 })
  none-read low = record {
    mine = [];
    out = 0;
    went = went-none k;
    reads = reads-by via [] [] 0 s s s (Adds-none s.received) refl (at_least-none refl) empty (faults-same s s refl low refl) (hands-none s) (All-nil (SocketMayTake via s.row));
    counted = omega arith;
    row = sym low;
    low = omega (arith, low);
  }

  -- one look more, which isn't the last
  pub more-read : (l m : Known T Input Heard) (t u : Socket) (then now : ReadCounts) (over : Bool) → over ≡ false → ReadsOn via k l s t then → ReadsOnce via l m t u then now over
      → ReadsOn via k m s u now
  more-read l m t u then now over on so_far once = record {
    mine = so_far.mine ++ once.mine;
    out = so_far.out + once.out;
    went = went-on so_far.mine once.mine k l m so_far.went once.went;
    reads = reads-on via so_far.mine once.mine s t u so_far.out once.out so_far.low so_far.reads once.reads;
    counted = omega (arith, so_far.counted, once.counted);
    row = once.row;
    low = MatchBool-at_false (StopsReading u.row once.mine) (u.row < 16) on once.last;
  }

  -- the last one
  pub all-read : (l m : Known T Input Heard) (t u : Socket) (then now : ReadCounts) (over : Bool) → over ≡ true → ReadsOn via k l s t then → ReadsOnce via l m t u then now over
      → ReadsSocket via k m s u now.lost (now.row == 16)
  all-read l m t u then now over done so_far once = record {
    mine = so_far.mine ++ once.mine;
    out = so_far.out + once.out;
    went = went-on so_far.mine once.mine k l m so_far.went once.went;
    served = record {
      reads = reads-on via so_far.mine once.mine s t u so_far.out once.out so_far.low so_far.reads once.reads;
      last = by (MatchBool-at_true (StopsReading u.row once.mine) (u.row < 16) done once.last);
    };
    lost_is = omega (arith, so_far.counted, once.counted);
    fault = ap (λ n. n == 16) once.row;
  }
    where
      by : StopsReading u.row once.mine → StopsReading u.row (so_far.mine ++ once.mine)
      by (inl (full, left)) = inl (full, has-leave-behind so_far.mine once.mine left)
      by (inr (low, ends)) = inr (low, ends-after so_far.mine once.mine ends)
