-- How the writer goes on to the next link, or ends.
use Rattle.std.proofs.Common.{◌≡◌, ◌≢◌, ℕ, ◌+◌, ◌<◌, ◌≤◌, ◌⊎◌, Bool, true, false, cond, if◌then◌else◌, suc, List, [], ◌∷◌, ◌++◌, length, All, Option, Some, None, refl, sym, ap, ◌∙◌, subst, append_assoc, vec_capacity, inl, inr, arith}
use Rattle.std.proofs.lemmas.List.{append-nil, append_cancel_left, append_cancel_right}
use Rattle.std.proofs.lemmas.List.Elements.{All-append, All-cons, All-head, All-nil, All-tail}
use Rattle.std.proofs.lemmas.List.Sums.{sum_by-append}
use Rattle.atomic_table.specs.Seated.{TableId}
use Rattle.wire_core.specs.Counts.{Rose}
use Rattle.radius_packet.specs.declared.reasons.Via.TheVariants.{Auth, Acct}
use Rattle.peer_machine.specs.declared.LinkCause.{LinkCause}
use Rattle.wire_devices.specs.Dialling.{Dials}
use Rattle.wire_devices.specs.Links.{Inlet, IsFreshInlet, IsFreshOutlet, Outlet}
use Rattle.wire_devices.specs.Sockets.{Socket}
use Rattle.wire_devices.specs.Telling.{TellsOnly}
use Rattle.agent_events.specs.declared.events.Input.{Input}
use Rattle.agent_events.specs.declared.events.Input.TheVariants as inputs
use Rattle.turnstile.specs.declared.pass.PassOf.{PassOf}
use Rattle.turnstile.specs.declared.view.Known.{Known}
use Rattle.turnstile.specs.Knowing.{Joined, left_of, right_of}
use Rattle.turnstile.specs.Passes.{known, table_of}
use Rattle.turnstile.specs.Turns.{In, greatest, least, longer, of, without}
use Rattle.server_workers.specs.declared.heard.Heard.{Heard}
use Rattle.server_workers.specs.declared.link_making.Dialling.TheVariants as dialling
use Rattle.server_workers.specs.declared.link_writer.WriterEnd.{WriterEnd}
use Rattle.server_workers.specs.declared.link_writer.WriterEnd.TheVariants as writer
use Rattle.server_workers.specs.declared.running.Next.{Next}
use Rattle.server_workers.specs.declared.running.Next.TheVariants as next
use Rattle.server_workers.specs.declared.running.Past.{Past}
use Rattle.server_workers.specs.declared.running.RunEnd.{RunEnd}
use Rattle.server_workers.specs.declared.running.RunEnd.TheVariants as run
use Rattle.server_workers.specs.declared.running.Twins.{Twins}
use Rattle.server_workers.specs.declared.links.Pair.{Pair}
use Rattle.server_workers.specs.Entries.{AreBlank, AsksLeave, EachEntry, EndsWith, HasLeave, RunTurn, downs, handed_at, is_down, is_entry_of, is_final, is_tick, octets_in, replies_by, sends, ticks}
use Rattle.server_workers.specs.Going.{SeenLast, Went}
use Rattle.server_workers.specs.LinkReading.{LinkMayTake}
use Rattle.server_workers.specs.LinkWriting.{Wrote}
use Rattle.server_workers.specs.Running.{Between, ClosedFor, ComesNext, Dialled, NoNextLink, EndsLink, EndsRun, end_after, HasReaders, HasSpare, Keeps, KeepsAll, KeepsPair, counted, IsFinishedTick, LastDrain, LateDrainsAreEmpty, LeftAtEnd, LinkOpened, NoLeave, Opened, Over, Rests, RoseBy, RunOver, Started, Tally, TakesLeaveAlone, Ticked}
use Rattle.agent_events.specs.Kinds.{is_leave}
use Rattle.server_workers.specs.Serving.{AllBut, AreUnopened, IsTick, LinkRead, MayWrite, Span, Spanned, Spans, WasRead}
use Rattle.server_workers.specs.Serving.Spans.{no_more, one_more}
use Rattle.server_workers.specs.Segments.{IsClosed, ServerTurn, flat, is_beginning}
use Rattle.server_workers.proofs.DialLemmas.{each-append}
use Rattle.server_workers.proofs.GoingLemmas.{went-on}
use Rattle.server_workers.proofs.GrowthLemmas.{MayFollow, all-grow, all_but-grow, all_but-of, closed-grow, closed_for-grow, ends-grow, first-all, first-grow, first-push, grow, length-grow, others-follow, read-grow, readers-all, readers-grow, spanned-grow, wrote-still}
use Rattle.server_workers.proofs.LeaveLemmas.{has-leave, leave-ticks}
use Rattle.server_workers.proofs.LinkOverLemmas.{all_but-all, each-weaker, length-push, spans-push}
use Rattle.server_workers.proofs.TurnLemmas.{of-append, flat-push}

-- ---- turns

-- turns by which nothing begins, is handed over, or is said to be down
pub record IsStill (mine : List RunTurn) : Type 0 where
  pub asks : EachEntry (λ ask heard. MayWrite ask) mine
  pub hands : sends mine ≡ []
  pub no_down : downs mine ≡ 0

abbrev Ticks : Input → Heard → Type 0
Ticks ask heard = IsTick ask

abbrev Writes : Input → Heard → Type 0
Writes ask heard = MayWrite ask

abbrev Stay : Input → Heard → Type 0
Stay ask heard = is_leave ask ≡ false

abbrev Begins-none : Input → Heard → Type 0
Begins-none ask heard = is_beginning ask ≡ false

-- what holds of a Tick holds of each turn of a dialling
tick-is : (P : Input → Type 0) → P inputs.Tick → (ask : Input) → IsTick ask → P ask
tick-is P has inputs.Tick is = has
tick-is P has inputs.Drain is = absurd is
tick-is P has inputs.Down is = absurd is
tick-is P has inputs.Leave is = absurd is
tick-is P has inputs.Up is = absurd is
tick-is P has inputs.Ready is = absurd is
tick-is P has (inputs.Message octets) is = absurd is
tick-is P has (inputs.Broken fault) is = absurd is
tick-is P has (inputs.Datagram via address port octets) is = absurd is

ticks-each : (P : Input → Type 0) (mine : List RunTurn) → P inputs.Tick → EachEntry Ticks mine → EachEntry (λ ask heard. P ask) mine
ticks-each P mine has each = each-weaker Ticks (λ ask heard. P ask) mine (λ ask heard is. tick-is P has ask is) each

tick-hands : (mine : List RunTurn) → EachEntry Ticks mine → sends mine ≡ []
tick-hands [] each = refl
tick-hands (None ∷ mine) each = tick-hands mine each
tick-hands (Some (inputs.Tick, heard) ∷ mine) (is, each) = tick-hands mine each
tick-hands (Some (inputs.Drain, heard) ∷ mine) (is, each) = absurd is
tick-hands (Some (inputs.Down, heard) ∷ mine) (is, each) = absurd is
tick-hands (Some (inputs.Leave, heard) ∷ mine) (is, each) = absurd is
tick-hands (Some (inputs.Up, heard) ∷ mine) (is, each) = absurd is
tick-hands (Some (inputs.Ready, heard) ∷ mine) (is, each) = absurd is
tick-hands (Some (inputs.Message octets, heard) ∷ mine) (is, each) = absurd is
tick-hands (Some (inputs.Broken fault, heard) ∷ mine) (is, each) = absurd is
tick-hands (Some (inputs.Datagram via address port octets, heard) ∷ mine) (is, each) = absurd is

no-downs : (mine : List RunTurn) → EachEntry (λ ask heard. is_down ask ≡ false) mine → downs mine ≡ 0
no-downs [] each = refl
no-downs (None ∷ mine) each = let e = no-downs mine each in omega (arith, e)
no-downs (Some entry ∷ mine) (is, each) = let e = no-downs mine each in rw is (omega (arith, e))

pub no-ticks : (mine : List RunTurn) → EachEntry (λ ask heard. is_tick ask ≡ false) mine → ticks mine ≡ 0
no-ticks [] each = refl
no-ticks (None ∷ mine) each = let e = no-ticks mine each in omega (arith, e)
no-ticks (Some entry ∷ mine) (is, each) = let e = no-ticks mine each in rw is (omega (arith, e))

pub few-ticks : (mine : List RunTurn) → ticks mine ≤ length mine
few-ticks [] = omega arith
few-ticks (None ∷ mine) = let e = few-ticks mine in omega (arith, e)
few-ticks (Some entry ∷ mine) =
    let few = few-ticks mine in
    let one = one-at-most (is_tick entry.0) in
    let both = sum_by-append (λ turn. cond (is_entry_of is_tick turn) 1 0) (Some entry ∷ []) mine in
    omega (arith, few, one, both)
  where
    one-at-most : (b : Bool) → 0 + cond b 1 0 ≤ 1
    one-at-most true = omega arith
    one-at-most false = omega arith

pub still-ticks : (mine : List RunTurn) → EachEntry Ticks mine → IsStill mine
still-ticks mine each = record {
  asks = ticks-each MayWrite mine tt each;
  hands = tick-hands mine each;
  no_down = no-downs mine (ticks-each (λ ask. is_down ask ≡ false) mine refl each);
}

pub quiet-ticks : (mine : List RunTurn) → EachEntry Ticks mine → NoLeave mine
quiet-ticks mine each = ticks-each (λ ask. is_leave ask ≡ false) mine refl each

sends-on : (mine more : List RunTurn) → sends (mine ++ more) ≡ sends mine ++ sends more
sends-on [] more = refl
sends-on (None ∷ mine) more = sends-on mine more
sends-on (Some entry ∷ mine) more =
    ap (λ os. handed_at entry.0 entry.1 ++ os) (sends-on mine more) ∙ sym (append_assoc (handed_at entry.0 entry.1) (sends mine) (sends more))

pub still-on : (mine more : List RunTurn) → IsStill mine → IsStill more → IsStill (mine ++ more)
still-on mine more one two = record {
  asks = each-append Writes mine more one.asks two.asks;
  hands = sends-on mine more ∙ ap (λ os. os ++ sends more) one.hands ∙ two.hands;
  no_down = omega (arith, sum_by-append (λ turn. cond (is_entry_of is_down turn) 1 0) mine more, one.no_down, two.no_down);
}

-- ---- the agent's leave

still-blanks : (blanks : List RunTurn) → AreBlank blanks → IsStill blanks
still-blanks [] blank = record { asks = tt; hands = refl; no_down = refl }
still-blanks (None ∷ blanks) blank = let s = still-blanks blanks blank in record { asks = s.asks; hands = s.hands; no_down = omega (arith, s.no_down) }
still-blanks (Some entry ∷ blanks) blank = absurd blank

pub still-leave : (left : Heard) (tries : List RunTurn) → AsksLeave left tries → IsStill tries
still-leave left tries asked = subst IsStill (sym asked.whole)
    (still-on asked.blanks (Some (inputs.Leave, left) ∷ []) (still-blanks asked.blanks asked.blank) (record { asks = (tt, tt); hands = refl; no_down = refl }))

pub still-blank : IsStill (None ∷ [])
still-blank = record { asks = tt; hands = refl; no_down = refl }

pub each-front : (P : Input → Heard → Type 0) (front back : List RunTurn) → EachEntry P (front ++ back) → EachEntry P front
each-front P [] back each = tt
each-front P (None ∷ front) back each = each-front P front back each
each-front P (Some entry ∷ front) back (has, each) = (has, each-front P front back each)

-- ---- the writer's turns, with the numbers 0 and 3

pub record WriterTurns {T : Type 0} (k k' : Known T Input Heard) (mine : List RunTurn) : Type 0 where
  pub rest : List ServerTurn
  pub whole : k'.seen ≡ k.seen ++ rest
  pub own : of 0 rest ≡ mine
  pub alone : of 3 rest ≡ []
  pub own_now : of 0 k'.seen ≡ of 0 k.seen ++ mine
  pub alone_now : of 3 k'.seen ≡ of 3 k.seen
  pub numbers : k'.numbers ≡ 0 ∷ 3 ∷ []
  pub first : k'.first ≡ k.first

pub writer-turns : {T : Type 0} (k k' : Known T Input Heard) (mine : List RunTurn) → k.numbers ≡ 0 ∷ 3 ∷ [] → Went mine k k' → WriterTurns k k' mine
writer-turns k k' mine numbers went =
    let (rest, whole) = went.begins in
    let low : least k.numbers ≡ 0 = ap least numbers in
    let own_now : of 0 k'.seen ≡ of 0 k.seen ++ mine = subst (λ n. of n k'.seen ≡ of n k.seen ++ mine) low went.own in
    let three : In 3 k.numbers = subst (In 3) (sym numbers) (inr (inl refl)) in
    let other : 3 ≢ least k.numbers = λ is. absurd (let e : 3 ≡ 0 = is ∙ low in omega (arith, e)) in
    let alone_now : of 3 k'.seen ≡ of 3 k.seen = went.others 3 three other in
    record {
      rest = rest;
      whole = whole;
      own = append_cancel_left (of 0 k.seen) (of 0 rest) mine (sym (of-append 0 k.seen rest) ∙ sym (ap (of 0) whole) ∙ own_now);
      alone = append_cancel_left (of 3 k.seen) (of 3 rest) []
          (sym (of-append 3 k.seen rest) ∙ sym (ap (of 3) whole) ∙ alone_now ∙ sym (append-nil (of 3 k.seen)));
      own_now = own_now;
      alone_now = alone_now;
      numbers = went.numbers ∙ numbers;
      first = went.first;
    }

pub may-follow : {T : Type 0} (k k' : Known T Input Heard) (mine : List RunTurn) (t : WriterTurns k k' mine) → IsStill mine → MayFollow t.rest
may-follow k k' mine t still = record {
  asks = subst (EachEntry Writes) (sym t.own) still.asks;
  hands = ap sends t.own ∙ still.hands;
  no_down = ap downs t.own ∙ still.no_down;
  alone = t.alone;
}

tally-on : {D I O : Type 0} (told : D → Socket) (past : Past I O) (auth acct : D) (seen seen' : List ServerTurn) (n r : ℕ) → of 3 seen' ≡ of 3 seen → Tally told past auth acct seen n r → Tally told past auth acct seen' n r
tally-on told past auth acct seen seen' n r same t = record {
  lost = t.lost;
  again = t.again;
  auth_handed = subst (λ ts. TellsOnly (told auth).handed (replies_by Auth ts)) (sym same) t.auth_handed;
  acct_handed = subst (λ ts. TellsOnly (told acct).handed (replies_by Acct ts)) (sym same) t.acct_handed;
  room = t.room;
}

-- ---- a pass that was split and put together again

-- what is known of the writer after its pass was split and put together again, or wasn't split
pub record Same {T : Type 0} (k k' : Known T Input Heard) : Type 0 where
  pub seen : k'.seen ≡ k.seen
  pub first : k'.first ≡ k.first
  pub numbers : k'.numbers ≡ 0 ∷ 3 ∷ []

longer-same : (b : Bool) (xs : List ServerTurn) → cond b xs xs ≡ xs
longer-same true xs = refl
longer-same false xs = refl

-- a pass that was split and put together again
pub same-again : {T : Type 0} (k l m r : Known T Input Heard) → k.numbers ≡ 0 ∷ 3 ∷ [] → l ≡ left_of k → r ≡ right_of k → Joined l r m → Same k m
same-again {T} k l m r numbers left right joined = record {
  seen = joined.seen ∙ ap (λ (x : Known T Input Heard). longer x.seen r.seen) left ∙ ap (λ (x : Known T Input Heard). longer k.seen x.seen) right
      ∙ longer-same _ k.seen;
  first = joined.first.0 ∙ ap (λ (x : Known T Input Heard). x.first) left;
  numbers = joined.numbers ∙ ap (λ (x : Known T Input Heard). x.numbers ++ r.numbers) left
      ∙ ap (λ (x : Known T Input Heard). (left_of k).numbers ++ x.numbers) right
      ∙ ap (λ ns. without (greatest ns) ns ++ greatest ns ∷ []) numbers;
}

pub same-still : {T : Type 0} (k : Known T Input Heard) → k.numbers ≡ 0 ∷ 3 ∷ [] → Same k k
same-still k numbers = record { seen = refl; first = refl; numbers = numbers }

-- ---- from turn to turn

pub ticked-on : (a b c : List RunTurn) (x y z : ℕ) → Ticked a b x y → Ticked b c y z → Ticked a c x z
ticked-on a b c x y z one two =
    let both = sum_by-append (λ turn. cond (is_entry_of is_tick turn) 1 0) one.more two.more in
    record {
      more = one.more ++ two.more;
      whole = two.whole ∙ ap (λ ts. ts ++ two.more) one.whole ∙ append_assoc a one.more two.more;
      counted = omega (arith, both, one.counted, two.counted);
      grows = omega (arith, one.grows, two.grows);
    }

pub ticked-still : (own : List RunTurn) (n : ℕ) → Ticked own own n n
ticked-still own n = record { more = []; whole = sym (append-nil own); counted = omega arith; grows = omega arith }

pub ticked-none : (a b : List RunTurn) (n : ℕ) → Ticked a b 0 0 → Ticked a b n n
ticked-none a b n t = record { more = t.more; whole = t.whole; counted = omega (arith, t.counted); grows = omega arith }

-- only the pass was split
pub ticked-split : {T : Type 0} (k l : Known T Input Heard) (n : ℕ) → l ≡ left_of k → Ticked (of 0 k.seen) (of 0 l.seen) n n
ticked-split {T} k l n left =
    subst (λ (ts : List ServerTurn). Ticked (of 0 k.seen) (of 0 ts) n n) (sym (ap (λ (v : Known T Input Heard). v.seen) left)) (ticked-still (of 0 k.seen) n)

-- the Up of a link
pub ticked-up : {T : Type 0} (k l : Known T Input Heard) (opened : Heard) (faults : ℕ) → k.numbers ≡ 0 ∷ 3 ∷ [] → Went (Some (inputs.Up, opened) ∷ []) k l
    → Ticked (of 0 k.seen) (of 0 l.seen) faults faults
ticked-up k l opened faults numbers went =
    let t = writer-turns k l (Some (inputs.Up, opened) ∷ []) numbers went in
    record { more = Some (inputs.Up, opened) ∷ []; whole = t.own_now; counted = omega arith; grows = omega arith }

-- a dialling
pub ticked-dials : {T : Type 0} (k l : Known T Input Heard) (mine : List RunTurn) (before now : ℕ) → k.numbers ≡ 0 ∷ 3 ∷ [] → Went mine k l
    → RoseBy (length mine) before now → before ≤ now → Ticked (of 0 k.seen) (of 0 l.seen) before now
ticked-dials k l mine before now numbers went rose grows =
    let t = writer-turns k l mine numbers went in
    record { more = mine; whole = t.own_now; counted = let few = few-ticks mine in omega (arith, rose, few); grows = grows }

-- ---- links that were made

pub keeps-same : (links made made' : ℕ) → made' ≡ made → Keeps links links made made'
keeps-same links made made' same = record { more = 0; links_are = omega arith; made_is = omega (arith, same) }

pub keeps-pair : {T D I O : Type 0} (r : Next T D I O) (links links' made made' : ℕ) → KeepsPair r links links' → made' ≡ counted made 1 → KeepsAll r links links' made made'
keeps-pair (next.Go live) links links' made made' kept one = (kept, one)
keeps-pair (next.Stop end twins) links links' made made' kept one = record { more = 1; links_are = kept; made_is = one }

-- one more link is over, and one more was made
pub keeps-one : (a b c x y z : ℕ) → Keeps a b x y → (c ≡ b + 1) × (z ≡ counted y 1) → Keeps a c x z
keeps-one a b c x y z kept (links, made) = record {
  more = kept.more + 1;
  links_are = omega (arith, links, kept.links_are);
  made_is = omega (arith, made, kept.made_is);
}

pub keeps-on : (a b c x y z : ℕ) → Keeps a b x y → Keeps (b + 1) c y z → Keeps (a + 1) c x z
keeps-on a b c x y z one two = record {
  more = one.more + two.more;
  links_are = omega (arith, one.links_are, two.links_are);
  made_is = omega (arith, one.made_is, two.made_is);
}

-- ---- closed links

pub late-on : (mine more : List RunTurn) → LastDrain mine → EachEntry Begins-none more → LastDrain (mine ++ more)
late-on mine more late none = record {
  front = late.front;
  heard = late.heard;
  back = late.back ++ more;
  cause = late.cause;
  whole = ap (λ ts. ts ++ more) late.whole ∙ append_assoc late.front (Some (inputs.Drain, late.heard) ∷ late.back) more;
  closed = late.closed;
  later = each-append Begins-none late.back more late.later none;
}

-- the last of some closed links
pub last-closed : (segs : List (List ServerTurn)) → 0 < length segs → All IsClosed segs
    → (cause : LinkCause) × (is_final cause ≡ false) × EndsWith (ClosedFor cause) segs
last-closed [] some all = absurd (omega (arith, some))
last-closed (seg ∷ []) some all =
    let c = All-head IsClosed seg [] all in
    (c.cause, c.goes_on, ([], seg, refl, record { heard = c.heard; front = c.front; back = c.back; whole = c.whole; closed = c.closed }))
last-closed (seg ∷ more ∷ segs) some all =
    let (cause, goes_on, (front, last, is, has)) = last-closed (more ∷ segs) (omega arith) (All-tail IsClosed seg (more ∷ segs) all) in
    (cause, goes_on, (seg ∷ front, last, ap (λ ss. seg ∷ ss) is, has))

-- all are closed where all but the last are, and the last is, for a cause after which another link is made
pub all-closed : (segs : List (List ServerTurn)) (cause : LinkCause) → is_final cause ≡ false → AllBut IsClosed segs → EndsWith (ClosedFor cause) segs
    → All IsClosed segs
all-closed [] cause goes_on all (front, last, is, has) = All-nil IsClosed
all-closed (seg ∷ []) cause goes_on all ([], last, is, c) =
    let same : seg ≡ last = cc in
    All-cons IsClosed seg [] (record { cause = cause; heard = c.heard; front = c.front; back = c.back; whole = same ∙ c.whole; closed = c.closed; goes_on = goes_on }) (All-nil IsClosed)
all-closed (seg ∷ []) cause goes_on all (x ∷ front, last, is, c) = absurd (none-after front last (let e : [] ≡ front ++ last ∷ [] = cc in e))
  where
    none-after : (front : List (List ServerTurn)) (last : List ServerTurn) → [] ≡ front ++ last ∷ [] → ⊥
    none-after [] last is = cc
    none-after (x ∷ front) last is = cc
all-closed (seg ∷ more ∷ segs) cause goes_on (has, all) ([], last, is, c) = absurd (let e : more ∷ segs ≡ [] = cc in cc)
all-closed (seg ∷ more ∷ segs) cause goes_on (has, all) (x ∷ front, last, is, c) =
    All-cons IsClosed seg (more ∷ segs) has (all-closed (more ∷ segs) cause goes_on all (front, last, (let e : more ∷ segs ≡ front ++ last ∷ [] = cc in e), c))

module _ {I O : Type 0} (hears : I → Inlet) (speaks : O → Outlet) where
  pub spans-length : (pairs : List (Pair I O)) (segs : List (List ServerTurn)) (n r : ℕ) → Spans hears speaks pairs segs n r → length pairs ≡ length segs
  spans-length pairs segs n r no_more = refl
  spans-length pairs segs n r (one_more pair seg n' r' pairs' segs' m q one spans) = ap suc (spans-length pairs' segs' m q spans)

  -- each link has a span
  pub between-some : (pairs : List (Pair I O)) (seen : List ServerTurn) (n r : ℕ) → 0 < length pairs → (b : Between hears speaks pairs seen n r) → 0 < length b.segs
  between-some pairs seen n r some b = let e = spans-length pairs b.segs n r b.spanned.spans in omega (arith, some, e)

  -- what more turns of the writer make of what is over
  module _ {T : Type 0} where
    pub spanned-on : (pairs : List (Pair I O)) (segs : List (List ServerTurn)) (k k' : Known T Input Heard) (mine : List RunTurn) (n r : ℕ)
        (t : WriterTurns k k' mine) → IsStill mine → 0 < length segs → Spanned hears speaks pairs segs k.seen n r → Spanned hears speaks pairs (grow segs t.rest) k'.seen n r
    spanned-on pairs segs k k' mine n r t still some spanned =
        subst (λ ts. Spanned hears speaks pairs (grow segs t.rest) ts n r) (sym t.whole)
        (spanned-grow hears speaks pairs segs k.seen t.rest n r (may-follow k k' mine t still) some spanned)

    pub between-on : (pairs : List (Pair I O)) (k k' : Known T Input Heard) (mine : List RunTurn) (n r : ℕ) → WriterTurns k k' mine → IsStill mine → NoLeave mine
        → 0 < length pairs → Between hears speaks pairs k.seen n r → Between hears speaks pairs k'.seen n r
    between-on pairs k k' mine n r t still quiet some b = record {
      segs = grow b.segs t.rest;
      spanned = spanned-on pairs b.segs k k' mine n r t still (between-some pairs k.seen n r some b) b.spanned;
      closed = all-grow IsClosed b.segs t.rest (λ seg c. closed-grow seg t.rest c) b.closed;
      read = all-grow WasRead b.segs t.rest (λ seg r. read-grow seg t.rest r) b.read;
      quiet = subst NoLeave (sym t.own_now) (each-append Stay (of 0 k.seen) mine b.quiet quiet);
    }

    -- the end of a run whose links were all closed, by some more turns of the writer
    pub over-from : (end : RunEnd) (row : ℕ) (refused : Type 0) (pairs served spare : List (Pair I O)) (k k' : Known T Input Heard) (mine : List RunTurn) (n r : ℕ)
        (t : WriterTurns k k' mine) → IsStill mine → pairs ≡ served ++ spare → AreUnopened hears speaks spare → HasSpare end spare → length pairs ≤ 256 → 0 < length served
        → (b : Between hears speaks served k.seen n r) → EndsRun end row refused (grow b.segs t.rest) k'.seen
        → RunOver hears speaks end row refused pairs k'.seen n r
    over-from end row refused pairs served spare k k' mine n r t still paired unopened only few some b ends =
        let some_seg = between-some served k.seen n r some b in
        record {
          served = served;
          spare = spare;
          paired = paired;
          unopened = unopened;
          only = only;
          segs = grow b.segs t.rest;
          spanned = spanned-on served b.segs k k' mine n r t still some_seg b.spanned;
          some = subst (λ m. 0 < m) (sym (length-grow b.segs t.rest)) some_seg;
          few = few;
          closed = all_but-grow IsClosed b.segs t.rest (all_but-of IsClosed b.segs b.closed);
          first = first-grow b.segs t.rest (first-all b.segs some_seg b.read);
          read = readers-grow end b.segs t.rest (readers-all end b.segs b.read);
          ends = ends;
        }

  -- what the readers of links asked
  pub spans-reads : (pairs : List (Pair I O)) (segs : List (List ServerTurn)) (n r : ℕ) → Spans hears speaks pairs segs n r → All LinkMayTake (of 3 (flat segs))
  spans-reads pairs segs n r no_more = All-nil LinkMayTake
  spans-reads pairs segs n r (one_more pair seg n' r' pairs' segs' m q one spans) =
      let here : of 3 seg ≡ of 3 one.rest = ap (of 3) one.whole in
      subst (All LinkMayTake) (sym (of-append 3 seg (flat segs')))
      (All-append LinkMayTake (of 3 seg) (of 3 (flat segs')) (subst (All LinkMayTake) (sym here) (read (of 3 one.rest) one.read)) (spans-reads pairs' segs' m q spans))
    where
      read : (mine : List RunTurn) → LinkRead hears speaks mine (hears pair.link_in) n' r' → All LinkMayTake mine
      read mine (inl (made, fresh, served)) = served.reads.asks
      read mine (inr (fresh, none, left, retried)) = subst (All LinkMayTake) (sym none) (All-nil LinkMayTake)

  pub spanned-reads : (pairs : List (Pair I O)) (segs : List (List ServerTurn)) (seen : List ServerTurn) (n r : ℕ) → Spanned hears speaks pairs segs seen n r
      → All LinkMayTake (of 3 seen)
  spanned-reads pairs segs seen n r s =
      subst (All LinkMayTake) (sym (ap (of 3) s.whole ∙ of-append 3 s.front (flat segs) ∙ ap (λ ts. ts ++ of 3 (flat segs)) s.alone))
      (spans-reads pairs segs n r s.spans)

  module _ {T D : Type 0} (told : D → Socket) where
    -- no link is open, and the writer let time pass
    pub rests-on : (k k' : Known T Input Heard) (twins : Twins D) (past : Past I O) (mine : List RunTurn) → EachEntry Ticks mine → Went mine k k'
        → Rests hears speaks told k twins past → Rests hears speaks told k' twins past
    rests-on k k' twins past mine ticks went s =
        let t = writer-turns k k' mine s.numbers went in record {
          numbers = t.numbers;
          out = s.out;
          retries = s.retries;
          few = s.few;
          some = s.some;
          between = between-on past.pairs.items k k' mine s.out s.retries t (still-ticks mine ticks) (quiet-ticks mine ticks) s.some s.between;
          late = subst LastDrain (sym t.own_now) (late-on (of 0 k.seen) mine s.late (ticks-each (λ ask. is_beginning ask ≡ false) mine refl ticks));
          tally = tally-on told past twins.auth twins.acct k.seen k'.seen s.out s.retries t.alone_now s.tally;
        }

    -- the next link was opened
    pub opened-by : (k k' : Known T Input Heard) (twins : Twins D) (past : Past I O) (opened : Heard) → length past.pairs.items < 256
        → Went (Some (inputs.Up, opened) ∷ []) k k' → SeenLast (Some (inputs.Up, opened)) k k' → Rests hears speaks told k twins past
        → LinkOpened hears speaks told k' twins past
    opened-by k k' twins past opened few went last s =
        let low : least k.numbers ≡ 0 = ap least s.numbers in
        let t = writer-turns k k' (Some (inputs.Up, opened) ∷ []) s.numbers went in
        let up : List ServerTurn = (0, Some (inputs.Up, opened)) ∷ [] in
        let seen : k'.seen ≡ (k.seen ++ last.between) ++ up = subst (λ n. k'.seen ≡ (k.seen ++ last.between) ++ (n, Some (inputs.Up, opened)) ∷ []) low last.seen in
        let rest : t.rest ≡ last.between ++ up = append_cancel_left k.seen t.rest (last.between ++ up) (sym t.whole ∙ seen ∙ append_assoc k.seen last.between up) in
        let own : of 0 last.between ++ Some (inputs.Up, opened) ∷ [] ≡ [] ++ Some (inputs.Up, opened) ∷ [] =
        sym (of-append 0 last.between up) ∙ sym (ap (of 0) rest) ∙ t.own in
        let none : of 0 last.between ≡ [] = append_cancel_right (of 0 last.between) [] (Some (inputs.Up, opened) ∷ []) own in
        let alone : of 3 last.between ++ [] ≡ [] = sym (of-append 3 last.between up) ∙ sym (ap (of 3) rest) ∙ t.alone in
        let lone : of 3 last.between ≡ [] = sym (append-nil (of 3 last.between)) ∙ alone in
        let may = others-follow last.between none lone in
        let some_seg = between-some past.pairs.items k.seen s.out s.retries s.some s.between in
        let b = s.between in
        record {
          numbers = t.numbers;
          out = s.out;
          retries = s.retries;
          few = few;
          some = s.some;
          opened = record {
            before = k.seen ++ last.between;
            between = record {
              segs = grow b.segs last.between;
              spanned = spanned-grow hears speaks past.pairs.items b.segs k.seen last.between s.out s.retries may some_seg b.spanned;
              closed = all-grow IsClosed b.segs last.between (λ seg c. closed-grow seg last.between c) b.closed;
              read = all-grow WasRead b.segs last.between (λ seg r. read-grow seg last.between r) b.read;
              quiet = subst NoLeave (sym (of-append 0 k.seen last.between ∙ ap (λ ts. of 0 k.seen ++ ts) none ∙ append-nil (of 0 k.seen))) b.quiet;
            };
            opened = opened;
            whole = seen;
          };
          tally = tally-on told past twins.auth twins.acct k.seen k'.seen s.out s.retries t.alone_now s.tally;
        }

    -- the run ends with no link open, by some more turns of the writer
    pub ends-by : (end : RunEnd) (before now : Dials) (refused : Type 0) (k k' : Known T Input Heard) (twins : Twins D) (past past' : Past I O)
        (spare : List (Pair I O)) (mine : List RunTurn) → (s : Rests hears speaks told k twins past) → (went : Went mine k k')
        → (LateDrainsAreEmpty (of 0 k'.seen) → IsStill mine) → RoseBy (ticks mine) before.faults now.faults → before.faults ≤ now.faults
        → (now.row ≡ 16 → Rose before.faults now.faults)
        → past'.pairs.items ≡ past.pairs.items ++ spare → vec_capacity past'.pairs ≡ vec_capacity past.pairs → past'.lost ≡ past.lost → past'.again ≡ past.again
        → AreUnopened hears speaks spare → HasSpare end spare → length past'.pairs.items ≤ 256
        → ((t : WriterTurns k k' mine) → EndsRun end now.row refused (grow s.between.segs t.rest) k'.seen)
        → NoNextLink hears speaks told end before now refused k k' twins past'
    ends-by end before now refused k k' twins past past' spare mine s went still dialled grows failed pairs room lost again unopened only few ends =
        let t = writer-turns k k' mine s.numbers went in
        record {
          first = t.first;
          numbers = t.numbers;
          ticked = record { more = mine; whole = t.own_now; counted = dialled; grows = grows };
          failed = failed;
          out = s.out;
          retries = s.retries;
          reads = subst (All LinkMayTake) (sym t.alone_now) (spanned-reads past.pairs.items s.between.segs k.seen s.out s.retries s.between.spanned);
          over = λ late. over-from end now.row refused past'.pairs.items past.pairs.items spare k k' mine s.out s.retries t (still late) pairs unopened only few s.some s.between (ends t);
          tally = record {
            lost = lost ∙ s.tally.lost;
            again = again ∙ s.tally.again;
            auth_handed = subst (λ ts. TellsOnly (told twins.auth).handed (replies_by Auth ts)) (sym t.alone_now) s.tally.auth_handed;
            acct_handed = subst (λ ts. TellsOnly (told twins.acct).handed (replies_by Acct ts)) (sym t.alone_now) s.tally.acct_handed;
            room = omega (arith, room, s.tally.room);
          };
        }

    -- the Up of a link that was made met want of memory
    pub ends-unopened : (dials : Dials) (refused : Type 0) (k l m : Known T Input Heard) (twins : Twins D) (past past' : Past I O) (pair : Pair I O) (tries : List RunTurn) (left : Heard)
        → AsksLeave left tries → dials.row ≡ 0 → Rests hears speaks told k twins past → Went (None ∷ []) k l → Went tries l m → length past.pairs.items < 256
        → past'.pairs.items ≡ past.pairs.items ++ pair ∷ [] → vec_capacity past'.pairs ≡ vec_capacity past.pairs → past'.lost ≡ past.lost → past'.again ≡ past.again
        → IsFreshInlet (hears pair.link_in) → IsFreshOutlet (speaks pair.link_out)
        → NoNextLink hears speaks told run.NoMemory dials dials refused k m twins past'
    ends-unopened dials refused k l m twins past past' pair tries left asked low s blank went few pairs room lost again fresh_in fresh_out =
        ends-by run.NoMemory dials dials refused k m twins past past' (pair ∷ []) (None ∷ tries) s
        (went-on (None ∷ []) tries k l m blank went)
        (λ late. still-on (None ∷ []) tries still-blank (still-leave left tries asked))
        (let none = leave-ticks left tries asked in omega (arith, none)) (omega arith) (λ full. absurd (omega (arith, low, full))) pairs room lost again (fresh_in, fresh_out) tt
        (omega (arith, ap length pairs, length-push past.pairs.items pair, few)) (λ t. tt)

    -- all links that may be made were closed
    pub ends-worn : (dials : Dials) (refused : Type 0) (k l : Known T Input Heard) (twins : Twins D) (past : Past I O) (tries : List RunTurn) (left : Heard)
        → AsksLeave left tries → dials.row ≡ 0 → (s : Rests hears speaks told k twins past) → Went tries k l → 256 ≤ length past.pairs.items
        → NoNextLink hears speaks told run.Worn dials dials refused k l twins past
    ends-worn dials refused k l twins past tries left asked low s went many =
        ends-by run.Worn dials dials refused k l twins past past [] tries s went (λ late. still-leave left tries asked) (let none = leave-ticks left tries asked in omega (arith, none))
        (omega arith) (λ full. absurd (omega (arith, low, full))) (sym (append-nil past.pairs.items)) refl refl refl tt refl s.few
        (λ t.
        let b = s.between in
        let (cause, goes_on, ends) = last-closed b.segs (between-some past.pairs.items k.seen s.out s.retries s.some b) b.closed in (
          omega (arith, length-grow b.segs t.rest, spans-length past.pairs.items b.segs s.out s.retries b.spanned.spans, many, s.few),
          subst HasLeave (sym t.own_now) (has-leave left tries asked (of 0 k.seen)),
          (cause, goes_on, ends-grow (ClosedFor cause) b.segs t.rest (λ seg c. closed_for-grow cause seg t.rest c) ends),
        ))

    -- too many dials in a row failed
    pub ends-undialled : (before now : Dials) (refused : Type 0) (k l m : Known T Input Heard) (twins : Twins D) (past : Past I O) (mine tries : List RunTurn) (left : Heard)
        → AsksLeave left tries → before.row ≡ 0 → Rests hears speaks told k twins past → Went mine k l → Dialled hears speaks dialling.Failed mine before now
        → Went tries l m
        → NoNextLink hears speaks told run.LinkFault before now refused k m twins past
    ends-undialled before now refused k l m twins past mine tries left asked low s dials d went =
        ends-by run.LinkFault before now refused k m twins past past [] (mine ++ tries) s (went-on mine tries k l m dials went)
        (λ late. still-on mine tries (still-ticks mine d.asks) (still-leave left tries asked))
        (let both = sum_by-append (λ turn. cond (is_entry_of is_tick turn) 1 0) mine tries in
        let few = few-ticks mine in
        let none = leave-ticks left tries asked in
        omega (arith, d.faults, both, few, none))
        d.grows (λ full. d.failed (omega (arith, low, full))) (sym (append-nil past.pairs.items)) refl refl refl tt refl s.few
        (λ t. (d.ends, subst HasLeave (sym (t.own_now ∙ sym (append_assoc (of 0 k.seen) mine tries))) (has-leave left tries asked (of 0 k.seen ++ mine))))

    -- the run was at its end while no link was open
    pub ends-finished : (end : RunEnd) (before now : Dials) (refused : Type 0) (k l m : Known T Input Heard) (twins : Twins D) (past : Past I O) (mine : List RunTurn)
        → before.row ≡ 0 → Rests hears speaks told k twins past → Went mine k l → Dialled hears speaks dialling.Finished mine before now → TakesLeaveAlone end l m
        → NoNextLink hears speaks told end before now refused k m twins past
    ends-finished run.Left before now refused k l m twins past mine low s dials d (more, went, (left, last, is)) =
        by (subst (λ ts. Went ts l m) is went)
      where
        all : List RunTurn
        all = mine ++ Some (inputs.Leave, left) ∷ Some (inputs.Drain, last) ∷ []

        hands : LateDrainsAreEmpty (of 0 m.seen) → WriterTurns k m all → octets_in last.sends ≡ []
        hands late t =
            let e = s.late in
            late e.front (e.back ++ (mine ++ Some (inputs.Leave, left) ∷ [])) [] e.heard last e.cause
            (t.own_now ∙ ap (λ ts. ts ++ all) e.whole ∙ append_assoc e.front (Some (inputs.Drain, e.heard) ∷ e.back) all
            ∙ ap (λ ts. e.front ++ Some (inputs.Drain, e.heard) ∷ ts)
            (ap (λ ts. e.back ++ ts) (sym (append_assoc mine (Some (inputs.Leave, left) ∷ []) (Some (inputs.Drain, last) ∷ [])))
            ∙ sym (append_assoc e.back (mine ++ Some (inputs.Leave, left) ∷ []) (Some (inputs.Drain, last) ∷ []))))
            e.closed
            (each-append Begins-none e.back (mine ++ Some (inputs.Leave, left) ∷ []) e.later
            (each-append Begins-none mine (Some (inputs.Leave, left) ∷ []) (ticks-each (λ ask. is_beginning ask ≡ false) mine refl d.asks) (refl, tt)))

        still : LateDrainsAreEmpty (of 0 m.seen) → WriterTurns k m all → IsStill all
        still late t = still-on mine (Some (inputs.Leave, left) ∷ Some (inputs.Drain, last) ∷ []) (still-ticks mine d.asks)
            (record { asks = (tt, (tt, tt)); hands = append-nil (octets_in last.sends) ∙ hands late t; no_down = refl })

        ticked : RoseBy (ticks all) before.faults now.faults
        ticked =
            let both = sum_by-append (λ turn. cond (is_entry_of is_tick turn) 1 0) mine (Some (inputs.Leave, left) ∷ Some (inputs.Drain, last) ∷ []) in
            let few = few-ticks mine in
            let none = no-ticks (Some (inputs.Leave, left) ∷ Some (inputs.Drain, last) ∷ []) (refl, (refl, tt)) in
            omega (arith, d.faults, both, few, none)

        at-end : WriterTurns k m all → EndsWith IsFinishedTick mine → LeftAtEnd (of 0 m.seen)
        at-end t (front, None, is, has) = absurd has
        at-end t (front, Some entry, is, (tick, finished)) = subst LeftAtEnd (sym t.own_now) (record {
          front = of 0 k.seen ++ front;
          ask = entry.0;
          heard = entry.1;
          between = [];
          left = left;
          last = last;
          rest = [];
          whole = ap (λ ts. of 0 k.seen ++ (ts ++ Some (inputs.Leave, left) ∷ Some (inputs.Drain, last) ∷ [])) is
              ∙ ap (λ ts. of 0 k.seen ++ ts) (append_assoc front (Some entry ∷ []) (Some (inputs.Leave, left) ∷ Some (inputs.Drain, last) ∷ []))
              ∙ sym (append_assoc (of 0 k.seen) front _);
          finished = finished;
          stays = tick-is (λ ask. is_leave ask ≡ false) refl entry.0 tick;
          quiet = (each-append Stay (of 0 k.seen) front s.between.quiet (each-front Stay front (Some entry ∷ []) (subst NoLeave is (quiet-ticks mine d.asks))), tt, tt);
        })

        by : Went (Some (inputs.Leave, left) ∷ Some (inputs.Drain, last) ∷ []) l m → NoNextLink hears speaks told run.Left before now refused k m twins past
        by gone =
            let whole = went-on mine (Some (inputs.Leave, left) ∷ Some (inputs.Drain, last) ∷ []) k l m dials gone in
            ends-by run.Left before now refused k m twins past past [] all s whole (λ late. still late (writer-turns k m all s.numbers whole)) ticked
            d.grows (λ full. d.failed (omega (arith, low, full))) (sym (append-nil past.pairs.items)) refl refl refl tt refl s.few (λ t. at-end t d.ends.2)
    ends-finished run.NoMemory before now refused k l m twins past mine low s dials d (more, went, how) = by more how went
      where
        end-by : (more : List RunTurn) → IsStill more → EachEntry (λ ask heard. is_tick ask ≡ false) more → Went more l m → NoNextLink hears speaks told run.NoMemory before now refused k m twins past
        end-by more still none gone =
            ends-by run.NoMemory before now refused k m twins past past [] (mine ++ more) s (went-on mine more k l m dials gone)
            (λ late. still-on mine more (still-ticks mine d.asks) still)
            (let both = sum_by-append (λ turn. cond (is_entry_of is_tick turn) 1 0) mine more in
            let few = few-ticks mine in
            let zero = no-ticks more none in
            omega (arith, d.faults, both, few, zero))
            d.grows (λ full. d.failed (omega (arith, low, full))) (sym (append-nil past.pairs.items)) refl refl refl tt tt s.few (λ t. tt)

        by : (more : List RunTurn) → (more ≡ None ∷ []) ⊎ ((left : Heard) × (more ≡ Some (inputs.Leave, left) ∷ None ∷ [])) → Went more l m
            → NoNextLink hears speaks told run.NoMemory before now refused k m twins past
        by more (inl is) gone = end-by (None ∷ []) still-blank tt (subst (λ ts. Went ts l m) is gone)
        by more (inr (left, is)) gone =
            end-by (Some (inputs.Leave, left) ∷ None ∷ []) (record { asks = (tt, tt); hands = refl; no_down = refl }) (refl, tt) (subst (λ ts. Went ts l m) is gone)
    ends-finished run.Closed before now refused k l m twins past mine low s dials d (more, went, how) = absurd how
    ends-finished run.Worn before now refused k l m twins past mine low s dials d (more, went, how) = absurd how
    ends-finished run.LinkFault before now refused k l m twins past mine low s dials d (more, went, how) = absurd how
    ends-finished run.NoThread before now refused k l m twins past mine low s dials d (more, went, how) = absurd how

    -- ---- a link that was opened, whose reader was started

    pub started-now : (turnstile : TableId) (k l : Known T Input Heard) (pass : PassOf T Input Heard) (pair : Pair I O) (twins : Twins D) (past : Past I O) → table_of pass ≡ turnstile
        → (s : LinkOpened hears speaks told k twins past) → l ≡ left_of k → known pass ≡ right_of k → IsFreshInlet (hears pair.link_in) → IsFreshOutlet (speaks pair.link_out)
        → Started hears speaks told turnstile l pass pair.link_in twins.auth twins.acct pair.link_out past
    started-now turnstile k l pass pair twins past table s left right fresh_in fresh_out =
        let seen : l.seen ≡ k.seen = ap (λ (v : Known T Input Heard). v.seen) left in
        record {
          table = table;
          mine = ap (λ (v : Known T Input Heard). v.numbers) left ∙ ap (λ ns. without (greatest ns) ns) s.numbers;
          theirs = ap (λ (v : Known T Input Heard). v.numbers) right ∙ ap (λ ns. greatest ns ∷ []) s.numbers;
          seen = ap (λ (v : Known T Input Heard). v.seen) right ∙ sym seen;
          first = ap (λ (v : Known T Input Heard). v.first) right ∙ sym (ap (λ (v : Known T Input Heard). v.first) left);
          fresh_in = fresh_in;
          fresh_out = fresh_out;
          out = s.out;
          retries = s.retries;
          few = s.few;
          opened = subst (λ (ts : List ServerTurn). Opened hears speaks past.pairs.items ts s.out s.retries) (sym seen) s.opened;
          tally = subst (λ (ts : List ServerTurn). Tally told past twins.auth twins.acct ts s.out s.retries) (sym seen) s.tally;
        }

    -- ---- a link that was opened, whose reader couldn't be started

    pub ends-unstarted : (end : RunEnd) (dials : Dials) (refused : Type 0) (k l m : Known T Input Heard) (twins twins' : Twins D) (past past' : Past I O) (pair : Pair I O)
        (tries : List RunTurn) (left : Heard) → AsksLeave left tries → dials.row ≡ 0 → (s : LinkOpened hears speaks told k twins past) → Same k l → Went tries l m → twins' ≡ twins
        → past'.pairs.items ≡ past.pairs.items ++ pair ∷ [] → vec_capacity past'.pairs ≡ vec_capacity past.pairs → past'.lost ≡ past.lost → past'.again ≡ past.again
        → IsFreshInlet (hears pair.link_in) → IsFreshOutlet (speaks pair.link_out)
        → ((segs : List (List ServerTurn)) (seen : List ServerTurn) → HasLeave (of 0 seen) → EndsRun end dials.row refused segs seen) → HasSpare {A = Pair I O} end []
        → ((segs : List (List ServerTurn)) → AllBut WasRead segs → HasReaders end segs)
        → NoNextLink hears speaks told end dials dials refused k m twins' past'
    ends-unstarted end dials refused k l m twins twins' past past' pair tries left asked low s same went alike pairs room lost again fresh_in fresh_out ends only read =
        let t = writer-turns l m tries same.numbers went in
        let b = s.opened.between in
        let some_seg = between-some past.pairs.items s.opened.before s.out s.retries s.some b in
        let up : ServerTurn = (0, Some (inputs.Up, s.opened.opened)) in
        let seg : List ServerTurn = up ∷ t.rest in
        let still = still-leave left tries asked in
        let whole : m.seen ≡ s.opened.before ++ seg =
        t.whole ∙ ap (λ ts. ts ++ t.rest) (same.seen ∙ s.opened.whole) ∙ append_assoc s.opened.before (up ∷ []) t.rest in
        let span : Span hears speaks pair seg 0 0 = record {
          opened = s.opened.opened;
          rest = t.rest;
          whole = refl;
          asks = subst (EachEntry Writes) (sym t.own) still.asks;
          made = speaks pair.link_out;
          fresh = fresh_out;
          sound = true;
          wrote = subst (λ ts. Wrote ts true true (speaks pair.link_out) (speaks pair.link_out)) (sym t.own)
              (wrote-still tries true (speaks pair.link_out) still.hands still.no_down);
          read = inr (fresh_in, t.alone, refl, refl);
        } in
        let spanned : Spanned hears speaks past'.pairs.items (b.segs ++ seg ∷ []) m.seen (s.out + 0) (s.retries + 0) = record {
          front = b.spanned.front;
          dialled = b.spanned.dialled;
          alone = b.spanned.alone;
          whole = whole ∙ ap (λ ts. ts ++ seg) b.spanned.whole ∙ append_assoc b.spanned.front (flat b.segs) seg
              ∙ ap (λ ts. b.spanned.front ++ ts) (sym (flat-push b.segs seg));
          spans = subst (λ ps. Spans hears speaks ps (b.segs ++ seg ∷ []) (s.out + 0) (s.retries + 0)) (sym pairs)
              (spans-push hears speaks past.pairs.items b.segs s.out s.retries pair seg 0 0 b.spanned.spans span);
        } in
        let own_now : of 0 m.seen ≡ of 0 k.seen ++ tries = t.own_now ∙ ap (λ ts. of 0 ts ++ tries) same.seen in
        let alone_now : of 3 m.seen ≡ of 3 k.seen = t.alone_now ∙ ap (of 3) same.seen in
        record {
          first = t.first ∙ same.first;
          numbers = t.numbers;
          ticked = record {
            more = tries;
            whole = own_now;
            counted = let none = leave-ticks left tries asked in omega (arith, none);
            grows = omega arith;
          };
          failed = λ full. absurd (omega (arith, low, full));
          out = s.out + 0;
          retries = s.retries + 0;
          reads = spanned-reads past'.pairs.items (b.segs ++ seg ∷ []) m.seen (s.out + 0) (s.retries + 0) spanned;
          over = λ late. record {
            served = past'.pairs.items;
            spare = [];
            paired = sym (append-nil past'.pairs.items);
            unopened = tt;
            only = only;
            segs = b.segs ++ seg ∷ [];
            spanned = spanned;
            some = omega (arith, length-push b.segs seg);
            few = omega (arith, ap length pairs, length-push past.pairs.items pair, s.few);
            closed = all_but-all IsClosed b.segs seg b.closed;
            first = first-push b.segs seg (first-all b.segs some_seg b.read);
            read = read (b.segs ++ seg ∷ []) (all_but-all WasRead b.segs seg b.read);
            ends = ends (b.segs ++ seg ∷ []) m.seen (subst HasLeave (sym own_now) (has-leave left tries asked (of 0 k.seen)));
          };
          tally = record {
            lost = omega (arith, lost, s.tally.lost);
            again = omega (arith, again, s.tally.again);
            auth_handed = subst (λ (tw : Twins D). TellsOnly (told tw.auth).handed (replies_by Auth (of 3 m.seen))) (sym alike)
                (subst (λ ts. TellsOnly (told twins.auth).handed (replies_by Auth ts)) (sym alone_now) s.tally.auth_handed);
            acct_handed = subst (λ (tw : Twins D). TellsOnly (told tw.acct).handed (replies_by Acct (of 3 m.seen))) (sym alike)
                (subst (λ ts. TellsOnly (told twins.acct).handed (replies_by Acct ts)) (sym alone_now) s.tally.acct_handed);
            room = omega (arith, room, s.tally.room);
          };
        }

    pub goes-after : (r : Next T D I O) (turnstile : TableId) (d e f : Dials) (starts starts' : ℕ) (k l m : Known T Input Heard) (past : Past I O)
        → l.first ≡ k.first → Ticked (of 0 k.seen) (of 0 l.seen) d.faults e.faults
        → ComesNext hears speaks told r turnstile e f starts starts' l m past → ComesNext hears speaks told r turnstile d f starts starts' k m past
    goes-after (next.Go live) turnstile d e f starts starts' k l m past first ticked goes = record {
      first = goes.first ∙ first;
      ticked = ticked-on (of 0 k.seen) (of 0 l.seen) (of 0 m.seen) d.faults e.faults f.faults ticked goes.ticked;
      row = goes.row;
      unrefused = goes.unrefused;
      started = goes.started;
    }
    goes-after (next.Stop end twins) turnstile d e f starts starts' k l m past first ticked ends = record {
      first = ends.first ∙ first;
      numbers = ends.numbers;
      ticked = ticked-on (of 0 k.seen) (of 0 l.seen) (of 0 m.seen) d.faults e.faults f.faults ticked ends.ticked;
      failed = λ full. let rose = ends.failed full in omega (arith, rose, ticked.grows);
      out = ends.out;
      retries = ends.retries;
      reads = ends.reads;
      over = ends.over;
      tally = ends.tally;
    }

    -- no link is made after this one
    pub over-ends : (end : WriterEnd) (last : RunEnd) (dials : Dials) (refused : Type 0) (k k' : Known T Input Heard) (twins : Twins D) (past : Past I O)
        → dials.row ≡ 0 → end_after end ≡ Some last → Over hears speaks told end k k' twins past → NoNextLink hears speaks told last dials dials refused k k' twins past
    over-ends end last dials refused k k' twins past low is o = record {
      first = o.first;
      numbers = o.numbers;
      ticked = ticked-none (of 0 k.seen) (of 0 k'.seen) dials.faults o.ticked;
      failed = λ full. absurd (omega (arith, low, full));
      out = o.out;
      retries = o.retries;
      reads = spanned-reads past.pairs.items o.over.segs k'.seen o.out o.retries o.over.spanned;
      over = λ late. record {
        served = past.pairs.items;
        spare = [];
        paired = sym (append-nil past.pairs.items);
        unopened = tt;
        only = no-spare last;
        segs = o.over.segs;
        spanned = o.over.spanned;
        some = o.over.some;
        few = o.few;
        closed = o.over.closed;
        first = first-all o.over.segs o.over.some o.over.read;
        read = readers-all last o.over.segs o.over.read;
        ends = by end is o.over.ends;
      };
      tally = o.tally;
    }
      where
        no-spare : (last : RunEnd) → HasSpare {A = Pair I O} last []
        no-spare run.Closed = refl
        no-spare run.Left = refl
        no-spare run.Worn = refl
        no-spare run.LinkFault = refl
        no-spare run.NoThread = refl
        no-spare run.NoMemory = tt

        at : (e : RunEnd) → e ≡ last → EndsRun e dials.row refused o.over.segs k'.seen → EndsRun last dials.row refused o.over.segs k'.seen
        at e same ends = subst (λ (f : RunEnd). EndsRun f dials.row refused o.over.segs k'.seen) same ends

        closed : (cause : LinkCause) (b : Bool) → is_final cause ≡ b → (if b then Some run.Closed else None) ≡ Some last
            → EndsLink (writer.Closed cause) o.over.segs k'.seen → EndsRun last dials.row refused o.over.segs k'.seen
        closed cause true final same ends = let e : run.Closed ≡ last = cc in at run.Closed e (ends.0, (cause, final, ends.1))
        closed cause false final same ends = absurd cc

        by : (e : WriterEnd) → end_after e ≡ Some last → EndsLink e o.over.segs k'.seen → EndsRun last dials.row refused o.over.segs k'.seen
        by (writer.Closed cause) same ends = closed cause (is_final cause) refl same ends
        by writer.Done same ends = let e : run.Left ≡ last = cc in at run.Left e ends
        by writer.NoMemory same ends = let e : run.NoMemory ≡ last = cc in at run.NoMemory e tt

    -- another link is to be made
    pub over-rests : (end : WriterEnd) (k k' : Known T Input Heard) (twins : Twins D) (past : Past I O) → end_after end ≡ None
        → Over hears speaks told end k k' twins past → Rests hears speaks told k' twins past
    over-rests end k k' twins past is o = by end is o.over.ends
      where
        rests : (cause : LinkCause) → is_final cause ≡ false → EndsLink (writer.Closed cause) o.over.segs k'.seen → Rests hears speaks told k' twins past
        rests cause goes_on ends = record {
          numbers = o.numbers;
          out = o.out;
          retries = o.retries;
          few = o.few;
          some = let e = spans-length past.pairs.items o.over.segs o.out o.retries o.over.spanned.spans in omega (arith, e, o.over.some);
          between = record {
            segs = o.over.segs;
            spanned = o.over.spanned;
            closed = all-closed o.over.segs cause goes_on o.over.closed ends.1;
            read = o.over.read;
            quiet = ends.0;
          };
          late = ends.2;
          tally = o.tally;
        }

        closed : (cause : LinkCause) (b : Bool) → is_final cause ≡ b → (if b then Some run.Closed else None) ≡ None
            → EndsLink (writer.Closed cause) o.over.segs k'.seen → Rests hears speaks told k' twins past
        closed cause true final same ends = absurd (let e : Some run.Closed ≡ None = same in cc)
        closed cause false final same ends = rests cause final ends

        by : (e : WriterEnd) → end_after e ≡ None → EndsLink e o.over.segs k'.seen → Rests hears speaks told k' twins past
        by (writer.Closed cause) same ends = closed cause (is_final cause) refl same ends
        by writer.Done same ends = absurd cc
        by writer.NoMemory same ends = absurd cc
