-- What is known when a link is over.
use Rattle.std.proofs.Common.{◌≡◌, ℕ, ◌+◌, ◌-◌, ◌^◌, ◌⊎◌, min, Bool, true, false, not, ◌&&◌, if◌then◌else◌, List, [], ◌∷◌, ◌++◌, length, All, Option, Some, None, refl, sym, ap, ◌∙◌, subst, append_assoc, length-append, vec_capacity, inl, inr, arith}
use Rattle.std.proofs.lemmas.List.{append_cancel_left, length-map, map-append}
use Rattle.std.proofs.lemmas.List.Elements.{All-head, All-push, All-tail}
use Rattle.std.proofs.lemmas.Grind.{flat_map-append}
use Rattle.atomic_table.specs.Seated.{TableId}
use Rattle.radius_packet.specs.declared.reasons.Via.TheVariants.{Auth, Acct}
use Rattle.peer_machine.specs.declared.LinkCause.{LinkCause}
use Rattle.wire_devices.specs.Links.{Inlet, Outlet}
use Rattle.wire_devices.specs.Sockets.{Socket}
use Rattle.wire_devices.specs.Telling.{Adds, TellsOnly}
use Rattle.wire_devices.proofs.TellingLaws.{Adds-told}
use Rattle.agent_events.specs.declared.events.Input.{Input}
use Rattle.agent_events.specs.declared.events.Input.TheVariants as inputs
use Rattle.turnstile.specs.declared.view.Known.{Known}
use Rattle.turnstile.specs.Knowing.{Joined}
use Rattle.turnstile.specs.Passes.{known}
use Rattle.turnstile.specs.Turns.{In, least, of}
use Rattle.server_workers.specs.declared.heard.Heard.{Heard}
use Rattle.server_workers.specs.declared.link_writer.WriterEnd.{WriterEnd}
use Rattle.server_workers.specs.declared.link_writer.WriterEnd.TheVariants as writer
use Rattle.server_workers.specs.declared.running.Past.{Past}
use Rattle.server_workers.specs.declared.running.ReaderBack.{ReaderBack}
use Rattle.server_workers.specs.declared.running.Twins.{Twins}
use Rattle.server_workers.specs.declared.links.Pair.{Pair}
use Rattle.server_workers.specs.declared.workers.Worker.{Worker}
use Rattle.server_workers.specs.declared.workers.Worker.TheVariants as worker
use Rattle.server_workers.specs.Entries.{EachEntry, RunTurn, entry_replies, is_tick, replies_by, reply_by, ticks, turn_of}
use Rattle.server_workers.specs.Going.{Went}
use Rattle.server_workers.specs.LinkReading.{EndsAt, ServedLink}
use Rattle.server_workers.specs.LinkWriting.{IsWriterAsk, KeepsWriting, LastTurns, TakesLeave, Wrote, WroteLink, round}
use Rattle.server_workers.specs.Running.{ClosedFor, EndsLink, InOrder, Keeps, LastDrain, LeftAtEnd, NoLeave, Over, ReaderRan, StartedAs, counted, number_in, numbers_of, ports_in, ports_of}
use Rattle.agent_events.specs.Kinds.{is_leave}
use Rattle.server_workers.specs.Serving.{AllBut, MayWrite, Span, Spans, WasRead}
use Rattle.server_workers.specs.Serving.Spans.{no_more, one_more}
use Rattle.server_workers.specs.Segments.{IsClosed, ServerTurn, flat, is_beginning}
use Rattle.server_workers.proofs.DialLemmas.{each-append}
use Rattle.server_workers.proofs.TurnLemmas.{of-append, of-there, flat-push}

-- ---- lists

pub all_but-all : {A : Type 0} (P : A → Type 0) (xs : List A) (x : A) → All P xs → AllBut P (xs ++ x ∷ [])
all_but-all P [] x all = tt
all_but-all P (y ∷ []) x all = (All-head P y [] all, tt)
all_but-all P (y ∷ z ∷ xs) x all = (All-head P y (z ∷ xs) all, all_but-all P (z ∷ xs) x (All-tail P y (z ∷ xs) all))

pub length-push : {A : Type 0} (xs : List A) (x : A) → length (xs ++ x ∷ []) ≡ length xs + 1
length-push xs x = length-append xs (x ∷ [])

pub tells-on : {A : Type 0} {a b : Option (List A)} (xs ys : List A) → TellsOnly a xs → Adds a b ys → TellsOnly b (xs ++ ys)
tells-on {A} {a} {b} xs ys only adds zs is =
    let (us, there, whole) = Adds-told adds zs is in
    sym whole ∙ ap (λ vs. vs ++ ys) (only us there)

module _ {I O : Type 0} (hears : I → Inlet) (speaks : O → Outlet) where
  pub spans-push : (pairs : List (Pair I O)) (segs : List (List ServerTurn)) (n r : ℕ) (pair : Pair I O) (seg : List ServerTurn) (m q : ℕ)
      → Spans hears speaks pairs segs n r → Span hears speaks pair seg m q → Spans hears speaks (pairs ++ pair ∷ []) (segs ++ seg ∷ []) (n + m) (r + q)
  spans-push pairs segs n r pair seg m q no_more span =
      let same : m + 0 ≡ 0 + m = omega arith in
      let alike : q + 0 ≡ 0 + q = omega arith in
      subst (λ a. Spans hears speaks (pair ∷ []) (seg ∷ []) a (0 + q)) same
      (subst (λ b. Spans hears speaks (pair ∷ []) (seg ∷ []) (m + 0) b) alike (one_more pair seg m q [] [] 0 0 span no_more))
  spans-push pairs segs n r pair seg m q (one_more first begin n' r' pairs' segs' n'' r'' one spans) span =
      let same : n' + (n'' + m) ≡ n' + n'' + m = omega arith in
      let alike : r' + (r'' + q) ≡ r' + r'' + q = omega arith in
      subst (λ a. Spans hears speaks (first ∷ pairs' ++ pair ∷ []) (begin ∷ segs' ++ seg ∷ []) a (r' + r'' + q)) same
      (subst (λ b. Spans hears speaks (first ∷ pairs' ++ pair ∷ []) (begin ∷ segs' ++ seg ∷ []) (n' + (n'' + m)) b) alike
      (one_more first begin n' r' (pairs' ++ pair ∷ []) (segs' ++ seg ∷ []) (n'' + m) (r'' + q) one (spans-push pairs' segs' n'' r'' pair seg m q spans span)))

-- ---- the turns of a link

-- the writer's turns and those of the reader since the link was opened
pub record LinkTurns {T : Type 0} (k k' : Known T Input Heard) (mine theirs : List RunTurn) : Type 0 where
  pub rest : List ServerTurn
  pub whole : k'.seen ≡ k.seen ++ rest
  pub own : of 0 rest ≡ mine
  pub reads : of 3 rest ≡ theirs
  pub numbers : k'.numbers ≡ 0 ∷ 3 ∷ []
  pub first : k'.first ≡ k.first

module _ {T : Type 0} where
  -- what was added under the least number
  own-since : (n : ℕ) (mine : List RunTurn) (k l : Known T Input Heard) → k.numbers ≡ n ∷ [] → Went mine k l → of n l.seen ≡ of n k.seen ++ mine
  own-since n mine k l is went = subst (λ m. of m l.seen ≡ of m k.seen ++ mine) (ap least is) went.own

  pub link-turns : (k l m r s : Known T Input Heard) (mine theirs : List RunTurn) → k.numbers ≡ 0 ∷ [] → r.numbers ≡ 3 ∷ [] → r.seen ≡ k.seen
      → Went mine k l → Went theirs r s → Joined l s m → LinkTurns k m mine theirs
  link-turns k l m r s mine theirs zero three seen went read joined =
      let (a, a_is) = went.begins in
      let (b, b_is) = joined.begins.0 in
      let whole : m.seen ≡ k.seen ++ (a ++ b) = b_is ∙ ap (λ ts. ts ++ b) a_is ∙ append_assoc k.seen a b in
      let in_writer : In 0 l.numbers = subst (In 0) (sym (went.numbers ∙ zero)) (inl refl) in
      let in_reader : In 3 s.numbers = subst (In 3) (sym (read.numbers ∙ three)) (inl refl) in
      let own : of 0 m.seen ≡ of 0 k.seen ++ mine = joined.own 0 in_writer ∙ own-since 0 mine k l zero went in
      let reads : of 3 m.seen ≡ of 3 k.seen ++ theirs =
      joined.theirs 3 in_reader ∙ own-since 3 theirs r s three read ∙ ap (λ ts. of 3 ts ++ theirs) seen in
      record {
        rest = a ++ b;
        whole = whole;
        own = append_cancel_left (of 0 k.seen) (of 0 (a ++ b)) mine (sym (ap (of 0) whole ∙ of-append 0 k.seen (a ++ b)) ∙ own);
        reads = append_cancel_left (of 3 k.seen) (of 3 (a ++ b)) theirs (sym (ap (of 3) whole ∙ of-append 3 k.seen (a ++ b)) ∙ reads);
        numbers = joined.numbers ∙ ap (λ ns. ns ++ s.numbers) (went.numbers ∙ zero) ∙ ap (λ ns. 0 ∷ ns) (read.numbers ∙ three);
        first = joined.first.0 ∙ went.first;
      }

-- ---- entries

pub each-weaker : (P Q : Input → Heard → Type 0) (turns : List RunTurn) → ((ask : Input) (heard : Heard) → P ask heard → Q ask heard) → EachEntry P turns → EachEntry Q turns
each-weaker P Q [] weaker each = tt
each-weaker P Q (None ∷ turns) weaker each = each-weaker P Q turns weaker each
each-weaker P Q (Some entry ∷ turns) weaker (has, each) = (weaker entry.0 entry.1 has, each-weaker P Q turns weaker each)

writer-may : (ask : Input) → IsWriterAsk ask → MayWrite ask
writer-may inputs.Drain is = tt
writer-may inputs.Down is = tt
writer-may inputs.Leave is = tt
writer-may inputs.Tick is = tt
writer-may inputs.Up is = absurd is
writer-may inputs.Ready is = absurd is
writer-may (inputs.Message octets) is = absurd is
writer-may (inputs.Broken fault) is = absurd is
writer-may (inputs.Datagram via address port octets) is = absurd is

no-tick : (ask : Input) → IsWriterAsk ask → is_tick ask ≡ false
no-tick inputs.Drain is = refl
no-tick inputs.Down is = refl
no-tick inputs.Leave is = refl
no-tick inputs.Tick is = absurd is
no-tick inputs.Up is = refl
no-tick inputs.Ready is = refl
no-tick (inputs.Message octets) is = refl
no-tick (inputs.Broken fault) is = refl
no-tick (inputs.Datagram via address port octets) is = refl

no-ticks : (turns : List RunTurn) → EachEntry (λ ask heard. IsWriterAsk ask) turns → ticks turns ≡ 0
no-ticks [] each = refl
no-ticks (None ∷ turns) each = let e = no-ticks turns each in omega (arith, e)
no-ticks (Some entry ∷ turns) (is, each) =
    let e = no-ticks turns each in
    let f = no-tick entry.0 is in
    rw f (omega (arith, e))

stays : (ask : Input) (heard : Heard) → KeepsWriting ask heard → is_leave ask ≡ false
stays inputs.Drain heard goes = refl
stays inputs.Down heard goes = refl
stays inputs.Leave heard goes = absurd goes
stays inputs.Tick heard goes = refl
stays inputs.Up heard goes = refl
stays inputs.Ready heard goes = refl
stays (inputs.Message octets) heard goes = refl
stays (inputs.Broken fault) heard goes = refl
stays (inputs.Datagram via address port octets) heard goes = refl

quiet-rounds : (turns : List RunTurn) → EachEntry KeepsWriting turns → NoLeave turns
quiet-rounds turns each = each-weaker KeepsWriting (λ ask heard. is_leave ask ≡ false) turns stays each

quiet-down : (failed : Bool) (told : Option Heard) → NoLeave (if failed then turn_of inputs.Down told ∷ [] else [])
quiet-down true None = tt
quiet-down true (Some heard) = (refl, tt)
quiet-down false told = tt

down-begins : (failed : Bool) (told : Option Heard)
    → EachEntry (λ ask heard. is_beginning ask ≡ false) (if failed then turn_of inputs.Down told ∷ [] else [])
down-begins true None = tt
down-begins true (Some heard) = (refl, tt)
down-begins false told = tt

abbrev Stay : Input → Heard → Type 0
Stay ask heard = is_leave ask ≡ false

-- ---- the last turns of a link

-- the Down of a round, where a send failed
abbrev down_of : Bool → Bool → Option Heard → List RunTurn
down_of before now told = if before && not now then turn_of inputs.Down told ∷ [] else []

module _ (end : WriterEnd) (now : Bool) (own mine : List RunTurn) (last : LastTurns end now mine) where
  before-last : List RunTurn
  before-last = last.rounds

  -- the last Drain among all turns of the writer
  pub mine-drain : mine ≡ last.rounds ++ Some (inputs.Drain, last.heard) ∷ (down_of last.before last.after last.told ++ last.rest)
  mine-drain = last.mine_is

  quiet-last : NoLeave last.rest → NoLeave mine
  quiet-last rest = subst NoLeave (sym mine-drain)
      (each-append Stay last.rounds _ (quiet-rounds last.rounds last.went_on)
      (refl, each-append Stay (down_of last.before last.after last.told) last.rest (quiet-down (last.before && not last.after) last.told) rest))

  late-last : (cause : LinkCause) → last.heard.closed ≡ Some cause → last.rest ≡ [] → LastDrain (own ++ mine)
  late-last cause closed none = record {
    front = own ++ last.rounds;
    heard = last.heard;
    back = down_of last.before last.after last.told ++ last.rest;
    cause = cause;
    whole = ap (λ ts. own ++ ts) mine-drain ∙ sym (append_assoc own last.rounds _);
    closed = closed;
    later = subst (λ ts. EachEntry (λ ask heard. is_beginning ask ≡ false) (down_of last.before last.after last.told ++ ts)) (sym none)
        (each-append (λ ask heard. is_beginning ask ≡ false) (down_of last.before last.after last.told) []
        (down-begins (last.before && not last.after) last.told) tt);
  }

  left-last : (left final : Heard) (told : Option Heard) → NoLeave own → TakesLeave last.heard
      → last.rest ≡ Some (inputs.Leave, left) ∷ round last.after now (Some final) told → LeftAtEnd (own ++ mine)
  left-last left final told quiet takes is = record {
    front = own ++ last.rounds;
    ask = inputs.Drain;
    heard = last.heard;
    between = down_of last.before last.after last.told;
    left = left;
    last = final;
    rest = down_of last.after now told;
    whole = ap (λ ts. own ++ ts) (mine-drain ∙ ap (λ ts. last.rounds ++ Some (inputs.Drain, last.heard) ∷ (down_of last.before last.after last.told ++ ts)) is)
        ∙ sym (append_assoc own last.rounds _);
    finished = takes.0;
    stays = refl;
    quiet = (
      each-append Stay own last.rounds quiet (quiet-rounds last.rounds last.went_on),
      quiet-down (last.before && not last.after) last.told,
      quiet-down (last.after && not now) told,
    );
  }

-- ---- the turns of a reader that ran

nothing-ends : (front : List RunTurn) (x : RunTurn) → [] ≡ front ++ x ∷ [] → ⊥
nothing-ends [] x is = cc
nothing-ends (y ∷ front) x is = cc

was-read : {P : Input → Type 0} (mine : List RunTurn) → EndsAt P mine → mine ≡ [] → ⊥
was-read mine ends none = nothing-ends ends.front (Some (ends.ask, ends.heard)) (sym none ∙ ends.whole)

-- ---- the link among all

module _ {I O : Type 0} (hears : I → Inlet) (speaks : O → Outlet) where
  closed-seg : (cause : LinkCause) (opened : Heard) (rest : List ServerTurn) (a b : List RunTurn) (heard : Heard) → heard.closed ≡ Some cause
      → of 0 rest ≡ a ++ Some (inputs.Drain, heard) ∷ b → ClosedFor cause ((0, Some (inputs.Up, opened)) ∷ rest)
  closed-seg cause opened rest a b heard closed is =
      let s = of-there 0 rest a (Some (inputs.Drain, heard)) b is in
      record {
        heard = heard;
        front = (0, Some (inputs.Up, opened)) ∷ s.front;
        back = s.back;
        whole = ap (λ ts. (0, Some (inputs.Up, opened)) ∷ ts) s.whole;
        closed = closed;
      }

  -- how a link ends, by the writer's last turns
  ends-link : (end : WriterEnd) (now : Bool) (segs : List (List ServerTurn)) (opened : Heard) (rest seen : List ServerTurn) (own mine : List RunTurn)
      → of 0 rest ≡ mine → of 0 seen ≡ own ++ mine → NoLeave own → LastTurns end now mine
      → EndsLink end (segs ++ ((0, Some (inputs.Up, opened)) ∷ rest) ∷ []) seen
  ends-link (writer.Closed cause) now segs opened rest seen own mine is whole quiet last =
      let (goes, same, none) = last.end_turns in (
        subst NoLeave (sym whole) (each-append Stay own mine quiet (quiet-last (writer.Closed cause) now own mine last (subst NoLeave (sym none) tt))),
        (
          segs,
          (0, Some (inputs.Up, opened)) ∷ rest,
          refl,
          closed-seg cause opened rest last.rounds _ last.heard goes.0 (is ∙ mine-drain (writer.Closed cause) now own mine last),
        ),
        subst LastDrain (sym whole) (late-last (writer.Closed cause) now own mine last cause goes.0 none),
      )
  ends-link writer.Done now segs opened rest seen own mine is whole quiet last =
      let (takes, (left, final, told, turns)) = last.end_turns in
      subst LeftAtEnd (sym whole) (left-last writer.Done now own mine last left final told quiet takes turns)
  ends-link writer.NoMemory now segs opened rest seen own mine is whole quiet last = tt

  module _ {T D : Type 0} (told : D → Socket) where
    pub link-over : (turnstile : TableId) (end : WriterEnd) (k k' k'' : Known T Input Heard) (helper : Worker T D I) (link_out link_out' : O) (past past' : Past I O)
        (back : ReaderBack T D I) (twins : Twins D)
        → StartedAs hears speaks told turnstile k helper link_out past
        → WroteLink end k k' (speaks link_out) (speaks link_out')
        → ReaderRan told hears helper back
        → Joined k' (known back.pass) k''
        → twins ≡ back.twins
        → past'.pairs.items ≡ past.pairs.items ++ record { link_in = back.link_in; link_out = link_out' } ∷ []
        → vec_capacity past'.pairs ≡ vec_capacity past.pairs
        → past'.lost ≡ min (past.lost + back.lost) (2 ^ 64 - 1)
        → past'.again ≡ min (past.again + back.again) (2 ^ 64 - 1)
        → Over hears speaks told end k k'' twins past'
    link-over turnstile end k k' k'' (worker.Reader alloc shared pass via socket) link_out link_out' past past' back twins started wrote is joined same pairs room lost again =
        absurd started
    link-over turnstile end k k' k'' (worker.Link alloc shared pass link auth acct) link_out link_out' past past' back twins started wrote (table, read) joined same pairs room lost again =
        let t = link-turns k k' k'' (known pass) (known back.pass) wrote.mine read.mine started.mine started.theirs started.seen wrote.went read.went joined in
        let b = started.opened.between in
        let up : ServerTurn = (0, Some (inputs.Up, started.opened.opened)) in
        let seg : List ServerTurn = up ∷ t.rest in
        let pair : Pair I O = record { link_in = back.link_in; link_out = link_out' } in
        let seen : k''.seen ≡ started.opened.before ++ seg =
        t.whole ∙ ap (λ ts. ts ++ t.rest) started.opened.whole ∙ append_assoc started.opened.before (up ∷ []) t.rest in
        let own_then : of 0 k.seen ≡ of 0 started.opened.before ++ Some (inputs.Up, started.opened.opened) ∷ [] =
        ap (of 0) started.opened.whole ∙ of-append 0 started.opened.before (up ∷ []) in
        let own_now : of 0 k''.seen ≡ of 0 k.seen ++ wrote.mine = ap (of 0) t.whole ∙ of-append 0 k.seen t.rest ∙ ap (λ ts. of 0 k.seen ++ ts) t.own in
        let theirs_now : of 3 k''.seen ≡ of 3 k.seen ++ read.mine = ap (of 3) t.whole ∙ of-append 3 k.seen t.rest ∙ ap (λ ts. of 3 k.seen ++ ts) t.reads in
        let quiet : NoLeave (of 0 k.seen) = subst NoLeave (sym own_then) (each-append Stay (of 0 started.opened.before) _ b.quiet (refl, tt)) in
        let span : Span hears speaks pair seg read.out read.retries = record {
          opened = started.opened.opened;
          rest = t.rest;
          whole = refl;
          asks = subst (EachEntry (λ ask heard. MayWrite ask)) (sym t.own)
              (each-weaker (λ ask heard. IsWriterAsk ask) (λ ask heard. MayWrite ask) wrote.mine (λ ask heard is. writer-may ask is) wrote.asks);
          made = speaks link_out;
          fresh = started.fresh_out;
          sound = wrote.sound;
          wrote = subst (λ ts. Wrote ts true wrote.sound (speaks link_out) (speaks link_out')) (sym t.own) wrote.wrote;
          read = inl (hears link, started.fresh_in, subst (λ ts. ServedLink ts (hears link) (hears back.link_in) read.out read.retries) (sym t.reads) read.served);
        } in
        record {
          first = t.first;
          numbers = t.numbers;
          ticked = record { more = wrote.mine; whole = own_now; counted = omega (arith, no-ticks wrote.mine wrote.asks); grows = omega arith };
          out = started.out + read.out;
          retries = started.retries + read.retries;
          few = omega (arith, ap length pairs, length-push past.pairs.items pair, started.few);
          over = record {
            segs = b.segs ++ seg ∷ [];
            spanned = record {
              front = b.spanned.front;
              dialled = b.spanned.dialled;
              alone = b.spanned.alone;
              whole = seen ∙ ap (λ ts. ts ++ seg) b.spanned.whole ∙ append_assoc b.spanned.front (flat b.segs) seg
                  ∙ ap (λ ts. b.spanned.front ++ ts) (sym (flat-push b.segs seg));
              spans = subst (λ ps. Spans hears speaks ps (b.segs ++ seg ∷ []) (started.out + read.out) (started.retries + read.retries)) (sym pairs)
                  (spans-push hears speaks past.pairs.items b.segs started.out started.retries pair seg read.out read.retries b.spanned.spans span);
            };
            some = omega (arith, length-push b.segs seg);
            closed = all_but-all IsClosed b.segs seg b.closed;
            read = All-push WasRead b.segs seg b.read (λ none. was-read read.mine read.served.ends (sym t.reads ∙ none));
            ends = ends-link end wrote.sound b.segs started.opened.opened t.rest k''.seen (of 0 k.seen) wrote.mine t.own own_now quiet wrote.last;
          };
          tally = record {
            lost = omega (arith, lost, started.tally.lost, read.lost_is);
            again = omega (arith, again, started.tally.again, read.again_is);
            auth_handed = subst (λ (tw : Twins D). TellsOnly (told tw.auth).handed (replies_by Auth (of 3 k''.seen))) (sym same)
                (subst (λ ts. TellsOnly (told back.twins.auth).handed ts) (sym (ap (replies_by Auth) theirs_now ∙ flat_map-append (entry_replies (reply_by Auth)) (of 3 k.seen) read.mine))
                (tells-on (replies_by Auth (of 3 k.seen)) (replies_by Auth read.mine) started.tally.auth_handed read.auth));
            acct_handed = subst (λ (tw : Twins D). TellsOnly (told tw.acct).handed (replies_by Acct (of 3 k''.seen))) (sym same)
                (subst (λ ts. TellsOnly (told back.twins.acct).handed ts) (sym (ap (replies_by Acct) theirs_now ∙ flat_map-append (entry_replies (reply_by Acct)) (of 3 k.seen) read.mine))
                (tells-on (replies_by Acct (of 3 k.seen)) (replies_by Acct read.mine) started.tally.acct_handed read.acct));
            room = omega (arith, room, started.tally.room);
          };
        }

-- ---- where the twins are

pub same-ports : {A B : Type 0} {a b : A} {c d : B} → a ≡ b → c ≡ d → ◌≡◌ {A = A × B} (a, c) (b, d)
same-ports {A} {B} {a} {b} {c} {d} one two = ap (λ (x : A). (x, c)) one ∙ ap (λ (y : B). (b, y)) two

pub ran-ports : {T D I : Type 0} (told : D → Socket) (hears : I → Inlet) (helper : Worker T D I) (back : ReaderBack T D I) → ReaderRan told hears helper back
    → ports_of told back.twins ≡ ports_in told helper
ran-ports {T} {D} {I} told hears (worker.Link alloc shared pass link auth acct) back (table, read) = same-ports read.ports.0 read.ports.1
ran-ports {T} {D} {I} told hears (worker.Reader alloc shared pass via socket) back ran = absurd ran

-- ---- in which order links were made

pub ran-number : {T D I : Type 0} (told : D → Socket) (hears : I → Inlet) (helper : Worker T D I) (back : ReaderBack T D I) → ReaderRan told hears helper back
    → (hears back.link_in).number ≡ number_in hears helper
ran-number {T} {D} {I} told hears (worker.Link alloc shared pass link auth acct) back (table, read) = read.served.reads.number
ran-number {T} {D} {I} told hears (worker.Reader alloc shared pass via socket) back ran = absurd ran

-- a link more is over
pub numbers-push : {I O : Type 0} (hears : I → Inlet) (pairs pairs' : List (Pair I O)) (pair : Pair I O) (x : Option ℕ) → pairs' ≡ pairs ++ pair ∷ [] → (hears pair.link_in).number ≡ x
    → numbers_of hears pairs' ≡ numbers_of hears pairs ++ x ∷ []
numbers-push {I} {O} hears pairs pairs' pair x is same =
    ap (numbers_of hears) is ∙ map-append (λ (p : Pair I O). (hears p.link_in).number) pairs (pair ∷ [])
    ∙ ap (λ (y : Option ℕ). numbers_of hears pairs ++ y ∷ []) same

order-push : (n : ℕ) (xs : List (Option ℕ)) (x : Option ℕ) → InOrder n xs → TellsOnly x (counted n (length xs)) → InOrder n (xs ++ x ∷ [])
order-push n [] x ordered last = (λ y is. omega (arith, last y is), tt)
order-push n (y ∷ xs) x (first, ordered) last = (first, order-push (counted n 1) xs x ordered (λ z is. omega (arith, last z is)))

-- what comes next is in order, where so many links were made before: one that goes on
pub order-go : (n made : ℕ) (before now : List (Option ℕ)) (x : Option ℕ) → InOrder n before → made ≡ counted n (length before) → (now ≡ before) × TellsOnly x made → InOrder n (now ++ x ∷ [])
order-go n made before now x ordered is (same, next_is) =
    order-push n now x (subst (InOrder n) (sym same) ordered) (λ y told. next_is y told ∙ is ∙ ap (λ (xs : List (Option ℕ)). counted n (length xs)) (sym same))

-- or none, or one that is over at once
pub order-stop : (n made : ℕ) (before now : List (Option ℕ)) → InOrder n before → made ≡ counted n (length before)
    → (now ≡ before) ⊎ ((x : Option ℕ) × (now ≡ before ++ x ∷ []) × TellsOnly x made) → InOrder n now
order-stop n made before now ordered is (inl same) = subst (InOrder n) (sym same) ordered
order-stop n made before now ordered is (inr (x, same, last)) = subst (InOrder n) (sym same) (order-push n before x ordered (λ y told. last y told ∙ is))

-- so many were made
pub made-so-far : {I O : Type 0} (hears : I → Inlet) (pairs : List (Pair I O)) (x : Option ℕ) (links made now n : ℕ) → Keeps links (length pairs) made now → made ≡ counted n (links + 1)
    → now ≡ counted n (length (numbers_of hears pairs ++ x ∷ []))
made-so-far {I} {O} hears pairs x links made now n kept is =
    omega (arith, kept.links_are, kept.made_is, is, length-push (numbers_of hears pairs) x, length-map pairs (λ (p : Pair I O). (hears p.link_in).number))
