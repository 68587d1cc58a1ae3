-- Spans that grow at their end.
use Rattle.std.proofs.Common.{◌≡◌, ℕ, suc, ◌<◌, Bool, true, List, [], ◌∷◌, ◌++◌, length, All, Some, refl, sym, ap, ◌∙◌, subst, append_assoc, arith}
use Rattle.std.proofs.lemmas.Bool.{true≢false}
use Rattle.std.proofs.lemmas.List.{append-nil}
use Rattle.std.proofs.lemmas.List.Elements.{All-cons, All-head, All-nil, All-tail}
use Rattle.wire_devices.specs.Links.{Inlet, Outlet}
use Rattle.wire_devices.proofs.TellingLaws.{Adds-none}
use Rattle.peer_machine.specs.declared.LinkCause.{LinkCause}
use Rattle.agent_events.specs.declared.events.Input.TheVariants.{Drain}
use Rattle.turnstile.specs.Turns.{of}
use Rattle.server_workers.specs.declared.links.Pair.{Pair}
use Rattle.server_workers.specs.declared.running.RunEnd.{RunEnd}
use Rattle.server_workers.specs.declared.running.RunEnd.TheVariants as run
use Rattle.server_workers.specs.Entries.{EachEntry, EndsWith, RunTurn, downs, sends}
use Rattle.server_workers.specs.LinkWriting.{Wrote}
use Rattle.server_workers.specs.Running.{ClosedFor, HasReaders}
use Rattle.server_workers.specs.Serving.{AllBut, FirstWasRead, LinkRead, MayWrite, Span, Spanned, Spans, WasRead}
use Rattle.server_workers.specs.Serving.Spans.{no_more, one_more}
use Rattle.server_workers.specs.Segments.{IsClosed, ServerTurn, flat}
use Rattle.server_workers.proofs.DialLemmas.{each-append}
use Rattle.server_workers.proofs.TurnLemmas.{of-append}
use Rattle.server_workers.proofs.WritingLemmas.{wrote-on}

-- ---- turns that follow

-- Turns by which the span of a link may grow: none is a link reader's, and by the writer's nothing begins, is handed over or
-- is said to be down.
pub record MayFollow (more : List ServerTurn) : Type 0 where
  pub asks : EachEntry (λ ask heard. MayWrite ask) (of 0 more)
  pub hands : sends (of 0 more) ≡ []
  pub no_down : downs (of 0 more) ≡ 0
  pub alone : of 3 more ≡ []

-- so do turns of which none is the writer's or a link reader's
pub others-follow : (more : List ServerTurn) → of 0 more ≡ [] → of 3 more ≡ [] → MayFollow more
others-follow more own alone = record {
  asks = subst (EachEntry (λ ask heard. MayWrite ask)) (sym own) tt;
  hands = ap sends own;
  no_down = ap downs own;
  alone = alone;
}

-- the last list with more at its end
abbrev pub grow : List (List ServerTurn) → List ServerTurn → List (List ServerTurn)
grow [] more = []
grow (seg ∷ []) more = (seg ++ more) ∷ []
grow (seg ∷ next ∷ segs) more = seg ∷ grow (next ∷ segs) more

pub flat-grow : (segs : List (List ServerTurn)) (more : List ServerTurn) → 0 < length segs → flat (grow segs more) ≡ flat segs ++ more
flat-grow [] more some = absurd (omega arith)
flat-grow (seg ∷ []) more some = append-nil (seg ++ more) ∙ sym (ap (λ l. l ++ more) (append-nil seg))
flat-grow (seg ∷ next ∷ segs) more some =
    ap (λ l. seg ++ l) (flat-grow (next ∷ segs) more (omega arith)) ∙ sym (append_assoc seg (flat (next ∷ segs)) more)

pub length-grow : (segs : List (List ServerTurn)) (more : List ServerTurn) → length (grow segs more) ≡ length segs
length-grow [] more = refl
length-grow (seg ∷ []) more = refl
length-grow (seg ∷ next ∷ segs) more = ap suc (length-grow (next ∷ segs) more)

-- all but the last stay as they are
pub all_but-grow : (P : List ServerTurn → Type 0) (segs : List (List ServerTurn)) (more : List ServerTurn) → AllBut P segs → AllBut P (grow segs more)
all_but-grow P [] more all = tt
all_but-grow P (seg ∷ []) more all = tt
all_but-grow P (seg ∷ next ∷ []) more all = all
all_but-grow P (seg ∷ next ∷ third ∷ segs) more (has, all) = (has, all_but-grow P (next ∷ third ∷ segs) more all)

grow-last : (front : List (List ServerTurn)) (seg more : List ServerTurn) → grow (front ++ seg ∷ []) more ≡ front ++ (seg ++ more) ∷ []
grow-last [] seg more = refl
grow-last (x ∷ []) seg more = refl
grow-last (x ∷ y ∷ front) seg more = ap (λ l. x ∷ l) (grow-last (y ∷ front) seg more)

pub ends-grow : (P : List ServerTurn → Type 0) (segs : List (List ServerTurn)) (more : List ServerTurn)
    → ((seg : List ServerTurn) → P seg → P (seg ++ more)) → EndsWith P segs → EndsWith P (grow segs more)
ends-grow P segs more grows (front, seg, is, has) =
    (front, seg ++ more, ap (λ l. grow l more) is ∙ grow-last front seg more, grows seg has)

pub all-grow : (P : List ServerTurn → Type 0) (segs : List (List ServerTurn)) (more : List ServerTurn)
    → ((seg : List ServerTurn) → P seg → P (seg ++ more)) → All P segs → All P (grow segs more)
all-grow P [] more grows all = all
all-grow P (seg ∷ []) more grows all = All-cons P (seg ++ more) [] (grows seg (All-head P seg [] all)) (All-nil P)
all-grow P (seg ∷ next ∷ segs) more grows all =
    All-cons P seg (grow (next ∷ segs) more) (All-head P seg (next ∷ segs) all) (all-grow P (next ∷ segs) more grows (All-tail P seg (next ∷ segs) all))

-- ---- spans that were read

none-left : (xs ys : List RunTurn) → xs ++ ys ≡ [] → xs ≡ []
none-left [] ys is = refl
none-left (x ∷ xs) ys is = let e : x ∷ (xs ++ ys) ≡ [] = is in cc

pub read-grow : (seg more : List ServerTurn) → WasRead seg → WasRead (seg ++ more)
read-grow seg more read = λ none. read (none-left (of 3 seg) (of 3 more) (sym (of-append 3 seg more) ∙ none))

pub first-grow : (segs : List (List ServerTurn)) (more : List ServerTurn) → FirstWasRead segs → FirstWasRead (grow segs more)
first-grow [] more read = absurd read
first-grow (seg ∷ []) more read = read-grow seg more read
first-grow (seg ∷ next ∷ segs) more read = read

pub first-all : (segs : List (List ServerTurn)) → 0 < length segs → All WasRead segs → FirstWasRead segs
first-all [] some all = absurd (omega (arith, some))
first-all (seg ∷ segs) some all = All-head WasRead seg segs all

pub first-push : (segs : List (List ServerTurn)) (seg : List ServerTurn) → FirstWasRead segs → FirstWasRead (segs ++ seg ∷ [])
first-push [] seg read = absurd read
first-push (x ∷ segs) seg read = read

pub all_but-of : {A : Type 0} (P : A → Type 0) (xs : List A) → All P xs → AllBut P xs
all_but-of P [] all = tt
all_but-of P (x ∷ []) all = tt
all_but-of P (x ∷ y ∷ xs) all = (All-head P x (y ∷ xs) all, all_but-of P (y ∷ xs) (All-tail P x (y ∷ xs) all))

pub readers-all : (end : RunEnd) (segs : List (List ServerTurn)) → All WasRead segs → HasReaders end segs
readers-all run.NoThread segs all = all_but-of WasRead segs all
readers-all run.NoMemory segs all = all_but-of WasRead segs all
readers-all run.Closed segs all = all
readers-all run.Left segs all = all
readers-all run.Worn segs all = all
readers-all run.LinkFault segs all = all

pub readers-grow : (end : RunEnd) (segs : List (List ServerTurn)) (more : List ServerTurn) → HasReaders end segs → HasReaders end (grow segs more)
readers-grow run.NoThread segs more read = all_but-grow WasRead segs more read
readers-grow run.NoMemory segs more read = all_but-grow WasRead segs more read
readers-grow run.Closed segs more read = all-grow WasRead segs more (λ seg r. read-grow seg more r) read
readers-grow run.Left segs more read = all-grow WasRead segs more (λ seg r. read-grow seg more r) read
readers-grow run.Worn segs more read = all-grow WasRead segs more (λ seg r. read-grow seg more r) read
readers-grow run.LinkFault segs more read = all-grow WasRead segs more (λ seg r. read-grow seg more r) read

-- ---- spans that were closed

pub closed-grow : (seg more : List ServerTurn) → IsClosed seg → IsClosed (seg ++ more)
closed-grow seg more c = record {
  cause = c.cause;
  heard = c.heard;
  front = c.front;
  back = c.back ++ more;
  whole = ap (λ l. l ++ more) c.whole ∙ append_assoc c.front ((0, Some (Drain, c.heard)) ∷ c.back) more;
  closed = c.closed;
  goes_on = c.goes_on;
}

pub closed_for-grow : (cause : LinkCause) (seg more : List ServerTurn) → ClosedFor cause seg → ClosedFor cause (seg ++ more)
closed_for-grow cause seg more c = record {
  heard = c.heard;
  front = c.front;
  back = c.back ++ more;
  whole = ap (λ l. l ++ more) c.whole ∙ append_assoc c.front ((0, Some (Drain, c.heard)) ∷ c.back) more;
  closed = c.closed;
}

-- turns that hand nothing over and are no Downs
pub wrote-still : (more : List RunTurn) (sound : Bool) (o : Outlet) → sends more ≡ [] → downs more ≡ 0 → Wrote more sound sound o o
wrote-still more sound o nothing no_down = record {
  sent = [];
  handed = Adds-none o.handed;
  all = λ is. sym nothing;
  part = (sends more, refl);
  none = λ is. (refl, is);
  quiet = λ same. (no_down, refl);
  broke = λ was is. absurd (true≢false (sym was ∙ is));
}

module _ {I O : Type 0} (hears : I → Inlet) (speaks : O → Outlet) where
  pub span-grow : (pair : Pair I O) (seg more : List ServerTurn) (out retries : ℕ) → MayFollow more → Span hears speaks pair seg out retries
      → Span hears speaks pair (seg ++ more) out retries
  span-grow pair seg more out retries may s =
      let own : of 0 (s.rest ++ more) ≡ of 0 s.rest ++ of 0 more = of-append 0 s.rest more in
      let alone : of 3 (s.rest ++ more) ≡ of 3 s.rest =
      of-append 3 s.rest more ∙ ap (λ l. of 3 s.rest ++ l) may.alone ∙ append-nil (of 3 s.rest) in
      record {
        opened = s.opened;
        rest = s.rest ++ more;
        whole = ap (λ l. l ++ more) s.whole;
        asks = subst (EachEntry (λ ask heard. MayWrite ask)) (sym own)
            (each-append (λ ask heard. MayWrite ask) (of 0 s.rest) (of 0 more) s.asks may.asks);
        made = s.made;
        fresh = s.fresh;
        sound = s.sound;
        wrote = subst (λ l. Wrote l true s.sound s.made (speaks pair.link_out)) (sym own)
            (wrote-on (of 0 s.rest) (of 0 more) true s.sound s.sound s.made (speaks pair.link_out) (speaks pair.link_out) s.wrote
            (wrote-still (of 0 more) s.sound (speaks pair.link_out) may.hands may.no_down));
        read = subst (λ l. LinkRead hears speaks l (hears pair.link_in) out retries) (sym alone) s.read;
      }

  pub spans-grow : (pairs : List (Pair I O)) (segs : List (List ServerTurn)) (out retries : ℕ) (more : List ServerTurn) → MayFollow more
      → Spans hears speaks pairs segs out retries → Spans hears speaks pairs (grow segs more) out retries
  spans-grow pairs segs out retries more may no_more = no_more
  spans-grow pairs segs out retries more may (one_more pair seg n r pairs' [] m q s spans) =
      one_more pair (seg ++ more) n r pairs' [] m q (span-grow pair seg more n r may s) spans
  spans-grow pairs segs out retries more may (one_more pair seg n r pairs' (next ∷ segs') m q s spans) =
      one_more pair seg n r pairs' (grow (next ∷ segs') more) m q s (spans-grow pairs' (next ∷ segs') m q more may spans)

  pub spanned-grow : (pairs : List (Pair I O)) (segs : List (List ServerTurn)) (seen more : List ServerTurn) (out retries : ℕ) → MayFollow more
      → 0 < length segs → Spanned hears speaks pairs segs seen out retries → Spanned hears speaks pairs (grow segs more) (seen ++ more) out retries
  spanned-grow pairs segs seen more out retries may some s = record {
    front = s.front;
    dialled = s.dialled;
    alone = s.alone;
    whole = ap (λ l. l ++ more) s.whole ∙ append_assoc s.front (flat segs) more ∙ ap (λ l. s.front ++ l) (sym (flat-grow segs more some));
    spans = spans-grow pairs segs out retries more may s.spans;
  }
