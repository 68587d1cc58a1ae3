-- Who asks what, and who takes the agent's leave.
use Rattle.std.proofs.Common.{◌≡◌, ◌≢◌, ℕ, zero, suc, ◌<◌, ◌==◌, ◌⊎◌, Bool, true, false, cond, List, [], ◌∷◌, ◌++◌, Some, None, refl, sym, ap, ◌∙◌, subst, eq-eqb, arith}
use Rattle.std.specs.List.{All}
use Rattle.std.proofs.lemmas.Bool.{true≢false}
use Rattle.std.proofs.lemmas.List.Elements.{All-cons, All-head, All-nil, All-tail}
use Rattle.radius_packet.specs.declared.reasons.Via.{Via}
use Rattle.radius_packet.specs.declared.reasons.Via.TheVariants.{Auth, Acct}
use Rattle.agent_events.specs.declared.events.Input.{Input}
use Rattle.agent_events.specs.declared.events.Input.TheVariants.{Broken, Datagram, Down, Drain, Leave, Message, Ready, Tick, Up}
use Rattle.agent_events.specs.Kinds.{is_drain}
use Rattle.turnstile.specs.Turns.{Numbered, of, plain}
use Rattle.server_workers.specs.declared.heard.Heard.{Heard}
use Rattle.server_workers.specs.Entries.{EachEntry, RunTurn}
use Rattle.server_workers.specs.LinkReading.{LinkMayAsk, LinkMayTake}
use Rattle.server_workers.specs.Running.{NoLeave}
use Rattle.agent_events.specs.Kinds.{is_leave}
use Rattle.agent_server.specs.Server.{MayTurn, MayWriteTurn}
use Rattle.server_workers.specs.Serving.{IsTick, IsUp, MayWrite}
use Rattle.server_workers.specs.SocketReading.{SocketMayAsk, SocketMayTake}
use Rattle.server_workers.specs.Segments.{IsWithin, ServerTurn, is_beginning}
use Rattle.server_workers.proofs.TurnLemmas.{of-append, plain-there}

-- ---- lists

pub All-left : {A : Type 0} (P : A → Type 0) (xs ys : List A) → All P (xs ++ ys) → All P xs
All-left P [] ys all = All-nil P
All-left P (x ∷ xs) ys all = All-cons P x xs (All-head P x (xs ++ ys) all) (All-left P xs ys (All-tail P x (xs ++ ys) all))

pub All-right : {A : Type 0} (P : A → Type 0) (xs ys : List A) → All P (xs ++ ys) → All P ys
All-right P [] ys all = all
All-right P (x ∷ xs) ys all = All-right P xs ys (All-tail P x (xs ++ ys) all)

All-both : {A : Type 0} (P Q R : A → Type 0) (xs : List A) → ((x : A) → P x → Q x → R x) → All P xs → All Q xs → All R xs
All-both P Q R [] both one two = All-nil R
All-both P Q R (x ∷ xs) both one two =
    All-cons R x xs (both x (All-head P x xs one) (All-head Q x xs two)) (All-both P Q R xs both (All-tail P x xs one) (All-tail Q x xs two))

pub each-at : (P : Input → Heard → Type 0) (front back : List RunTurn) (ask : Input) (heard : Heard) → EachEntry P (front ++ Some (ask, heard) ∷ back) → P ask heard
each-at P [] back ask heard each = each.0
each-at P (None ∷ front) back ask heard each = each-at P front back ask heard each
each-at P (Some entry ∷ front) back ask heard each = each-at P front back ask heard each.1

each-first : (P : Input → Heard → Type 0) (turn : RunTurn) (turns : List RunTurn) → EachEntry P (turn ∷ turns) → EachEntry P (turn ∷ [])
each-first P None turns each = tt
each-first P (Some entry) turns each = (each.0, tt)

each-rest : (P : Input → Heard → Type 0) (turn : RunTurn) (turns : List RunTurn) → EachEntry P (turn ∷ turns) → EachEntry P turns
each-rest P None turns each = each
each-rest P (Some entry) turns each = each.1

-- a turn of the writer has P
abbrev IfOwn : (Input → Heard → Type 0) → ServerTurn → Type 0
IfOwn P turn = turn.0 ≡ 0 → EachEntry P (turn.1 ∷ [])

own-next : (P : Input → Heard → Type 0) (turn : ServerTurn) (turns : List ServerTurn) (test : Bool) → (0 == turn.0) ≡ test
    → (EachEntry P (of 0 turns) → All (IfOwn P) turns) → EachEntry P (cond test (turn.1 ∷ of 0 turns) (of 0 turns)) → All (IfOwn P) (turn ∷ turns)
own-next P turn turns true is later each =
    All-cons (IfOwn P) turn turns (λ zero. each-first P turn.1 (of 0 turns) each) (later (each-rest P turn.1 (of 0 turns) each))
own-next P turn turns false is later each =
    All-cons (IfOwn P) turn turns (λ zero. absurd (true≢false (sym (eq-eqb 0 turn.0 (sym zero)) ∙ is))) (later each)

own-all : (P : Input → Heard → Type 0) (turns : List ServerTurn) → EachEntry P (of 0 turns) → All (IfOwn P) turns
own-all P [] each = All-nil (IfOwn P)
own-all P (turn ∷ turns) each = own-next P turn turns (0 == turn.0) refl (own-all P turns) each

all-rest : (P : RunTurn → Type 0) (test : Bool) (turn : RunTurn) (turns : List RunTurn) → All P (cond test (turn ∷ turns) turns) → All P turns
all-rest P true turn turns all = All-tail P turn turns all
all-rest P false turn turns all = all

-- what holds of the turns of each number holds of all turns
pub all-of : (P : ℕ → RunTurn → Type 0) (turns : List ServerTurn) → Numbered turns → ((n : ℕ) → n < 4 → All (P n) (of n turns))
    → All (λ (t : ServerTurn). P t.0 t.1) turns
all-of P [] numbered each = All-nil (λ (t : ServerTurn). P t.0 t.1)
all-of P (t ∷ turns) numbered each =
    All-cons (λ (t : ServerTurn). P t.0 t.1) t turns
    (All-head (P t.0) t.1 (of t.0 turns)
    (subst (λ (b : Bool). All (P t.0) (cond b (t.1 ∷ of t.0 turns) (of t.0 turns))) (eq-eqb t.0 t.0 refl) (each t.0 numbered.0)))
    (all-of P turns numbered.1 (λ n low. all-rest (P n) (n == t.0) t.1 (of n turns) (each n low)))

pub write-tick : (ask : Input) → IsTick ask → MayWrite ask
write-tick Tick is = tt
write-tick Up is = absurd is
write-tick Drain is = tt
write-tick Down is = tt
write-tick Leave is = tt
write-tick (Message octets) is = absurd is
write-tick (Broken fault) is = absurd is
write-tick (Datagram via address port octets) is = absurd is
write-tick Ready is = absurd is

-- ---- who asks what

abbrev pub Asks : ℕ → ℕ → ServerTurn → Type 0
Asks a c t = MayTurn a c t.0 t.1

abbrev pub IsOwn : Input → Heard → Type 0
IsOwn ask heard = MayWrite ask ⊎ IsUp ask

abbrev pub IsWritten : Input → Heard → Type 0
IsWritten ask heard = MayWrite ask

pub own-asks : (turns : List RunTurn) → EachEntry IsOwn turns → All MayWriteTurn turns
own-asks [] each = All-nil MayWriteTurn
own-asks (None ∷ turns) each = All-cons MayWriteTurn None turns tt (own-asks turns each)
own-asks (Some entry ∷ turns) (has, each) = All-cons MayWriteTurn (Some entry) turns has (own-asks turns each)

pub asks-by : (a c : ℕ) (turns : List ServerTurn) → All MayWriteTurn (of 0 turns) → All (SocketMayTake Auth a) (of 1 turns)
    → All (SocketMayTake Acct c) (of 2 turns) → All LinkMayTake (of 3 turns) → (n : ℕ) → n < 4 → All (MayTurn a c n) (of n turns)
asks-by a c turns own auth acct links zero low = own
asks-by a c turns own auth acct links (suc zero) low = auth
asks-by a c turns own auth acct links (suc (suc zero)) low = acct
asks-by a c turns own auth acct links (suc (suc (suc zero))) low = links
asks-by a c turns own auth acct links (suc (suc (suc (suc n)))) low = absurd (omega arith)

-- neither Up nor Ready, nor a Drain
abbrev IsPlain : Input → Type 0
IsPlain ask = (is_beginning ask ≡ false) × (is_drain ask ≡ false)

write-plain : (ask : Input) → MayWrite ask → is_beginning ask ≡ false
write-plain Drain may = refl
write-plain Down may = refl
write-plain Tick may = refl
write-plain Leave may = refl
write-plain ask may = absurd may

socket-plain : (via : Via) (row : ℕ) (ask : Input) → SocketMayAsk via row ask → IsPlain ask
socket-plain via row (Datagram port_via address port octets) may = (refl, refl)
socket-plain via row Tick may = (refl, refl)
socket-plain via row Leave may = (refl, refl)
socket-plain via row ask may = absurd may

link-plain : (ask : Input) → LinkMayAsk ask → IsPlain ask
link-plain (Message octets) may = (refl, refl)
link-plain (Broken fault) may = (refl, refl)
link-plain Tick may = (refl, refl)
link-plain Down may = (refl, refl)
link-plain ask may = absurd may

no-drain : (n : ℕ) (ask : Input) → IsPlain ask → (is_beginning ask ≡ false) × (is_drain ask ≡ true → n ≡ 0)
no-drain n ask (begins_none, drains_none) = (begins_none, λ is. absurd (true≢false (sym is ∙ drains_none)))

within-by : (a c n : ℕ) (ask : Input) (heard : Heard) → MayTurn a c n (Some (ask, heard)) → (n ≡ 0 → EachEntry IsWritten (Some (ask, heard) ∷ []))
    → (is_beginning ask ≡ false) × (is_drain ask ≡ true → n ≡ 0)
within-by a c zero ask heard may own = (write-plain ask (own refl).0, λ is. refl)
within-by a c (suc zero) ask heard may own = no-drain 1 ask (socket-plain Auth a ask may)
within-by a c (suc (suc zero)) ask heard may own = no-drain 2 ask (socket-plain Acct c ask may)
within-by a c (suc (suc (suc zero))) ask heard may own = no-drain 3 ask (link-plain ask may)
within-by a c (suc (suc (suc (suc n)))) ask heard may own = absurd may

within-turn : (a c : ℕ) (t : ServerTurn) → MayTurn a c t.0 t.1 → (t.0 ≡ 0 → EachEntry IsWritten (t.1 ∷ [])) → IsWithin t
within-turn a c (n, None) may own ask heard is = cc
within-turn a c (n, Some (ask', heard')) may own ask heard is =
    let both : (ask', heard') ≡ (ask, heard) = cc in
    let same : ask' ≡ ask = ap (λ (e : Input × Heard). e.0) both in
    subst (λ (i : Input). (is_beginning i ≡ false) × (is_drain i ≡ true → n ≡ 0)) same (within-by a c n ask' heard' may own)

-- where the writer asks no Up, nothing begins
pub within-all : (a c : ℕ) (turns : List ServerTurn) → All (Asks a c) turns → EachEntry IsWritten (of 0 turns) → All IsWithin turns
within-all a c turns all own =
    All-both (Asks a c) (λ (t : ServerTurn). t.0 ≡ 0 → EachEntry IsWritten (t.1 ∷ [])) IsWithin turns
    (λ t may mine. within-turn a c t may mine) all (own-all IsWritten turns own)

-- ---- who takes a leave

-- where no socket failed for good, the writer alone takes the agent's leave
leave-mine : (a c n : ℕ) (heard : Heard) → a ≢ 16 → c ≢ 16 → MayTurn a c n (Some (Leave, heard)) → n ≡ 0
leave-mine a c zero heard auth acct may = refl
leave-mine a c (suc zero) heard auth acct may = absurd (auth may)
leave-mine a c (suc (suc zero)) heard auth acct may = absurd (acct may)
leave-mine a c (suc (suc (suc zero))) heard auth acct may = absurd may
leave-mine a c (suc (suc (suc (suc n)))) heard auth acct may = absurd may

-- a Leave among all turns is one among the writer's
pub record IsMine (left : Heard) (turns : List ServerTurn) (a b : List RunTurn) : Type 0 where
  pub front : List ServerTurn
  pub back : List ServerTurn
  pub whole : turns ≡ front ++ (0, Some (Leave, left)) ∷ back
  pub before : plain front ≡ a
  pub own : of 0 turns ≡ of 0 front ++ Some (Leave, left) ∷ of 0 back

pub leave-at : (a c : ℕ) → a ≢ 16 → c ≢ 16 → (turns : List ServerTurn) → All (Asks a c) turns → (front back : List RunTurn) (left : Heard)
    → plain turns ≡ front ++ Some (Leave, left) ∷ back → IsMine left turns front back
leave-at a c auth acct turns all front back left is =
    let s = plain-there (Some (Leave, left)) turns front back is in
    let turn : ServerTurn = (s.number, Some (Leave, left)) in
    let may : MayTurn a c s.number (Some (Leave, left)) =
    All-head (Asks a c) turn s.back
    (All-right (Asks a c) s.front (turn ∷ s.back) (subst (All (Asks a c)) s.whole all)) in
    let mine : s.number ≡ 0 = leave-mine a c s.number left auth acct may in
    let whole : turns ≡ s.front ++ (0, Some (Leave, left)) ∷ s.back =
    s.whole ∙ ap (λ (n : ℕ). s.front ++ (n, Some (Leave, left)) ∷ s.back) mine in
    record {
      front = s.front;
      back = s.back;
      whole = whole;
      before = s.before;
      own = ap (of 0) whole ∙ of-append 0 s.front ((0, Some (Leave, left)) ∷ s.back);
    }

-- where the writer took no leave there is none
pub no-leave : (a c : ℕ) → a ≢ 16 → c ≢ 16 → (turns : List ServerTurn) → All (Asks a c) turns → NoLeave (of 0 turns)
    → (front back : List RunTurn) (left : Heard) → plain turns ≡ front ++ Some (Leave, left) ∷ back → ⊥
no-leave a c auth acct turns all quiet front back left is =
    let m = leave-at a c auth acct turns all front back left is in
    true≢false (each-at (λ ask heard. is_leave ask ≡ false) (of 0 m.front) (of 0 m.back) Leave left (subst NoLeave m.own quiet))

-- of one Leave there is one before
pub one-leave : (a b g h : List RunTurn) (left last : Heard) → a ++ Some (Leave, left) ∷ b ≡ g ++ Some (Leave, last) ∷ h → NoLeave g → NoLeave h → a ≡ g
one-leave [] b [] h left last same quiet still = refl
one-leave [] b (None ∷ g) h left last same quiet still = cc
one-leave [] b (Some (ask, heard) ∷ g) h left last same quiet still =
    let both : (Leave, left) ≡ (ask, heard) = cc in
    absurd (true≢false (ap (λ (e : Input × Heard). is_leave e.0) both ∙ quiet.0))
one-leave (x ∷ a) b [] h left last same quiet still =
    let rest : h ≡ a ++ Some (Leave, left) ∷ b = cc in
    absurd (true≢false (each-at (λ ask heard. is_leave ask ≡ false) a b Leave left (subst NoLeave rest still)))
one-leave (x ∷ a) b (y ∷ g) h left last same quiet still =
    let first : x ≡ y = cc in
    let rest : a ++ Some (Leave, left) ∷ b ≡ g ++ Some (Leave, last) ∷ h = cc in
    let fronts = one-leave a b g h left last rest (each-rest (λ ask heard. is_leave ask ≡ false) y g quiet) still in
    cc
