-- Of the open aborts one at most is answered by a datagram, since no two have one identifier.
use Rattle.std.proofs.Common.{◌≡◌, ℕ, ◌%◌, inl, inr, Bool, true, false, cond, eqb, not, ◌&&◌, List, [], ◌∷◌, ◌++◌, map, filter, length, max, Option, Some, None, Result, Ok, Err, refl, sym, ap, ◌∙◌, subst, arith}
use Rattle.std.specs.Prelude.{nat_lt, slice_index, option_map}
use Rattle.std.specs.Option.{option_or}
use Rattle.std.specs.List.{AllByRecursion as Each, Contains, list_any}
use Rattle.std.proofs.lemmas.Bool.{eqb-true, eq-eqb, and_parts, or_parts}
use Rattle.std.specs.Cmp.Lexicographic.{pointwise}
use Rattle.std.specs.Prelude.{nat_eq}
use Rattle.radius_packet.specs.Packet.{PacketParts, packet_text, read_packet}
use Rattle.radius_packet.specs.declared.fault.PacketFault.{PacketFault}
use Rattle.disconnect_map.specs.Disconnects.{disconnect_text}
use Rattle.disconnect_map.specs.Verdicts.{verdict_of, read_verdict, is_authentic_answer, code_verdict}
use Rattle.agent_settings.specs.declared.config.Config.{Config}
use Rattle.agent_settings.specs.declared.client.Client.{Client}
use Rattle.agent_events.specs.declared.events.Input.{Input}
use Rattle.agent_events.specs.declared.events.Input.TheVariants as inputs
use Rattle.agent_events.specs.declared.events.Output.{Output}
use Rattle.session_book.specs.declared.aborts.Abort.{Abort}
use Rattle.session_book.specs.declared.aborts.OpenAbort.{OpenAbort}
use Rattle.session_book.specs.declared.aborts.Sent.{Sent}
use Rattle.session_book.specs.declared.sessions.Entry.{Entry}
use Rattle.session_book.specs.declared.events.BookInput.{BookInput}
use Rattle.session_book.specs.declared.events.BookInput.TheVariants as book_inputs
use Rattle.session_book.specs.declared.events.BookOutput.TheVariants.{Dropped}
use Rattle.session_book.specs.declared.events.BookReason.TheVariants.{AbortOpen}
use Rattle.session_book.specs.Aborts.{Deed, Nothing, Opens, Answers, Ages, Ends, after, is_spent, renewed, first_sent}
use Rattle.session_book.specs.Book.{entry_of}
use Rattle.session_book.specs.Places.{BookEvent, BookPlace, now, book, count, opened, open_aborts, open_among, if_open, sent_so_far}
use Rattle.session_book.specs.Reading.{AskParts}
use Rattle.session_book.specs.History.{says, answer, is_repeat, is_in_the_way, may_open, opening, on_session, client_at, verdict_at, said_to, first_answered, answered, tick_deed, passed_deed, is_closing, caught, link_phase, core_place, core_input, at_input, place, places, past}
use Rattle.session_book.proofs.Members.{none-there, first-there, later-there, there-cases, each-there, each-filter, each-end}
use Rattle.session_book.proofs.Opening.{Numbered, open-after}
use Rattle.session_book.proofs.Simulation.{fresh-input, numbered-place}

-- ---- open aborts have identifiers of their own

abbrev Differs : ℕ → OpenAbort → Type 0
Differs number o = eqb (o.abort.number % 256) (number % 256) ≡ false

-- its Disconnect-Request has its identifier
abbrev IsTagged : Abort → Type 0
IsTagged a = slice_index a.request 1 ≡ a.number % 256

abbrev pub Separate : List OpenAbort → Type 0
Separate [] = Unit {0}
Separate (o ∷ os) = IsTagged o.abort × Each (Differs o.abort.number) os × Separate os

separate-filter : (test : OpenAbort → Bool) (os : List OpenAbort) → Separate os → Separate (filter test os)
separate-filter test [] s = tt
separate-filter test (o ∷ os) s =
    elim (test o) as (λ b. Separate (cond b (o ∷ filter test os) (filter test os))) [
      | true ↦ (s.0, each-filter (Differs o.abort.number) test os s.1, separate-filter test os s.2)
      | false ↦ separate-filter test os s.2
    ]

differs-renewed : (n m : ℕ) (os : List OpenAbort) → Each (Differs n) os → Each (Differs n) (map (renewed m) os)
differs-renewed n m [] all = tt
differs-renewed n m (o ∷ os) all = (all.0, differs-renewed n m os all.1)

separate-renewed : (m : ℕ) (os : List OpenAbort) → Separate os → Separate (map (renewed m) os)
separate-renewed m [] s = tt
separate-renewed m (o ∷ os) s = (s.0, differs-renewed o.abort.number m os s.1, separate-renewed m os s.2)

other-way : (x y : ℕ) → eqb x y ≡ false → eqb y x ≡ false
other-way x y e = grind arith

separate-end : (o : OpenAbort) (os : List OpenAbort) → IsTagged o.abort → Each (Differs o.abort.number) os → Separate os → Separate (os ++ o ∷ [])
separate-end o [] tag all s = (tag, tt, tt)
separate-end o (x ∷ os) tag all s = (
  s.0,
  each-end (Differs x.abort.number) os o s.1 (other-way (x.abort.number % 256) (o.abort.number % 256) all.0),
  separate-end o os tag all.1 s.2,
)

-- what is opened has an identifier that no open one has
abbrev IsApart : Deed → List OpenAbort → Type 0
IsApart (Opens b) os = IsTagged b × Each (Differs b.number) os
IsApart Nothing os = Unit {0}
IsApart (Answers b ended) os = Unit {0}
IsApart Ages os = Unit {0}
IsApart Ends os = Unit {0}

separate-after : (d : Deed) (m : ℕ) (os : List OpenAbort) → IsApart d os → Separate os → Separate (after d m os)
separate-after Nothing m os apart s = s
separate-after (Opens b) m os apart s = separate-end (record { abort = b; sent = first_sent m }) os apart.0 apart.1 s
separate-after (Answers b ended) m os apart s = separate-filter (λ o. not (eqb o.abort.number b.number)) os s
separate-after Ages m os apart s =
    separate-renewed m (filter (λ o. not (is_spent m o.sent)) os) (separate-filter (λ o. not (is_spent m o.sent)) os s)
separate-after Ends m os apart s = tt

-- ---- each deed of the rule is apart

tagged : (client : Client) (id : ℕ) (user : Option (List ℕ)) (acct : List ℕ) → slice_index (disconnect_text client id user acct) 1 ≡ id
unfolding disconnect_text packet_text
tagged client id user acct = refl

none-in-the-way : (ask : AskParts) (n : ℕ) (os : List OpenAbort) → list_any (is_in_the_way ask n) os ≡ false → Each (Differs n) os
none-in-the-way ask n [] e = tt
none-in-the-way ask n (o ∷ os) e =
    let both = or_parts (is_in_the_way ask n o) (list_any (is_in_the_way ask n) os) e in (
      (or_parts (pointwise nat_eq o.abort.session ask.session) (eqb (o.abort.number % 256) (n % 256)) both.0).1,
      none-in-the-way ask n os both.1,
    )

not-true : (b : Bool) → not b ≡ true → b ≡ false
not-true true e = absurd (cc)
not-true false e = refl

apart-opening : (config : Config) (os : List OpenAbort) (ask : AskParts) (n : ℕ) (entry : Entry) (client : Option Client)
    → Each (Differs n) os → IsApart (opening config ask n entry client).deed os
apart-opening config os ask n entry None all = tt
apart-opening config os ask n entry (Some client) all = (tagged client (n % 256) entry.user entry.acct, all)

apart-room : (config : Config) (os : List OpenAbort) (ask : AskParts) (n : ℕ) (entry : Entry) (b : Bool) → may_open os ask n ≡ b
    → IsApart (cond b (opening config ask n entry (client_at config entry.address)) (says (answer config ask 5012))).deed os
apart-room config os ask n entry true e =
    let both = and_parts (nat_lt (length os) 64) (not (list_any (is_in_the_way ask n) os)) e in
    apart-opening config os ask n entry (client_at config entry.address)
    (none-in-the-way ask n os (not-true (list_any (is_in_the_way ask n) os) both.1))
apart-room config os ask n entry false e = tt

apart-known : (config : Config) (os : List OpenAbort) (ask : AskParts) (n : ℕ) (entry : Option Entry) → IsApart (on_session config os ask n entry).deed os
apart-known config os ask n None = tt
apart-known config os ask n (Some entry) = apart-room config os ask n entry (may_open os ask n) refl

apart-either : (config : Config) (os : List OpenAbort) (ask : AskParts) (n : ℕ) (entry : Option Entry) (b : Bool)
    → IsApart (cond b (says (Dropped AbortOpen)) (on_session config os ask n entry)).deed os
apart-either config os ask n entry true = tt
apart-either config os ask n entry false = apart-known config os ask n entry

apart-answered : (config : Config) (os : List OpenAbort) (found : Option (Abort × Bool)) → IsApart (answered config found).deed os
apart-answered config os None = tt
apart-answered config os (Some found) = tt

apart-tick : (input : Input) (os : List OpenAbort) → IsApart (tick_deed input) os
apart-tick (inputs.Datagram via address port octets) os = tt
apart-tick inputs.Up os = tt
apart-tick inputs.Ready os = tt
apart-tick (inputs.Message octets) os = tt
apart-tick (inputs.Broken fault) os = tt
apart-tick inputs.Down os = tt
apart-tick inputs.Tick os = tt
apart-tick inputs.Drain os = tt
apart-tick inputs.Leave os = tt

apart-passed : (input : Input) (from : List Output) (os : List OpenAbort) → IsApart (passed_deed input from) os
apart-passed input from os =
    elim (list_any is_closing from) as (λ b. IsApart (cond b Ends (tick_deed input)) os) [ true ↦ tt | false ↦ apart-tick input os ]

apart-core : (config : Config) (ps : List BookPlace) (at : ℕ) (input : Input) (o : Option AskParts) → IsApart (core_input config ps at input o).deed (open_aborts ps)
apart-core config ps at input None = apart-passed input (core_place config ps at input).outputs (open_aborts ps)
apart-core config ps at input (Some ask) =
    apart-either config (open_aborts ps) ask (count ps) (entry_of ask.session (book config.capacity ps)) (list_any (is_repeat ask) (open_aborts ps))

apart-input : (config : Config) (ps : List BookPlace) (at : ℕ) (input : BookInput) → IsApart (at_input config ps at input).deed (open_aborts ps)
apart-input config ps at (book_inputs.Core input) = apart-core config ps at input (caught (link_phase config ps) input)
apart-input config ps at (book_inputs.Control address port octets) =
    apart-answered config (open_aborts ps) (first_answered (said_to config address port octets) (open_aborts ps))

-- ---- whole histories

separate-place : (config : Config) (ps : List BookPlace) (e : BookEvent) → Numbered ps → Separate (open_aborts ps) → Separate (open_aborts (place config ps e ∷ ps))
separate-place config ps e numbered s =
    let p = place config ps e in
    let at = max (now ps) e.moment in
    subst Separate (open-after p.deed p.moment (λ a. sent_so_far a ps) (opened ps) (fresh-input config ps at e.input) numbered)
    (separate-after p.deed p.moment (open_aborts ps) (apart-input config ps at e.input) s)

separate-places : (config : Config) (ps : List BookPlace) (es : List BookEvent) → Numbered ps → Separate (open_aborts ps) → Separate (open_aborts (places config ps es))
separate-places config ps [] numbered s = s
separate-places config ps (e ∷ es) numbered s =
    separate-places config (place config ps e ∷ ps) es (numbered-place config ps e numbered) (separate-place config ps e numbered s)

pub separate-past : (config : Config) (history : List BookEvent) → Separate (open_aborts (past config history))
separate-past config history = separate-places config [] history tt tt

-- ---- what a datagram says has an identifier

-- the packet that these octets are has the identifier of this request
record HasId (octets : List ℕ) (a : Abort) : Type 0 where
  pub packet : PacketParts
  pub read : read_packet octets ≡ Ok packet
  pub id : packet.id ≡ slice_index a.request 1

id-answer : (p : PacketParts) (secret request : List ℕ) (b : Bool) (v : Bool) → is_authentic_answer secret request p ≡ b
    → cond b (code_verdict p.code) None ≡ Some v → p.id ≡ slice_index request 1
id-answer p secret request true v found e = eqb-true p.id (slice_index request 1) (and_parts (eqb p.id (slice_index request 1)) _ found).0
id-answer p secret request false v found e = absurd (cc)

id-read : (octets : List ℕ) (a : Abort) (secret : List ℕ) (r : Result PacketParts PacketFault) (v : Bool) → read_packet octets ≡ r
    → read_verdict secret a.request r ≡ Some v → HasId octets a
id-read octets a secret (Ok p) v read e =
    record { packet = p; read = read; id = id-answer p secret a.request (is_authentic_answer secret a.request p) v refl e }
id-read octets a secret (Err fault) v read e = absurd (cc)

id-verdict : (client : Client) (octets : List ℕ) (a : Abort) (v : Bool) → verdict_of client a.request octets ≡ Some v → HasId octets a
unfolding verdict_of
id-verdict client octets a v e = id-read octets a client.secret (read_packet octets) v refl e

id-client : (client : Option Client) (octets : List ℕ) (a : Abort) (v : Bool) → verdict_at client a octets ≡ Some v → HasId octets a
id-client None octets a v e = absurd (cc)
id-client (Some client) octets a v e = id-verdict client octets a v e

id-source : (config : Config) (address : ℕ) (octets : List ℕ) (a : Abort) (v b : Bool) → cond b (verdict_at (client_at config address) a octets) None ≡ Some v → HasId octets a
id-source config address octets a v true e = id-client (client_at config address) octets a v e
id-source config address octets a v false e = absurd (cc)

id-said : (config : Config) (address port : ℕ) (octets : List ℕ) (a : Abort) (v : Bool) → said_to config address port octets a ≡ Some v → HasId octets a
id-said config address port octets a v e = id-source config address octets a v (eqb a.address address && eqb port 3799) e

-- what one datagram answers has one identifier
abbrev OneId : (Abort → Option Bool) → Type 0
OneId said = (a b : Abort) (v w : Bool) → said a ≡ Some v → said b ≡ Some w → slice_index a.request 1 ≡ slice_index b.request 1

one-packet : (octets : List ℕ) (p q : PacketParts) → read_packet octets ≡ Ok p → read_packet octets ≡ Ok q → p.id ≡ q.id
one-packet octets p q e f = let same : ◌≡◌ {A = Result PacketParts PacketFault} (Ok p) (Ok q) = sym e ∙ f in cc

one-id : (config : Config) (address port : ℕ) (octets : List ℕ) → OneId (said_to config address port octets)
one-id config address port octets a b v w e f =
    let x = id-said config address port octets a v e in
    let y = id-said config address port octets b w f in
    sym x.id ∙ one-packet octets x.packet y.packet x.read y.read ∙ y.id

-- ---- the first that is answered is the only one

tag-there : (os : List OpenAbort) (o : OpenAbort) → Separate os → Contains os o → IsTagged o.abort
tag-there [] o s h = absurd (none-there o h)
tag-there (x ∷ os) o s h =
    elim (there-cases x os o h) [ inl is ↦ subst (λ (y : OpenAbort). IsTagged y.abort) is s.0 | inr more ↦ tag-there os o s.2 more ]

-- one before it says nothing
quiet-before : (said : Abort → Option Bool) (x o : OpenAbort) (ended : Bool) (r : Option Bool) → OneId said → IsTagged x.abort → IsTagged o.abort
    → Differs x.abort.number o → said o.abort ≡ Some ended → said x.abort ≡ r → r ≡ None
quiet-before said x o ended None one tag tag' apart e f = refl
quiet-before said x o ended (Some v) one tag tag' apart e f =
    absurd (let same : x.abort.number % 256 ≡ o.abort.number % 256 = sym tag ∙ one x.abort o.abort v ended f e ∙ tag' in
    let equal : eqb (o.abort.number % 256) (x.abort.number % 256) ≡ true = eq-eqb _ _ (sym same) in
    let both : true ≡ false = sym equal ∙ apart in cc)

only-answered : (said : Abort → Option Bool) (os : List OpenAbort) (o : OpenAbort) (ended : Bool) → OneId said → Separate os → Contains os o → said o.abort ≡ Some ended
    → first_answered said os ≡ Some (o.abort, ended)
only-answered said [] o ended one s h e = absurd (none-there o h)
only-answered said (x ∷ os) o ended one s h e =
    elim (there-cases x os o h) [
      | inl is ↦ (let said-so : said x.abort ≡ Some ended = ap (λ (y : OpenAbort). said y.abort) is ∙ e in
          ap (λ (r : Option Bool). option_or (option_map (λ b. (x.abort, b)) r) (first_answered said os)) said-so
          ∙ ap (λ (y : OpenAbort). Some (y.abort, ended)) is)
      | inr more ↦ (let quiet = quiet-before said x o ended (said x.abort) one s.0 (tag-there os o s.2 more) (each-there (Differs x.abort.number) os o s.1 more) e refl in
          ap (λ (r : Option Bool). option_or (option_map (λ b. (x.abort, b)) r) (first_answered said os)) quiet
          ∙ only-answered said os o ended one s.2 more e)
    ]

-- ---- the open ones are those that were opened and are open

pub open-there : (f : Abort → Option Sent) (list : List Abort) (a : Abort) (s : Sent) → Contains list a → f a ≡ Some s → Contains (open_among f list) (record { abort = a; sent = s })
open-there f [] a s h e = absurd (none-there a h)
open-there f (x ∷ list) a s h e =
    elim (there-cases x list a h) [
      | inl is ↦ subst (λ (o : Option Sent). Contains (if_open x o ++ open_among f list) (record { abort = a; sent = s })) (sym (ap f is ∙ e))
          (subst (λ (y : Abort). Contains (record { abort = x; sent = s } ∷ open_among f list) (record { abort = y; sent = s })) is
          (first-there {X = OpenAbort} (record { abort = x; sent = s }) (open_among f list)))
      | inr more ↦ skip x (f x) (open_among f list) (open-there f list a s more e)
    ]
  where
    skip : (x : Abort) (o : Option Sent) (os : List OpenAbort) → Contains os (record { abort = a; sent = s }) → Contains (if_open x o ++ os) (record { abort = a; sent = s })
    skip x None os h = h
    skip x (Some t) os h = later-there {X = OpenAbort} (record { abort = x; sent = t }) os (record { abort = a; sent = s }) h

-- it was opened, and this was sent of it
pub record Was (f : Abort → Option Sent) (list : List Abort) (a : Abort) : Type 0 where
  pub there : Contains list a
  pub sent : Sent
  pub is : f a ≡ Some sent

was-later : (f : Abort → Option Sent) (x : Abort) (list : List Abort) (a : Abort) → Was f list a → Was f (x ∷ list) a
was-later f x list a w = record { there = later-there x list a w.there; sent = w.sent; is = w.is }

abbrev Found : (Abort → Option Sent) → (Abort → Option Bool) → List Abort → Abort × Bool → Type 0
Found f said list found = first_answered said (open_among f list) ≡ Some found → Was f list found.0

was-told : (f : Abort → Option Sent) (said : Abort → Option Bool) (x : Abort) (list : List Abort) (found : Abort × Bool) (s : Sent) (r : Option Bool) → Found f said list found → f x ≡ Some s
    → option_or (option_map (λ ended. (x, ended)) r) (first_answered said (open_among f list)) ≡ Some found → Was f (x ∷ list) found.0
was-told f said x list found s (Some v) later is e =
    let same : (x, v) ≡ found = cc in
    subst (λ (a : Abort). Was f (x ∷ list) a) (ap (λ (p : Abort × Bool). p.0) same) (record { there = first-there x list; sent = s; is = is })
was-told f said x list found s None later is e = was-later f x list found.0 (later e)

was-head : (f : Abort → Option Sent) (said : Abort → Option Bool) (x : Abort) (list : List Abort) (found : Abort × Bool) (o : Option Sent) → Found f said list found → f x ≡ o
    → first_answered said (if_open x o ++ open_among f list) ≡ Some found → Was f (x ∷ list) found.0
was-head f said x list found None later is e = was-later f x list found.0 (later e)
was-head f said x list found (Some s) later is e = was-told f said x list found s (said x) later is e

-- the abort of an answer was open
first-was : (f : Abort → Option Sent) (said : Abort → Option Bool) (list : List Abort) (found : Abort × Bool) → Found f said list found
first-was f said [] found = λ e. absurd (cc)
first-was f said (x ∷ list) found = λ e. was-head f said x list found (f x) (first-was f said list found) refl e

-- ---- a datagram at a place

pub first-open : (config : Config) (ps : List BookPlace) (address port : ℕ) (octets : List ℕ) (found : Abort × Bool)
    → first_answered (said_to config address port octets) (open_aborts ps) ≡ Some found → Was (λ a. sent_so_far a ps) (opened ps) found.0
first-open config ps address port octets found e = first-was (λ a. sent_so_far a ps) (said_to config address port octets) (opened ps) found e

pub open-answered : (config : Config) (history : List BookEvent) (address port : ℕ) (octets : List ℕ) (a : Abort) (ended : Bool) (s : Sent)
    → Contains (opened (past config history)) a → sent_so_far a (past config history) ≡ Some s → said_to config address port octets a ≡ Some ended
    → first_answered (said_to config address port octets) (open_aborts (past config history)) ≡ Some (a, ended)
open-answered config history address port octets a ended s there is e =
    let ps = past config history in
    only-answered (said_to config address port octets) (open_aborts ps) (record { abort = a; sent = s }) ended (one-id config address port octets)
    (separate-past config history) (open-there (λ x. sent_so_far x ps) (opened ps) a s there is) e
