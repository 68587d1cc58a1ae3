-- Each law, place by place.
use Rattle.std.proofs.Common.{◌≡◌, ℕ, ◌+◌, ◌≤◌, ◌<◌, Bool, true, false, cond, eqb, List, [], ◌∷◌, max, Option, Some, None, refl, sym, ap, ◌∙◌, subst, arith}
use Rattle.std.specs.Prelude.{nat_le, count_by, option_map, is_some}
use Rattle.std.specs.Option.{option_or}
use Rattle.std.specs.List.{AllByRecursion as Each, list_any}
use Rattle.std.proofs.lemmas.Bool.{eqb-true}
use Rattle.agent_settings.specs.declared.config.Config.{Config}
use Rattle.agent_events.specs.declared.events.Input.{Input}
use Rattle.agent_events.specs.declared.events.Input.TheVariants as inputs
use Rattle.session_book.specs.declared.aborts.Abort.{Abort}
use Rattle.session_book.specs.declared.aborts.OpenAbort.{OpenAbort}
use Rattle.session_book.specs.declared.aborts.Sent.{Sent}
use Rattle.session_book.specs.declared.sessions.Entry.{Entry}
use Rattle.agent_settings.specs.declared.client.Client.{Client}
use Rattle.session_book.specs.declared.events.BookInput.{BookInput}
use Rattle.session_book.specs.declared.events.BookInput.TheVariants as book_inputs
use Rattle.session_book.specs.declared.events.BookOutput.TheVariants.{Dropped}
use Rattle.session_book.specs.declared.events.BookReason.TheVariants.{AbortOpen}
use Rattle.session_book.specs.Aborts.{Deed, Nothing, Opens, Answers, Ages, Ends, is_due, is_last, first_sent}
use Rattle.session_book.specs.Book.{entry_of}
use Rattle.session_book.specs.Places.{BookEvent, BookPlace, now, book, count, opened, open_aborts, sent_after, sent_so_far}
use Rattle.session_book.specs.Reading.{AskParts}
use Rattle.session_book.specs.History.{says, answer, answer_to, code_of, control, is_repeat, may_open, opening, on_session, client_at, first_answered, said_to, answered, tick_deed, is_closing, caught, link_phase, core_place, core_input, at_input, place, places, past}
use Rattle.session_book.specs.Laws.{PassesOn, said_by, is_request, is_answer, said_so_far, IsLimited, IsTold, IsOpen, TellsOf}
use Rattle.session_book.specs.State.{opens}
use Rattle.session_book.proofs.Opening.{IsFresh, count-after}
use Rattle.session_book.proofs.Simulation.{fresh-input}
use Rattle.session_book.proofs.Separation.{Was, first-open, open-answered}

-- ---- the core's part

passes-core : (config : Config) (ps : List BookPlace) (at : ℕ) (input : Input) (o : Option AskParts) → PassesOn config ps (core_input config ps at input o)
passes-core config ps at input (Some ask) = tt
passes-core config ps at input None = refl

pub passes-on : (config : Config) (ps : List BookPlace) (at : ℕ) (input : BookInput) → PassesOn config ps (at_input config ps at input)
passes-on config ps at (book_inputs.Core input) = passes-core config ps at input (caught (link_phase config ps) input)
passes-on config ps at (book_inputs.Control address port octets) = tt

-- ---- the same octets

same-overdue : (config : Config) (moment : ℕ) (a : Abort) (s : Sent) (due last : Bool)
    → Each (λ o. is_request o ≡ true → o ≡ control a) (cond due (cond last (answer_to config a 5012) (control a) ∷ []) [])
same-overdue config moment a s true true = ((λ e. absurd (cc)), tt)
same-overdue config moment a s true false = ((λ e. refl), tt)
same-overdue config moment a s false last = tt

same-if : (config : Config) (a : Abort) (b : Bool) → Each (λ o. is_request o ≡ true → o ≡ control a) (cond b (control a ∷ []) [])
same-if config a true = ((λ e. refl), tt)
same-if config a false = tt

answer-if : (config : Config) (a : Abort) (code : ℕ) (b : Bool) → Each (λ o. is_request o ≡ true → o ≡ control a) (cond b (answer_to config a code ∷ []) [])
answer-if config a code true = ((λ e. absurd (cc)), tt)
answer-if config a code false = tt

pub same-requests : (config : Config) (moment : ℕ) (a : Abort) (before : Option Sent) (d : Deed) → Each (λ o. is_request o ≡ true → o ≡ control a) (said_by config moment a before d)
same-requests config moment a before Nothing = tt
same-requests config moment a before (Opens b) = same-if config a (eqb a.number b.number)
same-requests config moment a None (Answers b ended) = tt
same-requests config moment a (Some s) (Answers b ended) = answer-if config a (code_of ended) (eqb a.number b.number)
same-requests config moment a None Ages = tt
same-requests config moment a (Some s) Ages = same-overdue config moment a s (is_due moment s) (is_last s)
same-requests config moment a before Ends = tt

-- ---- how many

-- by what was sent of an abort: so many requests and answers
abbrev Tally : Option Sent → ℕ → ℕ → Type 0
Tally None requests answers = (requests ≤ 3) × (answers ≤ 1)
Tally (Some s) requests answers = (requests ≡ s.times) × (s.times ≤ 3) × (answers ≡ 0)

-- nothing was done for one that isn't opened yet
record IsEarly (before : Option Sent) (requests answers : ℕ) : Type 0 where
  pub none : before ≡ None
  pub requests_are : requests ≡ 0
  pub answers_are : answers ≡ 0

abbrev Early : ℕ → Abort → Option Sent → ℕ → ℕ → Type 0
Early n a before requests answers = n ≤ a.number → IsEarly before requests answers

-- the tally with what goes out
abbrev TallyWith : Config → ℕ → Abort → Option Sent → Deed → ℕ → ℕ → Type 0
TallyWith config m a before d requests answers =
    Tally (sent_after d m a before) (requests + count_by is_request (said_by config m a before d)) (answers + count_by is_answer (said_by config m a before d))

still : (before : Option Sent) (requests answers : ℕ) → Tally before requests answers → Tally before (requests + 0) (answers + 0)
still None requests answers t = (let h = t.0 in omega arith, let h = t.1 in omega arith)
still (Some s) requests answers t = (let h = t.0 in omega arith, t.1, let h = t.2 in omega arith)

tally-opens : (config : Config) (m : ℕ) (a b : Abort) (before : Option Sent) (n requests answers : ℕ) (same : Bool) → eqb a.number b.number ≡ same → b.number ≡ n
    → Early n a before requests answers → Tally before requests answers
    → Tally (cond same (Some (first_sent m)) before) (requests + count_by is_request (cond same (control a ∷ []) [])) (answers + count_by is_answer (cond same (control a ∷ []) []))
tally-opens config m a b before n requests answers true e fresh early t =
    let is : a.number ≡ b.number = eqb-true _ _ e in
    let none = early (omega arith) in
    (let h = none.requests_are in omega arith, omega arith, let h = none.answers_are in omega arith)
tally-opens config m a b before n requests answers false e fresh early t = still before requests answers t

tally-answers : (config : Config) (a b : Abort) (ended : Bool) (before : Option Sent) (m requests answers : ℕ) (same : Bool) → eqb a.number b.number ≡ same
    → Tally before requests answers → TallyWith config m a before (Answers b ended) requests answers
tally-answers config a b ended None m requests answers true e t = rw e (let h = t.0 in omega arith, let h = t.1 in omega arith)
tally-answers config a b ended None m requests answers false e t = rw e (let h = t.0 in omega arith, let h = t.1 in omega arith)
tally-answers config a b ended (Some s) m requests answers true e t =
    rw e (let h = t.0 in let k = t.1 in omega arith, let h = t.2 in omega arith)
tally-answers config a b ended (Some s) m requests answers false e t =
    rw e (let h = t.0 in omega arith, t.1, let h = t.2 in omega arith)

tally-due : (config : Config) (m : ℕ) (a : Abort) (s : Sent) (requests answers : ℕ) (due last : Bool) → is_due m s ≡ due → nat_le 3 s.times ≡ last
    → Tally (Some s) requests answers → TallyWith config m a (Some s) Ages requests answers
tally-due config m a s requests answers false last e f t = rw e (let h = t.0 in omega arith, t.1, let h = t.2 in omega arith)
tally-due config m a s requests answers true true e f t =
    rw (e, f) (let h = t.0 in let k = t.1 in omega arith, let h = t.2 in omega arith)
tally-due config m a s requests answers true false e f t =
    let low : s.times < 3 = grind arith in
    rw (e, f) (let h = t.0 in omega arith, omega arith, let h = t.2 in omega arith)

ended-tally : (before : Option Sent) (requests answers : ℕ) → Tally before requests answers → Tally None (requests + 0) (answers + 0)
ended-tally None requests answers t = (let h = t.0 in omega arith, let h = t.1 in omega arith)
ended-tally (Some s) requests answers t = (let h = t.0 in let k = t.1 in omega arith, let h = t.2 in omega arith)

tally-step : (config : Config) (m : ℕ) (a : Abort) (before : Option Sent) (d : Deed) (n requests answers : ℕ) → IsFresh d n → Early n a before requests answers
    → Tally before requests answers → TallyWith config m a before d requests answers
tally-step config m a before Nothing n requests answers fresh early t = still before requests answers t
tally-step config m a before (Opens b) n requests answers fresh early t =
    tally-opens config m a b before n requests answers (eqb a.number b.number) refl fresh early t
tally-step config m a before (Answers b ended) n requests answers fresh early t =
    tally-answers config a b ended before m requests answers (eqb a.number b.number) refl t
tally-step config m a None Ages n requests answers fresh early t = still None requests answers t
tally-step config m a (Some s) Ages n requests answers fresh early t =
    tally-due config m a s requests answers (is_due m s) (nat_le 3 s.times) refl refl t
tally-step config m a before Ends n requests answers fresh early t = ended-tally before requests answers t

-- ---- nothing goes out before it is opened

none-either : (b : Bool) → ◌≡◌ {A = Option Sent} (cond b None None) None
none-either true = refl
none-either false = refl

early-none : (config : Config) (m : ℕ) (a : Abort) (d : Deed) (n requests answers : ℕ) → IsFresh d n → n + opens d ≤ a.number → requests ≡ 0 → answers ≡ 0
    → IsEarly (sent_after d m a None) (requests + count_by is_request (said_by config m a None d)) (answers + count_by is_answer (said_by config m a None d))
early-none config m a Nothing n requests answers fresh low r k = record { none = refl; requests_are = omega arith; answers_are = omega arith }
early-none config m a (Opens b) n requests answers fresh low r k =
    let other : eqb a.number b.number ≡ false = (let is : b.number ≡ n = fresh in grind arith) in
    rw other (record { none = refl; requests_are = omega arith; answers_are = omega arith })
early-none config m a (Answers b ended) n requests answers fresh low r k =
    record { none = none-either (eqb a.number b.number); requests_are = omega arith; answers_are = omega arith }
early-none config m a Ages n requests answers fresh low r k = record { none = refl; requests_are = omega arith; answers_are = omega arith }
early-none config m a Ends n requests answers fresh low r k = record { none = refl; requests_are = omega arith; answers_are = omega arith }

early-step : (config : Config) (m : ℕ) (a : Abort) (before : Option Sent) (d : Deed) (n next requests answers : ℕ) → IsFresh d n → n + opens d ≡ next
    → Early n a before requests answers
    → Early next a (sent_after d m a before) (requests + count_by is_request (said_by config m a before d)) (answers + count_by is_answer (said_by config m a before d))
early-step config m a before d n next requests answers fresh is early = λ low.
    let e = early (omega arith) in
    subst (λ b. IsEarly (sent_after d m a b) (requests + count_by is_request (said_by config m a b d)) (answers + count_by is_answer (said_by config m a b d))) (sym e.none)
    (early-none config m a d n requests answers fresh (omega arith) e.requests_are e.answers_are)

-- ---- whole histories

record Tallied (config : Config) (a : Abort) (ps : List BookPlace) : Type 0 where
  pub early : Early (count ps) a (sent_so_far a ps) (said_so_far is_request config a ps) (said_so_far is_answer config a ps)
  pub tally : Tally (sent_so_far a ps) (said_so_far is_request config a ps) (said_so_far is_answer config a ps)

tallied-place : (config : Config) (a : Abort) (ps : List BookPlace) (e : BookEvent) → Tallied config a ps → Tallied config a (place config ps e ∷ ps)
tallied-place config a ps e t =
    let p = place config ps e in
    let fresh = fresh-input config ps (max (now ps) e.moment) e.input in
    record {
      early = early-step config p.moment a (sent_so_far a ps) p.deed (count ps) (count (p ∷ ps)) _ _ fresh (count-after p.deed (opened ps)) t.early;
      tally = tally-step config p.moment a (sent_so_far a ps) p.deed (count ps) _ _ fresh t.early t.tally;
    }

tallied-places : (config : Config) (a : Abort) (ps : List BookPlace) (es : List BookEvent) → Tallied config a ps → Tallied config a (places config ps es)
tallied-places config a ps [] t = t
tallied-places config a ps (e ∷ es) t = tallied-places config a (place config ps e ∷ ps) es (tallied-place config a ps e t)

limited-by : (config : Config) (ps : List BookPlace) (a : Abort) (before : Option Sent)
    → Tally before (said_so_far is_request config a ps) (said_so_far is_answer config a ps) → IsLimited config ps a
limited-by config ps a None t = record { requests = t.0; answers = t.1 }
limited-by config ps a (Some s) t = record { requests = (let h = t.0 in let k = t.1 in omega arith); answers = (let h = t.2 in omega arith) }

pub limited : (config : Config) (history : List BookEvent) (a : Abort) → IsLimited config (past config history) a
limited config history a =
    let t = tallied-places config a [] history (record { early = λ low. record { none = refl; requests_are = refl; answers_are = refl }; tally = (omega arith, omega arith) }) in
    limited-by config (past config history) a (sent_so_far a (past config history)) t.tally

pub each-limited : (config : Config) (history : List BookEvent) (list : List Abort) → Each (IsLimited config (past config history)) list
each-limited config history [] = tt
each-limited config history (a ∷ list) = (limited config history a, each-limited config history list)

-- ---- what is told

no-tick : (input : Input) (a : Abort) (ended : Bool) → tick_deed input ≡ Answers a ended → ⊥
no-tick (inputs.Datagram via address port octets) a ended e = absurd (cc)
no-tick inputs.Up a ended e = absurd (cc)
no-tick inputs.Ready a ended e = absurd (cc)
no-tick (inputs.Message octets) a ended e = absurd (cc)
no-tick (inputs.Broken fault) a ended e = absurd (cc)
no-tick inputs.Down a ended e = absurd (cc)
no-tick inputs.Tick a ended e = absurd (cc)
no-tick inputs.Drain a ended e = absurd (cc)
no-tick inputs.Leave a ended e = absurd (cc)

no-passed : (input : Input) (b : Bool) (a : Abort) (ended : Bool) → cond b Ends (tick_deed input) ≡ Answers a ended → ⊥
no-passed input true a ended e = absurd (cc)
no-passed input false a ended e = no-tick input a ended e

no-opening : (config : Config) (ask : AskParts) (n : ℕ) (entry : Entry) (client : Option Client) (a : Abort) (ended : Bool) → (opening config ask n entry client).deed ≡ Answers a ended → ⊥
no-opening config ask n entry None a ended e = absurd (cc)
no-opening config ask n entry (Some client) a ended e = absurd (cc)

no-room : (config : Config) (ask : AskParts) (n : ℕ) (entry : Entry) (b : Bool) (a : Abort) (ended : Bool)
    → (cond b (opening config ask n entry (client_at config entry.address)) (says (answer config ask 5012))).deed ≡ Answers a ended → ⊥
no-room config ask n entry true a ended e = no-opening config ask n entry (client_at config entry.address) a ended e
no-room config ask n entry false a ended e = absurd (cc)

no-known : (config : Config) (os : List OpenAbort) (ask : AskParts) (n : ℕ) (entry : Option Entry) (a : Abort) (ended : Bool) → (on_session config os ask n entry).deed ≡ Answers a ended → ⊥
no-known config os ask n None a ended e = absurd (cc)
no-known config os ask n (Some entry) a ended e = no-room config ask n entry (may_open os ask n) a ended e

no-asked : (config : Config) (os : List OpenAbort) (ask : AskParts) (n : ℕ) (entry : Option Entry) (b : Bool) (a : Abort) (ended : Bool)
    → (cond b (says (Dropped AbortOpen)) (on_session config os ask n entry)).deed ≡ Answers a ended → ⊥
no-asked config os ask n entry true a ended e = absurd (cc)
no-asked config os ask n entry false a ended e = no-known config os ask n entry a ended e

no-core : (config : Config) (ps : List BookPlace) (at : ℕ) (input : Input) (o : Option AskParts) (a : Abort) (ended : Bool) → (core_input config ps at input o).deed ≡ Answers a ended → ⊥
no-core config ps at input None a ended e = no-passed input (list_any is_closing (core_place config ps at input).outputs) a ended e
no-core config ps at input (Some ask) a ended e =
    no-asked config (open_aborts ps) ask (count ps) (entry_of ask.session (book config.capacity ps)) (list_any (is_repeat ask) (open_aborts ps)) a ended e

said-first : (said : Abort → Option Bool) (o : OpenAbort) (r : Option Bool) (rest : Option (Abort × Bool)) (found : Abort × Bool) → said o.abort ≡ r
    → (rest ≡ Some found → said found.0 ≡ Some found.1)
    → option_or (option_map (λ ended. (o.abort, ended)) r) rest ≡ Some found → said found.0 ≡ Some found.1
said-first said o (Some v) rest found is later e =
    let same : (o.abort, v) ≡ found = cc in
    subst (λ (f : Abort × Bool). said f.0 ≡ Some f.1) same is
said-first said o None rest found is later e = later e

first-said : (said : Abort → Option Bool) (os : List OpenAbort) (found : Abort × Bool) → first_answered said os ≡ Some found → said found.0 ≡ Some found.1
first-said said [] found e = absurd (cc)
first-said said (o ∷ os) found e = said-first said o (said o.abort) (first_answered said os) found refl (first-said said os found) e

told-by : (config : Config) (said : Abort → Option Bool) (r : Option (Abort × Bool)) (a : Abort) (ended : Bool) → ((found : Abort × Bool) → r ≡ Some found → said found.0 ≡ Some found.1)
    → (answered config r).deed ≡ Answers a ended → (said a ≡ Some ended) × ((answered config r).outputs ≡ answer_to config a (code_of ended) ∷ [])
told-by config said None a ended says e = absurd (cc)
told-by config said (Some found) a ended says e =
    let who : found.0 ≡ a = cc in
    let what : found.1 ≡ ended = cc in
    let told = says found refl in (
      ap said (sym who) ∙ told ∙ ap (λ (b : Bool). Some b) what,
      ap (λ (x : Abort). answer_to config x (code_of found.1) ∷ []) who ∙ ap (λ (b : Bool). answer_to config a (code_of b) ∷ []) what,
    )

was-told : (config : Config) (ps : List BookPlace) (at : ℕ) (input : BookInput) (a : Abort) (ended : Bool) → (at_input config ps at input).deed ≡ Answers a ended
    → IsTold config input a ended × ((at_input config ps at input).outputs ≡ answer_to config a (code_of ended) ∷ [])
was-told config ps at (book_inputs.Core input) a ended e = absurd (no-core config ps at input (caught (link_phase config ps) input) a ended e)
was-told config ps at (book_inputs.Control address port octets) a ended e =
    told-by config (said_to config address port octets) (first_answered (said_to config address port octets) (open_aborts ps)) a ended
    (first-said (said_to config address port octets) (open_aborts ps)) e

-- ---- it was open

open-by : (config : Config) (ps : List BookPlace) (r : Option (Abort × Bool)) (a : Abort) (ended : Bool)
    → ((found : Abort × Bool) → r ≡ Some found → Was (λ x. sent_so_far x ps) (opened ps) found.0) → (answered config r).deed ≡ Answers a ended → IsOpen ps a
open-by config ps None a ended was e = absurd (cc)
open-by config ps (Some found) a ended was e =
    let who : found.0 ≡ a = cc in
    let w = was found refl in
    subst (IsOpen ps) who (record { among = w.there; sent = ap is_some w.is })

was-open : (config : Config) (ps : List BookPlace) (at : ℕ) (input : BookInput) (a : Abort) (ended : Bool) → (at_input config ps at input).deed ≡ Answers a ended → IsOpen ps a
was-open config ps at (book_inputs.Core input) a ended e = absurd (no-core config ps at input (caught (link_phase config ps) input) a ended e)
was-open config ps at (book_inputs.Control address port octets) a ended e =
    open-by config ps (first_answered (said_to config address port octets) (open_aborts ps)) a ended (first-open config ps address port octets) e

-- ---- and all that is said of an open one is told

some-sent : (o : Option Sent) → is_some o ≡ true → (s : Sent) × (o ≡ Some s)
some-sent None e = absurd (cc)
some-sent (Some s) e = (s, refl)

told-open : (config : Config) (history : List BookEvent) (at : ℕ) (input : BookInput) (a : Abort) (ended : Bool) → IsOpen (past config history) a → IsTold config input a ended
    → (at_input config (past config history) at input).deed ≡ Answers a ended
told-open config history at (book_inputs.Core input) a ended is said = absurd said
told-open config history at (book_inputs.Control address port octets) a ended is said =
    let s = some-sent (sent_so_far a (past config history)) is.sent in
    ap (λ r. (answered config r).deed) (open-answered config history address port octets a ended s.0 is.among s.1 said)

pub told : (config : Config) (history : List BookEvent) (e : BookEvent) (a : Abort) (ended : Bool)
    → TellsOf config (past config history) e a ended
told config history e a ended =
    let ps = past config history in
    let at = max (now ps) e.moment in
    record {
      closed = (
        λ d. (was-open config ps at e.input a ended d, (was-told config ps at e.input a ended d).0),
        λ h. told-open config history at e.input a ended h.0 h.1,
      );
      outputs = λ d. (was-told config ps at e.input a ended d).1;
    }
