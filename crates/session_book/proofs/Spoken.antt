-- What goes out at a place is what is said of the aborts, behind the core's part or one direct output.
use Rattle.std.proofs.Common.{◌≡◌, ℕ, ◌<◌, inl, inr, Bool, true, false, cond, eqb, List, [], ◌∷◌, ◌++◌, map, length, max, Option, Some, None, refl, sym, ap, ◌∙◌, subst, arith}
use Rattle.std.specs.List.{AllByRecursion as Each, Contains, list_any, flat_map}
use Rattle.std.proofs.lemmas.Bool.{eq-eqb}
use Rattle.agent_settings.specs.declared.config.Config.{Config}
use Rattle.agent_settings.specs.declared.client.Client.{Client}
use Rattle.agent_events.specs.declared.events.Input.{Input}
use Rattle.agent_events.specs.declared.events.Input.TheVariants as inputs
use Rattle.agent_events.specs.declared.events.Output.{Output}
use Rattle.session_book.specs.declared.aborts.Abort.{Abort}
use Rattle.session_book.specs.declared.aborts.OpenAbort.{OpenAbort}
use Rattle.session_book.specs.declared.aborts.Sent.{Sent}
use Rattle.session_book.specs.declared.sessions.Entry.{Entry}
use Rattle.session_book.specs.declared.events.BookInput.{BookInput}
use Rattle.session_book.specs.declared.events.BookInput.TheVariants as book_inputs
use Rattle.session_book.specs.declared.events.BookOutput.{BookOutput}
use Rattle.session_book.specs.declared.events.BookOutput.TheVariants.{Core, Dropped}
use Rattle.session_book.specs.declared.events.BookReason.TheVariants.{AbortOpen, StrangeControl}
use Rattle.session_book.specs.Aborts.{Deed, Nothing, Opens, Answers, Ages, Ends}
use Rattle.session_book.specs.Book.{entry_of}
use Rattle.session_book.specs.Places.{BookEvent, BookPlace, now, book, count, opened, open_aborts, open_among, if_open, with_opened, sent_so_far}
use Rattle.session_book.specs.Reading.{AskParts}
use Rattle.session_book.specs.History.{Own, says, answer, answer_to, code_of, control, overdue, deed_outputs, is_repeat, may_open, opening, on_session, client_at, said_to, first_answered, answered, tick_deed, passed_deed, is_closing, caught, link_phase, core_place, passed, own, core_input, at_input, place, places, past}
use Rattle.session_book.specs.Laws.{said_by, IsDirect, IsSaid}
use Rattle.session_book.proofs.Members.{none-there, there-cases, each-there, each-end}
use Rattle.session_book.proofs.Opening.{Numbered, IsFresh}
use Rattle.session_book.proofs.Simulation.{fresh-input, numbered-place, numbered-past}
use Rattle.session_book.proofs.Separation.{Was, first-open}

-- ---- the numbers of what was opened rise

abbrev Below : ℕ → Abort → Type 0
Below n a = n < a.number

abbrev pub Rising : List Abort → Type 0
Rising [] = Unit {0}
Rising (a ∷ list) = Each (Below a.number) list × Rising list

rising-end : (b : Abort) (list : List Abort) → Each (λ a. a.number < b.number) list → Rising list → Rising (list ++ b ∷ [])
rising-end b [] all r = (tt, tt)
rising-end b (a ∷ list) all r = (each-end (Below a.number) list b r.0 all.0, rising-end b list all.1 r.1)

below-number : (b : Abort) (n : ℕ) (list : List Abort) → b.number ≡ n → Each (λ a. a.number < n) list → Each (λ a. a.number < b.number) list
below-number b n list is all = subst (λ k. Each (λ a. a.number < k) list) (sym is) all

rising-after : (d : Deed) (list : List Abort) → IsFresh d (length list) → Each (λ a. a.number < length list) list → Rising list → Rising (with_opened d list)
rising-after Nothing list fresh all r = r
rising-after (Opens b) list fresh all r = rising-end b list (below-number b (length list) list fresh all) r
rising-after (Answers b ended) list fresh all r = r
rising-after Ages list fresh all r = r
rising-after Ends list fresh all r = r

rising-places : (config : Config) (ps : List BookPlace) (es : List BookEvent) → Numbered ps → Rising (opened ps) → Rising (opened (places config ps es))
rising-places config ps [] numbered r = r
rising-places config ps (e ∷ es) numbered r =
    rising-places config (place config ps e ∷ ps) es (numbered-place config ps e numbered)
    (rising-after (place config ps e).deed (opened ps) (fresh-input config ps (max (now ps) e.moment) e.input) numbered r)

rising-past : (config : Config) (history : List BookEvent) → Rising (opened (past config history))
rising-past config history = rising-places config [] history tt tt

-- ---- what each deed says of all aborts

none-said : (list : List Abort) → ◌≡◌ {A = List BookOutput} (flat_map (λ a. []) list) []
none-said [] = refl
none-said (a ∷ list) = none-said list

opened-said : (config : Config) (m : ℕ) (b : Abort) (f : Abort → Option Sent) (list : List Abort) → Each (λ a. a.number < b.number) list
    → flat_map (λ a. said_by config m a (f a) (Opens b)) (list ++ b ∷ []) ≡ control b ∷ []
opened-said config m b f [] all = rw (eq-eqb b.number b.number refl) refl
opened-said config m b f (a ∷ list) all =
    let low : a.number < b.number = all.0 in
    let other : eqb a.number b.number ≡ false = grind arith in
    rw other (opened-said config m b f list all.1)

other-said : (config : Config) (m : ℕ) (a b : Abort) (ended : Bool) (o : Option Sent) → eqb a.number b.number ≡ false → said_by config m a o (Answers b ended) ≡ []
other-said config m a b ended None other = refl
other-said config m a b ended (Some s) other = rw other refl

above-said : (config : Config) (m : ℕ) (b : Abort) (ended : Bool) (f : Abort → Option Sent) (list : List Abort) → Each (Below b.number) list
    → flat_map (λ a. said_by config m a (f a) (Answers b ended)) list ≡ []
above-said config m b ended f [] all = refl
above-said config m b ended f (a ∷ list) all =
    let high : b.number < a.number = all.0 in
    let other : eqb a.number b.number ≡ false = grind arith in
    rw (other-said config m a b ended (f a) other) (above-said config m b ended f list all.1)

own-said : (config : Config) (m : ℕ) (b : Abort) (ended : Bool) (o : Option Sent) (s : Sent) → o ≡ Some s → said_by config m b o (Answers b ended) ≡ answer_to config b (code_of ended) ∷ []
own-said config m b ended None s is = absurd (cc)
own-said config m b ended (Some t) s is = rw (eq-eqb b.number b.number refl) refl

answered-said : (config : Config) (m : ℕ) (b : Abort) (ended : Bool) (f : Abort → Option Sent) (s : Sent) (list : List Abort) → Rising list → Contains list b → f b ≡ Some s
    → flat_map (λ a. said_by config m a (f a) (Answers b ended)) list ≡ answer_to config b (code_of ended) ∷ []
answered-said config m b ended f s [] rising there is = absurd (none-there b there)
answered-said config m b ended f s (a ∷ list) rising there is =
    elim (there-cases a list b there) [
      | inl same ↦ (let all : Each (Below b.number) list = subst (λ (x : Abort). Each (Below x.number) list) same rising.0 in
          let head : said_by config m a (f a) (Answers b ended) ≡ answer_to config b (code_of ended) ∷ [] =
          ap (λ (x : Abort). said_by config m x (f x) (Answers b ended)) same ∙ own-said config m b ended (f b) s is in
          ap (λ os. os ++ flat_map (λ x. said_by config m x (f x) (Answers b ended)) list) head
          ∙ ap (λ os. answer_to config b (code_of ended) ∷ os) (above-said config m b ended f list all))
      | inr more ↦ (let low : a.number < b.number = each-there (Below a.number) list b rising.0 more in
          let other : eqb a.number b.number ≡ false = grind arith in
          ap (λ os. os ++ flat_map (λ x. said_by config m x (f x) (Answers b ended)) list) (other-said config m a b ended (f a) other)
          ∙ answered-said config m b ended f s list rising.1 more is)
    ]

aged-head : (config : Config) (m : ℕ) (a : Abort) (o : Option Sent) (rest : List OpenAbort)
    → flat_map (overdue config m) (if_open a o ++ rest) ≡ said_by config m a o Ages ++ flat_map (overdue config m) rest
aged-head config m a None rest = refl
aged-head config m a (Some s) rest = refl

aged-said : (config : Config) (m : ℕ) (f : Abort → Option Sent) (list : List Abort)
    → flat_map (overdue config m) (open_among f list) ≡ flat_map (λ a. said_by config m a (f a) Ages) list
aged-said config m f [] = refl
aged-said config m f (a ∷ list) =
    aged-head config m a (f a) (open_among f list) ∙ ap (λ os. said_by config m a (f a) Ages ++ os) (aged-said config m f list)

-- ---- what goes to the core

-- such a deed opens none and answers none
abbrev IsPassed : Deed → Type 0
IsPassed Nothing = Unit {0}
IsPassed (Opens b) = ⊥
IsPassed (Answers b ended) = ⊥
IsPassed Ages = Unit {0}
IsPassed Ends = Unit {0}

tick-passed : (input : Input) → IsPassed (tick_deed input)
tick-passed (inputs.Datagram via address port octets) = tt
tick-passed inputs.Up = tt
tick-passed inputs.Ready = tt
tick-passed (inputs.Message octets) = tt
tick-passed (inputs.Broken fault) = tt
tick-passed inputs.Down = tt
tick-passed inputs.Tick = tt
tick-passed inputs.Drain = tt
tick-passed inputs.Leave = tt

deed-passed : (input : Input) (from : List Output) → IsPassed (passed_deed input from)
deed-passed input from = elim (list_any is_closing from) as (λ b. IsPassed (cond b Ends (tick_deed input))) [ true ↦ tt | false ↦ tick-passed input ]

passed-said : (config : Config) (m : ℕ) (d : Deed) (f : Abort → Option Sent) (list : List Abort) → IsPassed d
    → deed_outputs config m d (open_among f list) ≡ flat_map (λ a. said_by config m a (f a) d) (with_opened d list)
passed-said config m Nothing f list is = sym (none-said list)
passed-said config m (Opens b) f list is = absurd is
passed-said config m (Answers b ended) f list is = absurd is
passed-said config m Ages f list is = aged-said config m f list
passed-said config m Ends f list is = sym (none-said list)

core-said : (config : Config) (ps : List BookPlace) (at : ℕ) (input : Input) → IsSaid config ps (passed config ps at input (core_place config ps at input))
core-said config ps at input =
    let q = core_place config ps at input in
    let d = passed_deed input q.outputs in
    record {
      first = map Core q.outputs;
      is_first = refl;
      outputs = ap (λ os. map Core q.outputs ++ os) (passed-said config at d (λ a. sent_so_far a ps) (opened ps) (deed-passed input q.outputs));
    }

-- ---- what the book takes for itself

abbrev OwnSaid : Config → List BookPlace → ℕ → BookInput → Own → Type 0
OwnSaid config ps at input o = IsSaid config ps (own at input o)

direct-said : (config : Config) (ps : List BookPlace) (at : ℕ) (input : BookInput) (output : BookOutput) → IsDirect config ps input output → OwnSaid config ps at input (says output)
direct-said config ps at input output direct = record {
  first = output ∷ [];
  is_first = (output, direct, refl);
  outputs = ap (λ os. output ∷ os) (sym (none-said (opened ps)));
}

opening-said : (config : Config) (ps : List BookPlace) (at : ℕ) (input : Input) (ask : AskParts) (entry : Entry) (client : Option Client) → Numbered ps
    → caught (link_phase config ps) input ≡ Some ask → OwnSaid config ps at (book_inputs.Core input) (opening config ask (count ps) entry client)
opening-said config ps at input ask entry None numbered is =
    direct-said config ps at (book_inputs.Core input) (answer config ask 5012) (inr (ask, is, inr refl))
opening-said config ps at input ask entry (Some client) numbered is =
    record { first = []; is_first = refl; outputs = sym (opened-said config at _ (λ a. sent_so_far a ps) (opened ps) numbered) }

known-said : (config : Config) (ps : List BookPlace) (at : ℕ) (input : Input) (ask : AskParts) (entry : Option Entry) → Numbered ps
    → caught (link_phase config ps) input ≡ Some ask → OwnSaid config ps at (book_inputs.Core input) (on_session config (open_aborts ps) ask (count ps) entry)
known-said config ps at input ask None numbered is =
    direct-said config ps at (book_inputs.Core input) (answer config ask 5002) (inr (ask, is, inl refl))
known-said config ps at input ask (Some entry) numbered is =
    elim (may_open (open_aborts ps) ask (count ps)) as (λ b. OwnSaid config ps at (book_inputs.Core input) (cond b (opening config ask (count ps) entry (client_at config entry.address)) (says (answer config ask 5012)))) [
      | true ↦ opening-said config ps at input ask entry (client_at config entry.address) numbered is
      | false ↦ direct-said config ps at (book_inputs.Core input) (answer config ask 5012) (inr (ask, is, inr refl))
    ]

asked-said : (config : Config) (ps : List BookPlace) (at : ℕ) (input : Input) (ask : AskParts) (entry : Option Entry) (b : Bool) → Numbered ps
    → caught (link_phase config ps) input ≡ Some ask → OwnSaid config ps at (book_inputs.Core input) (cond b (says (Dropped AbortOpen)) (on_session config (open_aborts ps) ask (count ps) entry))
asked-said config ps at input ask entry true numbered is = direct-said config ps at (book_inputs.Core input) (Dropped AbortOpen) (inl refl)
asked-said config ps at input ask entry false numbered is = known-said config ps at input ask entry numbered is

caught-said : (config : Config) (ps : List BookPlace) (at : ℕ) (input : Input) (o : Option AskParts) → Numbered ps → caught (link_phase config ps) input ≡ o
    → IsSaid config ps (core_input config ps at input o)
caught-said config ps at input None numbered is = core-said config ps at input
caught-said config ps at input (Some ask) numbered is =
    asked-said config ps at input ask (entry_of ask.session (book config.capacity ps)) (list_any (is_repeat ask) (open_aborts ps)) numbered is

told-said : (config : Config) (ps : List BookPlace) (at address port : ℕ) (octets : List ℕ) (r : Option (Abort × Bool)) → Rising (opened ps)
    → ((found : Abort × Bool) → r ≡ Some found → Was (λ a. sent_so_far a ps) (opened ps) found.0) → OwnSaid config ps at (book_inputs.Control address port octets) (answered config r)
told-said config ps at address port octets None rising was = direct-said config ps at (book_inputs.Control address port octets) (Dropped StrangeControl) refl
told-said config ps at address port octets (Some found) rising was =
    let w = was found refl in
    record { first = []; is_first = refl; outputs = sym (answered-said config at found.0 found.1 (λ a. sent_so_far a ps) w.sent (opened ps) rising w.there w.is) }

input-said : (config : Config) (ps : List BookPlace) (at : ℕ) (input : BookInput) → Numbered ps → Rising (opened ps) → IsSaid config ps (at_input config ps at input)
input-said config ps at (book_inputs.Core input) numbered rising = caught-said config ps at input (caught (link_phase config ps) input) numbered refl
input-said config ps at (book_inputs.Control address port octets) numbered rising =
    told-said config ps at address port octets (first_answered (said_to config address port octets) (open_aborts ps)) rising (first-open config ps address port octets)

pub all-said : (config : Config) (history : List BookEvent) (e : BookEvent) → IsSaid config (past config history) (place config (past config history) e)
all-said config history e =
    let ps = past config history in
    input-said config ps (max (now ps) e.moment) e.input (numbered-past config history) (rising-past config history)
