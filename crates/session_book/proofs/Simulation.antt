-- What is kept goes on to stand for the history, step by step, and the outputs are the rule's.
use Rattle.std.proofs.Common.{◌≡◌, ℕ, ◌+◌, Bool, true, false, cond, max, List, [], ◌∷◌, ◌++◌, Option, Some, None, Result, Ok, Err, refl, sym, ap, ◌∙◌, subst}
use Rattle.std.specs.Prelude.{IfOk, OnOk, OnErr}
use Rattle.std.specs.List.{list_any}
use Rattle.agent_settings.specs.declared.config.Config.{Config}
use Rattle.agent_settings.specs.declared.client.Client.{Client}
use Rattle.agent_settings.specs.Config.{InLimits}
use Rattle.agent_core.specs.declared.ledger.Ledger.{Ledger as CoreState}
use Rattle.agent_events.specs.declared.events.Input.{Input}
use Rattle.agent_events.specs.declared.events.Input.TheVariants as inputs
use Rattle.agent_events.specs.declared.events.Output.{Output}
use Rattle.agent_core.specs.Places.{Event as CoreEvent}
use Rattle.agent_core.specs.Standing.{StandsFor}
use Rattle.session_book.specs.declared.aborts.OpenAbort.{OpenAbort}
use Rattle.session_book.specs.declared.aborts.Abort.{Abort}
use Rattle.session_book.specs.declared.sessions.Entry.{Entry}
use Rattle.session_book.specs.declared.events.BookInput.{BookInput}
use Rattle.session_book.specs.declared.events.BookInput.TheVariants as book_inputs
use Rattle.session_book.specs.declared.events.BookOutput.{BookOutput}
use Rattle.session_book.specs.Aborts.{Ends, after}
use Rattle.session_book.specs.Book.{changed, entry_of}
use Rattle.session_book.specs.Holding.{Holds}
use Rattle.session_book.specs.Places.{BookEvent, BookPlace, now, core_history, book, opened, count, open_aborts, sent_so_far}
use Rattle.session_book.specs.Reading.{AskParts}
use Rattle.session_book.specs.declared.events.BookOutput.TheVariants.{Dropped}
use Rattle.session_book.specs.declared.events.BookReason.TheVariants.{AbortOpen}
use Rattle.session_book.specs.History.{Own, says, answer, is_repeat, may_open, opening, on_session, on_ask, first_answered, said_to, answered, on_control, client_at, tick_deed, passed_deed, passed_outputs, caught, link_phase, core_place, passed, own, core_input, at_input, place, places, past, book_outputs_after, is_closing}
use Rattle.session_book.specs.Standing.{BookState, BookStandsAt, BookStandsFor}
use Rattle.session_book.specs.Promise.{IsBook}
use Rattle.session_book.specs.State.{opens, Does, OwnSteps, CoreSteps, Steps, asked_of, place_after}
use Rattle.session_book.proofs.Opening.{Numbered, IsFresh, numbered-after, count-after, open-after}

-- ---- what is opened has the next number

fresh-opening : (config : Config) (ask : AskParts) (n : ℕ) (entry : Entry) (client : Option Client) → IsFresh (opening config ask n entry client).deed n
fresh-opening config ask n entry None = tt
fresh-opening config ask n entry (Some client) = refl

fresh-known : (config : Config) (os : List OpenAbort) (ask : AskParts) (n : ℕ) (entry : Option Entry) → IsFresh (on_session config os ask n entry).deed n
fresh-known config os ask n None = tt
fresh-known config os ask n (Some entry) =
    elim (may_open os ask n) as (λ b. IsFresh (cond b (opening config ask n entry (client_at config entry.address)) (says (answer config ask 5012))).deed n) [
      | true ↦ fresh-opening config ask n entry (client_at config entry.address)
      | false ↦ tt
    ]

fresh-ask : (config : Config) (os : List OpenAbort) (n : ℕ) (entry : Option Entry) (ask : AskParts) → IsFresh (on_ask config os n entry ask).deed n
fresh-ask config os n entry ask = fresh-either (list_any (is_repeat ask) os)
  where
    fresh-either : (b : Bool) → IsFresh (cond b (says (Dropped AbortOpen)) (on_session config os ask n entry)).deed n
    fresh-either true = tt
    fresh-either false = fresh-known config os ask n entry

fresh-answered : (config : Config) (n : ℕ) (found : Option (Abort × Bool)) → IsFresh (answered config found).deed n
fresh-answered config n None = tt
fresh-answered config n (Some found) = tt

fresh-tick : (input : Input) (n : ℕ) → IsFresh (tick_deed input) n
fresh-tick (inputs.Datagram via address port octets) n = tt
fresh-tick inputs.Up n = tt
fresh-tick inputs.Ready n = tt
fresh-tick (inputs.Message octets) n = tt
fresh-tick (inputs.Broken fault) n = tt
fresh-tick inputs.Down n = tt
fresh-tick inputs.Tick n = tt
fresh-tick inputs.Drain n = tt
fresh-tick inputs.Leave n = tt

fresh-passed : (input : Input) (os : List Output) (n : ℕ) → IsFresh (passed_deed input os) n
fresh-passed input os n =
    elim (list_any is_closing os) as (λ b. IsFresh (cond b Ends (tick_deed input)) n) [ true ↦ tt | false ↦ fresh-tick input n ]

fresh-core : (config : Config) (ps : List BookPlace) (at : ℕ) (input : Input) (o : Option AskParts) → IsFresh (core_input config ps at input o).deed (count ps)
fresh-core config ps at input (Some ask) = fresh-ask config (open_aborts ps) (count ps) (entry_of ask.session (book config.capacity ps)) ask
fresh-core config ps at input None = fresh-passed input (core_place config ps at input).outputs (count ps)

pub fresh-input : (config : Config) (ps : List BookPlace) (at : ℕ) (input : BookInput) → IsFresh (at_input config ps at input).deed (count ps)
fresh-input config ps at (book_inputs.Core input) = fresh-core config ps at input (caught (link_phase config ps) input)
fresh-input config ps at (book_inputs.Control address port octets) =
    fresh-answered config (count ps) (first_answered (said_to config address port octets) (open_aborts ps))

pub numbered-place : (config : Config) (ps : List BookPlace) (e : BookEvent) → Numbered ps → Numbered (place config ps e ∷ ps)
numbered-place config ps e all =
    numbered-after (place config ps e).deed (opened ps) (fresh-input config ps (max (now ps) e.moment) e.input) all

pub numbered-places : (config : Config) (ps : List BookPlace) (es : List BookEvent) → Numbered ps → Numbered (places config ps es)
numbered-places config ps [] all = all
numbered-places config ps (e ∷ es) all = numbered-places config (place config ps e ∷ ps) es (numbered-place config ps e all)

pub numbered-past : (config : Config) (history : List BookEvent) → Numbered (past config history)
numbered-past config history = numbered-places config [] history tt

-- ---- one step

append-nil : (xs : List CoreEvent) → xs ++ [] ≡ xs
append-nil [] = refl
append-nil (x ∷ xs) = ap (λ ys. x ∷ ys) (append-nil xs)

-- the step is the place
record Simulates (config : Config) (ps : List BookPlace) (p : BookPlace) (T : BookState) (outs : List BookOutput) : Type 0 where
  pub outputs : outs ≡ p.outputs
  pub stands : BookStandsAt (p ∷ ps) T
  pub config_is : T.core.config ≡ config

-- what was done to the book and to the aborts
stands-by : (ps : List BookPlace) (S T : BookState) (p : BookPlace) → BookStandsAt ps S → Numbered ps → IsFresh p.deed (count ps)
    → Does p.moment p.change p.deed S T → T.core.config ≡ S.core.config → StandsFor T.core (core_history (p ∷ ps)) → BookStandsAt (p ∷ ps) T
stands-by ps S T p s numbered fresh d config core = record {
  core = core;
  rows = subst (λ (k : Config). Holds T.rows (changed k.capacity p.change (book k.capacity ps))) (sym config)
      (d.rows (book S.core.config.capacity ps) s.rows);
  aborts = d.aborts ∙ ap (after p.deed p.moment) s.aborts ∙ open-after p.deed p.moment (λ a. sent_so_far a ps) (opened ps) fresh numbered;
  opened = d.opened ∙ ap (λ n. n + opens p.deed) s.opened ∙ count-after p.deed (opened ps);
  moment = d.moment;
}

own-simulates : (ps : List BookPlace) (S T : BookState) (at : ℕ) (input : BookInput) (o : Own) (outs : List BookOutput) → BookStandsAt ps S → Numbered ps
    → IsFresh o.deed (count ps) → OwnSteps at o S T outs → Simulates S.core.config ps (own at input o) T outs
own-simulates ps S T at input o outs s numbered fresh steps = record {
  outputs = steps.0;
  stands = stands-by ps S T (own at input o) s numbered fresh steps.1.done (ap (λ (k : CoreState). k.config) steps.1.core)
      (subst (λ H. StandsFor T.core H) (sym (append-nil (core_history ps))) (subst (λ (k : CoreState). StandsFor k (core_history ps)) (sym steps.1.core) s.core));
  config_is = ap (λ (k : CoreState). k.config) steps.1.core;
}

asked-agrees : (ps : List BookPlace) (S : BookState) (ask : AskParts) → BookStandsAt ps S
    → asked_of S ask ≡ on_ask S.core.config (open_aborts ps) (count ps) (entry_of ask.session (book S.core.config.capacity ps)) ask
asked-agrees ps S ask s =
    ap (λ os. on_ask S.core.config os S.opened (entry_of ask.session S.rows) ask) s.aborts
    ∙ ap (λ n. on_ask S.core.config (open_aborts ps) n (entry_of ask.session S.rows) ask) s.opened
    ∙ ap (λ o. on_ask S.core.config (open_aborts ps) (count ps) o ask) (s.rows.found ask.session)

core-simulates : (ps : List BookPlace) (S T : BookState) (at : ℕ) (input : Input) (o : Option AskParts) (outs : List BookOutput) → BookStandsAt ps S → Numbered ps
    → CoreSteps (core_history ps) at input o S T outs → Simulates S.core.config ps (core_input S.core.config ps at input o) T outs
core-simulates ps S T at input (Some ask) outs s numbered steps =
    let e = entry_of ask.session (book S.core.config.capacity ps) in
    own-simulates ps S T at (book_inputs.Core input) (on_ask S.core.config (open_aborts ps) (count ps) e ask) outs s numbered
    (fresh-ask S.core.config (open_aborts ps) (count ps) e ask)
    (subst (λ (o : Own). OwnSteps at o S T outs) (asked-agrees ps S ask s) steps)
core-simulates ps S T at input None outs s numbered steps =
    let q = place_after S.core (core_history ps) at input in
    record {
      outputs = steps.0 ∙ ap (λ os. passed_outputs S.core.config at input q.outputs os) s.aborts;
      stands = stands-by ps S T (passed S.core.config ps at input q) s numbered (fresh-passed input q.outputs (count ps)) steps.1.done steps.1.config steps.1.core;
      config_is = steps.1.config;
    }

input-simulates : (ps : List BookPlace) (S T : BookState) (at : ℕ) (input : BookInput) (outs : List BookOutput) → BookStandsAt ps S → Numbered ps
    → Steps (core_history ps) at input S T outs → Simulates S.core.config ps (at_input S.core.config ps at input) T outs
input-simulates ps S T at (book_inputs.Core input) outs s numbered steps =
    core-simulates ps S T at input (caught (link_phase S.core.config ps) input) outs s numbered steps
input-simulates ps S T at (book_inputs.Control address port octets) outs s numbered steps =
    let told = on_control S.core.config (open_aborts ps) address port octets in
    own-simulates ps S T at (book_inputs.Control address port octets) told outs s numbered
    (fresh-answered S.core.config (count ps) (first_answered (said_to S.core.config address port octets) (open_aborts ps)))
    (subst (λ (o : Own). OwnSteps at o S T outs) (ap (λ os. on_control S.core.config os address port octets) s.aborts) steps)

-- ---- histories

pub places-append : (config : Config) (ps : List BookPlace) (es : List BookEvent) (e : BookEvent) → places config ps (es ++ e ∷ []) ≡ place config (places config ps es) e ∷ places config ps es
places-append config ps [] e = refl
places-append config ps (x ∷ es) e = places-append config (place config ps x ∷ ps) es e

-- the step after a history
pub record HistorySteps (S T : BookState) (history : List BookEvent) (e : BookEvent) (outs : List BookOutput) : Type 0 where
  pub outputs : outs ≡ book_outputs_after S.core.config history e
  pub stands : BookStandsFor T (history ++ e ∷ [])
  pub config_is : T.core.config ≡ S.core.config

abbrev pub StepsFrom : BookState → BookState → BookEvent → List BookOutput → Type 0
StepsFrom S T e outs = (H : List CoreEvent) → StandsFor S.core H → Steps H (max S.moment e.moment) e.input S T outs

history-steps : (S T : BookState) (history : List BookEvent) (e : BookEvent) (outs : List BookOutput) → BookStandsFor S history → StepsFrom S T e outs → HistorySteps S T history e outs
history-steps S T history e outs s steps =
    let config = S.core.config in
    let ps = past config history in
    let made = input-simulates ps S T (max S.moment e.moment) e.input outs s (numbered-past config history) (steps (core_history ps) s.core) in
    let p : Simulates config ps (place config ps e) T outs = subst (λ n. Simulates config ps (at_input config ps (max n e.moment) e.input) T outs) s.moment made in
    record {
      outputs = p.outputs;
      stands = subst (λ (k : Config). BookStandsAt (past k (history ++ e ∷ [])) T) (sym p.config_is)
          (subst (λ qs. BookStandsAt qs T) (sym (places-append config [] history e)) p.stands);
      config_is = p.config_is;
    }

-- ---- what a call says

pub answers-of : {E : Type 0} (r : Result (List BookOutput) E) (S T : BookState) (history : List BookEvent) (e : BookEvent) → BookStandsFor S history
    → ((H : List CoreEvent) → StandsFor S.core H → IfOk r (λ o. Steps H (max S.moment e.moment) e.input S T o))
    → IfOk r (λ o. o ≡ book_outputs_after S.core.config history e)
answers-of (Ok o) S T history e s steps = (history-steps S T history e o s steps).outputs
answers-of (Err x) S T history e s steps = tt

pub stands-of : {E : Type 0} (r : Result (List BookOutput) E) (S T : BookState) (history : List BookEvent) (e : BookEvent) → BookStandsFor S history
    → ((H : List CoreEvent) → StandsFor S.core H → IfOk r (λ o. Steps H (max S.moment e.moment) e.input S T o))
    → OnOk r (BookStandsFor T (history ++ e ∷ []))
stands-of (Ok o) S T history e s steps = (history-steps S T history e o s steps).stands
stands-of (Err x) S T history e s steps = tt

pub config-of : {E : Type 0} (r : Result (List BookOutput) E) (S T : BookState) (e : BookEvent) → IsBook S
    → ((H : List CoreEvent) → StandsFor S.core H → IfOk r (λ o. Steps H (max S.moment e.moment) e.input S T o))
    → OnErr r (T ≡ S) → T.core.config ≡ S.core.config
config-of (Ok o) S T e is steps err = (history-steps S T is.history e o is.stands steps).config_is
config-of (Err x) S T e is steps err = ap (λ (s : BookState). s.core.config) err

pub book-of : {E : Type 0} (r : Result (List BookOutput) E) (S T : BookState) (e : BookEvent) → IsBook S
    → ((H : List CoreEvent) → StandsFor S.core H → IfOk r (λ o. Steps H (max S.moment e.moment) e.input S T o))
    → OnErr r (T ≡ S) → IsBook T
book-of (Ok o) S T e is steps err =
    let h = history-steps S T is.history e o is.stands steps in
    record { limits = subst InLimits (sym h.config_is) is.limits; history = is.history ++ e ∷ []; stands = h.stands }
book-of (Err x) S T e is steps err = subst IsBook (sym err) is

-- nothing came in yet
pub book-start : (S : BookState) (core : CoreState) (config : Config) → S ≡ record { core = core; rows = []; aborts = []; opened = 0; moment = 0 }
    → core.config ≡ config → InLimits config → StandsFor core [] → IsBook S
book-start S core config is same within stands =
    subst IsBook (sym is) (record {
      limits = subst InLimits (sym same) within;
      history = [];
      stands = record {
        core = stands;
        rows = record { found = λ session. refl; count = refl; apart = tt };
        aborts = refl;
        opened = refl;
        moment = refl;
      };
    })
