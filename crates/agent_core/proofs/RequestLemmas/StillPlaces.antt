-- A datagram that isn't taken up: what is kept then stands for the history with it.
use Rattle.std.proofs.Common.{◌≡◌, ℕ, Bool, List, [], ◌∷◌, option_map, Option, Some, None, Result, Ok, Err, refl, sym, ◌∙◌, ap, subst}
use Rattle.std.specs.Prelude.{find}
use Rattle.radius_packet.specs.declared.reasons.Reason.{Reason}
use Rattle.pending_table.specs.declared.key.Key.{Key}
use Rattle.pending_table.specs.Table as table
use Rattle.pending_table.specs.Table.{Row, same_key}
use Rattle.agent_events.specs.declared.events.Input.{Input}
use Rattle.agent_events.specs.declared.events.Output.{Output}
use Rattle.agent_events.specs.declared.events.Output.TheVariants.{Send, Dropped}
use Rattle.agent_core.specs.declared.ledger.Ledger.{Ledger}
use Rattle.agent_core.specs.Verdict.{Request}
use Rattle.agent_core.specs.Places.{Place, Taking, match_of, answer_to, reply_in, live}
use Rattle.agent_core.specs.Rooms.{rooms, refusal}
use Rattle.agent_core.specs.Requests.{is_fresh}
use Rattle.agent_core.specs.History.{still, taking_of, taking_place, admitted, repeated, requested, datagram}
use Rattle.agent_core.specs.Machine.{Next, says, on_look, on_admission, on_request, on_datagram, row_for, sent_for, with_row}
use Rattle.agent_core.specs.Standing.{StandsAt, row_of, answer_in}
use Rattle.agent_core.proofs.ListLemmas.Lists.{find-map, find-true}
use Rattle.agent_core.proofs.ListLemmas.Keys.{same_key-equal}
use Rattle.agent_core.proofs.StandingLemmas.Agreeing.{live-agrees, rooms-agree}
use Rattle.agent_core.proofs.StandingLemmas.Simulation.{IsUnsent, dropped-unsent}

-- ---- a repeat

repeated-unsent : (key : Key) (answer : Option (Option (List ℕ))) → IsUnsent (repeated key answer)
repeated-unsent key None = record { application = refl; base = refl; first = refl; any = refl }
repeated-unsent key (Some None) = record { application = refl; base = refl; first = refl; any = refl }
repeated-unsent key (Some (Some octets)) = record { application = refl; base = refl; first = refl; any = refl }

look-settled : (key : Key) (at : ℕ) (reply : Option (List ℕ)) → on_look key (table.told_of (table.answer_of at reply)) ≡ Some (repeated key (Some reply))
look-settled key at None = refl
look-settled key at (Some octets) = refl

-- what a look tells of an entry is what its request got
look-repeats : (key : Key) (octets : List ℕ) (found : Option Place) → on_look key (table.told_of (answer_in octets found)) ≡ Some (repeated key (option_map (λ p. reply_in p.outputs) found))
look-repeats key octets None = refl
look-repeats key octets (Some p) = look-settled key p.moment (reply_in p.outputs)

abbrev has_key : Key → Taking → Bool
has_key key t = same_key t.key key

-- the rule's answer to a request that comes again
abbrev pub repeat_of : List Place → Option Taking → Option (List Output)
repeat_of ps found = option_map (λ t. repeated t.key (answer_to t.place ps)) found

look-found : (ps : List Place) (key : Key) (found : Option Taking) → ((t : Taking) → found ≡ Some t → t.key ≡ key) → on_look key (table.told (option_map (row_of ps) found)) ≡ repeat_of ps found
look-found ps key None same = refl
look-found ps key (Some t) same =
    look-repeats key t.sent (match_of t.place ps) ∙ ap (λ k. Some (repeated k (answer_to t.place ps))) (sym (same t refl))

pub look-agrees : (ps : List Place) (m : ℕ) (S : Ledger) → StandsAt ps m S → (key : Key) → on_look key (table.told (table.find_key S.table key S.moment)) ≡ repeat_of ps (find (has_key key) (live S.config ps m))
look-agrees ps m S stands key =
    let ts = live S.config ps m in
    let same : (t : Taking) → find (has_key key) ts ≡ Some t → t.key ≡ key = λ t e. same_key-equal t.key key (find-true (has_key key) ts t e) in
    ap (λ (rows : List Row). on_look key (table.told (find (λ r. same_key r.0 key) rows))) (live-agrees ps m S stands)
    ∙ ap (λ (o : Option Row). on_look key (table.told o)) (find-map (λ r. same_key r.0 key) (row_of ps) ts)
    ∙ look-found ps key (find (has_key key) ts) same

-- ---- a datagram

-- what holds of each place at which nothing happens, beside what the machine makes there
abbrev pub Stills : (Place → Next → Type 0) → List Place → ℕ → Ledger → Input → Type 0
Stills P ps m S input = (outputs : List Output) → IsUnsent outputs → P (still S.config ps m input outputs) (says S outputs)

-- what holds where this request is taken up
abbrev pub Takes : (Place → Next → Type 0) → List Place → ℕ → Ledger → Input → Request → Type 0
Takes P ps m S input request =
    P (taking_place S.config ps m input (taking_of S.config ps m request))
    (says (with_row S (row_for S request) (is_fresh request)) (Send (sent_for S request) ∷ []))

admitted-by : (P : Place → Next → Type 0) (ps : List Place) (m : ℕ) (S : Ledger) (input : Input) → Stills P ps m S input → (request : Request) (o : Option Reason) → (o ≡ None → Takes P ps m S input request) → P (admitted S.config ps m input request o) (on_admission S request o)
admitted-by P ps m S input stills request (Some reason) taken = stills (Dropped reason ∷ []) (dropped-unsent reason)
admitted-by P ps m S input stills request None taken = taken refl

requested-by : (P : Place → Next → Type 0) (ps : List Place) (m : ℕ) (S : Ledger) → StandsAt ps m S → (input : Input) → Stills P ps m S input → (request : Request) (found : Option Taking) → (found ≡ None → refusal S.config (rooms S.config ps m) ≡ None → Takes P ps m S input request) → P (requested S.config ps m input request found) (on_request S request (repeat_of ps found))
requested-by P ps m S stands input stills request (Some t) taken =
    stills (repeated t.key (answer_to t.place ps)) (repeated-unsent t.key (answer_to t.place ps))
requested-by P ps m S stands input stills request None taken =
    subst (λ r. P (admitted S.config ps m input request (refusal S.config (rooms S.config ps m))) (on_admission S request (refusal S.config r))) (sym (rooms-agree ps m S stands))
    (admitted-by P ps m S input stills request (refusal S.config (rooms S.config ps m)) (taken refl))

-- what holds where a request is new, and is taken up
abbrev pub TakesUp : (Place → Next → Type 0) → List Place → ℕ → Ledger → Input → Result Request Reason → Type 0
TakesUp P ps m S input v =
    (request : Request)
    → v ≡ Ok request
    → find (λ t. same_key t.key request.key) (live S.config ps m) ≡ None
    → refusal S.config (rooms S.config ps m) ≡ None
    → Takes P ps m S input request

-- a datagram is a place where nothing happens, or a request that is taken up
pub datagram-by : (P : Place → Next → Type 0) (ps : List Place) (m : ℕ) (S : Ledger) → StandsAt ps m S → (input : Input) → Stills P ps m S input → (v : Result Request Reason) → TakesUp P ps m S input v → P (datagram S.config ps m input v) (on_datagram S v)
datagram-by P ps m S stands input stills (Err reason) taken = stills (Dropped reason ∷ []) (dropped-unsent reason)
datagram-by P ps m S stands input stills (Ok request) taken =
    let found = find (λ (t : Taking). same_key t.key request.key) (live S.config ps m) in
    subst (λ o. P (requested S.config ps m input request found) (on_request S request o)) (sym (look-agrees ps m S stands request.key))
    (requested-by P ps m S stands input stills request found (taken request refl))
