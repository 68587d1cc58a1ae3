-- A request is taken up: what is kept then stands for the history with it.
use Rattle.std.proofs.Common.{◌≡◌, ℕ, ◌+◌, ◌<◌, true, false, List, [], ◌∷◌, ◌++◌, length, map, filter, Some, None, refl, sym, ◌∙◌, ap, arith}
use Rattle.std.specs.Prelude.{nat_lt}
use Rattle.std.specs.List.{AllByRecursion}
use Rattle.std.proofs.lemmas.Bool.{eq-eqb, lt-ltb}
use Rattle.std.proofs.lemmas.List.{map-append}
use Rattle.std.proofs.lemmas.List.Elements.{filter-append}
use Rattle.agent_settings.specs.declared.config.Config.{Config}
use Rattle.pending_table.specs.Table as table
use Rattle.pending_table.specs.Table.{Row}
use Rattle.agent_events.specs.declared.events.Input.{Input}
use Rattle.agent_core.specs.declared.ledger.Ledger.{Ledger}
use Rattle.agent_core.specs.Verdict.{Request}
use Rattle.agent_core.specs.Requests.{request_sent, kept_of, is_fresh}
use Rattle.agent_core.specs.Places.{Place, Taking, takings, match_of, is_at, serial, ends, live}
use Rattle.agent_core.specs.History.{taking_of, taking_place, next_numbers}
use Rattle.agent_core.specs.Machine.{row_for, new_row, sent_for, with_row}
use Rattle.agent_core.specs.Standing.{StandsAt, row_of}
use Rattle.agent_core.proofs.ListLemmas.Lists.{filter-within}
use Rattle.agent_core.proofs.StandingLemmas.Rows.{lives}
use Rattle.agent_core.proofs.StandingLemmas.Agreeing.{numbers-agree}
use Rattle.agent_core.proofs.StandingLemmas.Places.{rows-apart}

abbrev new_place : Config → List Place → ℕ → Input → Request → Place
new_place config ps m input request = taking_place config ps m input (taking_of config ps m request)

pub sent-agrees : (ps : List Place) (m : ℕ) (S : Ledger) (request : Request) → StandsAt ps m S → sent_for S request ≡ request_sent S.config request (next_numbers S.config ps) (serial ps)
sent-agrees ps m S request stands =
    ap (λ n. request_sent S.config request n S.serial) (numbers-agree ps m S stands)
    ∙ ap (λ n. request_sent S.config request (next_numbers S.config ps) n) stands.serial

-- the row that is appended is the one of the taking
row-agrees : (ps : List Place) (m : ℕ) (S : Ledger) (input : Input) (request : Request) → StandsAt ps m S → match_of (length ps) ps ≡ None → row_for S request ≡ row_of (new_place S.config ps m input request ∷ ps) (taking_of S.config ps m request)
row-agrees ps m S input request stands waits_yet =
    let number = ap (λ p. p.link.number) stands.peer in
    ap (new_row S request.key (kept_of S.config request S.serial)) (sent-agrees ps m S request stands)
    ∙ rw (number, stands.used, stands.serial, stands.moment, waits_yet, eq-eqb (length ps) (length ps) refl) refl

-- the live rows with the new one
pub taken-entries : (ps : List Place) (m : ℕ) (S : Ledger) (input : Input) (request : Request) → StandsAt ps m S → 0 < S.config.patience → match_of (length ps) ps ≡ None → AllByRecursion (λ t. is_at t.place (Some (taking_of S.config ps m request)) ≡ false) (live S.config ps m) → table.live (with_row S (row_for S request) (is_fresh request)).table m ≡ map (row_of (new_place S.config ps m input request ∷ ps)) (live S.config (new_place S.config ps m input request ∷ ps) m)
taken-entries ps m S input request stands lasts waits_yet apart =
    let t = taking_of S.config ps m request in
    let r = row_for S request in
    let p = new_place S.config ps m input request in
    let kept : filter (lives S m) (table.live S.table S.moment) ≡ map (row_of (p ∷ ps)) (live S.config ps m) =
    rw stands.moment (filter-within (lives S m) (lives S m) (λ x h. h) S.table.entries ∙ stands.entries) ∙ sym (rows-apart p ps refl refl (live S.config ps m) apart)
    in
    let long : 0 < S.table.patience = rw stands.patience lasts in
    let alive : nat_lt m (S.moment + S.table.patience) ≡ true = lt-ltb _ _ (let h = stands.moment in omega arith) in
    let taken : nat_lt m (m + S.config.patience) ≡ true = lt-ltb _ _ (omega arith) in
    let left : filter (lives S m) (r ∷ []) ≡ r ∷ [] = rw alive refl in
    let right : filter (λ (x : Taking). nat_lt m (ends S.config ps x)) (t ∷ []) ≡ t ∷ [] = rw (waits_yet, taken) refl in
    filter-append (lives S m) (table.live S.table S.moment) (r ∷ [])
    ∙ ap (λ rs. filter (lives S m) (table.live S.table S.moment) ++ rs) left
    ∙ ap (λ rs. rs ++ r ∷ []) kept
    ∙ ap (λ x. map (row_of (p ∷ ps)) (live S.config ps m) ++ x ∷ []) (row-agrees ps m S input request stands waits_yet)
    ∙ sym (map-append (row_of (p ∷ ps)) (live S.config ps m) (t ∷ []))
    ∙ ap (λ ts. map (row_of (p ∷ ps)) (live S.config ps m ++ ts)) (sym right)
    ∙ ap (map (row_of (p ∷ ps))) (sym (filter-append (λ (x : Taking). nat_lt m (ends S.config ps x)) (takings ps) (t ∷ [])))
