-- The live rows once a link opens.
use Rattle.std.proofs.Common.{◌≡◌, ℕ, Bool, true, false, cond, ◌&&◌, not, List, [], ◌∷◌, map, filter, None, refl, sym, ◌∙◌, ap}
use Rattle.std.specs.Prelude.{nat_lt, is_some}
use Rattle.std.specs.List.{AllByRecursion}
use Rattle.pending_table.specs.declared.entry.Entry.{Entry}
use Rattle.pending_table.specs.Table as table
use Rattle.agent_core.specs.declared.ledger.Ledger.{Ledger}
use Rattle.agent_core.specs.Places.{Place, Taking, takings, match_of, rank, ends, live, waiting}
use Rattle.agent_core.specs.Standing.{StandsAt, row_of, entry_of, answer_in}
use Rattle.agent_core.proofs.LawLemmas.Orders.{Ascending}
use Rattle.agent_core.proofs.ListLemmas.Lists.{AllByRecursion-filter, AllByRecursion-weaken, filter-map, filter-same, filter-within}
use Rattle.agent_core.proofs.StandingLemmas.Rows.{lives}
use Rattle.agent_core.proofs.StandingLemmas.Agreeing.{lives-agrees, live-agrees, row-waits}
use Rattle.agent_core.proofs.LinkLemmas.Relinking.{relinked-rows}
use Rattle.agent_core.proofs.StandingLemmas.Places.{live-past, match-past}

pub Ascending-filter : (p : Taking → Bool) (ts : List Taking) → Ascending ts → Ascending (filter p ts)
Ascending-filter p [] up = up
Ascending-filter p (t ∷ ts) up =
    elim (p t) as (λ b. Ascending (cond b (t ∷ filter p ts) (filter p ts))) [
      | true ↦ (AllByRecursion-filter _ p ts up.0, Ascending-filter p ts up.1)
      | false ↦ Ascending-filter p ts up.1
    ]

pub filter-true : (p : Taking → Bool) (ts : List Taking) → AllByRecursion (λ t. p t ≡ true) (filter p ts)
filter-true p [] = tt
filter-true p (t ∷ ts) =
    elim (p t) as (λ b. p t ≡ b → AllByRecursion (λ x. p x ≡ true) (cond b (t ∷ filter p ts) (filter p ts))) [
      | true ↦ (λ e. (e, filter-true p ts))
      | false ↦ (λ e. filter-true p ts)
    ] refl

all-refl : (P : Taking → Type 0) → ((t : Taking) → P t) → (ts : List Taking) → AllByRecursion P ts
all-refl P every [] = tt
all-refl P every (t ∷ ts) = (every t, all-refl P every ts)

abbrev waits : List Place → Taking → Bool
waits ps t = not (is_some (match_of t.place ps))

abbrev is_awaited : Ledger → ℕ → Entry → Bool
is_awaited S m e = table.is_live_waiting S.table.patience S.table.retention m e

-- a new number lets a row live as long
lives-then : (ps : List Place) (m : ℕ) (S : Ledger) (p : Place) → StandsAt ps m S → p.matched ≡ None → (t : Taking) → lives S m (row_of (p ∷ ps) t) ≡ nat_lt m (ends S.config ps t)
lives-then ps m S p stands unmatched t =
    ap (λ o. nat_lt m (table.ends S.table.patience S.table.retention t.moment (answer_in t.sent o))) (match-past p ps t.place unmatched)
    ∙ lives-agrees ps m S stands m t

-- the rows that live then are those of the requests that live, with their new numbers
pub opened-entries : (ps : List Place) (m : ℕ) (S : Ledger) (p : Place) → StandsAt ps m S → Ascending (takings ps) → p.taken ≡ None → p.matched ≡ None → p.resent ≡ waiting S.config ps m → filter (lives S m) (table.numbered (is_awaited S m) p.link.number 0 (table.live S.table S.moment)) ≡ map (row_of (p ∷ ps)) (live S.config (p ∷ ps) m)
opened-entries ps m S p stands up untaken unmatched resent =
    let ts = live S.config ps m in
    let alive = filter-true (λ t. nat_lt m (ends S.config ps t)) (takings ps) in
    let tests : AllByRecursion (λ t. is_awaited S m (entry_of ps t) ≡ waits ps t) ts =
    AllByRecursion-weaken (λ t. nat_lt m (ends S.config ps t) ≡ true) (λ t. is_awaited S m (entry_of ps t) ≡ waits ps t)
    (λ t e. ap (λ b. b && table.is_waiting (entry_of ps t).answer) (lives-agrees ps m S stands m t ∙ e) ∙ row-waits ps t) ts alive
    in
    let ranks : AllByRecursion (λ t. rank t.place 0 p.resent ≡ rank t.place 0 (filter (waits ps) ts)) ts =
    all-refl (λ t. rank t.place 0 p.resent ≡ rank t.place 0 (filter (waits ps) ts)) (λ t. ap (rank t.place 0) resent) ts
    in
    let rows = relinked-rows p ps (waits ps) (is_awaited S m) untaken unmatched 0 ts (Ascending-filter _ (takings ps) up) tests ranks in
    let same : live S.config (p ∷ ps) m ≡ ts = live-past S.config p ps m untaken unmatched in
    ap (λ rs. filter (lives S m) (table.numbered (is_awaited S m) p.link.number 0 rs)) (live-agrees ps m S stands)
    ∙ ap (filter (lives S m)) rows
    ∙ filter-map (lives S m) (row_of (p ∷ ps)) ts
    ∙ ap (map (row_of (p ∷ ps))) (
    filter-same (λ t. lives S m (row_of (p ∷ ps) t)) (λ t. nat_lt m (ends S.config ps t)) (λ t. lives-then ps m S p stands unmatched t) ts
    ∙ filter-within (λ t. nat_lt m (ends S.config ps t)) (λ t. nat_lt m (ends S.config ps t)) (λ t h. h) (takings ps)
    ∙ sym same
    )
