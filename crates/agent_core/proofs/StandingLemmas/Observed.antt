-- What a core tells of itself is what the history says.
use Rattle.std.proofs.Common.{◌≡◌, ℕ, ◌≤◌, List, length, max, ◌∙◌, ap, arith}
use Rattle.std.proofs.lemmas.List.{length-map}
use Rattle.pending_table.specs.Table as table
use Rattle.agent_core.specs.declared.ledger.Ledger.{Ledger}
use Rattle.agent_core.specs.Places.{Event, Place, now, live, waiting}
use Rattle.agent_core.specs.History.{past}
use Rattle.agent_core.specs.Standing.{StandsAt, StandsFor}
use Rattle.agent_core.proofs.StandingLemmas.Agreeing.{StandsAt-later, waiting-count}

-- the same at a later moment
stands-later : (ps : List Place) (S : Ledger) (m : ℕ) → StandsAt ps (now ps) S → StandsAt ps (max (now ps) m) (record S { moment = max (now ps) m })
stands-later ps S m stands =
    let later : now ps ≤ max (now ps) m = omega arith in
    StandsAt-later ps S (now ps) (max (now ps) m) later stands

pub live-seen : (S : Ledger) (history : List Event) (m : ℕ) → StandsFor S history → length (table.live S.table (max S.moment m)) ≡ length (live S.config (past S.config history) (max (now (past S.config history)) m))
live-seen S history m stands =
    let ps = past S.config history in
    ap (λ n. length (table.live S.table (max n m))) stands.moment
    ∙ ap length (stands-later ps S m stands).entries
    ∙ length-map _ _

pub waiting-seen : (S : Ledger) (history : List Event) (m : ℕ) → StandsFor S history → length (table.waiting S.table (max S.moment m)) ≡ length (waiting S.config (past S.config history) (max (now (past S.config history)) m))
waiting-seen S history m stands =
    let ps = past S.config history in
    let n = max (now ps) m in
    ap (λ k. length (table.waiting S.table (max k m))) stands.moment
    ∙ waiting-count ps n (record S { moment = n }) (stands-later ps S m stands)
