-- What is found among the live entries of a steady ledger is fit for a map.
use Rattle.std.proofs.Common.{◌≡◌, ℕ, Bool, option_map, Option, Some, None, refl, subst}
use Rattle.std.specs.List.{AllByRecursion}
use Rattle.pending_table.specs.declared.entry.Entry.{Entry}
use Rattle.pending_table.specs.Table as table
use Rattle.pending_table.specs.Table.{Row}
use Rattle.agent_core.specs.declared.ledger.Ledger.{Ledger}
use Rattle.agent_core.specs.Fits.{KeptFits}
use Rattle.agent_core.specs.Machine.{kept_waiting}
use Rattle.agent_core.specs.Standing.{IsSteady, EntryFits}
use Rattle.agent_core.proofs.ListLemmas.Lists.{find-All, filter-both, AllByRecursion-filter}

-- the rows that live, by their entries
abbrev pub lives : Ledger → ℕ → Row → Bool
lives S m r = table.is_live S.table.patience S.table.retention m r.1

-- what waits is live
pub waiting-fits : (S : Ledger) → IsSteady S → AllByRecursion (λ r. EntryFits S r.1) (kept_waiting S)
waiting-fits S steady =
    rw (filter-both (lives S S.moment) (λ r. table.is_waiting r.1.answer) S.table.entries) (
    AllByRecursion-filter (λ r. EntryFits S r.1) (λ r. table.is_waiting r.1.answer) (table.live S.table S.moment) steady.entries
    )

row-kept : (S : Ledger) (o : Option Row) (e : Entry) → ((r : Row) → o ≡ Some r → EntryFits S r.1) → option_map (λ r. r.1) o ≡ Some e → KeptFits S.config e.kept
row-kept S None e fits found = absurd (cc)
row-kept S (Some r) e fits found =
    let same : r.1 ≡ e = cc in
    subst (λ (x : Entry). KeptFits S.config x.kept) same (fits r refl).kept

pub found-kept : (S : Ledger) (hop : ℕ) (e : Entry) → IsSteady S → option_map (λ r. r.1) (table.find_number S.table S.peer.link.number hop S.moment) ≡ Some e → KeptFits S.config e.kept
found-kept S hop e steady found =
    row-kept S (table.find_number S.table S.peer.link.number hop S.moment) e
    (find-All (λ r. EntryFits S r.1) (λ r. table.has_number S.peer.link.number hop r.1) (kept_waiting S) (waiting-fits S steady)) found
