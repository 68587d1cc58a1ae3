-- What is left once the dead rows of both stores are dropped.
use Rattle.std.proofs.Common.{◌≡◌, ℕ, nat_lt, filter, ap, sym, ◌∙◌}
use Rattle.pending_table.specs.declared.stores.Stores.{Stores}
use Rattle.pending_table.specs.Table.{is_live as entry_is_live}
use Rattle.pending_table.specs.Merged.{merged, rows}
use Rattle.pending_table.specs.Stores.{IsKept, IsWhole, KeepsRest, is_live, waits, all}
use Rattle.pending_table.proofs.Lists.{none_lost, whole_filter}
use Rattle.pending_table.proofs.Seen.{filter-all}

-- no row is being put in where none was before
pub whole_still : (s t : Stores) → IsWhole s → KeepsRest s t → IsWhole t
whole_still s t whole keeps =
    whole_filter (λ p. nat_lt p.0 t.next) t.waiting.entries
    (keeps.drafts ∙ none_lost (λ p. nat_lt p.0 s.next) s.waiting.entries whole)

pub purged :
    (s t u : Stores)
    → IsKept s
    → (moment : ℕ)
    → KeepsRest s t
    → waits t ≡ filter (λ p. is_live s moment p.1) (waits s)
    → t.settled.items ≡ s.settled.items
    → waits u ≡ waits t
    → u.settled.items ≡ filter (λ x. is_live t moment x.1) t.settled.items
    → all u ≡ filter (is_live s moment) (all s)
purged s t u h moment keeps waiting settled still dropped =
    ap (λ ps. rows (merged ps u.settled.items)) (still ∙ waiting)
    ∙ ap (λ xs. rows (merged (filter (λ p. is_live s moment p.1) (waits s)) xs)) (dropped ∙ same ∙ ap (filter (λ x. is_live s moment x.1)) settled)
    ∙ sym (filter-all (is_live s moment) s h)
  where
    same : filter (λ x. is_live t moment x.1) t.settled.items ≡ filter (λ x. is_live s moment x.1) t.settled.items
    same =
        ap (λ n. filter (λ x. entry_is_live n t.retention moment x.1.1) t.settled.items) keeps.patience
        ∙ ap (λ n. filter (λ x. entry_is_live s.patience n moment x.1.1) t.settled.items) keeps.retention
