use Rattle.std.proofs.Common.{◌≡◌, ◌<◌, ◌++◌, ◌∷◌, [], ◌∙◌, nat_lt, not, filter, ap, sym, subst}
use Rattle.pending_table.specs.Table.{Row}
use Rattle.pending_table.specs.Merged.{Pairs}
use Rattle.pending_table.proofs.Entering.{kept-waiting, whole-below, insert-last, waits-draft, drafts-draft, pairs_last}
use Rattle.pending_table.proofs.stores.Stores.draft.Goals as goal

pub returns-in_err-insert-clause-kept : goal.returns-in_err-insert-clause-kept
returns-in_err-insert-clause-kept c =
    let s = c.args.self.now in
    let same : c.insert.new.self.entries ≡ s.waiting.entries = c.in_err-insert.ensures.err in
    kept-waiting s c.insert.new.self c.requires.kept (ap (filter (λ p. nat_lt p.0 s.next)) same) (subst (Pairs (λ p q. p.0 < q.0)) (sym same) c.requires.kept.rising)

pub returns-clause-kept : goal.returns-clause-kept
returns-clause-kept c =
    let s = c.args.self.now in
    let below = whole-below s.next s.waiting.entries c.requires.whole in
    let row : Row = c.args.row in
    let last : c.insert.new.self.entries ≡ s.waiting.entries ++ (s.next, row) ∷ [] = c.in_ok-insert.ensures.entries ∙ insert-last s.next row s.waiting.entries below in
    kept-waiting s c.insert.new.self c.requires.kept
    (ap (filter (λ p. nat_lt p.0 s.next)) last ∙ waits-draft s.next row s.waiting.entries)
    (subst (Pairs (λ p q. p.0 < q.0)) (sym last) (pairs_last (λ p q. p.0 < q.0) s.waiting.entries (s.next, row) c.requires.kept.rising below))

pub returns-clause-waits : goal.returns-clause-waits
returns-clause-waits c =
    let s = c.args.self.now in
    let below = whole-below s.next s.waiting.entries c.requires.whole in
    let row : Row = c.args.row in
    let last : c.insert.new.self.entries ≡ s.waiting.entries ++ (s.next, row) ∷ [] = c.in_ok-insert.ensures.entries ∙ insert-last s.next row s.waiting.entries below in
    ap (filter (λ p. nat_lt p.0 s.next)) last ∙ waits-draft s.next row s.waiting.entries

pub returns-clause-ok : goal.returns-clause-ok
returns-clause-ok c =
    let s = c.args.self.now in
    let below = whole-below s.next s.waiting.entries c.requires.whole in
    let row : Row = c.args.row in
    let last : c.insert.new.self.entries ≡ s.waiting.entries ++ (s.next, row) ∷ [] = c.in_ok-insert.ensures.entries ∙ insert-last s.next row s.waiting.entries below in
    ap (filter (λ p. not (nat_lt p.0 s.next))) last ∙ drafts-draft s.next row s.waiting.entries below
