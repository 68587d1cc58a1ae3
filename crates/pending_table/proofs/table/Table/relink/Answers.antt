use Rattle.std.proofs.Common.{◌≡◌, ◌≢◌, ◌∙◌, sym, ap, subst, All, length, arith}
use Rattle.std.proofs.lemmas.List.Elements.{recursion_from_All}
use Rattle.pending_table.specs.Table as parts
use Rattle.pending_table.specs.Merged.{merged}
use Rattle.pending_table.specs.Stores.{all, waits}
use Rattle.pending_table.proofs.Hints.{all_rows}
use Rattle.pending_table.proofs.Lists.{all_of_rows, all_of_merged, length-numbered}
use Rattle.pending_table.proofs.Seen.{length-all, same_parts}
use Rattle.pending_table.proofs.table.Table.relink.Goals as goal

pub relink-requires-clause-unused : goal.relink-requires-clause-unused
relink-requires-clause-unused c =
    let s = c.self.inside.stores in
    let unused : All (λ r. r.1.link ≢ c.args.link) (all s) = subst (λ t. All (λ r. r.1.link ≢ c.args.link) t.entries) (sym c.self.view_is) c.requires.unused in
    all_rows (λ r. r.1.link ≢ c.args.link) (waits s)
    (all_of_merged (λ p. p.1.1.link ≢ c.args.link) (waits s) s.settled.items
    (all_of_rows (λ r. r.1.link ≢ c.args.link) (merged (waits s) s.settled.items)
    (recursion_from_All (λ r. r.1.link ≢ c.args.link) (all s) unused))).0

pub relink-requires-clause-few : goal.relink-requires-clause-few
relink-requires-clause-few c = omega (arith, length-all c.self.inside.stores, c.self.invariant.2, c.self.invariant.3)

pub invariant_of-self : goal.invariant_of-self
invariant_of-self c =
    let s = c.self.inside.stores in
    let same : length (all c.relink.new.self) ≡ length (all s) =
    ap length c.relink.ensures.rows ∙ length-numbered (parts.is_live_waiting s.patience s.retention c.args.moment) c.args.link 0 (all s) in
    (c.relink.ensures.kept, c.relink.ensures.whole, omega (arith, same, c.self.invariant.2), c.self.invariant.3)

pub returns : goal.returns
returns c =
    let s = c.self.inside.stores in
    rw (← c.self.view_is)
    (same_parts s c.relink.new.self c.self.inside.capacity
    (parts.numbered (parts.is_live_waiting s.patience s.retention c.args.moment) c.args.link 0 (all s))
    c.relink.ensures.times
    c.relink.ensures.rows)
