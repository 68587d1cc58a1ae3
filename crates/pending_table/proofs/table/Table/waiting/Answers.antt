use Rattle.std.proofs.Common.{◌≡◌, ◌+◌, ◌≤◌, ◌∙◌, sym, ap, length, filter, arith}
use Rattle.pending_table.specs.Merged.{rows}
use Rattle.pending_table.specs.Stores.{is_live, all}
use Rattle.pending_table.proofs.Lists.{length-filter_below}
use Rattle.pending_table.proofs.Seen.{count-values, waiting-values}
use Rattle.pending_table.proofs.table.Table.waiting.Goals as goal

within : (c : goal.After-count_waiting) → c.count_waiting.result ≤ length (filter (is_live c.self.inside.stores c.args.moment) (all c.self.inside.stores))
within c =
    let s = c.self.inside.stores in
    let settled = length (filter (is_live s c.args.moment) (rows s.settled.items)) in
    let counted : c.count_waiting.result + settled ≡ length (filter (is_live s c.args.moment) (all s)) =
    rw c.count_waiting.ensures (count-values s c.self.invariant.0 c.self.invariant.1 c.args.moment) in
    omega (arith, counted)

pub overflow_cast-result : goal.overflow_cast-result
overflow_cast-result c =
    omega (arith, within c, length-filter_below (is_live c.self.inside.stores c.args.moment) (all c.self.inside.stores), c.self.invariant.2, c.self.invariant.3)

pub returns-clause-exact : goal.returns-clause-exact
returns-clause-exact c =
    rw (← c.self.view_is) (c.count_waiting.ensures ∙ sym (ap length (waiting-values c.self.inside.stores c.self.invariant.0 c.self.invariant.1 c.args.moment)))

pub returns-clause-within : goal.returns-clause-within
returns-clause-within c = rw (← c.self.view_is) (within c)
