use Rattle.std.proofs.Common.{◌≡◌, ◌+◌, ◌≤◌, length, filter, arith}
use Rattle.pending_table.specs.Stores.{is_live, all}
use Rattle.pending_table.proofs.Lists.{length-filter_below}
use Rattle.pending_table.proofs.Seen.{count-values}
use Rattle.pending_table.proofs.table.Table.len.Goals as goal

counted : (c : goal.After-count_settled) → c.count_waiting.result + c.count_settled.result ≡ length (filter (is_live c.self.inside.stores c.args.moment) (all c.self.inside.stores))
counted c = rw (c.count_waiting.ensures, c.count_settled.ensures) (count-values c.self.inside.stores c.self.invariant.0 c.self.invariant.1 c.args.moment)

within : (c : goal.After-count_settled) → c.count_waiting.result + c.count_settled.result ≤ c.self.inside.capacity
within c = omega (arith, counted c, length-filter_below (is_live c.self.inside.stores c.args.moment) (all c.self.inside.stores), c.self.invariant.2)

pub overflow_add-result : goal.overflow_add-result
overflow_add-result c = omega (arith, within c, c.self.invariant.3)

pub overflow_cast-result : goal.overflow_cast-result
overflow_cast-result c = omega (arith, within c, c.self.invariant.3)

pub returns-clause-exact : goal.returns-clause-exact
returns-clause-exact c = rw (← c.self.view_is) (counted c)

pub returns-clause-within : goal.returns-clause-within
returns-clause-within c = rw (← c.self.view_is) (within c)
