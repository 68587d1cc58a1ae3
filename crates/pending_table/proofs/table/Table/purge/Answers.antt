use Rattle.std.proofs.Common.{◌≡◌, ◌∙◌, ap, filter, length, arith}
use Rattle.pending_table.specs.Stores.{is_live, all}
use Rattle.pending_table.proofs.Lists.{length-filter_below}
use Rattle.pending_table.proofs.Purging.{whole_still, purged}
use Rattle.pending_table.proofs.Seen.{same_parts}
use Rattle.pending_table.proofs.table.Table.purge.Goals as goal

left : (c : goal.After-pass) → all c.purge_settled.new.self ≡ filter (is_live c.self.inside.stores c.args.moment) (all c.self.inside.stores)
left c =
    let first = c.purge_waiting.ensures in
    let second = c.purge_settled.ensures in
    purged c.self.inside.stores c.purge_waiting.new.self c.purge_settled.new.self c.self.invariant.0 c.args.moment first.rest first.live first.settled second.waiting second.live

pub invariant_of-self : goal.invariant_of-self
invariant_of-self c =
    let s = c.self.inside.stores in
    let first = c.purge_waiting.ensures in
    let second = c.purge_settled.ensures in (
      second.kept,
      whole_still c.purge_waiting.new.self c.purge_settled.new.self (whole_still s c.purge_waiting.new.self c.self.invariant.1 first.rest) second.rest,
      omega (arith, ap length (left c), length-filter_below (is_live s c.args.moment) (all s), c.self.invariant.2),
      c.self.invariant.3,
    )

pub returns : goal.returns
returns c =
    let s = c.self.inside.stores in
    let first = c.purge_waiting.ensures.rest in
    let second = c.purge_settled.ensures.rest in
    rw (← c.self.view_is)
    (same_parts s c.purge_settled.new.self c.self.inside.capacity (filter (is_live s c.args.moment) (all s))
    (record { patience = second.patience ∙ first.patience; retention = second.retention ∙ first.retention })
    (left c))
