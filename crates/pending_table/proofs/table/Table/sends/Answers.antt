use Rattle.std.proofs.Common.{◌∙◌, sym, ap}
use Rattle.pending_table.specs.Table as parts
use Rattle.pending_table.proofs.Seen.{waiting-values}
use Rattle.pending_table.proofs.Sending.{live_wait}
use Rattle.pending_table.proofs.table.Table.sends.Goals as goal

pub new-requires : goal.new-requires
new-requires c =
    let s = c.self.inside.stores in
    rw c.live_waiting.ensures (live_wait s c.self.invariant.0 c.self.invariant.1 c.args.moment)

pub returns : goal.returns
returns c =
    let s = c.self.inside.stores in
    rw (← c.self.view_is)
    (c.new.ensures
    ∙ ap parts.sent_by (c.live_waiting.ensures ∙ sym (waiting-values s c.self.invariant.0 c.self.invariant.1 c.args.moment)))
