use Rattle.std.proofs.Common.{◌∙◌, sym, ap, slice_get, option_copied, option_and_then}
use Rattle.pending_table.specs.Table as parts
use Rattle.pending_table.proofs.Seen.{waiting-values}
use Rattle.pending_table.proofs.table.Table.sent_at.Goals as goal

pub returns-in-None : goal.returns-in-None
returns-in-None c =
    let s = c.self.inside.stores in
    rw (← c.self.view_is)
    (sym (ap (λ rs. option_and_then (λ r. parts.sent_of r.1.answer) (slice_get rs c.args.k)) (waiting-values s c.self.invariant.0 c.self.invariant.1 c.args.moment)
    ∙ ap (option_and_then (λ r. parts.sent_of r.1.answer)) (sym c.nth_waiting.ensures ∙ ap option_copied c.in-None.is)))

pub returns-in-Some : goal.returns-in-Some
returns-in-Some c =
    let s = c.self.inside.stores in
    rw (← c.self.view_is)
    (c.sent.ensures ∙ ap (λ e. parts.sent_of e.answer) c.entry.ensures
    ∙ sym (ap (λ rs. option_and_then (λ r. parts.sent_of r.1.answer) (slice_get rs c.args.k)) (waiting-values s c.self.invariant.0 c.self.invariant.1 c.args.moment)
    ∙ ap (option_and_then (λ r. parts.sent_of r.1.answer)) (sym c.nth_waiting.ensures ∙ ap option_copied c.in-Some.is)))
