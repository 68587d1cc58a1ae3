use Rattle.std.proofs.Common.{◌≡◌, ◌∙◌, ap, subst}
use Rattle.std.specs.Prelude.{IfOk}
use Rattle.agent_core.specs.History.{past}
use Rattle.count_command.specs.Block.{block}
use Rattle.count_command.proofs.CounterLemmas.{due-is, not-due-is}
use Rattle.count_command.proofs.counter.Counter.due.Goals as goal

pub returns-then-is_due : goal.returns-then-is_due
returns-then-is_due c = λ H stands same.
    subst (λ octets. IfOk c.block.result (λ text. text.items ≡ octets))
    (ap (λ counts. block counts c.gauges_of.result) c.as_slice.ensures
    ∙ due-is c.args.self.now c.args.core.now.config (past c.args.core.now.config H) c.args.moment c.gauges_of.result c.is_due.result c.is_due.ensures c.if-is_due.true (c.gauges_of.ensures H stands same))
    c.block.ensures

pub returns-else-is_due : goal.returns-else-is_due
returns-else-is_due c = λ H stands same.
    c.new.ensures.items ∙ not-due-is c.args.self.now c.args.core.now.config (past c.args.core.now.config H) c.args.moment c.is_due.result c.is_due.ensures c.if-is_due.false
