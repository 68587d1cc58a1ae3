-- With a core the gauges are its own, and without one there are none.
use Rattle.std.proofs.Common.{◌≡◌, ◌∙◌, ap, subst, sym, Option}
use Rattle.std.specs.Prelude.{IfOk, option_copied}
use Rattle.agent_core.specs.declared.ledger.Ledger.{Ledger}
use Rattle.count_command.specs.Block.{block}
use Rattle.count_command.proofs.CounterLemmas.{AreGauges, end-is}
use Rattle.count_command.proofs.counter.Counter.last.Goals as goal
use Rattle.count_command.proofs.counter.Counter.last.Goals.{in-Some, in-None}

pub returns : goal.returns
returns c = λ stage told.
    let gauges = c.match-core.gauges in
    let are_of : Option Ledger → Type 0 = λ core. AreGauges core c.args.self.now gauges in
    let are : are_of (option_copied c.args.core) = elim c.match-core.branch [
      | in-Some w ↦ subst are_of (sym (ap option_copied w.in-Some.is)) (λ H stands same. w.gauges-is ∙ w.gauges_of-gauges.ensures H stands same)
      | in-None w ↦ subst are_of (sym (ap option_copied w.in-None.is)) w.gauges-is
    ] in
    subst (λ octets. IfOk c.block.result (λ text. text.items ≡ octets))
    (ap (λ counts. block counts gauges) c.as_slice.ensures ∙ end-is (option_copied c.args.core) c.args.self.now gauges stage are told)
    c.block.ensures
