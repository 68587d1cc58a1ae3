-- The loop comes to two folds over the whole list.
use Rattle.std.proofs.Common.{◌≡◌, ◌∙◌, ap, fold, rules}
use Rattle.translation.specs.declared.direction.Direction.TheVariants.{Accounting}
use Rattle.translation.specs.Faults as faults
use Rattle.translation.proofs.FaultLemmas.{faults_in-fold}
use Rattle.accounting_map.specs.Statuses.{statuses_with, status_of}
use Rattle.accounting_map.specs.declared.statuses.Statuses.TheVariants.{Missing}
use Rattle.accounting_map.proofs.StatusLemmas.{status_of-fold}
use Rattle.accounting_map.proofs.judging.read.Goals as goal

pub returns-clause-faults : goal.returns-clause-faults
returns-clause-faults c =
    let exact : c.loop-attribute.faults ≡ fold (faults.faults_with c.args.client.now c.args.address Accounting) faults.none c.args.packet.now.attributes = search rules in
    exact ∙ faults_in-fold c.args.client.now c.args.address Accounting c.args.packet.now.attributes

pub returns-clause-status : goal.returns-clause-status
returns-clause-status c =
    let exact : c.loop-attribute.statuses ≡ fold statuses_with Missing c.args.packet.now.attributes = search rules in
    c.status.ensures ∙ ap status_of exact ∙ status_of-fold c.args.packet.now.attributes
