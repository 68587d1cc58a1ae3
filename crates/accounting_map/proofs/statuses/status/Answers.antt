-- The loop comes to a fold over the whole list.
use Rattle.std.proofs.Common.{◌≡◌, ◌∙◌, ap, fold, rules}
use Rattle.accounting_map.specs.Statuses.{statuses_with, status_of}
use Rattle.accounting_map.specs.declared.statuses.Statuses.TheVariants.{Missing}
use Rattle.accounting_map.proofs.StatusLemmas.{status_of-fold}
use Rattle.accounting_map.proofs.statuses.status.Goals as goal

pub returns : goal.returns
returns c =
    let exact : c.loop-attribute.found ≡ fold statuses_with Missing c.args.packet.now.attributes = search rules in
    c.status.ensures ∙ ap status_of exact ∙ status_of-fold c.args.packet.now.attributes
