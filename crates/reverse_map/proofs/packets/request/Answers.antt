-- One test after the other.
use Rattle.std.proofs.Common.{sym, subst, ◌∙◌, List, ℕ, Result}
use Rattle.translation.specs.AvpList.{list_view}
use Rattle.translation.specs.declared.direction.Direction.TheVariants.{Access, Accounting}
use Rattle.reverse_map.specs.declared.fault.ReverseFault.{ReverseFault}
use Rattle.reverse_map.specs.Attempts.{Gives}
use Rattle.reverse_map.proofs.RequestLemmas.{unsupported_image, key_image, image-keyless}
use Rattle.reverse_map.proofs.packets.request.Goals as goal

pub returns-then-has_unsupported-clause-image : goal.returns-then-has_unsupported-clause-image
returns-then-has_unsupported-clause-image c =
    unsupported_image c.args.direction c.args.id c.args.random c.args.secret.now (list_view c.args.list.now) (sym c.has_unsupported.ensures ∙ c.if-has_unsupported.true)

pub returns-then-has_key-clause-image : goal.returns-then-has_key-clause-image
returns-then-has_key-clause-image c =
    key_image c.args.direction c.args.id c.args.random c.args.secret.now (list_view c.args.list.now) (sym c.has_unsupported.ensures ∙ c.if-has_unsupported.false) (sym c.has_key.ensures ∙ c.if-has_key.true)

pub returns-in-Access-clause-image : goal.returns-in-Access-clause-image
returns-in-Access-clause-image c =
    let same = image-keyless Access c.args.id c.args.random c.args.secret.now (list_view c.args.list.now) (sym c.has_unsupported.ensures ∙ c.if-has_unsupported.false) (sym c.has_key.ensures ∙ c.if-has_key.false) in
    rw c.in-Access.is (subst (λ (image : Result (List ℕ) ReverseFault). Gives c.access_request.result image) same c.access_request.ensures.image)

pub returns-in-Accounting-clause-image : goal.returns-in-Accounting-clause-image
returns-in-Accounting-clause-image c =
    let same = image-keyless Accounting c.args.id c.args.random c.args.secret.now (list_view c.args.list.now) (sym c.has_unsupported.ensures ∙ c.if-has_unsupported.false) (sym c.has_key.ensures ∙ c.if-has_key.false) in
    rw c.in-Accounting.is (subst (λ (image : Result (List ℕ) ReverseFault). Gives c.accounting_request.result image) same c.accounting_request.ensures.image)
