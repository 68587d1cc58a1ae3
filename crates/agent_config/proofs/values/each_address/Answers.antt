use Rattle.std.proofs.Common.{◌++◌, Some, append-nil, ap, sym, ◌∙◌, option_map}
use Rattle.std.proofs.lemmas.List.{at_drop_all}
use Rattle.toml.specs.View.{items_view}
use Rattle.agent_config.specs.Values.{address_of, each}
use Rattle.agent_config.proofs.ValueLemmas.{each_on, each_stop}
use Rattle.agent_config.proofs.values.each_address.Goals as goal

pub loop-value-preserved : goal.loop-value-preserved
loop-value-preserved c =
    let at = c.loop-value in
    let next = each_on address_of c.args.array.now at.value-index c.value-item.result c.loop-value-test.true c.value-item.is
    at.addresses.items c.in-Some.address (sym c.in-Some.ensures) in
    rw c.in_ok-push-in-Some.ensures.items (sym next ∙ at.invariant)

pub returns-in-None : goal.returns-in-None
returns-in-None c =
    let at = c.loop-value in
    let stop = each_stop address_of c.args.array.now at.value-index c.value-item.result c.loop-value-test.true c.value-item.is
    (sym c.in-None.ensures) in
    sym (ap (option_map (λ further. at.addresses.items ++ further)) stop) ∙ at.invariant

pub returns : goal.returns
returns c =
    let at = c.loop-value in
    let done = at_drop_all (λ rest. option_map (λ further. at.addresses.items ++ further) (each address_of (items_view rest)))
    c.args.array.now at.value-index c.loop-value-test.false in
    ap Some (c.from_vec.ensures ∙ sym (append-nil at.addresses.items)) ∙ sym done ∙ at.invariant
