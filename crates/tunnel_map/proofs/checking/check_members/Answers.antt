-- What was found over all members is the first fault.
use Rattle.std.proofs.Common.{◌≡◌, Some, None, [], ◌∷◌, sym, ap, ◌∙◌, rules}
use Rattle.std.specs.Result.{ok_prefix}
use Rattle.diameter_avp.specs.View.{avp_view}
use Rattle.diameter_avp.specs.Avps.{fault_of, avps_fault, readable_avps}
use Rattle.tunnel_map.specs.Groups.{is_unknown, has_bad_size}
use Rattle.tunnel_map.proofs.FaultLemmas.{next_code, fault-rotten, found_fault, fault-found}
use Rattle.tunnel_map.proofs.checking.check_members.Goals as goal

pub returns-in_default : goal.returns-in_default
returns-in_default c =
    let rotten : avps_fault c.args.body.now ≡ Some c.in_default.field-0 = search rules in
    fault-rotten c.args.body.now c.in_default.field-0 rotten

pub loop-item-preserved : goal.loop-item-preserved
loop-item-preserved c =
    let fault : fault_of c.next.new.self ≡ avps_fault c.args.body.now = search rules in
    let split : ok_prefix c.loop-item.item-iterator ≡ avp_view c.in-Ok.member ∷ ok_prefix c.next.new.self = search rules in
    record {
      fault = fault;
      unknown = next_code is_unknown _ _ _ _ _ (readable_avps c.args.body.now) _ _ c.or-unknown.ensures c.code_where.ensures c.is_unknown.ensures split c.loop-item.invariant.unknown;
      bad_size = next_code has_bad_size _ _ _ _ _ (readable_avps c.args.body.now) _ _ c.or-bad_size.ensures c.code_where-in-loop-item.ensures c.has_bad_size.ensures split c.loop-item.invariant.bad_size;
    }

pub returns-in-Some-default : goal.returns-in-Some-default
returns-in-Some-default c =
    let whole : avps_fault c.args.body.now ≡ None = search rules in
    let none : ok_prefix c.loop-item.item-iterator ≡ [] = search rules in
    ap (λ unknown. found_fault unknown c.loop-item.bad_size) (sym c.in-Some-default.is-0)
    ∙ fault-found c.args.body.now _ _ _ whole none c.loop-item.invariant.unknown c.loop-item.invariant.bad_size

pub returns-in-None-Some : goal.returns-in-None-Some
returns-in-None-Some c =
    let whole : avps_fault c.args.body.now ≡ None = search rules in
    let none : ok_prefix c.loop-item.item-iterator ≡ [] = search rules in
    ap (λ unknown. found_fault unknown (Some c.in-None-Some.code)) (sym c.in-None-Some.is-0)
    ∙ ap (λ bad_size. found_fault c.loop-item.unknown bad_size) (sym c.in-None-Some.is-1)
    ∙ fault-found c.args.body.now _ _ _ whole none c.loop-item.invariant.unknown c.loop-item.invariant.bad_size

pub returns-in-None-None : goal.returns-in-None-None
returns-in-None-None c =
    let whole : avps_fault c.args.body.now ≡ None = search rules in
    let none : ok_prefix c.loop-item.item-iterator ≡ [] = search rules in
    ap (λ unknown. found_fault unknown None) (sym c.in-None-None.is-0)
    ∙ ap (λ bad_size. found_fault c.loop-item.unknown bad_size) (sym c.in-None-None.is-1)
    ∙ fault-found c.args.body.now _ _ _ whole none c.loop-item.invariant.unknown c.loop-item.invariant.bad_size
