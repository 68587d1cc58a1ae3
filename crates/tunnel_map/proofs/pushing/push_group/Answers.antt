-- The attributes of the members are pushed in order.
use Rattle.std.proofs.Common.{rules, ◌≡◌, None, ◌∷◌, sym, ap, ◌∙◌}
use Rattle.std.specs.Result.{ok_prefix}
use Rattle.diameter_avp.specs.View.{avp_view}
use Rattle.diameter_avp.specs.Avps.{fault_of}
use Rattle.tunnel_map.specs.Groups.{group_attributes}
use Rattle.tunnel_map.proofs.FaultLemmas.{whole-accepted}
use Rattle.tunnel_map.proofs.PushLemmas.{none_pushed, member_pushed, member_refused, err_room, on_err}
use Rattle.tunnel_map.proofs.pushing.push_group.Goals as goal

pub loop-item-init : goal.loop-item-init
loop-item-init c =
    let all = c.into_iter-item-iterator.ensures.into_iter_gives ∙ c.avps-item-items.ensures in
    record {
      whole = ap fault_of all ∙ whole-accepted c.args.tag c.args.body.now c.requires;
      pushed = rw all (none_pushed c.args.reply.now (group_attributes c.args.tag c.args.body.now));
    }

pub loop-item-preserved : goal.loop-item-preserved
loop-item-preserved c =
    let whole : fault_of c.next.new.self ≡ None = search rules in
    let split : ok_prefix c.loop-item.item-iterator ≡ avp_view c.unwrap.result ∷ ok_prefix c.next.new.self = search rules in
    record {
      whole = whole;
      pushed = member_pushed _ _ _ _ c.args.tag _ _ _ c.loop-item.invariant.pushed split c.in_ok-push_member.ensures.ok (sym c.in_ok-push_member.ensures.room);
    }

pub returns-in_err-push_member-clause-room : goal.returns-in_err-push_member-clause-room
returns-in_err-push_member-clause-room c =
    let split : ok_prefix c.loop-item.item-iterator ≡ avp_view c.unwrap.result ∷ ok_prefix c.next.new.self = search rules in
    let refused = member_refused _ _ _ _ c.args.tag _ _ _ c.loop-item.invariant.pushed split c.in_err-push_member.ensures.err (sym c.in_err-push_member.ensures.room) in
    err_room c.from_residual.result _ c.from_residual.ensures.0 refused.1

pub returns-in_err-push_member-clause-err : goal.returns-in_err-push_member-clause-err
returns-in_err-push_member-clause-err c =
    let split : ok_prefix c.loop-item.item-iterator ≡ avp_view c.unwrap.result ∷ ok_prefix c.next.new.self = search rules in
    let refused = member_refused _ _ _ _ c.args.tag _ _ _ c.loop-item.invariant.pushed split c.in_err-push_member.ensures.err (sym c.in_err-push_member.ensures.room) in
    on_err c.from_residual.result _ refused.0
