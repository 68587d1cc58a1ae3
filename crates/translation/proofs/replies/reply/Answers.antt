-- What was pushed is the reply.
use Rattle.std.proofs.Common.{ap, ◌∙◌}
use Rattle.translation.specs.AvpList.{list_view}
use Rattle.translation.specs.Replies.{carrier_value}
use Rattle.translation.proofs.Classes.{carrier_fits, reply_made}
use Rattle.translation.proofs.replies.reply.Goals as goal

pub push_all-requires-clause-carrier : goal.push_all-requires-clause-carrier
push_all-requires-clause-carrier c =
    let avps = list_view c.args.list.now in
    carrier_fits c.args.class c.args.kept.now.session avps _ (c.in_ok-carrier.ensures ∙ ap (λ s. carrier_value c.args.class s avps) c.as_slice.ensures) c.requires.session

pub returns-in-Ok : goal.returns-in-Ok
returns-in-Ok c =
    reply_made c.args.service c.args.class c.args.client.now c.args.kept.now (list_view c.args.list.now) c.args.strict c.in_ok-carrier.carrier c.in_ok-reply.reply c.push_all.new.reply c.finish.result _ _ _ c.reply_code.result c.is_stateless.result
    c.as_slice.ensures c.as_slice-proxy.ensures c.as_slice-in-Ok.ensures c.reply_code.ensures c.in_ok-carrier.ensures c.in_ok-reply.ensures c.in-Ok.ensures c.finish.ensures.text c.is_stateless.ensures c.if-is_stateless.false
