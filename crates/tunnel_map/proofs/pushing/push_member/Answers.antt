-- The value that is pushed is the tag and the body.
use Rattle.diameter_avp.specs.View.{avp_view}
use Rattle.tunnel_map.proofs.PushLemmas.{own_pushed, front_taken}
use Rattle.tunnel_map.proofs.pushing.push_member.Goals as goal

pub returns-clause-ok : goal.returns-clause-ok
returns-clause-ok c =
    own_pushed c.args.reply.now c.push.new.self (avp_view c.args.member.now) c.args.tag c.in-Some.body.now _ c.push.result c.in-Some.ensures.value (front_taken c.args.tag c.in-Some.body.now c.copy_from_slice.new.self _ c.copy_from_slice.ensures.after) c.push.ensures.ok
