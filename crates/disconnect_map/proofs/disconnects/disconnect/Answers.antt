use Rattle.std.proofs.Common.{◌≡◌}
use Rattle.std.specs.Option.{option_copied}
use Rattle.disconnect_map.specs.Disconnects.{session_attributes}
use Rattle.disconnect_map.proofs.DisconnectLemmas.{draft, drafted, finished_packet, finished_text}
use Rattle.disconnect_map.proofs.disconnects.disconnect.Goals as goal

-- what was put is all that the session is known by
made : (c : goal.After-finish) → c.put-2.new.request ≡ draft c.args.id (session_attributes c.args.client.now (option_copied c.args.user) c.args.acct.now)
made c =
    drafted c.args.client.now c.args.id (option_copied c.args.user) c.args.acct.now c.to_be_bytes.result _ c.put_user.new.request c.put.new.request c.put-2.new.request
    c.to_be_bytes.ensures c.in_ok-request.ensures c.put_user.ensures c.put.ensures c.put-2.ensures

pub returns-clause-exact : goal.returns-clause-exact
returns-clause-exact c =
    finished_text c.as_slice.result.now c.finish.result c.args.client.now c.args.id (option_copied c.args.user) c.args.acct.now c.put-2.new.request c.as_slice.ensures (made c) c.finish.ensures.text

pub returns-clause-packet : goal.returns-clause-packet
returns-clause-packet c =
    let p = c.finish.ensures.packet in
    (p.0, finished_packet c.as_slice.result.now c.finish.result p.0 c.args.client.now c.args.id (option_copied c.args.user) c.args.acct.now c.put-2.new.request (made c) p.1)
