-- What was pushed is the Accounting-Request.
use Rattle.translation.specs.AvpList.{list_view}
use Rattle.reverse_map.proofs.PushedLemmas.{accounting_made, accounting_packet_made}
use Rattle.reverse_map.proofs.packets.accounting_request.Goals as goal

pub returns-in-Ok-clause-image : goal.returns-in-Ok-clause-image
returns-in-Ok-clause-image c =
    accounting_made c.args.id c.args.random c.args.secret.now c.finish.result (list_view c.args.list.now) c.in-Some.status c.in_ok-request.request c.push_record.new.request
    c.in-Some.ensures c.in_ok-request.ensures c.in-Ok.ensures c.finish.ensures.text

pub returns-in-Ok-clause-packet : goal.returns-in-Ok-clause-packet
returns-in-Ok-clause-packet c =
    let p = c.finish.ensures.packet in
    accounting_packet_made c.args.id c.args.random c.args.secret.now c.finish.result p.0 (list_view c.args.list.now) c.in-Some.status c.in_ok-request.request c.push_record.new.request _
    c.in-Some.ensures c.in_ok-request.ensures c.in-Ok.ensures c.finish.ensures.text p.1
