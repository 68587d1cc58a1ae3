-- What was put is the head, and it is short.
use Rattle.std.proofs.Common.{◌≡◌, Some, ◌∙◌, arith}
use Rattle.diameter_avp.proofs.CallerLemmas.{read_avps-ok}
use Rattle.diameter_message.proofs.RoomLemmas.{list_length-begun}
use Rattle.diameter_message.specs.View.{message_view}
use Rattle.reverse_map.proofs.AskedLemmas.{tells}
use Rattle.reverse_map.proofs.HeadLemmas.{headed}
use Rattle.reverse_map.proofs.heads.begin.Goals as goal

pub put_names-requires-clause-empty : goal.put_names-requires-clause-empty
put_names-requires-clause-empty c = omega (arith, list_length-begun _ _ c.in_ok-writer.ensures)

pub put_repeated-requires : goal.put_repeated-requires
put_repeated-requires c = omega (arith, list_length-begun _ _ c.in_ok-writer.ensures, c.in_ok-put_names.ensures.length)

pub returns-clause-list : goal.returns-clause-list
returns-clause-list c = λ q e.
    let t = tells (message_view c.args.message.now) q e in
    let avps = (read_avps-ok c.args.message.now.avps.now q.avps t.avps).1 in
    let found : Some c.in-Some.session.now ≡ Some q.session = c.in-Some.ensures ∙ t.session in
    headed c.args.own.now q c.args.code c.answer_header.result c.args.message.now.header c.in-Some.session.now _ _ _ _ t.header (cc) avps c.answer_header.ensures
    c.in_ok-writer.ensures c.in_ok-put_names.ensures.list c.in_ok-put_repeated.ensures.list

pub returns-clause-few : goal.returns-clause-few
returns-clause-few c = omega (arith, list_length-begun _ _ c.in_ok-writer.ensures, c.in_ok-put_names.ensures.length, c.in_ok-put_repeated.ensures.length)
