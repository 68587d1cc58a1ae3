-- What was put is the list of the request.
use Rattle.std.proofs.Common.{ap, subst, ◌∙◌, arith}
use Rattle.session_carrier.specs.Route.{route_view}
use Rattle.diameter_avp.specs.Avps.{avps_text}
use Rattle.diameter_message.specs.Message.{IsMessage, message_text}
use Rattle.diameter_message.specs.Writer.{MessageWriterParts, with_avps}
use Rattle.diameter_message.proofs.RoomLemmas.{list_length-begun}
use Rattle.translation.specs.Heads.{auth_head}
use Rattle.session_carrier.specs.declared.kept.Kind2.TheVariants.{Access}
use Rattle.access_map.proofs.VerdictLemmas.{judged-values, judged-passwords}
use Rattle.access_map.specs.Requests.{pieces, access_image}
use Rattle.access_map.proofs.requests.request.Goals as goal

pub put_auth_head-requires-clause-empty : goal.put_auth_head-requires-clause-empty
put_auth_head-requires-clause-empty c = omega (arith, list_length-begun _ _ c.in_ok-writer.ensures)

pub put_pieces-requires-clause-few : goal.put_pieces-requires-clause-few
put_pieces-requires-clause-few c = omega (arith, list_length-begun _ _ c.in_ok-writer.ensures, c.in_ok-put_auth_head.ensures.length)

pub put_pieces-requires-clause-values : goal.put_pieces-requires-clause-values
put_pieces-requires-clause-values c = judged-values c.args.client.now c.args.packet.now Access c.requires.judged

pub put_pieces-requires-clause-passwords : goal.put_pieces-requires-clause-passwords
put_pieces-requires-clause-passwords c = judged-passwords c.args.client.now c.args.packet.now Access c.requires.judged

pub returns-clause-text : goal.returns-clause-text
unfolding access_image
returns-clause-text c =
    let begun = c.in_ok-writer.ensures in
    let headed = c.in_ok-put_auth_head.ensures.list ∙ ap (λ w. with_avps w (auth_head 1 c.args.client.now c.args.packet.now (route_view c.args.route.now))) begun in
    let whole = c.in_ok-put_pieces.ensures ∙ ap (λ w. with_avps w (pieces c.args.client.now c.args.packet.now)) headed in
    c.finish.ensures.text ∙ ap (λ (w : MessageWriterParts). message_text w.header (avps_text w.avps.list)) whole

pub returns-clause-message : goal.returns-clause-message
returns-clause-message c =
    let begun = c.in_ok-writer.ensures in
    let headed = c.in_ok-put_auth_head.ensures.list ∙ ap (λ w. with_avps w (auth_head 1 c.args.client.now c.args.packet.now (route_view c.args.route.now))) begun in
    let whole = c.in_ok-put_pieces.ensures ∙ ap (λ w. with_avps w (pieces c.args.client.now c.args.packet.now)) headed in
    subst (λ (w : MessageWriterParts). IsMessage c.finish.result w.header (avps_text w.avps.list)) whole c.finish.ensures.message
