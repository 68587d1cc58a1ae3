-- What was put is the list of the answer.
use Rattle.std.proofs.Common.{[], ◌∷◌, ap, ◌∙◌, arith, append_assoc}
use Rattle.wire_core.specs.Numbers.{u32}
use Rattle.diameter_avp.specs.Avps.{avps_text}
use Rattle.diameter_message.specs.declared.header.Header.{Header}
use Rattle.diameter_message.specs.Message.{message_text}
use Rattle.diameter_message.specs.PlainAvps.{origin_avps, plain_avp}
use Rattle.diameter_message.specs.Writer.{MessageWriterParts, with_avps}
use Rattle.diameter_message.proofs.RoomLemmas.{list_length-begun}
use Rattle.session_book.specs.Answers.{echo, answer_avps, answer_text}
use Rattle.session_book.proofs.answers.write_answer.Goals as goal

pub put_session-requires : goal.put_session-requires
put_session-requires c = list_length-begun _ _ c.in_ok-writer.ensures

pub put_number-requires : goal.put_number-requires
put_number-requires c = omega (arith, list_length-begun _ _ c.in_ok-writer.ensures, c.in_ok-put_session.ensures.length)

pub put_origin-requires : goal.put_origin-requires
put_origin-requires c =
    omega (arith, list_length-begun _ _ c.in_ok-writer.ensures, c.in_ok-put_session.ensures.length, c.in_ok-put_number.ensures.ok.length)

pub returns : goal.returns
unfolding answer_text
returns c =
    let session = echo c.args.session.now in
    let code = plain_avp 268 (u32 c.args.code) ∷ [] in
    let last = origin_avps c.args.host.now c.args.realm.now in
    let begun = c.in_ok-writer.ensures in
    let first = c.in_ok-put_session.ensures.list ∙ ap (λ w. with_avps w session) begun in
    let second = c.in_ok-put_number.ensures.ok.list ∙ ap (λ w. with_avps w code) first in
    let whole = c.in_ok-put_origin.ensures.ok.list ∙ ap (λ w. with_avps w last) second in
    c.finish.ensures.text ∙ ap (λ (w : MessageWriterParts). message_text w.header (avps_text w.avps.list)) whole
    ∙ ap (λ avps. message_text c.answer_header.result (avps_text avps)) (append_assoc session code last)
    ∙ ap (λ (header : Header). message_text header (avps_text (answer_avps c.args.host.now c.args.realm.now c.args.session.now c.args.code))) c.answer_header.ensures
