-- What was put is the list of the answer.
use Rattle.std.proofs.Common.{ℕ, [], ◌∷◌, ◌++◌, codes, ap, ◌∙◌, arith, append_assoc}
use Rattle.wire_core.specs.Numbers.{u32}
use Rattle.diameter_avp.specs.Avps.{avps_text, readable_avps}
use Rattle.diameter_message.specs.declared.header.Header.{Header}
use Rattle.diameter_message.specs.Message.{message_text}
use Rattle.diameter_message.specs.PlainAvps.{origin_avps, plain_avp}
use Rattle.diameter_message.specs.Writer.{MessageWriterParts, with_avps}
use Rattle.diameter_message.proofs.RoomLemmas.{list_length-begun}
use Rattle.test_peers.specs.Answers.{answer_avps, answer_text, answer_with, details, session_avps}
use Rattle.test_peers.specs.Finding.{first_avp}
use Rattle.test_peers.proofs.answers.write_answer.Goals as goal

pub put_session-requires : goal.put_session-requires
put_session-requires c = omega (arith, list_length-begun _ _ c.in_ok-writer.ensures)

pub put_number-requires : goal.put_number-requires
put_number-requires c = omega (arith, list_length-begun _ _ c.in_ok-writer.ensures, c.in_ok-put_session.ensures.length)

pub put_origin-requires : goal.put_origin-requires
put_origin-requires c =
    omega (arith, list_length-begun _ _ c.in_ok-writer.ensures, c.in_ok-put_session.ensures.length, c.in_ok-put_number.ensures.ok.length)

pub put_details-requires : goal.put_details-requires
put_details-requires c =
    omega (arith, list_length-begun _ _ c.in_ok-writer.ensures, c.in_ok-put_session.ensures.length, c.in_ok-put_number.ensures.ok.length, c.in_ok-put_origin.ensures.ok.length)

pub returns : goal.returns
unfolding answer_text
returns c =
    let h = c.args.request.now.header in
    let avps = readable_avps c.args.request.now.avps.now in
    let session = session_avps (first_avp 263 avps) in
    let code = plain_avp 268 (u32 c.result_of-code.result) ∷ [] in
    let names = origin_avps (codes "home.example") (codes "example") in
    let more = details h.command avps in
    let first = c.in_ok-put_session.ensures.list ∙ ap (λ w. with_avps w session) c.in_ok-writer.ensures in
    let second = c.in_ok-put_number.ensures.ok.list ∙ ap (λ w. with_avps w code) first in
    let third = c.in_ok-put_origin.ensures.ok.list ∙ ap (λ w. with_avps w names) second in
    let whole = c.in_ok-put_details.ensures.list ∙ ap (λ w. with_avps w more) third in
    c.finish.ensures.text ∙ ap (λ (w : MessageWriterParts). message_text w.header (avps_text w.avps.list)) whole
    ∙ ap (λ avps. message_text c.answer_header.result (avps_text avps)) (append_assoc (session ++ code) names more ∙ append_assoc session code (names ++ more))
    ∙ ap (λ (header : Header). message_text header (avps_text (answer_avps c.result_of-code.result h.command avps))) c.answer_header.ensures
    ∙ ap (λ (code : ℕ). answer_with code h avps) c.result_of-code.ensures
