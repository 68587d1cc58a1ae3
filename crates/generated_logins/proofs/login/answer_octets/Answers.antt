-- What was put is the list of the answer.
use Rattle.std.proofs.Common.{ℕ, List, [], ◌∷◌, length, codes, ap, ◌∙◌, arith}
use Rattle.wire_core.specs.Numbers.{u32}
use Rattle.diameter_avp.specs.Avps.{AvpParts, avps_text}
use Rattle.diameter_message.specs.declared.header.Header.{Header}
use Rattle.diameter_message.specs.Message.{message_text}
use Rattle.diameter_message.specs.PlainAvps.{origin_avps, plain_avp}
use Rattle.diameter_message.specs.Writer.{MessageWriterParts, with_avps}
use Rattle.diameter_message.proofs.RoomLemmas.{list_length-begun}
use Rattle.generated_logins.specs.Generator.{answer_avps, answer_octets, result_code, session_avps, session_id}
use Rattle.generated_logins.proofs.login.answer_octets.Goals as goal

pub put_session-requires-clause-empty : goal.put_session-requires-clause-empty
put_session-requires-clause-empty c = list_length-begun _ _ c.in_ok-writer.ensures

pub put_session-requires-clause-short : goal.put_session-requires-clause-short
put_session-requires-clause-short c = omega (arith, ap length c.as_bytes.ensures.value, c.in_ok-session.ensures.short)

pub put_number-requires : goal.put_number-requires
put_number-requires c = omega (arith, list_length-begun _ _ c.in_ok-writer.ensures, c.in_ok-put_session.ensures.length)

pub put_origin-requires : goal.put_origin-requires
put_origin-requires c =
    omega (arith, list_length-begun _ _ c.in_ok-writer.ensures, c.in_ok-put_session.ensures.length, c.in_ok-put_number.ensures.ok.length)

pub returns : goal.returns
unfolding answer_octets
returns c =
    let coded : ℕ → List AvpParts = λ code. plain_avp 268 (u32 code) ∷ [] in
    let session = session_avps (session_id c.args.number) in
    let code = coded (result_code c.args.drawn) in
    let last = origin_avps (codes "home.example") (codes "example") in
    let named = c.as_bytes.ensures.value ∙ c.in_ok-session.ensures.name in
    let first = c.in_ok-put_session.ensures.list ∙ ap (λ s. with_avps c.in_ok-writer.writer (session_avps s)) named ∙ ap (λ w. with_avps w session) c.in_ok-writer.ensures in
    let second = c.in_ok-put_number.ensures.ok.list ∙ ap (λ n. with_avps c.put_session.new.writer (coded n)) c.result_code.ensures ∙ ap (λ w. with_avps w code) first in
    let whole = c.in_ok-put_origin.ensures.ok.list ∙ ap (λ w. with_avps w last) second in
    c.finish.ensures.text ∙ ap (λ (w : MessageWriterParts). message_text w.header (avps_text w.avps.list)) whole
    ∙ ap (λ (header : Header). message_text header (avps_text (answer_avps c.args.number c.args.drawn))) c.answer_header.ensures
