-- What was put is the list of the request.
use Rattle.std.proofs.Common.{ℕ, ◌++◌, length, ap, ◌∙◌, arith}
use Rattle.diameter_avp.specs.Avps.{avps_text}
use Rattle.diameter_message.specs.declared.header.Header.{Header}
use Rattle.diameter_message.specs.Message.{message_text}
use Rattle.diameter_message.specs.PlainAvps.{origin_avps}
use Rattle.diameter_message.specs.Writer.{MessageWriterParts, with_avps}
use Rattle.diameter_message.proofs.RoomLemmas.{list_length-begun}
use Rattle.peer_machine.specs.Messages.{details, request_text}
use Rattle.peer_machine.proofs.messages.write_request.Goals as goal

pub put_origin-requires : goal.put_origin-requires
put_origin-requires c =
    omega (arith, list_length-begun _ _ c.in_ok-writer.ensures, ap length c.as_slice.ensures, ap length c.as_slice-2.ensures)

pub put_details-requires : goal.put_details-requires
put_details-requires c =
    omega (arith, list_length-begun _ _ c.in_ok-writer.ensures, c.in_ok-put_origin.ensures.ok.length, ap length c.as_slice.ensures, ap length c.as_slice-2.ensures)

pub returns : goal.returns
unfolding request_text
returns c =
    let names = c.args.names.now in
    let avps = origin_avps names.host names.realm in
    let more = details names c.args.request in
    let header : ℕ → Header = λ command. record { flags = 128; command = command; application = 0; hop = c.args.hop; end = c.args.end } in
    let begun = c.in_ok-writer.ensures in
    let origin =
    ap (λ host. origin_avps host c.as_slice-2.result.now) c.as_slice.ensures ∙ ap (origin_avps names.host) c.as_slice-2.ensures in
    let headed = c.in_ok-put_origin.ensures.ok.list ∙ ap (with_avps c.in_ok-writer.writer) origin ∙ ap (λ w. with_avps w avps) begun in
    let whole = c.in_ok-put_details.ensures.list ∙ ap (λ w. with_avps w more) headed in
    c.finish.ensures.text ∙ ap (λ (w : MessageWriterParts). message_text w.header (avps_text w.avps.list)) whole
    ∙ ap (λ command. message_text (header command) (avps_text (avps ++ more))) c.command_of.ensures.number
