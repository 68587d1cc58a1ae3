-- What was put is the list of the request.
use Rattle.std.proofs.Common.{ap, ◌∙◌, arith}
use Rattle.std.specs.Option.{option_copied}
use Rattle.diameter_avp.specs.Avps.{avps_text}
use Rattle.diameter_message.specs.Message.{message_text}
use Rattle.diameter_message.specs.Writer.{MessageWriterParts, with_avps}
use Rattle.diameter_message.proofs.RoomLemmas.{list_length-begun}
use Rattle.translation.specs.Termination.{termination_avps, termination_text}
use Rattle.translation.proofs.terminations.termination.Goals as goal

pub put_termination-requires-clause-empty : goal.put_termination-requires-clause-empty
put_termination-requires-clause-empty c = omega (arith, list_length-begun _ _ c.in_ok-writer.ensures)

pub returns : goal.returns
unfolding termination_text
returns c =
    let begun = c.in_ok-writer.ensures in
    let avps = termination_avps c.args.client.now c.args.kept.now c.args.application c.args.cause (option_copied c.args.host) in
    let whole = c.in_ok-put_termination.ensures.list ∙ ap (λ w. with_avps w avps) begun in
    c.finish.ensures.text ∙ ap (λ (w : MessageWriterParts). message_text w.header (avps_text w.avps.list)) whole
