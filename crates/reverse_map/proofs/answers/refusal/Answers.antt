-- What was put is the refusal.
use Rattle.std.proofs.Common.{ap, subst, ◌∙◌}
use Rattle.diameter_avp.specs.Avps.{avps_text}
use Rattle.diameter_message.specs.Message.{IsMessage, message_text}
use Rattle.diameter_message.specs.Writer.{MessageWriterParts}
use Rattle.reverse_map.specs.Answers.{refusal}
use Rattle.reverse_map.proofs.answers.refusal.Goals as goal

pub finish-requires : goal.finish-requires
finish-requires c = c.in_ok-writer.ensures.front

pub returns-clause-exact : goal.returns-clause-exact
unfolding refusal
returns-clause-exact c = λ q e.
    c.finish.ensures.text ∙ ap (λ (w : MessageWriterParts). message_text w.header (avps_text w.avps.list)) (c.in_ok-writer.ensures.list q e)

pub returns-clause-message : goal.returns-clause-message
returns-clause-message c = λ q e.
    subst (λ (w : MessageWriterParts). IsMessage c.finish.result w.header (avps_text w.avps.list)) (c.in_ok-writer.ensures.list q e) c.finish.ensures.message
