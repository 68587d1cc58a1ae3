-- What was put is the answer.
use Rattle.std.proofs.Common.{◌≡◌, sym, ap, subst, ◌∙◌}
use Rattle.diameter_avp.specs.Avps.{avps_text}
use Rattle.diameter_message.specs.Message.{IsMessage, message_text}
use Rattle.diameter_message.specs.View.{message_view}
use Rattle.diameter_message.specs.Writer.{MessageWriterParts, KeepsFront, begun}
use Rattle.reverse_map.specs.Answers.{class_of, result_of, reply_result, answer_header, answer_avps, answer_of}
use Rattle.reverse_map.specs.Asked.{ForAsked}
use Rattle.reverse_map.proofs.HeadLemmas.{with_images}
use Rattle.reverse_map.proofs.answers.keyless_answer.Goals as goal

-- the whole message
whole : (c : goal.After-finish) → ForAsked (message_view c.args.message.now) (λ q. c.put_images.new.writer ≡ begun (answer_header q.header (reply_result c.args.reply.now)) (answer_avps c.args.own.now q c.args.reply.now))
whole c = λ q e.
    with_images c.args.own.now q c.args.reply.now c.result_of.result c.class_of.result c.in_ok-writer.writer c.put_images.new.writer c.requires.keyless
    (c.result_of.ensures ∙ ap result_of c.code-code.ensures) (c.class_of.ensures ∙ ap class_of c.code-code.ensures) (c.in_ok-writer.ensures.list q e) c.in_ok-put_images.ensures

pub finish-requires : goal.finish-requires
finish-requires c = subst (λ (w : MessageWriterParts). KeepsFront w) (sym c.in_ok-put_images.ensures) c.in_ok-writer.ensures.front

pub returns-clause-exact : goal.returns-clause-exact
unfolding answer_of
returns-clause-exact c = λ q e.
    c.finish.ensures.text ∙ ap (λ (w : MessageWriterParts). message_text w.header (avps_text w.avps.list)) (whole c q e)

pub returns-clause-message : goal.returns-clause-message
returns-clause-message c = λ q e.
    subst (λ (w : MessageWriterParts). IsMessage c.finish.result w.header (avps_text w.avps.list)) (whole c q e) c.finish.ensures.message
