-- The octets ask what their message asks.
use Rattle.diameter_message.specs.View.{message_view}
use Rattle.reverse_map.proofs.AskedLemmas.{asked-message}
use Rattle.reverse_map.proofs.answers.answer.Goals as goal

pub returns-clause-exact : goal.returns-clause-exact
returns-clause-exact c = λ q e.
    c.answer_to.ensures.exact q (asked-message c.args.request.now (message_view c.in-Ok.message) q c.in-Ok.ensures.exact e)

pub returns-clause-message : goal.returns-clause-message
returns-clause-message c = λ q e.
    c.answer_to.ensures.message q (asked-message c.args.request.now (message_view c.in-Ok.message) q c.in-Ok.ensures.exact e)
