-- By the phase.
use Rattle.std.proofs.Common.{sym, ◌∙◌}
use Rattle.diameter_message.specs.View.{message_view}
use Rattle.peer_machine.specs.declared.Phase.TheVariants.{Serving, Closing}
use Rattle.agent_core.proofs.LinkLemmas.Passing.{passes-in}
use Rattle.agent_core.proofs.ledger.Ledger.passes.Goals as goal

pub returns-in-Serving : goal.returns-in-Serving
returns-in-Serving c =
    c.is_application_answer.ensures
    ∙ sym (passes-in c.args.self.now (message_view c.args.message.now) Serving (sym c.phase.ensures ∙ c.in-Serving.is))

pub returns-in-Closing : goal.returns-in-Closing
returns-in-Closing c =
    c.is_application_answer-in-Closing.ensures
    ∙ sym (passes-in c.args.self.now (message_view c.args.message.now) Closing (sym c.phase.ensures ∙ c.in-Closing.is))
