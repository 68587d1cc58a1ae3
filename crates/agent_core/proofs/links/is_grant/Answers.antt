use Rattle.std.proofs.Common.{◌∙◌}
use Rattle.diameter_message.specs.View.{message_view}
use Rattle.agent_core.proofs.LinkLemmas.Granting as lemmas
use Rattle.agent_core.proofs.links.is_grant.Goals as goal

pub returns : goal.returns
returns c = c.has_grant.ensures ∙ lemmas.granted-is (message_view c.args.message.now)
