-- The map of the kind has what it wants, and gives the image of that kind.
use Rattle.std.proofs.Common.{subst}
use Rattle.session_carrier.specs.declared.kept.Kind2.{Kind2}
use Rattle.session_carrier.specs.declared.kept.Kind2.TheVariants.{Eap}
use Rattle.access_map.proofs.VerdictLemmas.{judged-values}
use Rattle.agent_core.specs.Verdicts.{IsJudged}
use Rattle.agent_core.proofs.ImageLemmas.MessageImages.{has_message, has_record_message, is_record_image}
use Rattle.agent_core.proofs.requests.image.Goals as goal

pub request-requires-in-Eap-clause-values : goal.request-requires-in-Eap-clause-values
request-requires-in-Eap-clause-values c =
    let client = c.args.request.now.settings.now in
    let packet = c.args.request.now.packet in
    judged-values client packet Eap (subst (λ (k : Kind2). IsJudged k client packet) c.in-Eap.is c.requires.judged)

pub returns-in-Access-clause-message : goal.returns-in-Access-clause-message
returns-in-Access-clause-message c = has_message _ _ _ _ _ c.in-Access.is c.request.ensures.message

pub returns-in-Eap-clause-message : goal.returns-in-Eap-clause-message
returns-in-Eap-clause-message c = has_message _ _ _ _ _ c.in-Eap.is c.request-in-Eap.ensures.message

pub returns-in-Start : goal.returns-in-Start
returns-in-Start c = record {
  text = is_record_image _ _ _ _ _ _ c.in-Start.is c.request-in-Start.ensures.text;
  message = has_record_message _ _ _ _ c.in-Start.is c.request-in-Start.ensures.message;
}
