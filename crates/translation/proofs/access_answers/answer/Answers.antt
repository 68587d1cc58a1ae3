-- The AVPs that were read give the outcome.
use Rattle.std.proofs.Common.{◌≡◌, IfOk, Some, ap, subst, ◌∙◌}
use Rattle.diameter_avp.specs.Avps.{read_avps}
use Rattle.translation.specs.AvpList.{list_view}
use Rattle.translation.specs.Answers.{outcome}
use Rattle.translation.proofs.Classes.{outcome_rotten, outcome_sound, outcome_bad}
use Rattle.translation.proofs.access_answers.answer.Goals as goal

pub returns-in_default : goal.returns-in_default
unfolding outcome
returns-in_default c =
    let none = rw c.in_default.is at c.in_ok-list.ensures in
    subst (λ all. IfOk c.bad_outcome.result (λ o. o ≡ all))
    (outcome_rotten c.args.service c.args.client.now c.args.kept.now c.args.message.now.header (read_avps c.args.message.now.avps.now) c.args.numbers none) c.bad_outcome.ensures

pub returns-in-Some-2 : goal.returns-in-Some-2
unfolding outcome
returns-in-Some-2 c =
    let some = rw c.in-Some.is at c.in_ok-list.ensures in
    outcome_sound c.args.service c.args.client.now c.args.kept.now c.args.message.now.header (read_avps c.args.message.now.avps.now) (list_view c.as_slice-list.result.now) c.args.numbers c.in-Some-2.reply
    (ap (λ list. Some (list_view list)) c.as_slice-list.ensures.value ∙ some) (rw c.in-Some-2.is at c.in_ok-reply.ensures)

pub returns : goal.returns
unfolding outcome
returns c =
    let some = rw c.in-Some.is at c.in_ok-list.ensures in
    let bad = outcome_bad c.args.service c.args.client.now c.args.kept.now c.args.message.now.header (read_avps c.args.message.now.avps.now) (list_view c.as_slice-list.result.now) c.args.numbers
    (ap (λ list. Some (list_view list)) c.as_slice-list.ensures.value ∙ some) (rw c.in-None.is at c.in_ok-reply.ensures) in
    subst (λ all. IfOk c.bad_outcome-in-None.result (λ o. o ≡ all)) bad c.bad_outcome-in-None.ensures
