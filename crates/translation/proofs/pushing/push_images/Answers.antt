-- What was pushed and what is left is all, by place.
use Rattle.std.proofs.Common.{◌+◌, ◌&&◌, not, drop, [], ◌∷◌, sym, ap, ◌∙◌, subst, arith}
use Rattle.std.proofs.lemmas.List.{at_drop_more, at_drop_all}
use Rattle.diameter_avp.specs.View.{avp_view}
use Rattle.translation.specs.AvpList.{list_view}
use Rattle.translation.specs.Reading.{has_fault}
use Rattle.translation.specs.Replies.{images}
use Rattle.translation.specs.Pushing.{images_from, fault_from}
use Rattle.translation.proofs.ReplyImages.{images_by_place, fault_by_place, images_turn}
use Rattle.translation.proofs.PushingLemmas.{Leads, leads_begin, leads_step, leads_stop, leads_end, strict_none, err_false}
use Rattle.translation.proofs.pushing.push_images.Goals as goal

pub loop-avp-init : goal.loop-avp-init
loop-avp-init c =
    let avps = list_view c.args.list.now in
    rw (images_by_place c.args.class [] avps, fault_by_place c.args.class [] avps)
    (leads_begin c.args.reply.now (not (c.args.strict && has_fault c.args.class avps)) (images c.args.class avps) c.requires.short)

pub loop-avp-preserved : goal.loop-avp-preserved
loop-avp-preserved c =
    let rest = list_view (drop (c.loop-avp.avp-index + 1) c.args.list.now) in
    let front = at_drop_more list_view c.args.list.now c.loop-avp.avp-index c.avp-item.result (omega arith) ∙ ap (λ a. avp_view a ∷ rest) (sym c.avp-item.is) in
    let turned = images_turn _ _ _ c.args.strict c.args.class c.loop-avp.number _ _ rest (avp_view c.avp-item.result) c.loop-avp.invariant front in
    rw c.next_number-number.ensures (leads_step _ _ _ _ _ _ _ _ _ turned c.in_ok-push_image.ensures)

pub returns-in_err-push_image : goal.returns-in_err-push_image
returns-in_err-push_image c =
    let rest = list_view (drop (c.loop-avp.avp-index + 1) c.args.list.now) in
    let front = at_drop_more list_view c.args.list.now c.loop-avp.avp-index c.avp-item.result (omega arith) ∙ ap (λ a. avp_view a ∷ rest) (sym c.avp-item.is) in
    let turned = images_turn _ _ _ c.args.strict c.args.class c.loop-avp.number _ _ rest (avp_view c.avp-item.result) c.loop-avp.invariant front in
    rw (err_false c.from_residual.result c.from_residual.ensures.0) (leads_stop _ _ _ _ _ _ _ _ _ _ turned c.in_err-push_image.ensures)

pub returns : goal.returns
returns c =
    let none = at_drop_all list_view c.args.list.now c.loop-avp.avp-index (omega arith) in
    let ended = subst (λ avps. Leads c.args.reply.now c.loop-avp.reply (not (c.args.strict && has_fault c.args.class (list_view c.args.list.now))) (not (c.args.strict && fault_from c.args.class c.loop-avp.number avps)) (images c.args.class (list_view c.args.list.now)) (images_from c.args.class c.loop-avp.number avps)) none c.loop-avp.invariant in
    leads_end _ _ _ _ (rw strict_none at ended)
