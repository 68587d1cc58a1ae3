-- What was pushed and what is left is all.
use Rattle.std.proofs.Common.{◌+◌, not, drop, ◌∷◌, sym, ap, ◌∙◌, subst, arith}
use Rattle.std.specs.List.{flat_map, list_any}
use Rattle.std.proofs.lemmas.List.{at_drop_more, at_drop_all}
use Rattle.diameter_avp.specs.View.{avp_view}
use Rattle.translation.specs.AvpList.{list_view}
use Rattle.translation.proofs.PushingLemmas.{Leads, leads_begin, leads_step, leads_stop, leads_end, err_false}
use Rattle.reverse_map.specs.Requests.{image, is_bad}
use Rattle.reverse_map.proofs.PushedLemmas.{images_turn}
use Rattle.reverse_map.proofs.pushing.push_images.Goals as goal

pub loop-avp-init : goal.loop-avp-init
loop-avp-init c =
    let avps = list_view c.args.list.now in
    leads_begin c.args.request.now (not (list_any (is_bad c.args.direction) avps)) (flat_map (image c.args.direction c.args.random.now c.args.secret.now) avps) c.requires.short

pub loop-avp-preserved : goal.loop-avp-preserved
loop-avp-preserved c =
    let rest = list_view (drop (c.loop-avp.avp-index + 1) c.args.list.now) in
    let front = at_drop_more list_view c.args.list.now c.loop-avp.avp-index c.avp-item.result (omega arith) ∙ ap (λ a. avp_view a ∷ rest) (sym c.avp-item.is) in
    let turned = images_turn _ _ _ c.args.direction c.args.random.now c.args.secret.now _ _ rest (avp_view c.avp-item.result) c.loop-avp.invariant front in
    leads_step _ _ _ _ _ _ _ _ _ turned c.in_ok-push_image.ensures

pub returns-in_err-push_image : goal.returns-in_err-push_image
returns-in_err-push_image c =
    let rest = list_view (drop (c.loop-avp.avp-index + 1) c.args.list.now) in
    let front = at_drop_more list_view c.args.list.now c.loop-avp.avp-index c.avp-item.result (omega arith) ∙ ap (λ a. avp_view a ∷ rest) (sym c.avp-item.is) in
    let turned = images_turn _ _ _ c.args.direction c.args.random.now c.args.secret.now _ _ rest (avp_view c.avp-item.result) c.loop-avp.invariant front in
    rw (err_false c.from_residual.result c.from_residual.ensures.0) (leads_stop _ _ _ _ _ _ _ _ _ _ turned c.in_err-push_image.ensures)

pub returns : goal.returns
returns c =
    let none = at_drop_all list_view c.args.list.now c.loop-avp.avp-index (omega arith) in
    let ended = subst (λ avps. Leads c.args.request.now c.loop-avp.request (not (list_any (is_bad c.args.direction) (list_view c.args.list.now))) (not (list_any (is_bad c.args.direction) avps)) (flat_map (image c.args.direction c.args.random.now c.args.secret.now) (list_view c.args.list.now)) (flat_map (image c.args.direction c.args.random.now c.args.secret.now) avps)) none c.loop-avp.invariant in
    leads_end _ _ _ _ ended
