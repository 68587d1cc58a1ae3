use Rattle.std.proofs.Common.{not, drop}
use Rattle.std.specs.List.{flat_map, list_any}
use Rattle.translation.specs.AvpList.{list_view}
use Rattle.translation.proofs.PushingLemmas.{Leads}
use Rattle.reverse_map.specs.Requests.{image, is_bad}
use Rattle.reverse_map.proofs.pushing.push_images.Given as goal

-- what is pushed so far, and what is left, is all
abbrev pub invariant-loop-avp : goal.invariant-loop-avp
invariant-loop-avp l =
    Leads l.initial.request l.request (not (list_any (is_bad l.direction) (list_view l.list))) (not (list_any (is_bad l.direction) (list_view (drop l.avp-index l.list))))
    (flat_map (image l.direction l.random l.secret) (list_view l.list)) (flat_map (image l.direction l.random l.secret) (list_view (drop l.avp-index l.list)))
