use Rattle.std.proofs.Common.{◌&&◌, not, drop}
use Rattle.translation.specs.AvpList.{list_view}
use Rattle.translation.specs.Reading.{has_fault}
use Rattle.translation.specs.Replies.{images}
use Rattle.translation.specs.Pushing.{images_from, fault_from}
use Rattle.translation.proofs.PushingLemmas.{Leads}
use Rattle.translation.proofs.pushing.push_images.Given as goal

-- what is pushed so far, and what is left with the number that comes next, is all
abbrev pub invariant-loop-avp : goal.invariant-loop-avp
invariant-loop-avp l =
    Leads l.initial.reply l.reply (not (l.strict && has_fault l.class (list_view l.list))) (not (l.strict && fault_from l.class l.number (list_view (drop l.avp-index l.list))))
    (images l.class (list_view l.list)) (images_from l.class l.number (list_view (drop l.avp-index l.list)))
