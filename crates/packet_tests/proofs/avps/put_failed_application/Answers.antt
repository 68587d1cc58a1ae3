-- Each group is open until it is ended.
use Rattle.std.proofs.Common.{◌≡◌, ℕ, List, true, None, ap}
use Rattle.diameter_avp.specs.Avps.{AvpParts, made, avps_text}
use Rattle.diameter_avp.specs.Writer.{WriterParts, GroupParts}
use Rattle.diameter_avp.proofs.GroupLemmas.{begun_group, with_member, IsOpen-begun, IsOpen-put, IsOpen-ended}
use Rattle.packet_tests.proofs.avps.put_failed_application.Goals as goal

abbrev outer : List AvpParts → GroupParts
outer before = begun_group before 279 true

abbrev inner : List AvpParts → List ℕ → List ℕ → GroupParts
inner before vendor application =
    with_member (with_member (begun_group before 260 true) (made 266 None true vendor)) (made 258 None true application)

pub end_group-requires : goal.end_group-requires
end_group-requires c =
    let begun = IsOpen-begun c.begin_group.new.self c.begin_group-2.new.self 260 true _ c.in_ok-inner.ensures.ok c.in_ok-inner.ensures.place in
    let first = IsOpen-put _ _ _ _ _ c.in_ok-put.ensures.ok begun in
    (inner c.begin_group.new.self.list c.args.vendor.now c.args.application.now, IsOpen-put _ _ _ _ _ c.in_ok-put-2.ensures.ok first)

pub end_group-requires-2 : goal.end_group-requires-2
end_group-requires-2 c =
    let begun = IsOpen-begun c.begin_group.new.self c.begin_group-2.new.self 260 true _ c.in_ok-inner.ensures.ok c.in_ok-inner.ensures.place in
    let first = IsOpen-put _ _ _ _ _ c.in_ok-put.ensures.ok begun in
    let second = IsOpen-put _ _ _ _ _ c.in_ok-put-2.ensures.ok first in
    let g = outer c.args.writer.now.list in
    let i = inner c.begin_group.new.self.list c.args.vendor.now c.args.application.now in
    (with_member g (made 260 None true (avps_text i.members)), IsOpen-ended c.put-2.new.self c.end_group.new.self _ g i (c.end_group.ensures i second) (ap (λ (w : WriterParts). w.list) c.in_ok-failed.ensures.ok) c.in_ok-failed.ensures.place)
