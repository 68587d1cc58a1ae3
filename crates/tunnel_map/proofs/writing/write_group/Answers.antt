-- The members stand behind the group while it is open, and then in it.
use Rattle.std.proofs.Common.{◌≡◌, List, Err, sym, ap, ◌∙◌}
use Rattle.std.proofs.lemmas.Result.{err_from_is_err_and}
use Rattle.radius_packet.specs.Packet.{AttributeParts}
use Rattle.radius_packet.specs.Views.{attribute_view}
use Rattle.diameter_avp.specs.declared.writer.WriteFault.TheVariants.{TooLong}
use Rattle.tunnel_map.specs.Groups.{members}
use Rattle.tunnel_map.specs.Writing.{with_avps}
use Rattle.tunnel_map.proofs.WriteLemmas.{too_long-opened, too_long-part, all-put, group_of, IsOpen-filled, ended-filled, short-filled, members-first}
use Rattle.tunnel_map.proofs.writing.write_group.Goals as goal

pub returns-in_err-group-clause-too_long : goal.returns-in_err-group-clause-too_long
returns-in_err-group-clause-too_long c =
    let p = err_from_is_err_and c.from_residual.result c.from_residual.ensures.1 in
    rw (p.1, p.2) (λ long.
    let same : c.in_err-group.field-0.0 ≡ TooLong = cc in
    too_long-opened c.args.out.now (members c.args.tag c.args.packet.now.attributes) (c.in_err-group.ensures.too_long.0 (ap Err same)))

pub returns-in_err-put_member-clause-too_long : goal.returns-in_err-put_member-clause-too_long
returns-in_err-put_member-clause-too_long c =
    let p = err_from_is_err_and c.from_residual-in_err-put_member.result c.from_residual-in_err-put_member.ensures.1 in
    let split = members-first c.args.tag (attribute_view c.in-Some.attribute) c.next.new.self in
    let list =
    ap (λ avps. with_avps c.loop-attribute.out avps) (sym split)
    ∙ ap (λ (rest : List AttributeParts). with_avps c.loop-attribute.out (members c.args.tag rest)) (sym c.in-Some.ensures.steps)
    ∙ c.loop-attribute.invariant.list
    ∙ ap (λ w. with_avps w (members c.args.tag c.args.packet.now.attributes)) c.in_ok-group.ensures.ok in
    rw (p.1, p.2) (λ long. too_long-part c.args.out.now c.loop-attribute.out _ _ _ list (c.in_err-put_member.ensures.too_long long))

pub end_group-requires : goal.end_group-requires
end_group-requires c =
    let filled = all-put c.args.out.now _ _ c.args.tag c.args.packet.now.attributes _ c.loop-attribute.invariant.list c.in-None.ensures.steps.0 c.in_ok-group.ensures.ok in
    (group_of c.args.out.now (members c.args.tag c.args.packet.now.attributes), IsOpen-filled _ _ _ _ filled c.in_ok-group.ensures.place)

pub returns-clause-ok : goal.returns-clause-ok
returns-clause-ok c =
    let all = members c.args.tag c.args.packet.now.attributes in
    let filled = all-put c.args.out.now _ _ c.args.tag c.args.packet.now.attributes _ c.loop-attribute.invariant.list c.in-None.ensures.steps.0 c.in_ok-group.ensures.ok in
    let begun = IsOpen-filled c.args.out.now c.loop-attribute.out all _ filled c.in_ok-group.ensures.place in
    ended-filled _ _ _ all filled (c.end_group.ensures (group_of c.args.out.now all) begun)

pub returns-clause-short : goal.returns-clause-short
returns-clause-short c =
    let all = members c.args.tag c.args.packet.now.attributes in
    let filled = all-put c.args.out.now _ _ c.args.tag c.args.packet.now.attributes _ c.loop-attribute.invariant.list c.in-None.ensures.steps.0 c.in_ok-group.ensures.ok in
    let begun = IsOpen-filled c.args.out.now c.loop-attribute.out all _ filled c.in_ok-group.ensures.place in
    let ended = ended-filled _ _ _ all filled (c.end_group.ensures (group_of c.args.out.now all) begun) in
    short-filled _ _ _ all filled ended c.loop-attribute.invariant.short
