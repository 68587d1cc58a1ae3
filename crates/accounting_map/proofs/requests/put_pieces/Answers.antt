-- What is put in one pass is the pieces, and all of them have room.
use Rattle.std.proofs.Common.{◌≡◌, ◌+◌, ◌≤◌, length, refl, ap, ◌∙◌, arith, rules}
use Rattle.radius_packet.specs.Views.{attribute_view}
use Rattle.diameter_avp.specs.Avps.{avps_text}
use Rattle.diameter_message.specs.Writer.{list_length, with_avps}
use Rattle.translation.proofs.RoomLemmas.{room-front, room-whole}
use Rattle.accounting_map.specs.Passing.{noted, nothing, pieces_after}
use Rattle.accounting_map.proofs.PieceLemmas.{pieces-are, pieces_after-size}
use Rattle.accounting_map.proofs.requests.put_pieces.Goals as goal

pub loop-attribute-init : goal.loop-attribute-init
loop-attribute-init c =
    let all = c.into_iter-attribute-iterator.ensures.into_iter_gives ∙ c.attributes-attribute-items.ensures.value in
    let none = c.nothing.ensures in
    let short : list_length c.args.writer.now + length (avps_text (pieces_after c.args.packet.now.attributes nothing c.args.packet.now.attributes)) ≤ 65516 =
    omega (arith, c.requires.few, pieces_after-size c.args.packet.now.attributes, c.attributes-attribute-items.ensures.size) in
    rw (all, none) (record {
      list = refl;
      room = room-whole c.args.writer.now _ short;
      values = c.requires.values;
    })

pub put_piece-requires-clause-room : goal.put_piece-requires-clause-room
put_piece-requires-clause-room c =
    room-front c.loop-attribute.writer.avps.list _ (pieces_after c.args.packet.now.attributes (noted c.loop-attribute.passed (attribute_view c.in-Some.attribute)) c.next.new.self) _
    (ap (pieces_after c.args.packet.now.attributes c.loop-attribute.passed) c.in-Some.ensures.steps) c.loop-attribute.invariant.room

pub returns : goal.returns
returns c =
    let exact : c.loop-attribute.writer ≡ with_avps c.args.writer.now (pieces_after c.args.packet.now.attributes nothing c.args.packet.now.attributes) = search rules in
    exact ∙ ap (with_avps c.args.writer.now) (pieces-are c.args.packet.now.attributes)
