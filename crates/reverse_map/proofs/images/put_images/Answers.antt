-- What an attribute gives has room where all that is left has it.
use Rattle.std.proofs.Common.{◌+◌, ◌≤◌, length, refl, ap, ◌∙◌, arith}
use Rattle.diameter_avp.specs.Avps.{avps_text}
use Rattle.diameter_message.specs.Writer.{list_length, with_avps}
use Rattle.translation.proofs.RoomLemmas.{room-front, room-whole}
use Rattle.reverse_map.specs.Answers.{images}
use Rattle.reverse_map.proofs.ImageSizes.{images-size}
use Rattle.reverse_map.proofs.images.put_images.Goals as goal

pub loop-attribute-init : goal.loop-attribute-init
loop-attribute-init c =
    let all = c.into_iter-attribute-iterator.ensures.into_iter_gives ∙ c.attributes-attribute-items.ensures.value in
    let short : list_length c.args.writer.now + length (avps_text (images c.args.class c.args.reply.now.attributes)) ≤ 65516 =
    omega (arith, c.requires, images-size c.args.class c.args.reply.now.attributes, c.attributes-attribute-items.ensures.size) in
    rw all (record {
      list = ap (λ w. with_avps w (images c.args.class c.args.reply.now.attributes)) refl;
      room = room-whole c.args.writer.now _ short;
    })

pub put_image-requires : goal.put_image-requires
put_image-requires c =
    room-front c.loop-attribute.writer.avps.list _ (images c.args.class c.next.new.self) _ (ap (images c.args.class) c.in-Some.ensures.steps) c.loop-attribute.invariant.room
