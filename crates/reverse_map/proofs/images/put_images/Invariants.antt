use Rattle.std.proofs.Common.{◌≡◌, ◌≤◌, ◌++◌, length}
use Rattle.diameter_avp.specs.Avps.{avps_text}
use Rattle.diameter_message.specs.Writer.{with_avps}
use Rattle.reverse_map.specs.Answers.{images}
use Rattle.reverse_map.proofs.images.put_images.Given as goal

-- the images so far and those of what is left are all images, and those of what is left have room
abbrev pub invariant-loop-attribute : goal.invariant-loop-attribute
invariant-loop-attribute l = record {
  list : with_avps l.writer (images l.class l.attribute-iterator) ≡ with_avps l.initial.writer (images l.class l.reply.attributes);
  room : length (avps_text (l.writer.avps.list ++ images l.class l.attribute-iterator)) ≤ 65516;
}
