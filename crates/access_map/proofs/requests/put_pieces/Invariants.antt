use Rattle.std.proofs.Common.{◌≡◌, ◌≤◌, ◌++◌, false, length, None}
use Rattle.std.specs.List.{list_any}
use Rattle.diameter_avp.specs.Avps.{avps_text}
use Rattle.diameter_message.specs.Writer.{with_avps}
use Rattle.translation.specs.declared.direction.Direction.TheVariants.{Access}
use Rattle.translation.specs.Values.{first_bad}
use Rattle.translation.specs.Passing.{nothing}
use Rattle.access_map.specs.Passing.{pieces_after}
use Rattle.access_map.specs.Verdict.{is_bad_password}
use Rattle.access_map.proofs.requests.put_pieces.Given as goal

-- the pieces so far and those of what is left are all pieces; those of what is left have room, and its values are good
abbrev pub invariant-loop-attribute : goal.invariant-loop-attribute
invariant-loop-attribute l = record {
  list : with_avps l.writer (pieces_after l.client l.packet l.seen l.attribute-iterator) ≡ with_avps l.initial.writer (pieces_after l.client l.packet nothing l.packet.attributes);
  room : length (avps_text (l.writer.avps.list ++ pieces_after l.client l.packet l.seen l.attribute-iterator)) ≤ 65516;
  values : first_bad Access l.attribute-iterator ≡ None;
  passwords : list_any is_bad_password l.attribute-iterator ≡ false;
}
