use Rattle.std.proofs.Common.{◌≡◌, ◌≤◌, ◌++◌, length, None}
use Rattle.diameter_avp.specs.Avps.{avps_text}
use Rattle.diameter_message.specs.Writer.{with_avps}
use Rattle.translation.specs.declared.direction.Direction.TheVariants.{Accounting}
use Rattle.translation.specs.Values.{first_bad}
use Rattle.accounting_map.specs.Passing.{nothing, pieces_after}
use Rattle.accounting_map.proofs.requests.put_pieces.Given as goal

-- the pieces so far and those of what is left are all pieces; those of what is left have room, and its values are good
abbrev pub invariant-loop-attribute : goal.invariant-loop-attribute
invariant-loop-attribute l = record {
  list : with_avps l.writer (pieces_after l.packet.attributes l.passed l.attribute-iterator) ≡ with_avps l.initial.writer (pieces_after l.packet.attributes nothing l.packet.attributes);
  room : length (avps_text (l.writer.avps.list ++ pieces_after l.packet.attributes l.passed l.attribute-iterator)) ≤ 65516;
  values : first_bad Accounting l.attribute-iterator ≡ None;
}
