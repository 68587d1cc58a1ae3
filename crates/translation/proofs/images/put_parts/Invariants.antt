use Rattle.std.proofs.Common.{◌≡◌, ◌≤◌, ◌++◌, length}
use Rattle.std.specs.Prelude.{map}
use Rattle.diameter_avp.specs.Avps.{avps_text}
use Rattle.diameter_message.specs.Writer.{with_avps}
use Rattle.attribute_table.specs.Vendors.{vendor_parts}
use Rattle.translation.specs.Images.{vendor_avp, vendor_avps}
use Rattle.translation.proofs.images.put_parts.Given as goal

-- the parts so far and those that are left are all parts, and those that are left have room
abbrev pub invariant-loop-part : goal.invariant-loop-part
invariant-loop-part l = record {
  list : with_avps l.writer (map vendor_avp l.part-iterator) ≡ with_avps l.initial.writer (vendor_avps (vendor_parts l.value));
  room : length (avps_text (l.writer.avps.list ++ map vendor_avp l.part-iterator)) ≤ 65516;
}
