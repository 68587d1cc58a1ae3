-- What is borrowed, without where it lies in memory.
use Rattle.radius_packet.specs.declared.attribute_list.Attribute.{Attribute}
use Rattle.radius_packet.specs.Packet.{AttributeParts}

abbrev pub attribute_view : Attribute → AttributeParts
attribute_view a = record { code = a.code; value = a.value.now }
