-- Parts as code hands them out.
use Rattle.attribute_table.specs.declared.parts.VsaPart.{VsaPart}
use Rattle.attribute_table.specs.Vendors.{VendorPart}

-- a part without where its value lies
abbrev pub part_view : VsaPart → VendorPart
part_view p = record { vendor = p.vendor; code = p.code; body = p.body.now }
