use Rattle.std.proofs.Common.{arith, ap, length}
use Rattle.wire_core.proofs.NumberLemmas.{length-u32}
use Rattle.diameter_avp.specs.Avps.{vendor_text}
use Rattle.diameter_avp.proofs.append.append_vendor.Goals as goal

pub append_u32-requires : goal.append_u32-requires
append_u32-requires c =
    omega (arith, ap (λ vendor. length (vendor_text vendor)) c.in-Some.is, length-u32 c.in-Some.vendor)
