-- AVPs as code hands them out.
use Rattle.std.specs.Prelude.{Result, Ok, Err}
use Rattle.diameter_avp.specs.declared.avp.Avp.{Avp}
use Rattle.diameter_avp.specs.declared.fault.AvpFault.{AvpFault}
use Rattle.diameter_avp.specs.Avps.{AvpParts}

-- an AVP without where its body lies
abbrev pub avp_view : Avp → AvpParts
avp_view a = record { code = a.code; flags = a.flags; vendor = a.vendor; body = a.body.now }

abbrev pub item_view : Result Avp AvpFault → Result AvpParts AvpFault
item_view (Ok a) = Ok (avp_view a)
item_view (Err fault) = Err fault
