-- AVPs as code keeps them.
use Rattle.std.specs.Prelude.{List, map}
use Rattle.diameter_avp.specs.declared.avp.Avp.{Avp}
use Rattle.diameter_avp.specs.Avps.{AvpParts}
use Rattle.diameter_avp.specs.View.{avp_view}

-- without where their bodies lie
abbrev pub list_view : List Avp → List AvpParts
list_view list = map avp_view list
