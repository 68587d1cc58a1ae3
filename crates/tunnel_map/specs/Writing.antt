-- A list of AVPs in which a group is written.
use Rattle.std.specs.Prelude.{◌≡◌, List, ◌++◌}
use Rattle.diameter_avp.specs.Avps.{AvpParts}
use Rattle.diameter_avp.specs.Writer.{WriterParts}

abbrev pub with_avps : WriterParts → List AvpParts → WriterParts
with_avps w avps = record w { list = w.list ++ avps }

-- what stood in the list stands there, perhaps with more behind it
pub record Extends (old new : WriterParts) : Type 0 where
  pub more : List AvpParts
  pub list : new ≡ with_avps old more
