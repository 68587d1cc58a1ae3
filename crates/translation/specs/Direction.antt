-- Which attributes are copied into a request (profile).
use Rattle.std.specs.Prelude.{Bool}
use Rattle.attribute_table.specs.declared.row.Row.{Row}
use Rattle.translation.specs.declared.direction.Direction.{Direction}
use Rattle.translation.specs.declared.direction.Direction.TheVariants.{Access, Accounting}

abbrev pub goes : Direction → Row → Bool
goes Access row = row.access
goes Accounting row = row.accounting
