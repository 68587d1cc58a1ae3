-- A pass and a list of turns, as contracts see them.
use Rattle.atomic_table.specs.Seated.{TableId}
use Rattle.turnstile.specs.declared.view.Known.{Known}
use Rattle.turnstile.specs.declared.pass.PassOf.{PassOf}

module _ {D A B : Type 0} where
  abbrev pub known : PassOf D A B → Known D A B
  known pass = pass.seat.me.0.known

  -- the table that the pass is of
  abbrev pub table_of : PassOf D A B → TableId
  table_of pass = pass.seat.table_id
