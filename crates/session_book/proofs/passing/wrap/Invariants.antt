use Rattle.std.proofs.Common.{◌≡◌, ◌+◌, ◌++◌, map, length}
use Rattle.std.specs.Prelude.{vec_len, vec_capacity}
use Rattle.std.specs.Vec.Iter.{into_iter_items}
use Rattle.session_book.specs.declared.events.BookOutput.TheVariants.{Core}
use Rattle.session_book.proofs.passing.wrap.Given as goal

-- what was put, and what is left to put
abbrev pub invariant-loop-output : goal.invariant-loop-output
invariant-loop-output l = record {
  items : l.outputs.items ++ map Core (into_iter_items l.output-iterator) ≡ l.fn.outputs.items ++ map Core l.fn.from_core;
  len : vec_len l.outputs + length (into_iter_items l.output-iterator) ≡ vec_len l.fn.outputs + length l.fn.from_core;
  capacity : vec_capacity l.outputs ≡ vec_capacity l.fn.outputs;
}
