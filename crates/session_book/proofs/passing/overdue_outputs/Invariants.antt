use Rattle.std.proofs.Common.{◌≡◌, ◌++◌, drop}
use Rattle.std.specs.List.{flat_map}
use Rattle.session_book.specs.History.{overdue}
use Rattle.session_book.proofs.passing.overdue_outputs.Given as goal

-- what was put, and what is left to put
abbrev pub invariant-loop-one : goal.invariant-loop-one
invariant-loop-one l =
    l.outputs.items ++ flat_map (overdue l.config l.moment) (drop l.one-index l.held) ≡ flat_map (overdue l.config l.moment) l.held
