use Rattle.std.proofs.Common.{◌≡◌, ◌≤◌, List, ◌++◌, length}
use Rattle.indexmap.specs.IndexMap.{spare}
use Rattle.pending_table.specs.Merged.{Held}
use Rattle.pending_table.specs.Relinked.{LeadsTo}
use Rattle.pending_table.proofs.stores.refill.Given as goal

-- the index leads to the rows before those to come, for which there is room
abbrev pub invariant-loop-serial : goal.invariant-loop-serial
invariant-loop-serial l =
    (goal.iterator-loop-serial).can_next l.serial-iterator
    × (goal.iterator-loop-serial).is_finite l.serial-iterator
    × (length l.serial-iterator ≤ spare l.numbers)
    × ((done : List Held) × (l.waiting.entries ≡ done ++ l.serial-iterator) × LeadsTo done l.numbers)
