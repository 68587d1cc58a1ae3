use Rattle.std.proofs.Common.{◌≡◌, drop}
use Rattle.session_book.specs.History.{first_answered, said_to}
use Rattle.session_book.proofs.ledger.first_answered.Given as goal

-- the first in what is left is the first of all
abbrev pub invariant-loop-one : goal.invariant-loop-one
invariant-loop-one l =
    first_answered (said_to l.config l.address l.port l.octets) (drop l.one-index l.held)
    ≡ first_answered (said_to l.config l.address l.port l.octets) l.held
