use Rattle.session_book.specs.State.{state_of}
use Rattle.session_book.proofs.Simulation.{book-start}
use Rattle.session_book.proofs.book_core.BookCore.new.Goals as goal

pub invariant_of-result : goal.invariant_of-result
invariant_of-result c =
    book-start (state_of c.in_ok-ledger.ledger) c.in_ok-core.core c.args.config c.in_ok-ledger.ensures c.in_ok-core.ensures.config c.requires c.in_ok-core.ensures.stands
