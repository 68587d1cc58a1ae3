-- When what the book keeps stands for a history.
use Rattle.std.specs.Prelude.{◌≡◌, ℕ, List}
use Rattle.agent_core.specs.declared.ledger.Ledger.{Ledger as CoreState}
use Rattle.agent_core.specs.Standing as core
use Rattle.session_book.specs.declared.aborts.OpenAbort.{OpenAbort}
use Rattle.session_book.specs.Book.{Row}
use Rattle.session_book.specs.Holding.{Holds}
use Rattle.session_book.specs.Places.{BookEvent, BookPlace, now, core_history, book, open_aborts, count}
use Rattle.session_book.specs.History.{past}

-- what is kept: the core, the entries of the book in whatever order, the open aborts, how many were opened, and the
-- greatest moment
pub record BookState : Type 0 where
  pub core : CoreState
  pub rows : List Row
  pub aborts : List OpenAbort
  pub opened : ℕ
  pub moment : ℕ

-- what is kept stands for these places
pub record BookStandsAt (ps : List BookPlace) (S : BookState) : Type 0 where
  pub core : core.StandsFor S.core (core_history ps)
  pub rows : Holds S.rows (book S.core.config.capacity ps)
  pub aborts : S.aborts ≡ open_aborts ps
  pub opened : S.opened ≡ count ps
  pub moment : S.moment ≡ now ps

-- what is kept stands for the history whose core, entries and open aborts it keeps
abbrev pub BookStandsFor : BookState → List BookEvent → Type 0
BookStandsFor S history = BookStandsAt (past S.core.config history) S
