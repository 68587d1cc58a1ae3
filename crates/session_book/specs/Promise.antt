-- Internal: what a book always keeps.
use Rattle.std.specs.Prelude.{List}
use Rattle.agent_settings.specs.Config.{InLimits}
use Rattle.session_book.specs.Places.{BookEvent}
use Rattle.session_book.specs.Standing.{BookState, BookStandsFor}

pub record IsBook (S : BookState) : Type 0 where
  pub limits : InLimits S.core.config
  pub history : List BookEvent
  pub stands : BookStandsFor S history
