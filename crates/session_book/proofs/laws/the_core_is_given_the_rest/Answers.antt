use Rattle.std.proofs.Common.{max}
use Rattle.session_book.specs.Places.{now}
use Rattle.session_book.specs.History.{past}
use Rattle.session_book.proofs.LawLemmas as lemmas
use Rattle.session_book.proofs.laws.the_core_is_given_the_rest.Goals as goal

pub returns : goal.returns
returns c = λ config history e. lemmas.passes-on config (past config history) (max (now (past config history)) e.moment) e.input
