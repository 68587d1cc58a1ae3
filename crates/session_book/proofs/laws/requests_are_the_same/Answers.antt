use Rattle.session_book.specs.Places.{sent_so_far}
use Rattle.session_book.specs.History.{place, past}
use Rattle.session_book.proofs.LawLemmas as lemmas
use Rattle.session_book.proofs.laws.requests_are_the_same.Goals as goal

pub returns : goal.returns
returns c = λ config history e a. (let p = place config (past config history) e in lemmas.same-requests config p.moment a (sent_so_far a (past config history)) p.deed)
