-- What is read has the form of a list, and a list of this form is read.
use Rattle.test_peers.proofs.UserLemmas.{answers-found, answers-only}
use Rattle.test_peers.proofs.home.Home.new.Goals as goal

pub returns-clause-found : goal.returns-clause-found
returns-clause-found c = answers-found c.read.result c.args.users.now c.read.ensures

pub returns-clause-only : goal.returns-clause-only
returns-clause-only c = answers-only c.read.result c.args.users.now c.read.ensures
