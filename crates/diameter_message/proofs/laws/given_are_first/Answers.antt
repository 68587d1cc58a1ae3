use Rattle.diameter_message.proofs.StreamLemmas.{given-first}
use Rattle.diameter_message.proofs.laws.given_are_first.Goals as goal

pub returns : goal.returns
returns c = given-first
