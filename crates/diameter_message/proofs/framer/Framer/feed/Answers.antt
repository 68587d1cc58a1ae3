use Rattle.diameter_message.proofs.StreamLemmas.{fed-stands}
use Rattle.diameter_message.proofs.framer.Framer.feed.Goals as goal

pub returns-clause-stands : goal.returns-clause-stands
returns-clause-stands c = λ octets given s. fed-stands c.take_piece.result _ _ _ octets given c.take_piece.ensures.ok s
