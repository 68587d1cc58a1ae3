use Rattle.diameter_message.proofs.StreamLemmas.{next-stands, next-is_next}
use Rattle.diameter_message.proofs.framer.Framer.next_message.Goals as goal

pub returns-clause-stands : goal.returns-clause-stands
returns-clause-stands c = λ octets given s.
    next-stands c.take_next.result _ _ octets given c.take_next.ensures.value c.take_next.ensures.ok s

pub returns-clause-stream : goal.returns-clause-stream
returns-clause-stream c = λ octets rest given messages fault s is.
    next-is_next c.take_next.result _ octets rest given messages fault c.take_next.ensures.value s is
