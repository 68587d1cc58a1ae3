use Rattle.diameter_message.proofs.StreamLemmas.{Stream-of, Stream-only}
use Rattle.diameter_message.proofs.laws.one_stream.Goals as goal

pub returns-clause-cut : goal.returns-clause-cut
returns-clause-cut c = Stream-of

pub returns-clause-only : goal.returns-clause-only
returns-clause-only c = λ octets messages rest fault is.
    Stream-only octets _ messages _ rest _ fault (Stream-of octets) is
