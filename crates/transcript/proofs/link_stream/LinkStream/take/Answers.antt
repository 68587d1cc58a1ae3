use Rattle.std.proofs.Common.{◌++◌}
use Rattle.diameter_message.specs.Framing.{messages_of}
use Rattle.transcript.proofs.Streams.InputLemmas.{cut-after, cut-inputs}
use Rattle.transcript.proofs.link_stream.LinkStream.take.Goals as goal

pub returns-clause-inputs : goal.returns-clause-inputs
returns-clause-inputs c = λ stream cut.
    let fed = c.in_ok-feed.ensures.stands stream _ cut.stands in
    cut-inputs stream c.args.octets.now c.args.self.now.is_broken c.args.self.now.framer _ _ _ _ _ cut
    (c.in_ok-fault.ensures (stream ++ c.args.octets.now) (messages_of stream) fed) c.new-inputs.ensures c.in_ok-tell.ensures

pub returns-clause-cut : goal.returns-clause-cut
returns-clause-cut c = λ stream cut.
    let fed = c.in_ok-feed.ensures.stands stream _ cut.stands in
    rw c.is_some-self.ensures (cut-after (stream ++ c.args.octets.now) (messages_of stream) _ _ _ _ (c.in_ok-fault.ensures (stream ++ c.args.octets.now) (messages_of stream) fed))
