use Rattle.std.proofs.Common.{ℕ, List, length}
use Rattle.diameter_message.specs.Framing.{StandsFor}
use Rattle.transcript.proofs.Streams.InputLemmas.{Given}
use Rattle.transcript.proofs.link_stream.give_messages.Given as goal

abbrev pub invariant-loop-octets : goal.invariant-loop-octets
invariant-loop-octets l =
    (stream : List ℕ) (given : List (List ℕ)) → StandsFor l.initial.framer stream given
    → Given stream given l.framer l.initial.inputs l.inputs

abbrev pub decreases-loop-octets : goal.decreases-loop-octets
decreases-loop-octets l = length l.framer.left
