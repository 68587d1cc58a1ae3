use Rattle.std.proofs.Common.{[], List, ℕ, sym, ap, subst}
use Rattle.diameter_message.specs.Framing.{StandsFor}
use Rattle.std.specs.Prelude.{is_some}
use Rattle.transcript.proofs.Streams.InputLemmas.{no-fault, no-messages}
use Rattle.transcript.proofs.link_stream.LinkStream.new.Goals as goal

pub returns : goal.returns
returns c = record {
  stands = subst (λ (given : List (List ℕ)). StandsFor c.new.result [] given) (sym no-messages) c.new.ensures.stands;
  shown = ap is_some (sym no-fault);
}
