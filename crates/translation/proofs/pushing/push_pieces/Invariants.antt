use Rattle.std.proofs.Common.{◌≡◌, true}
use Rattle.std.specs.Slice.Iter.{chunks_rest, chunks_size}
use Rattle.translation.specs.Replies.{eap_pieces}
use Rattle.translation.proofs.PushingLemmas.{Leads}
use Rattle.translation.proofs.pushing.push_pieces.Given as goal

-- the pieces so far and those of what is left are all pieces
abbrev pub invariant-loop-piece : goal.invariant-loop-piece
invariant-loop-piece l = record {
  size : chunks_size l.piece-iterator ≡ 253;
  leads : Leads l.initial.reply l.reply true true (eap_pieces l.body) (eap_pieces (chunks_rest l.piece-iterator));
}
