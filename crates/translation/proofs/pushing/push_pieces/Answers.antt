-- What was pushed and what is left is all pieces.
use Rattle.std.proofs.Common.{◌≡◌, true, ap, ◌∙◌, subst, arith}
use Rattle.std.specs.Slice.Iter.{chunks_rest, chunks_size}
use Rattle.translation.specs.Replies.{eap_pieces}
use Rattle.translation.proofs.Pieces.{chunk_turn, pieces_none}
use Rattle.translation.proofs.PushingLemmas.{Leads, leads_begin, leads_step, leads_stop, leads_end, err_false}
use Rattle.translation.proofs.pushing.push_pieces.Goals as goal

pub loop-piece-init : goal.loop-piece-init
loop-piece-init c =
    let all = ap chunks_rest c.into_iter-piece-iterator.ensures.into_iter_gives ∙ c.chunks-piece-items.ensures.rest in
    record {
      size = ap chunks_size c.into_iter-piece-iterator.ensures.into_iter_gives ∙ c.chunks-piece-items.ensures.size;
      leads = rw all (leads_begin c.args.reply.now true (eap_pieces c.args.body.now) c.requires.short);
    }

pub push-requires : goal.push-requires
push-requires c =
    let step = rw c.in-Some.is at c.next.ensures.steps in
    record { value = omega (arith, step.1.1, c.loop-piece.invariant.size) }

pub loop-piece-preserved : goal.loop-piece-preserved
loop-piece-preserved c =
    let step = rw c.in-Some.is at c.next.ensures.steps in
    let turned = chunk_turn (chunks_rest c.loop-piece.piece-iterator) c.in-Some.piece.now (chunks_rest c.next.new.self) _ c.loop-piece.invariant.size step.1.0 step.1.1 step.1.2 in
    record {
      size = step.0 ∙ c.loop-piece.invariant.size;
      leads =
          leads_step _ _ _ _ true _ _ _ _ (subst (λ list. Leads c.args.reply.now c.loop-piece.reply true true (eap_pieces c.args.body.now) list) turned c.loop-piece.invariant.leads) c.in_ok-push.ensures;
    }

pub returns-in_err-push : goal.returns-in_err-push
returns-in_err-push c =
    let step = rw c.in-Some.is at c.next.ensures.steps in
    let turned = chunk_turn (chunks_rest c.loop-piece.piece-iterator) c.in-Some.piece.now (chunks_rest c.next.new.self) _ c.loop-piece.invariant.size step.1.0 step.1.1 step.1.2 in
    rw (err_false c.from_residual.result c.from_residual.ensures.0)
    (leads_stop _ _ _ _ _ true true _ _ _ (subst (λ list. Leads c.args.reply.now c.loop-piece.reply true true (eap_pieces c.args.body.now) list) turned c.loop-piece.invariant.leads) c.in_err-push.ensures)

pub returns : goal.returns
returns c =
    let step = rw c.in-None.is at c.next.ensures.steps in
    leads_end _ _ _ _ (subst (λ list. Leads c.args.reply.now c.loop-piece.reply true true (eap_pieces c.args.body.now) list) (pieces_none (chunks_rest c.loop-piece.piece-iterator) step.1.0) c.loop-piece.invariant.leads)
