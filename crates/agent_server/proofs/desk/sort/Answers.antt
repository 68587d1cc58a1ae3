use Rattle.std.proofs.Common.{◌≡◌, [], ◌∷◌, ◌++◌, ap, append_assoc, not, sym, vec_capacity, vec_len, ◌∙◌}
use Rattle.agent_server.specs.Runs.{is_send}
use Rattle.agent_server.proofs.SortLemmas.{sorts-in, sorts-past}
use Rattle.agent_server.proofs.desk.sort.Goals as goal

pub loop-output-preserved-then-is_send : goal.loop-output-preserved-then-is_send
loop-output-preserved-then-is_send c =
    let so_far = c.loop-output.invariant in
    let rest = c.next.new.self.rest.items in
    let whole : (c.loop-output.yielded ++ c.in-Some.output ∷ []) ++ rest ≡ c.args.all.items =
    append_assoc c.loop-output.yielded (c.in-Some.output ∷ []) rest ∙ ap (λ l. c.loop-output.yielded ++ l) (sym c.in-Some.ensures.steps.0) ∙ so_far.whole in
    let sent = sym c.is_send.ensures ∙ c.if-is_send.true in
    record {
      whole = whole;
      sends = λ fits. sorts-in is_send _ c.args.sends.now.items c.loop-output.yielded c.loop-output.sends.items c.in-Some.output (vec_len c.loop-output.sends) (vec_capacity c.loop-output.sends)
          (vec_capacity c.put.new.outputs) c.put.new.outputs.items c.args.all.items rest sent c.loop-output.sends.ok.0 c.put.ensures.items c.put.ensures.capacity whole fits (so_far.sends fits);
      others = λ fits. sorts-past (λ o. not (is_send o)) _ c.args.others.now.items c.loop-output.yielded c.loop-output.others.items c.in-Some.output _ (ap not sent) (so_far.others fits);
    }

pub loop-output-preserved : goal.loop-output-preserved
loop-output-preserved c =
    let so_far = c.loop-output.invariant in
    let rest = c.next.new.self.rest.items in
    let whole : (c.loop-output.yielded ++ c.in-Some.output ∷ []) ++ rest ≡ c.args.all.items =
    append_assoc c.loop-output.yielded (c.in-Some.output ∷ []) rest ∙ ap (λ l. c.loop-output.yielded ++ l) (sym c.in-Some.ensures.steps.0) ∙ so_far.whole in
    let other = sym c.is_send.ensures ∙ c.if-is_send.false in
    record {
      whole = whole;
      sends = λ fits. sorts-past is_send _ c.args.sends.now.items c.loop-output.yielded c.loop-output.sends.items c.in-Some.output _ other (so_far.sends fits);
      others = λ fits. sorts-in (λ o. not (is_send o)) _ c.args.others.now.items c.loop-output.yielded c.loop-output.others.items c.in-Some.output (vec_len c.loop-output.others)
          (vec_capacity c.loop-output.others) (vec_capacity c.put-else-is_send.new.outputs) c.put-else-is_send.new.outputs.items c.args.all.items rest (ap not other)
          c.loop-output.others.ok.0 c.put-else-is_send.ensures.items c.put-else-is_send.ensures.capacity whole fits (so_far.others fits);
    }
