-- A reply with a key is refused.
use Rattle.std.proofs.Common.{ℕ, List, IfOk, sym, subst, ◌∙◌, ◌≡◌}
use Rattle.reverse_map.proofs.HeadLemmas.{key_answer}
use Rattle.reverse_map.proofs.answers.answer_to.Goals as goal

pub returns-then-has_key-clause-exact : goal.returns-then-has_key-clause-exact
returns-then-has_key-clause-exact c = λ q e.
    subst (λ (text : List ℕ). IfOk c.refusal.result (λ o. o ≡ text))
    (key_answer c.args.own.now q c.args.reply.now (sym c.has_key.ensures ∙ c.if-has_key.true)) (c.refusal.ensures.exact q e)
