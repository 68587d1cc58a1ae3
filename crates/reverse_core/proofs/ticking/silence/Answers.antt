use Rattle.std.proofs.Common.{sym, subst}
use Rattle.std.specs.Prelude.{IsSome}
use Rattle.std.proofs.lemmas.Result.{IfOk-weaker}
use Rattle.reverse_map.specs.Asked.{request_in}
use Rattle.reverse_core.proofs.ConsiderLemmas.{some-of}
use Rattle.reverse_core.proofs.ReplyLemmas.{message-long}
use Rattle.reverse_core.proofs.ticking.silence.Goals as goal

pub returns-clause-long : goal.returns-clause-long
returns-clause-long c =
    let found = some-of _ (subst (λ l. IsSome (request_in l)) (sym c.as_slice.ensures.value) c.as_slice.ensures.asks) in
    IfOk-weaker c.refuse.result _ _ (λ o is. message-long is) (c.refuse.ensures.message found.0 found.1)
