use Rattle.std.proofs.Common.{◌==◌, not, rules}
use Rattle.std.proofs.lemmas.Fn.{filter_same}
use Rattle.session_book.specs.declared.aborts.OpenAbort.{OpenAbort}
use Rattle.session_book.proofs.aborts.Aborts.close.Goals as goal

pub returns : goal.returns
returns c =
    rw (← c.self.view_is)
    (filter_same _ (λ (o : OpenAbort). not (o.abort.number == c.args.number)) _ (λ x b f' h. search rules) _ _ c.retain.ensures.filtered)
