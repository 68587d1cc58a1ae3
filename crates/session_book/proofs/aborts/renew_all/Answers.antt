use Rattle.std.proofs.Common.{sym, ◌∙◌, ap}
use Rattle.std.proofs.Math.ListN.{set}
use Rattle.std.proofs.lemmas.List.Edits.{map_over_more}
use Rattle.session_book.specs.declared.aborts.OpenAbort.{OpenAbort}
use Rattle.session_book.specs.Aborts.{renewed}
use Rattle.session_book.proofs.aborts.renew_all.Goals as goal

pub loop-held-preserved : goal.loop-held-preserved
loop-held-preserved c =
    ap (λ (x : OpenAbort). set c.loop-held.list c.loop-held.held-index x) (c.renew.ensures ∙ ap (renewed c.args.moment) (sym c.held-item.is))
    ∙ map_over_more (renewed c.args.moment) c.args.list.now c.loop-held.list c.loop-held.held-index c.held-item.result c.loop-held-test.true c.loop-held.invariant c.held-item.is
