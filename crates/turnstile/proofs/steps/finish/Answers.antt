use Rattle.std.proofs.Common.{rules, ◌∷◌, sym, ap, ◌∙◌, Some}
use Rattle.atomic_table.specs.Table.{rest}
use Rattle.turnstile.proofs.Keeping.{finishes}
use Rattle.turnstile.proofs.steps.finish.Goals as goal

pub load-requires : goal.load-requires
load-requires g c = let w = c.requires.waits in (search rules, search rules, finishes g.D.Desk.stands _ _ _ _ w.0 w.1 c.requires.all.0 c.requires.all.1)

pub exchange-requires : goal.exchange-requires
exchange-requires g c = let t = c.load.ensures.2.2 in (search rules, (Some t.0, t.1 ∙ ap (λ cs. (0, Some t.0) ∷ rest cs) (sym t.1)))
