use Rattle.std.proofs.Common.{rules, ◌∷◌, sym, ap, ◌∙◌, Some}
use Rattle.atomic_table.specs.Table.{rest}
use Rattle.turnstile.proofs.steps.serve.Goals as goal

pub exchange-requires : goal.exchange-requires
exchange-requires g c = let h = c.requires.hand in (search rules, (Some h.0, h.1 ∙ ap (λ cs. (0, Some h.0) ∷ rest cs) (sym h.1)))
