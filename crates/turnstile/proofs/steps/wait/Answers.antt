use Rattle.std.proofs.Common.{rules, ap, ◌∙◌}
use Rattle.turnstile.proofs.Keeping.{looks}
use Rattle.turnstile.proofs.steps.wait.Goals as goal

pub load-turn-requires : goal.load-turn-requires
load-turn-requires g c = let same = c.loop.invariant.1 in let d = c.requires.drawn in let r = c.requires.ready in (
  search rules,
  search rules,
  looks g.D.Desk.stands _ _ _ _ d.0 (ap (λ m. m.0.stage) same ∙ d.1) (ap (λ m. m.0.told) same ∙ r.0) (ap (λ m. m.1) same ∙ r.1) (search rules),
)
