use Rattle.std.proofs.Common.{[], ◌∷◌, Some, sym, ap, ◌∙◌}
use Rattle.turnstile.proofs.Keeping.{opens_with}
use Rattle.turnstile.proofs.turnstile.Turnstile.start.Goals as goal

pub new-requires : goal.new-requires
new-requires g c = opens_with g.D.Desk.stands c.of-about.result.value c.in_ok-slots.slots.items (c.in_ok-slots.ensures.ok ∙ ap (λ (d : g.row.D.Denot). Some d ∷ []) (sym c.of-about.ensures))
