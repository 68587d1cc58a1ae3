use Rattle.std.proofs.Common.{rules}
use Rattle.turnstile.proofs.Keeping.{draws}
use Rattle.turnstile.proofs.steps.draw.Goals as goal

pub fetch_add-requires : goal.fetch_add-requires
fetch_add-requires g c = (search rules, search rules, draws g.D.Desk.stands _ _ _ _ c.requires.idle.0 c.requires.idle.1)
