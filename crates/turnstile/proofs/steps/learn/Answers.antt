use Rattle.std.proofs.Common.{rules}
use Rattle.turnstile.proofs.Keeping.{learns}
use Rattle.turnstile.proofs.steps.learn.Goals as goal

pub load-requires : goal.load-requires
load-requires g c = (search rules, search rules, learns g.D.Desk.stands _ _ _ _ c.requires.idle.0 c.requires.idle.1)
