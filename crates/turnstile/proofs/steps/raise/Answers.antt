use Rattle.std.proofs.Common.{rules}
use Rattle.turnstile.proofs.Keeping.{raises}
use Rattle.turnstile.proofs.steps.raise.Goals as goal

pub fetch_add-requires : goal.fetch_add-requires
fetch_add-requires g c = let s = c.requires.serves in let h = c.requires.hand in (search rules, search rules, raises g.D.Desk.stands _ _ _ _ g.T.Turned.turn s.0 h.0 s.1 s.3 h.1 h.2)
