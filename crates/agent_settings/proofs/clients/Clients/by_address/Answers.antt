use Rattle.agent_settings.proofs.Keyed.{find_keyed}
use Rattle.agent_settings.proofs.clients.Clients.by_address.Goals as goal

pub returns-in-Some : goal.returns-in-Some
returns-in-Some c =
    rw (← c.self.view_is, find_keyed c.args.address c.self.inside.clients.entries c.self.invariant, ← c.in-Some.ensures.index, ← c.in-Some.ensures.value)

pub returns-in-None : goal.returns-in-None
returns-in-None c =
    rw (← c.self.view_is, find_keyed c.args.address c.self.inside.clients.entries c.self.invariant, ← c.in-None.ensures.index)
