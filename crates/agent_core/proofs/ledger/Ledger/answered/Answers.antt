-- The client at a place of the settings is in limits.
use Rattle.std.proofs.Common.{sym}
use Rattle.agent_core.proofs.ledger.Ledger.answered.Goals as goal

pub outcome-requires-clause-client : goal.outcome-requires-clause-client
outcome-requires-clause-client c =
    c.clients_are_in_limits.ensures c.args.self.now.config _ c.at-client.result.now c.requires.limits (sym c.at-client.ensures)
