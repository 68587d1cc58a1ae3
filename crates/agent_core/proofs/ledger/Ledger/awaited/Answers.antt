use Rattle.std.proofs.Common.{sym}
use Rattle.agent_core.specs.Machine.{at_moment}
use Rattle.agent_core.proofs.StandingLemmas.Later.{steady-later}
use Rattle.agent_core.proofs.StandingLemmas.Rows.{found-kept}
use Rattle.agent_core.proofs.ledger.Ledger.awaited.Goals as goal

pub returns-in-Some-clause-kept : goal.returns-in-Some-clause-kept
returns-in-Some-clause-kept c =
    let S = c.args.self.now in
    found-kept (at_moment S c.args.moment) c.args.message.now.header.hop c.in-Some.entry.now (steady-later S c.args.moment c.requires)
    (sym (rw (c.link.ensures, c.max.ensures) at c.in-Some.ensures.entry))
