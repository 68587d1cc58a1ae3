use Rattle.std.proofs.Common.{sym}
use Rattle.test_peers.proofs.LineLemmas.{none-found, piece-found, piece-whole}
use Rattle.test_peers.proofs.lines.cut.Goals as goal

pub returns-in-Some : goal.returns-in-Some
returns-in-Some c = piece-found c.args.separator c.args.octets.now c.in-Some.end (sym c.in-Some.ensures)

pub returns-in-None : goal.returns-in-None
returns-in-None c = piece-whole c.args.separator c.args.octets.now (none-found c.args.separator c.args.octets.now (sym c.in-None.ensures))
