use Rattle.std.proofs.Common.{arith}
use Rattle.std.proofs.lemmas.Grind.{common_steps}
use Rattle.radius_packet.proofs.Signing.{completed_packet}
use Rattle.radius_packet.proofs.answering.Reply.finish_request.Goals as goal

pub returns-clause-text : goal.returns-clause-text
returns-clause-text c = grind (arith, common_steps)

pub returns-clause-packet : goal.returns-clause-packet
returns-clause-packet c = completed_packet c.args.secret.now _ _ c.self.inside.sealed c.args.self c.self.invariant.0 c.self.view_is (returns-clause-text c)
