use Rattle.std.proofs.Common.{true, take}
use Rattle.server_workers.specs.LinkWriting.{SentOn}
use Rattle.server_workers.proofs.link_writer.send_each.Given as goal

-- what came so far went out
abbrev pub invariant-loop-output : goal.invariant-loop-output
invariant-loop-output g l = SentOn true (take l.output-index l.outputs) (g.O.LinkOut.told l.initial.link) (g.O.LinkOut.told l.link)
