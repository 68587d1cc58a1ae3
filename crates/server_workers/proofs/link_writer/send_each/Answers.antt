use Rattle.std.proofs.Common.{◌+◌}
use Rattle.server_workers.proofs.WritingLemmas.{sent-next, sent-stopped}
use Rattle.server_workers.proofs.link_writer.send_each.Goals as goal

pub returns-then-not-send_one : goal.returns-then-not-send_one
returns-then-not-send_one g c =
    sent-stopped c.args.outputs.now (c.loop-output.output-index + 1) _ _
    (sent-next _ c.args.outputs.now c.loop-output.output-index c.output-item.result _ _ _ c.loop-output-test.true c.output-item.is
    c.loop-output.invariant c.if-not-send_one.ensures)

pub loop-output-preserved : goal.loop-output-preserved
loop-output-preserved g c =
    sent-next _ c.args.outputs.now c.loop-output.output-index c.output-item.result _ _ _ c.loop-output-test.true c.output-item.is
    c.loop-output.invariant c.if-not-send_one.ensures
