use Rattle.std.proofs.Common.{ap}
use Rattle.std.specs.Bool.{then_some}
use Rattle.agent_status.specs.declared.status.Status.TheVariants.{LinkFault}
use Rattle.server_workers.proofs.workers.WorkerJob.run.Goals as goal

pub returns-in-Link : goal.returns-in-Link
returns-in-Link g c =
    rw (c.in-Link.is, c.link_ended.ensures) (
      c.read_link-end.ensures.table,
      ap (λ failed. then_some failed LinkFault) c.read_link-end.ensures.failed,
      c.read_link-end.ensures.reads,
    )
