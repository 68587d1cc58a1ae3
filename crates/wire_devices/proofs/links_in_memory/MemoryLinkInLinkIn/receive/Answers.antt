use Rattle.wire_devices.proofs.LinkLaws.{hears-counted}
use Rattle.wire_devices.proofs.links_in_memory.MemoryLinkInLinkIn.receive.Goals as goal

pub returns-clause-hears : goal.returns-clause-hears
returns-clause-hears c =
    rw (← c.self.view_is) (hears-counted c.receive.result c.self.inside.link c.receive.new.self c.self.inside.faults c.receive.new.buf c.receive.ensures.hears)
