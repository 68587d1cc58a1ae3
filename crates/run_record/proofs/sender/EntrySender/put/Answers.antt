use Rattle.std.proofs.Common.{refl}
use Rattle.run_record.proofs.RecordingLemmas.{sender-on}
use Rattle.run_record.proofs.sender.EntrySender.put.Goals as goal

pub invariant_of-self : goal.invariant_of-self
invariant_of-self g c = sender-on _ c.self.inside.pass c.ask-entries.new.pass _ c.ask-entries.result refl c.ask-entries.ensures.table c.ask-entries.ensures.asked c.self.invariant
