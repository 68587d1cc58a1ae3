use Rattle.wire_core.proofs.SinkLaws.{Appends-none}
use Rattle.text_commands.proofs.showing.ShowWorkWork.close.Goals as goal

pub returns-clause-closes : goal.returns-clause-closes
returns-clause-closes g c = λ lines shows. Appends-none _
