use Rattle.std.proofs.Common.{arith}
use Rattle.reverse_script.proofs.StepLemmas.{long-line}
use Rattle.reverse_script.proofs.work.ReverseWorkWork.too_long.Goals as goal

pub returns : goal.returns
returns c = λ lines octets took long. long-line c.args.self.now lines octets _ took c.number_after.ensures (omega (arith, long))
