use Rattle.std.proofs.Common.{arith}
use Rattle.text_commands.proofs.ShowLemmas.{long-line}
use Rattle.text_commands.proofs.showing.ShowWorkWork.too_long.Goals as goal

pub returns : goal.returns
returns c = λ lines octets shows long. long-line lines octets _ c.args.self.now shows c.number_after.ensures (omega (arith, long))
