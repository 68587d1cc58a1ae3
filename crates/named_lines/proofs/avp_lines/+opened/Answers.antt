use Rattle.std.proofs.Common.{rules}
use Rattle.named_lines.proofs.ListLemmas.{by-items}
use Rattle.named_lines.proofs.avp_lines.+opened.Goals as goal

pub push_avps-returns : goal.push_avps-returns
push_avps-returns t c = rw (by-items c.args.depth c.args.indent c.args.octets.now) (search rules)
