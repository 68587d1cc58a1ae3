use Rattle.std.proofs.Common.{ap, sym}
use Rattle.reverse_core.specs.declared.events.ReverseOutput.TheVariants.{Dropped}
use Rattle.reverse_core.specs.declared.events.ReverseReason.TheVariants.{StrangeReply}
use Rattle.reverse_core.specs.History.{on_packet, on_reply}
use Rattle.reverse_core.specs.Requests.{Nothing}
use Rattle.reverse_core.specs.State.{state_of}
use Rattle.reverse_core.proofs.ReplyLemmas.{leads-said}
use Rattle.reverse_core.proofs.ledger.Ledger.reply.Goals as goal

pub returns-in-Err-clause-ok : goal.returns-in-Err-clause-ok
returns-in-Err-clause-ok c =
    let l = c.args.self.now in
    leads-said c.say.result c.args.moment (on_reply l.own l.open_ones.list c.args.octets.now) (Dropped StrangeReply) (state_of l) (state_of c.say.new.self)
    (ap (on_packet l.own l.open_ones.list) (sym c.in-Err.ensures.exact)) c.say.ensures.outputs (c.say.ensures.state Nothing tt)
