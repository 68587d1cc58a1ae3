use Rattle.std.proofs.Common.{subst}
use Rattle.reverse_core.specs.declared.considering.Considered.{Considered}
use Rattle.reverse_core.specs.Considering.{Considers}
use Rattle.reverse_core.specs.History.{on_request}
use Rattle.reverse_core.specs.State.{kept_in, state_of}
use Rattle.reverse_core.proofs.Taking.{may-take}
use Rattle.reverse_core.proofs.ledger.Ledger.request.Goals as goal

pub take-requires-clause-may : goal.take-requires-clause-may
take-requires-clause-may c =
    let l = c.args.self.now in
    let ks = kept_in (state_of l) c.args.moment in
    let o = on_request l.own l.open_ones.list ks l.open_ones.next c.args.octets.now c.args.random in
    let considers = subst (λ (x : Considered). Considers o x) c.in-Takes.is c.in_ok-output.ensures in
    may-take l.own l.open_ones.list ks l.open_ones.next c.args.octets.now c.args.random c.in-Takes.taken considers.1
