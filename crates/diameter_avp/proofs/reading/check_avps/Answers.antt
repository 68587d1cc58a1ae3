-- The clauses on `IsAvps` follow from the exact one.
use Rattle.std.proofs.Common.{rules, ◌≡◌, None, ap, ◌∙◌, arith}
use Rattle.diameter_avp.specs.Avps.{avps_fault, readable_avps, unless_fault}
use Rattle.diameter_avp.proofs.TextLemmas.{AreOctets-from, avps_fault-IsAvps, IsAvps-readable}
use Rattle.diameter_avp.proofs.reading.check_avps.Goals as goal

pub returns-in_err-item-clause-only : goal.returns-in_err-item-clause-only
returns-in_err-item-clause-only c = λ avps is.
    let exact : c.from_residual.result ≡ unless_fault (avps_fault c.args.octets.now) tt = search rules in
    exact ∙ ap (λ fault. unless_fault fault tt) (avps_fault-IsAvps _ avps is)

pub returns-clause-found : goal.returns-clause-found
returns-clause-found c =
    let none : avps_fault c.args.octets.now ≡ None = search rules in
    (readable_avps c.args.octets.now, IsAvps-readable _ (AreOctets-from _ (λ i. omega (arith, c.type_inv.octets i))) none)
