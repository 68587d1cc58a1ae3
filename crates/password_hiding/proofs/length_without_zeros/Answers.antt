use Rattle.std.proofs.Common.{length, ap, sym, ◌∙◌, arith}
use Rattle.std.proofs.lemmas.List.{length-take-le}
use Rattle.password_hiding.proofs.TrimLemmas.{one_less, no_zero}
use Rattle.password_hiding.proofs.length_without_zeros.Goals as goal

pub loop-length-preserved : goal.loop-length-preserved
loop-length-preserved c = record {
  inside = omega (arith, c.loop-length.invariant.inside);
  zeros = one_less c.args.octets.now c.loop-length.length (omega arith) (omega arith) (omega arith) ∙ c.loop-length.invariant.zeros;
}

pub returns-else-octets-length-eq0-clause-octets : goal.returns-else-octets-length-eq0-clause-octets
returns-else-octets-length-eq0-clause-octets c =
    sym (no_zero c.args.octets.now c.loop-length.length c.loop-length-test.true c.loop-length.invariant.inside c.if-octets-length-eq0.false) ∙ c.loop-length.invariant.zeros

pub returns-else-octets-length-eq0-clause-length : goal.returns-else-octets-length-eq0-clause-length
returns-else-octets-length-eq0-clause-length c =
    sym (length-take-le c.loop-length.length c.args.octets.now c.loop-length.invariant.inside) ∙ ap length (returns-else-octets-length-eq0-clause-octets c)
