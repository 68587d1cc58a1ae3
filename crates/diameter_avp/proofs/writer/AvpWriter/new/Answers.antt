use Rattle.std.proofs.Common.{◌++◌, ap, ◌∙◌}
use Rattle.diameter_avp.proofs.WriterLemmas.{IsWritten-new}
use Rattle.diameter_avp.proofs.writer.AvpWriter.new.Goals as goal

pub invariant_of-result : goal.invariant_of-result
invariant_of-result c =
    let items = c.in_ok-extend_from_slice.ensures.items ∙ ap (λ octets. octets ++ c.args.front.now) c.in_ok-octets.ensures.items in
    (IsWritten-new c.args.front.now c.extend_from_slice.new.self.items items c.requires).0

pub returns : goal.returns
returns c =
    let items = c.in_ok-extend_from_slice.ensures.items ∙ ap (λ octets. octets ++ c.args.front.now) c.in_ok-octets.ensures.items in
    (IsWritten-new c.args.front.now c.extend_from_slice.new.self.items items c.requires).1
