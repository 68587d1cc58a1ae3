-- What the list comes to decides, and then the octets are the text of the longer list.
use Rattle.std.proofs.Common.{◌++◌, refl, ap, ◌∙◌, arith}
use Rattle.std.proofs.lemmas.Result.{err_from_is_err_and}
use Rattle.diameter_avp.specs.Avps.{avp_text}
use Rattle.diameter_avp.specs.View.{avp_view}
use Rattle.diameter_avp.proofs.CallerLemmas.{length-avp_text}
use Rattle.diameter_avp.proofs.WriterLemmas.{length-with_avp, IsWritten-put}
use Rattle.diameter_avp.proofs.writer.AvpWriter.put.Goals as goal

pub returns-then-size-len-clause-too_long : goal.returns-then-size-len-clause-too_long
returns-then-size-len-clause-too_long c =
    let whole = length-with_avp c.self.inside.front c.self.inside.octets.items _ _ _ c.self.view_is c.self.invariant c.make_avp-avp.ensures in
    (λ _. omega arith, λ _. refl)

pub returns-in_err-reserve-clause-too_long : goal.returns-in_err-reserve-clause-too_long
returns-in_err-reserve-clause-too_long c =
    let whole = length-with_avp c.self.inside.front c.self.inside.octets.items _ _ _ c.self.view_is c.self.invariant c.make_avp-avp.ensures in
    let p = err_from_is_err_and c.from_residual.result c.from_residual.ensures.1 in
    rw (p.1, p.2) (λ e. absurd cc, λ long. absurd (omega arith))

pub append_avp-requires-clause-room : goal.append_avp-requires-clause-room
append_avp-requires-clause-room c =
    omega (arith, c.in_ok-reserve.ensures.ok, length-avp_text (avp_view c.make_avp-avp.result))

pub invariant_of-self-2 : goal.invariant_of-self-2
invariant_of-self-2 c =
    let grown = c.append_avp.ensures ∙ ap (λ octets. octets ++ avp_text (avp_view c.make_avp-avp.result)) c.reserve.ensures.items in
    (IsWritten-put c.self.inside.front c.self.inside.octets.items c.append_avp.new.octets.items _ _ _ _ _ _ c.self.view_is c.self.invariant c.make_avp-avp.ensures c.ranges.code.fits c.length_of-length.ensures.vendor (omega arith) grown).0

pub returns-clause-ok : goal.returns-clause-ok
returns-clause-ok c =
    let grown = c.append_avp.ensures ∙ ap (λ octets. octets ++ avp_text (avp_view c.make_avp-avp.result)) c.reserve.ensures.items in
    (IsWritten-put c.self.inside.front c.self.inside.octets.items c.append_avp.new.octets.items _ _ _ _ _ _ c.self.view_is c.self.invariant c.make_avp-avp.ensures c.ranges.code.fits c.length_of-length.ensures.vendor (omega arith) grown).1

pub returns-clause-too_long : goal.returns-clause-too_long
returns-clause-too_long c =
    let whole = length-with_avp c.self.inside.front c.self.inside.octets.items _ _ _ c.self.view_is c.self.invariant c.make_avp-avp.ensures in
    (λ e. absurd cc, λ long. absurd (omega arith))
