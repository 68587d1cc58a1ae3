-- The AVPs that were read say whether the record was taken.
use Rattle.std.proofs.Common.{◌≡◌, Bool, List, Result, Ok, Err, Some, None, ap, ◌∙◌, refl}
use Rattle.std.specs.Prelude.{false}
use Rattle.std.specs.Result.{result_ok}
use Rattle.diameter_avp.specs.Avps.{AvpParts, read_avps}
use Rattle.diameter_avp.specs.declared.fault.AvpFault.{AvpFault}
use Rattle.diameter_message.specs.declared.header.Header.{Header}
use Rattle.session_carrier.specs.declared.kept.Kept.{Kept}
use Rattle.translation.specs.AvpList.{list_view}
use Rattle.translation.specs.Acceptance.{is_acceptance, is_acceptance_in, is_accepted}
use Rattle.translation.proofs.acceptance.is_accepted.Goals as goal

when_read : (kept : Kept) (header : Header) (avps : List AvpParts) (read : Result (List AvpParts) AvpFault) → Some avps ≡ result_ok read → is_acceptance kept header avps ≡ is_acceptance_in kept header read
when_read kept header avps (Ok all) e = let same : avps ≡ all = cc in rw same refl
when_read kept header avps (Err fault) e = absurd cc

when_rotten : (kept : Kept) (header : Header) (read : Result (List AvpParts) AvpFault) → None ≡ result_ok read → false ≡ is_acceptance_in kept header read
when_rotten kept header (Ok avps) e = absurd cc
when_rotten kept header (Err fault) e = refl

pub returns-in-Some : goal.returns-in-Some
unfolding is_accepted
returns-in-Some c =
    let some = rw c.in-Some.is at c.in_ok-list.ensures in
    c.is_acceptance.ensures
    ∙ when_read c.args.kept.now c.args.message.now.header (list_view c.as_slice.result.now) (read_avps c.args.message.now.avps.now) (ap (λ list. Some (list_view list)) c.as_slice.ensures.value ∙ some)

pub returns-in-None : goal.returns-in-None
unfolding is_accepted
returns-in-None c =
    when_rotten c.args.kept.now c.args.message.now.header (read_avps c.args.message.now.avps.now) (rw c.in-None.is at c.in_ok-list.ensures)
