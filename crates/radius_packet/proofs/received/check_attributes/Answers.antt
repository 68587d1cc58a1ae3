use Rattle.std.proofs.Common.{◌+◌, drop, get_or, sym, ap, ◌∙◌, arith}
use Rattle.std.specs.Result.{result_err}
use Rattle.std.proofs.lemmas.List.{length-drop, get_or-drop, drop-drop, drop_all}
use Rattle.radius_packet.specs.Packet.{read_attributes}
use Rattle.radius_packet.proofs.Reading.{fault_in, goes_on, ends_short, ends_low, ends_high}
use Rattle.radius_packet.proofs.received.check_attributes.Goals as goal
use Rattle.radius_packet.proofs.received.check_attributes.Goals.{then-size-lt2-via-then-size-lt2, then-size-lt2-via-else-size-lt2+then-octets-place}

pub returns-then-octets-place-lt2 : goal.returns-then-octets-place-lt2
returns-then-octets-place-lt2 c =
    sym (ap result_err (ends_short _ _ (omega (arith, length-drop c.loop-place.place c.args.octets.now)))) ∙ c.loop-place.invariant

pub returns-then-size-lt2 : goal.returns-then-size-lt2
returns-then-size-lt2 c =
    let len = length-drop c.loop-place.place c.args.octets.now in
    let size = get_or-drop c.loop-place.place c.args.octets.now 1 0 in
    elim c.then-size-lt2.branch [
      | then-size-lt2-via-then-size-lt2 w ↦ sym (ap result_err (ends_low _ _ (omega arith) (omega arith))) ∙ c.loop-place.invariant
      | then-size-lt2-via-else-size-lt2+then-octets-place w ↦ sym (ap result_err (ends_high _ _ (omega arith) (omega arith))) ∙ c.loop-place.invariant
    ]

pub loop-place-preserved : goal.loop-place-preserved
loop-place-preserved c =
    let xs = drop c.loop-place.place c.args.octets.now in
    let size = get_or c.args.octets.now (c.loop-place.place + 1) 0 in
    let len = length-drop c.loop-place.place c.args.octets.now in
    let at = get_or-drop c.loop-place.place c.args.octets.now 1 0 in
    let on = goes_on xs c.loop-place.place size (omega arith) (sym at) (omega arith) (omega arith) in
    ap (λ ys. fault_in ys (c.loop-place.place + size)) (sym (drop-drop size c.loop-place.place c.args.octets.now)) ∙ sym on ∙ c.loop-place.invariant

pub returns : goal.returns
unfolding read_attributes
returns c =
    let none = drop_all c.loop-place.place c.args.octets.now c.loop-place-test.false in
    sym (ap (λ ys. fault_in ys c.loop-place.place) none) ∙ c.loop-place.invariant
