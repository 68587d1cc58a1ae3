use Rattle.std.proofs.Common.{◌++◌, ap, sym, ◌∙◌, append-nil}
use Rattle.server_workers.specs.Entries.{octets_of}
use Rattle.server_workers.proofs.WritingLemmas.{octets-next, octets-none}
use Rattle.server_workers.proofs.link_writer.joined.Goals as goal
use Rattle.server_workers.proofs.link_writer.joined.Goals.{in-Send+in_ok-extend_from_slice, in_default}

pub loop-output-preserved : goal.loop-output-preserved
loop-output-preserved c =
    let so_far = c.loop-output.piece.items in
    let next = octets-next c.args.outputs.now c.loop-output.output-index c.output-item.result so_far c.loop-output-test.true c.output-item.is c.loop-output.invariant in
    elim c.match-output.branch [
      | in-Send+in_ok-extend_from_slice w ↦
          ap (λ v. v.items) w.piece-is ∙ w.in_ok-extend_from_slice.ensures.items
          ∙ ap (λ os. so_far ++ os) (w.as_slice.ensures ∙ sym (ap octets_of w.in-Send.is)) ∙ next
      | in_default w ↦
          ap (λ v. v.items) w.piece-is ∙ sym (append-nil so_far)
          ∙ ap (λ os. so_far ++ os) (sym (octets-none c.output-item.result w.in_default.not-Send)) ∙ next
    ]
