-- One after the other.
use Rattle.std.proofs.Common.{true, not, ◌&&◌}
use Rattle.translation.specs.AvpList.{list_view}
use Rattle.translation.specs.Reading.{has_fault}
use Rattle.translation.proofs.PushingLemmas.{pushes_then, pushes_stop, pushes_short, err_false, and_thrice}
use Rattle.translation.proofs.pushing.push_all.Goals as goal

pub push_images-requires : goal.push_images-requires
push_images-requires c = record { short = pushes_short _ _ _ _ c.in_ok-push_carrier.ensures }

pub push_timeouts-requires : goal.push_timeouts-requires
push_timeouts-requires c = record { short = pushes_short _ _ _ _ c.in_ok-push_images.ensures }

pub push_payload-requires : goal.push_payload-requires
push_payload-requires c = record { short = pushes_short _ _ _ _ c.in_ok-push_timeouts.ensures }

pub returns-in_err-push_images : goal.returns-in_err-push_images
returns-in_err-push_images c =
    rw (err_false c.from_residual-in_err-push_images.result c.from_residual-in_err-push_images.ensures.0, and_thrice (not (c.args.strict && has_fault c.args.class (list_view c.args.list.now))))
    (pushes_stop _ _ _ true _ _ (pushes_stop _ _ _ true _ _ (pushes_stop _ _ _ true _ _ (pushes_then _ _ _ _ _ _ _ _ c.in_ok-push_carrier.ensures c.in_err-push_images.ensures))))

pub returns : goal.returns
returns c =
    rw (and_thrice (not (c.args.strict && has_fault c.args.class (list_view c.args.list.now))))
    (pushes_then _ _ _ _ _ _ _ _ (pushes_then _ _ _ _ _ _ _ _ (pushes_then _ _ _ _ _ _ _ _ (pushes_then _ _ _ _ _ _ _ _ c.in_ok-push_carrier.ensures c.in_ok-push_images.ensures) c.in_ok-push_timeouts.ensures) c.in_ok-push_payload.ensures) c.push_joined.ensures)
