use Rattle.std.proofs.Common.{[], ◌∷◌, Some, None, inr, refl}
use Rattle.agent_events.specs.declared.events.Input.TheVariants.{Drain, Leave}
use Rattle.server_workers.proofs.GoingLemmas.{went-on}
use Rattle.server_workers.proofs.running.leave.Goals as goal

pub returns-in_default-enter-clause-left : goal.returns-in_default-enter-clause-left
returns-in_default-enter-clause-left g c = (
  Some (Leave, c.in-Some.field-0) ∷ None ∷ [],
  went-on (Some (Leave, c.in-Some.field-0) ∷ []) (None ∷ []) _ _ _ c.in-Some.ensures.went c.in_default-enter.ensures.went,
  inr (c.in-Some.field-0, refl),
)

pub returns-clause-left : goal.returns-clause-left
returns-clause-left g c =
    let left = c.in-Some.field-0 in
    let last = c.in-Some-enter.field-0 in (
      Some (Leave, left) ∷ Some (Drain, last) ∷ [],
      went-on (Some (Leave, left) ∷ []) (Some (Drain, last) ∷ []) _ _ _ c.in-Some.ensures.went c.in-Some-enter.ensures.went,
      (left, last, refl),
    )
