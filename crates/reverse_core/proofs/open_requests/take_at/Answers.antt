use Rattle.std.proofs.Common.{Option, sym, subst}
use Rattle.std.specs.Prelude.{slice_set}
use Rattle.reverse_core.specs.declared.requests.OpenRequest.{OpenRequest}
use Rattle.reverse_core.specs.Windows.{IsSent}
use Rattle.reverse_core.proofs.QueueLemmas.{keeps-set}
use Rattle.reverse_core.proofs.open_requests.take_at.Goals as goal

pub returns-in-Some-clause-sent : goal.returns-in-Some-clause-sent
returns-in-Some-clause-sent c = λ n h.
    subst (λ (s : Option OpenRequest). IsSent n (slice_set c.args.slots.now.items c.args.place s)) (sym c.take.ensures.after) (keeps-set c.args.slots.now.items c.args.place n h)
