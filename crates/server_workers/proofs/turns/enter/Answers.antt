use Rattle.std.proofs.Common.{[], ◌∷◌, sym, subst}
use Rattle.turnstile.specs.Passes.{known}
use Rattle.server_workers.specs.Entries.{turn_of}
use Rattle.server_workers.specs.Going.{SeenLast, Went}
use Rattle.server_workers.proofs.GoingLemmas.{last-by, went-by}
use Rattle.server_workers.proofs.turns.enter.Goals as goal

pub returns-clause-went : goal.returns-clause-went
returns-clause-went g c =
    subst (λ heard. Went (turn_of c.args.input heard ∷ []) (known c.args.pass.now) (known c.visit.new.pass)) (sym c.ok.ensures.value)
    (went-by c.args.input c.visit.result (known c.args.pass.now) (known c.visit.new.pass) c.visit.ensures.turn)

pub returns-clause-last : goal.returns-clause-last
returns-clause-last g c =
    subst (λ heard. SeenLast (turn_of c.args.input heard) (known c.args.pass.now) (known c.visit.new.pass)) (sym c.ok.ensures.value)
    (last-by c.args.input c.visit.result (known c.args.pass.now) (known c.visit.new.pass) c.visit.ensures.turn)
