use Rattle.std.proofs.Common.{refl, sym, subst, ◌≤◌}
use Rattle.reverse_core.proofs.LedgerLemmas.{sound-later}
use Rattle.reverse_core.proofs.StillLemmas.{done-still}
use Rattle.reverse_core.proofs.ledger.Ledger.say.Goals as goal

pub returns-clause-state : goal.returns-clause-state
returns-clause-state c = λ d still.
    done-still c.args.self.now (record c.purge.new.self { moment = c.args.moment }) c.args.moment d still
    c.purge.ensures.own c.purge.ensures.open_ones c.purge.ensures.kept refl

pub returns-clause-sound : goal.returns-clause-sound
returns-clause-sound c =
    sound-later c.purge.new.self c.args.moment c.purge.ensures.sound
    (subst (λ t. t ≤ c.args.moment) (sym c.purge.ensures.moment) c.requires.late)
