use Rattle.std.proofs.Common.{Some, refl, sym}
use Rattle.transcript_runs.proofs.SessionLemmas.{begin-at}
use Rattle.transcript_runs.proofs.session.Session.begin.Goals as goal

pub returns-in-Ok-clause-begins : goal.returns-in-Ok-clause-begins
returns-in-Ok-clause-begins g c = λ stage at.
    begin-at g.T.Teller.told (g.T.Teller.telling c.args.self.now.teller) c.args.self.now (record { random = c.args.self.now.random; config = c.take.new.self; core = Some c.in-Ok.core; teller = c.args.self.now.teller }) stage c.in-Some.config c.in-Ok.core at (sym c.in-Some.ensures.value) c.take.ensures.after refl refl c.in-Ok.ensures.config c.in-Ok.ensures.stands
