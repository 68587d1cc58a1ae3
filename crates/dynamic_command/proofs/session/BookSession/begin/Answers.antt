use Rattle.std.proofs.Common.{Some, refl, sym}
use Rattle.dynamic_command.proofs.LineLemmas.{begin-at}
use Rattle.dynamic_command.proofs.session.BookSession.begin.Goals as goal

pub returns-in-Ok-clause-begins : goal.returns-in-Ok-clause-begins
returns-in-Ok-clause-begins c = λ stage at.
    begin-at c.args.self.now (record { random = c.args.self.now.random; config = c.take.new.self; book = Some c.in-Ok.book; counts = c.args.self.now.counts }) stage c.in-Some.config c.in-Ok.book at (sym c.in-Some.ensures.value) c.take.ensures.after refl refl c.in-Ok.ensures.config c.in-Ok.ensures.stands
