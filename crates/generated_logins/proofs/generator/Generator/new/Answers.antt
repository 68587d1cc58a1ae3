-- All lines are to come.
use Rattle.generated_logins.proofs.GeneratorLemmas.{lines_at-start}
use Rattle.generated_logins.proofs.generator.Generator.new.Goals as goal

pub returns : goal.returns
returns c = lines_at-start c.args.count c.args.seed c.next_draw.result c.requires.some c.next_draw.ensures
