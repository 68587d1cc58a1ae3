use Rattle.run_record.proofs.QueueLemmas.{holds-on}
use Rattle.run_record.proofs.queue.QueueDesk.step.Goals as goal

pub returns-clause-turn : goal.returns-clause-turn
returns-clause-turn g c = λ base turns h. holds-on c.args.self.now c.act-entries.new.self turns c.args.ask _ c.act-entries.ensures h
