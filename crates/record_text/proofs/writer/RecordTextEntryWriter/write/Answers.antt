use Rattle.std.proofs.Common.{true, false}
use Rattle.record_text.proofs.LineLemmas.{failed-none, none-failed, stays-cut, wrote-more}
use Rattle.record_text.proofs.writer.RecordTextEntryWriter.write.Goals as goal

pub returns-then-self-gt0-clause-wrote : goal.returns-then-self-gt0-clause-wrote
returns-then-self-gt0-clause-wrote g c = λ base before stood.
    stays-cut c.args.self.now.faults c.saturating_add-self.result before c.args.entries.now base.written (g.K.Sink.written c.args.self.now.sink) c.if-self-gt0.true c.saturating_add-self.ensures stood

pub returns-else-write_lines-clause-wrote : goal.returns-else-write_lines-clause-wrote
returns-else-write_lines-clause-wrote g c = λ base before stood.
    wrote-more true before c.args.entries.now base.written (g.K.Sink.written c.args.self.now.sink) (g.K.Sink.written c.write_lines.new.sink)
    (none-failed c.args.self.now.faults before base.written (g.K.Sink.written c.args.self.now.sink) c.if-self-gt0.false stood) c.if-write_lines.ensures

pub returns-then-write_lines-clause-wrote : goal.returns-then-write_lines-clause-wrote
returns-then-write_lines-clause-wrote g c = λ base before stood.
    failed-none c.args.self.now.faults _ base.written (g.K.Sink.written c.write_lines.new.sink) c.if-self-gt0.false
    (wrote-more false before c.args.entries.now base.written (g.K.Sink.written c.args.self.now.sink) (g.K.Sink.written c.write_lines.new.sink)
    (none-failed c.args.self.now.faults before base.written (g.K.Sink.written c.args.self.now.sink) c.if-self-gt0.false stood) c.if-write_lines.ensures)
