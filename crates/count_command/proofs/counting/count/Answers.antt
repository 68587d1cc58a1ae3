-- The counter that was made tells by this time between blocks.
use Rattle.std.proofs.Common.{◌≡◌, None, ◌∙◌, subst, sym}
use Rattle.text_commands.specs.Tasks.{EndsBy}
use Rattle.text_lines.specs.Words.{lines_of}
use Rattle.count_command.specs.declared.counter.Counter.{Counter}
use Rattle.count_command.specs.Count.{count_task}
use Rattle.count_command.proofs.counting.count.Goals as goal

pub returns-clause-ends : goal.returns-clause-ends
returns-clause-ends g c = λ X left.
    subst (λ (counter : Counter). EndsBy (count_task counter.millis) c.follow_transcript.result X (g.S.Source.left c.follow_transcript.new.input)
    (g.K.Sink.written c.args.output.now) (g.K.Sink.written c.follow_transcript.new.output))
    (c.new-2.ensures.teller ∙ c.new.ensures) (c.follow_transcript.ensures.ends X left)

pub returns-clause-complete : goal.returns-clause-complete
returns-clause-complete g c = λ X left none.
    c.follow_transcript.ensures.complete X left
    (subst (λ (counter : Counter). (count_task counter.millis).stop (lines_of X) ≡ None) (sym (c.new-2.ensures.teller ∙ c.new.ensures)) none)
