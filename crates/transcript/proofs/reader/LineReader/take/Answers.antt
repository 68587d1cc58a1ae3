use Rattle.transcript.proofs.reader.LineReader.take.Goals as goal

pub returns-in-Err-clause-takes : goal.returns-in-Err-clause-takes
returns-in-Err-clause-takes c = λ at reading. rw (c.refuse.ensures.same, c.refuse.ensures.position) (c.in-Err.ensures at reading.position, tt)
