use Rattle.transcript.proofs.Records.RecordLemmas.{event-lines-are-read}
use Rattle.transcript.proofs.laws.event_lines_are_read.Goals as goal

pub returns : goal.returns
returns c = event-lines-are-read
