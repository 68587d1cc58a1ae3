use Rattle.transcript.proofs.Records.RecordText.{records-are-transcripts}
use Rattle.transcript.proofs.laws.records_are_transcripts.Goals as goal

pub returns : goal.returns
returns c = records-are-transcripts
