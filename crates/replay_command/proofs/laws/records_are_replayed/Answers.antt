use Rattle.replay_command.proofs.RecordedLemmas as lemmas
use Rattle.replay_command.proofs.laws.records_are_replayed.Goals as goal

pub returns : goal.returns
returns c = lemmas.replayed c.idle_inputs_change_no_output.ensures c.records_are_transcripts.ensures
