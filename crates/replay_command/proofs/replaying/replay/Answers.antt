use Rattle.replay_command.proofs.ReplayLemmas.{replayed}
use Rattle.replay_command.proofs.replaying.replay.Goals as goal

pub returns-clause-done : goal.returns-clause-done
returns-clause-done g c = λ X told done. replayed c.follow_transcript.result X _ _ _ done (c.follow_transcript.ensures.ends X told)
