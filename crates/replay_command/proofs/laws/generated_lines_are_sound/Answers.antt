use Rattle.replay_command.proofs.GeneratedLemmas.{generated-sound}
use Rattle.replay_command.proofs.laws.generated_lines_are_sound.Goals as goal

pub returns : goal.returns
returns c = generated-sound
