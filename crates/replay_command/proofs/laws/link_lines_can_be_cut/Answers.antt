use Rattle.replay_command.proofs.CutLemmas.{link-lines-cut}
use Rattle.replay_command.proofs.laws.link_lines_can_be_cut.Goals as goal

pub returns : goal.returns
returns c = link-lines-cut
