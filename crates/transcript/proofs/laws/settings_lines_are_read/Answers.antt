use Rattle.transcript.proofs.Records.SettingsLines.{settings-lines-are-read}
use Rattle.transcript.proofs.laws.settings_lines_are_read.Goals as goal

pub returns : goal.returns
returns c = settings-lines-are-read
