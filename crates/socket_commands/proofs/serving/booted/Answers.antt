use Rattle.socket_commands.proofs.ServeLemmas.{boot-limits}
use Rattle.socket_commands.proofs.serving.booted.Goals as goal

pub returns-clause-limits : goal.returns-clause-limits
returns-clause-limits c = boot-limits c.args.config c.or-config.result c.requires
