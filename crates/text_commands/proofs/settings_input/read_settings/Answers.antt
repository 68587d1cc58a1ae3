use Rattle.text_commands.proofs.settings_input.read_settings.Goals as goal

pub returns-in-Ok-clause-limits : goal.returns-in-Ok-clause-limits
returns-in-Ok-clause-limits c = c.settings_are_in_limits.ensures c.args.text.now c.in-Ok.config c.in-Ok.ensures.ok
