use Rattle.std.proofs.Common.{◌≡◌, drop}
use Rattle.std.specs.Option.{option_or}
use Rattle.agent_server.specs.Runs.{last_cause}
use Rattle.agent_server.proofs.desk.last_cause_in.Given as goal

-- what is still to be looked at decides first
abbrev pub invariant-loop-output : goal.invariant-loop-output
invariant-loop-output l = option_or (last_cause (drop l.output-index l.outputs)) l.last ≡ last_cause l.outputs
