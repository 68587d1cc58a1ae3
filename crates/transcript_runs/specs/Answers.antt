-- What an input answers (profile).
use Rattle.std.specs.Prelude.{Option, Some, None, Result, Ok, Err}
use Rattle.diameter_avp.specs.Avps.{read_avps}
use Rattle.diameter_message.specs.declared.fault.MessageFault.{MessageFault}
use Rattle.diameter_message.specs.Message.{MessageParts, read_message}
use Rattle.diameter_message.specs.Results.{result_in}
use Rattle.agent_events.specs.declared.events.Input.{Input}
use Rattle.agent_events.specs.declared.events.Input.TheVariants.{Message}
use Rattle.agent_core.specs.Places.{Taking}
use Rattle.answer_causes.specs.Causes.{cause}
use Rattle.transcript_runs.specs.declared.answers.HomeAnswer.{HomeAnswer}

-- a message that a request waited for
abbrev pub answered_by : Result MessageParts MessageFault → Taking → Option HomeAnswer
answered_by (Ok message) t = Some (record {
  command = message.header.command;
  result = result_in (read_avps message.avps);
  taken = t.moment;
  cause = cause t.settings t.kept message;
})
answered_by (Err fault) t = None

-- an input, by the request that it matches
abbrev pub answered_at : Input → Option Taking → Option HomeAnswer
answered_at (Message octets) (Some t) = answered_by (read_message octets) t
answered_at x matched = None
