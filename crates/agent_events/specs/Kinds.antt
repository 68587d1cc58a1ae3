-- Kinds of inputs.
use Rattle.std.specs.Prelude.{Bool, true, false}
use Rattle.agent_events.specs.declared.events.Input.{Input}
use Rattle.agent_events.specs.declared.events.Input.TheVariants.{Drain, Leave}

abbrev pub is_drain : Input → Bool
is_drain Drain = true
is_drain input = false

abbrev pub is_leave : Input → Bool
is_leave Leave = true
is_leave input = false
