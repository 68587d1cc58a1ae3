-- The counts of a replay.
use Rattle.std.specs.Prelude.{◌≡◌, ◌+◌, ◌-◌, ◌^◌, List, min, count_by}
use Rattle.agent_settings.specs.declared.config.Config.{Config}
use Rattle.agent_events.specs.declared.events.Output.{Output}
use Rattle.agent_core.specs.Places.{Place}
use Rattle.printed_lines.specs.Text.{is_reply, is_send, is_drop}
use Rattle.replay_command.specs.Run.{outputs_of}
use Rattle.replay_command.specs.declared.counts.Counts.{Counts}

-- with these outputs counted too
abbrev pub counted : Counts → List Output → Counts
counted c outputs = record {
  replies = min (c.replies + count_by is_reply outputs) (2 ^ 64 - 1);
  sends = min (c.sends + count_by is_send outputs) (2 ^ 64 - 1);
  drops = min (c.drops + count_by is_drop outputs) (2 ^ 64 - 1);
}

-- the counts after these places
abbrev pub counts_of : List Place → Counts
counts_of ps = record { replies = outputs_of is_reply ps; sends = outputs_of is_send ps; drops = outputs_of is_drop ps }

-- they are counted, whatever the settings
abbrev pub AreCounted : Counts → Config → List Place → Type 0
AreCounted counts config ps = counts ≡ counts_of ps
