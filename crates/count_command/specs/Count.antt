-- What the command `count` prints (profile).
use Rattle.std.specs.Prelude.{◌≡◌, ℕ, ◌-◌, ◌/◌, Bool, false, nat_lt, ◌&&◌, max, List, [], ◌∷◌, ◌++◌, length, Option, Some, None, if◌then◌else◌}
use Rattle.std.specs.List.{flat_map}
use Rattle.std.specs.Option.{option_or}
use Rattle.agent_settings.specs.declared.config.Config.{Config}
use Rattle.agent_core.specs.Places.{Event, Place, is_serving, link, live, now, waiting}
use Rattle.text_commands.specs.Tasks.{Task}
use Rattle.text_commands.specs.Transcripts.{Rule, transcript_task}
use Rattle.transcript_runs.specs.Answers.{answered_at}
use Rattle.transcript_runs.specs.Runs.{Running, Settings, Stage, Telling, rule_of}
use Rattle.count_command.specs.declared.block.Gauges.{Gauges}
use Rattle.count_command.specs.declared.counter.Counter.{Counter}
use Rattle.count_command.specs.declared.tally.Count.{Count}
use Rattle.count_command.specs.Block.{block}
use Rattle.count_command.specs.Hits.{answer_hits, input_hits, number_if, output_hits}
use Rattle.count_command.specs.Tally.{Hit, with_hits}

-- ---- what was counted, and what stands now

-- of the input at a place, what went out for it, and what it answered
abbrev pub place_hits : Config → Place → List Hit
place_hits config p =
    input_hits config p.input ++ flat_map (output_hits config p.input) p.outputs ++ answer_hits p.moment (answered_at p.input p.matched)

abbrev pub counts_of : Config → List Place → List Count
counts_of config [] = []
counts_of config (p ∷ ps) = with_hits (counts_of config ps) (place_hits config p)

abbrev pub gauges_at : Config → List Place → Gauges
gauges_at config ps = record {
  link_up = number_if (is_serving (link ps).phase);
  live = length (live config ps (now ps));
  waiting = length (waiting config ps (now ps));
  moment = now ps;
}

abbrev pub block_of : Config → List Place → List ℕ
block_of config ps = block (counts_of config ps) (gauges_at config ps)

-- ---- when

-- the moment of the first event
abbrev pub first_moment : List Place → Option ℕ
first_moment [] = None
first_moment (p ∷ ps) = option_or (first_moment ps) (Some p.moment)

-- one of the moments that lie so many milliseconds apart from the first event on was reached since the last one
abbrev pub passes : ℕ → Option ℕ → ℕ → ℕ → Bool
passes millis None last next = false
passes millis (Some first) last next = nat_lt 0 millis && nat_lt ((last - first) / millis) ((next - first) / millis)

-- a block stands before an event that reaches one of them
abbrev pub count_text : ℕ → ℕ → Config → List Place → Event → List ℕ
count_text millis number config ps e =
    if passes millis (first_moment ps) (now ps) (max (now ps) e.moment) then block_of config ps else []

abbrev pub no_gauges : Gauges
no_gauges = record { link_up = 0; live = 0; waiting = 0; moment = 0 }

-- and one stands at the end
abbrev pub count_end : Stage → List ℕ
count_end (Settings known) = block [] no_gauges
count_end (Running config ps) = block_of config ps

abbrev pub count_telling : ℕ → Telling
count_telling millis = record { text = count_text millis; end = count_end }

abbrev pub count_rule : ℕ → Rule
count_rule millis = rule_of (count_telling millis)

abbrev pub count_task : ℕ → Task
count_task millis = transcript_task (count_rule millis)

-- ---- what a counter knows

-- what it tells before an event of this moment
abbrev pub due_text : Counter → Config → List Place → ℕ → List ℕ
due_text counter config ps next =
    if passes counter.millis counter.first counter.moment next then block counter.counts (gauges_at config ps) else []

pub record HasCounted (counter : Counter) (config : Config) (ps : List Place) : Type 0 where
  pub moment : counter.moment ≡ now ps
  pub first : counter.first ≡ first_moment ps
  pub counts : counter.counts ≡ counts_of config ps
