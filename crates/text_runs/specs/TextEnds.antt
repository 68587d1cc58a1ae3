-- How the commands end that go from text to text.
use Rattle.std.specs.Prelude.{◌≡◌, ℕ, ◌≤◌, Bool, true, false, List, length, Option, Some, None, Ok}
use Rattle.agent_settings.specs.declared.config.Config.{Config}
use Rattle.agent_config.specs.Settings.{settings_in}
use Rattle.agent_status.specs.declared.status.Status.{Status}
use Rattle.text_lines.specs.Streams.{most_octets}
use Rattle.text_lines.specs.Words.{lines_of}
use Rattle.count_command.specs.Count.{count_task}
use Rattle.dynamic_command.specs.Dynamic.{dynamic_task}
use Rattle.replay_command.specs.Measured.{MeasuresBy}
use Rattle.replay_command.specs.Replay.{replay_task}
use Rattle.reverse_script.specs.Printed.{reverse_task}
use Rattle.text_commands.specs.Checks.{ChecksBy, IsCheckEnd}
use Rattle.text_commands.specs.Generated.{GeneratesBy, WriteCounts}
use Rattle.text_commands.specs.Shown.{show_task}
use Rattle.text_commands.specs.Tasks.{EndsBy, EndsCounts, IsLinesEnd, Task}
use Rattle.text_commands.specs.WholeInput.{most_whole}
use Rattle.trace_command.specs.Trace.{trace_task}
use Rattle.command_line.specs.declared.command.TextCommand.{TextCommand}
use Rattle.command_line.specs.declared.command.TextCommand.TheVariants.{Replay, Trace, Count, Dynamic, Reverse, Check, Show, Generate, Measure}
use Rattle.command_line.specs.declared.command.Command.{Command}
use Rattle.command_line.specs.declared.command.Command.TheVariants.{Text, Run}

-- how a command ends that reads this input, where the source tells it
abbrev pub EndsOver : Option (List ℕ) → (List ℕ → Type 0) → Type 0
EndsOver told P = (input : List ℕ) → told ≡ Some input → P input

-- What was taken of the input and what was written, by the status. What is generated needs no input.
abbrev pub EndsAs : TextCommand → Status → Option (List ℕ) → Option (List ℕ) → Option (List ℕ) → Option (List ℕ) → Type 0
EndsAs Replay status told left before now = EndsOver told (λ input. EndsBy replay_task status input left before now)
EndsAs Trace status told left before now = EndsOver told (λ input. EndsBy trace_task status input left before now)
EndsAs (Count millis) status told left before now = EndsOver told (λ input. EndsBy (count_task millis) status input left before now)
EndsAs Dynamic status told left before now = EndsOver told (λ input. EndsBy dynamic_task status input left before now)
EndsAs Reverse status told left before now = EndsOver told (λ input. EndsBy reverse_task status input left before now)
EndsAs Check status told left before now = EndsOver told (λ input. ChecksBy status input left before now)
EndsAs Show status told left before now = EndsOver told (λ input. EndsBy show_task status input left before now)
EndsAs (Generate count seed) status told left before now = GeneratesBy status count seed before now
EndsAs (Measure count seed) status told left before now = MeasuresBy status count seed before now

-- the statuses with which a command that reads its input may end, whether the source tells it or not
abbrev pub IsEndAs : TextCommand → Status → Type 0
IsEndAs Replay status = IsLinesEnd status
IsEndAs Trace status = IsLinesEnd status
IsEndAs (Count millis) status = IsLinesEnd status
IsEndAs Dynamic status = IsLinesEnd status
IsEndAs Reverse status = IsLinesEnd status
IsEndAs Check status = IsCheckEnd status
IsEndAs Show status = IsLinesEnd status
IsEndAs (Generate count seed) status = Unit {0}
IsEndAs (Measure count seed) status = Unit {0}

-- the counts that rose, by the status: the ends and faults of the source, and the faults of the sink
abbrev pub CountsAs : TextCommand → Status → ℕ → ℕ → ℕ → ℕ → ℕ → ℕ → Type 0
CountsAs Replay status ends ends' reads reads' writes writes' = EndsCounts status ends ends' reads reads' writes writes'
CountsAs Trace status ends ends' reads reads' writes writes' = EndsCounts status ends ends' reads reads' writes writes'
CountsAs (Count millis) status ends ends' reads reads' writes writes' = EndsCounts status ends ends' reads reads' writes writes'
CountsAs Dynamic status ends ends' reads reads' writes writes' = EndsCounts status ends ends' reads reads' writes writes'
CountsAs Reverse status ends ends' reads reads' writes writes' = EndsCounts status ends ends' reads reads' writes writes'
CountsAs Check status ends ends' reads reads' writes writes' = EndsCounts status ends ends' reads reads' writes writes'
CountsAs Show status ends ends' reads reads' writes writes' = EndsCounts status ends ends' reads reads' writes writes'
CountsAs (Generate count seed) status ends ends' reads reads' writes writes' = WriteCounts status writes writes'
CountsAs (Measure count seed) status ends ends' reads reads' writes writes' = WriteCounts status writes writes'

-- what is generated needs no input, and words of no command read none
abbrev pub text_reads : TextCommand → Bool
text_reads Replay = true
text_reads Trace = true
text_reads (Count millis) = true
text_reads Dynamic = true
text_reads Reverse = true
text_reads Check = true
text_reads Show = true
text_reads (Generate count seed) = false
text_reads (Measure count seed) = false

abbrev pub reads_input : Option Command → Bool
reads_input None = false
reads_input (Some (Text command)) = text_reads command
reads_input (Some (Run at millis)) = true

-- none of the lines is bad, and they are within what may be taken
pub record SoundLines (task : Task) (input : List ℕ) : Type 0 where
  pub sound : task.stop (lines_of input) ≡ None
  pub short : length input ≤ most_octets

-- the text has settings, and is within what may be taken
pub record SoundSettings (input : List ℕ) : Type 0 where
  pub config : Config
  pub sound : settings_in input ≡ Ok config
  pub short : length input ≤ most_whole

-- the input is one that the command takes whole
abbrev pub IsSound : TextCommand → List ℕ → Type 0
IsSound Replay input = SoundLines replay_task input
IsSound Trace input = SoundLines trace_task input
IsSound (Count millis) input = SoundLines (count_task millis) input
IsSound Dynamic input = SoundLines dynamic_task input
IsSound Reverse input = SoundLines reverse_task input
IsSound Check input = SoundSettings input
IsSound Show input = SoundLines show_task input
IsSound (Generate count seed) input = Unit {0}
IsSound (Measure count seed) input = Unit {0}
