-- Internal: what the command `dynamic` knows of the lines so far.
use Rattle.std.specs.Prelude.{◌≡◌, ℕ, ◌+◌, ◌-◌, ◌^◌, List, [], ◌∷◌, min, count_by, Option, Some, None, IfSome, ⊤}
use Rattle.std.specs.List.{flat_map}
use Rattle.wire_core.specs.Sink.{Appends}
use Rattle.agent_settings.specs.declared.config.Config.{Config}
use Rattle.agent_settings.specs.Config.{InLimits, find_address}
use Rattle.session_book.specs.declared.events.BookInput.{BookInput}
use Rattle.session_book.specs.declared.events.BookOutput.{BookOutput}
use Rattle.session_book.specs.Places.{BookEvent, BookPlace}
use Rattle.session_book.specs.History.{place, past}
use Rattle.session_book.specs.Standing.{BookState, BookStandsFor}
use Rattle.transcript.specs.declared.line.Line.{Line}
use Rattle.transcript.specs.declared.line.Line.TheVariants as line
use Rattle.dynamic_command.specs.declared.counts.Counts.{Counts}
use Rattle.dynamic_command.specs.declared.session.BookSession.{BookSession}
use Rattle.dynamic_command.specs.Dynamic.{Stage, Settings, Running, book_line, first_stage, inputs_text, is_control, is_drop, is_reply, is_send, outputs_of, places_after, ran, ran_text, stage_after, stage_on, text_of}

-- with these outputs counted too
abbrev pub counted : Counts → List BookOutput → Counts
counted c outputs = record {
  replies = min (c.replies + count_by is_reply outputs) (2 ^ 64 - 1);
  sends = min (c.sends + count_by is_send outputs) (2 ^ 64 - 1);
  drops = min (c.drops + count_by is_drop outputs) (2 ^ 64 - 1);
  controls = min (c.controls + count_by is_control outputs) (2 ^ 64 - 1);
}

-- the counts after these places
abbrev pub counts_of : List BookPlace → Counts
counts_of ps = record {
  replies = outputs_of is_reply ps;
  sends = outputs_of is_send ps;
  drops = outputs_of is_drop ps;
  controls = outputs_of is_control ps;
}

-- the book stands for the history of these places, and the counts are of their outputs
pub record RunsAt (book : BookState) (counts : Counts) (config : Config) (ps : List BookPlace) : Type 0 where
  pub history : List BookEvent
  pub past_is : ps ≡ past config history
  pub config_is : book.core.config ≡ config
  pub stands : BookStandsFor book history
  pub counted : counts ≡ counts_of ps

-- one more input was run
abbrev pub RunsOn : BookState → Counts → Config → List BookPlace → ℕ → BookEvent → Option (List ℕ) → Option (List ℕ) → Type 0
RunsOn book counts config ps number e before now =
    RunsAt book counts config (place config ps e ∷ ps) × Appends before now (flat_map (book_line number) (place config ps e).outputs)

-- inputs of one moment were run
abbrev pub Ran : BookState → Counts → Config → List BookPlace → ℕ → ℕ → List BookInput → Option (List ℕ) → Option (List ℕ) → Type 0
Ran book counts config ps number moment inputs before now =
    RunsAt book counts config (places_after config ps moment inputs) × Appends before now (inputs_text number config ps moment inputs)

abbrev pub IsRunning : Option BookState → Counts → Config → List BookPlace → Type 0
IsRunning None counts config ps = ⊥
IsRunning (Some book) counts config ps = RunsAt book counts config ps

-- the session is at this stage
abbrev pub IsAt : BookSession → Stage → Type 0
IsAt session (Settings told) = (session.config ≡ told) × (session.book ≡ None) × (session.counts ≡ counts_of [])
IsAt session (Running config ps) = (session.config ≡ None) × IsRunning session.book session.counts config ps

-- inputs of one moment were run from this stage on
abbrev pub RunsFrom : BookSession → Stage → ℕ → ℕ → List BookInput → Option (List ℕ) → Option (List ℕ) → Type 0
RunsFrom session stage number moment inputs before now =
    IsAt session (ran stage moment inputs) × Appends before now (ran_text number stage moment inputs)

-- the session has followed these lines
abbrev pub HasFollowed : BookSession → List Line → Type 0
HasFollowed session lines = IsAt session (stage_after first_stage lines)

-- the session is at the stage after the line, and what the line prints was written
abbrev pub Follows : BookSession → Stage → Line → Option (List ℕ) → Option (List ℕ) → Type 0
Follows session stage said before now = IsAt session (stage_on stage said) × Appends before now (text_of stage said)

-- what a line that is followed wants of the settings that were told, where no run has begun
abbrev pub CanTake : Option Config → Line → Type 0
CanTake told (line.Agent number config) = ⊤
CanTake told (line.Client number client) = IfSome told (λ config. find_address client.address config.clients ≡ None)
CanTake told (line.Event number moment inputs) = IfSome told InLimits
CanTake told (line.Control number moment address port octets) = IfSome told InLimits
