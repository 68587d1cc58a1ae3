-- What a session knows of the lines so far.
use Rattle.std.specs.Prelude.{◌≡◌, ℕ, List, [], ◌∷◌, Option, Some, None}
use Rattle.wire_core.specs.Sink.{Appends}
use Rattle.agent_settings.specs.declared.config.Config.{Config}
use Rattle.agent_core.specs.declared.ledger.Ledger.{Ledger}
use Rattle.agent_core.specs.Places.{Event, Place}
use Rattle.agent_core.specs.History.{place, past}
use Rattle.agent_core.specs.Standing.{StandsFor}
use Rattle.transcript.specs.declared.line.Line.{Line}
use Rattle.transcript_runs.specs.Runs.{Stage, Settings, Running, Telling, first_stage, follow, line_told, stage_after}
use Rattle.transcript_runs.specs.declared.session.Session.{Session}

module _ {T : Type 0} (told : T → Config → List Place → Type 0) where
  -- the core stands for the history of these places, of which the teller has told
  pub record RunsAt (core : Ledger) (teller : T) (config : Config) (ps : List Place) : Type 0 where
    pub history : List Event
    pub past_is : ps ≡ past config history
    pub config_is : core.config ≡ config
    pub stands : StandsFor core history
    pub has_told : told teller config ps

  -- one more input was run, and told of
  abbrev pub RunsOn : Telling → Ledger → T → Config → List Place → ℕ → Event → Option (List ℕ) → Option (List ℕ) → Type 0
  RunsOn telling core teller config ps number e before now =
      RunsAt core teller config (place config ps e ∷ ps) × Appends before now (telling.text number config ps e)

  abbrev pub IsRunning : Option Ledger → T → Config → List Place → Type 0
  IsRunning None teller config ps = ⊥
  IsRunning (Some core) teller config ps = RunsAt core teller config ps

  -- where it has told of all at this stage, there is a core once an event came
  abbrev pub IsTold : Option Ledger → T → Stage → Type 0
  IsTold core teller (Settings known) = (core ≡ None) × ((config : Config) → told teller config [])
  IsTold core teller (Running config ps) = IsRunning core teller config ps

  -- the settings that no core was made of yet
  abbrev pub unused : Stage → Option Config
  unused (Settings known) = known
  unused (Running config ps) = None

  -- the session is at this stage
  abbrev pub IsAt : Session T → Stage → Type 0
  IsAt session stage = (session.config ≡ unused stage) × IsTold session.core session.teller stage

  -- the session is at the stage after the line, and what is told of the line was written
  abbrev pub Follows : Telling → Session T → Stage → Line → Option (List ℕ) → Option (List ℕ) → Type 0
  Follows telling session stage said before now = IsAt session (follow stage said) × Appends before now (line_told telling.text stage said)

  -- the session has followed these lines
  abbrev pub HasFollowed : Session T → List Line → Type 0
  HasFollowed session lines = IsAt session (stage_after first_stage lines)

-- the core is made of the settings that were told
abbrev pub begun : Stage → Stage
begun (Settings None) = Settings None
begun (Settings (Some config)) = Running config []
begun (Running config ps) = Running config ps
