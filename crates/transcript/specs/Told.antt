-- What the lines of a transcript tell, apart from what a run makes of them (profile).
use Rattle.std.specs.Prelude.{◌≡◌, ◌<◌, List, [], ◌∷◌, ◌++◌, length, map, Option, Some, None, option_map, Ok, ℕ, ⊤}
use Rattle.agent_settings.specs.declared.client.Client.{Client}
use Rattle.agent_settings.specs.declared.config.Config.{Config}
use Rattle.agent_settings.specs.Config.{ClientInLimits, InLimits, find_address, with_client}
use Rattle.transcript.specs.Reading.{At, read_line}
use Rattle.transcript.specs.declared.line.Line.{Line}
use Rattle.transcript.specs.declared.line.Line.TheVariants as line
use Rattle.transcript.specs.declared.position.Section.TheVariants as section

-- ---- lines, one after another

-- where lines lead to
abbrev pub after_lines : {S : Type 0} → (S → Line → S) → S → List Line → S
after_lines on stage [] = stage
after_lines on stage (l ∷ lines) = after_lines on (on stage l) lines

-- and what each of them gives on the way
abbrev pub given_by : {S X : Type 0} → (S → Line → S) → (S → Line → List X) → S → List Line → List X
given_by on gives stage [] = []
given_by on gives stage (l ∷ lines) = gives stage l ++ given_by on gives (on stage l) lines

-- ---- the settings

-- the settings as far as they were told, until the first line that is no settings line begins a run by them
pub data Told : Type 0 where
  Settings : Option Config → Told
  Begun : Told

-- a run begins
abbrev pub begins : Told → Told
begins (Settings None) = Settings None
begins (Settings (Some config)) = Begun
begins Begun = Begun

abbrev pub tells : Told → Config → Told
tells (Settings before) config = Settings (Some config)
tells Begun config = Begun

abbrev pub joins : Told → Client → Told
joins (Settings before) client = Settings (option_map (λ config. with_client config client) before)
joins Begun client = Begun

-- one more line
abbrev pub told_on : Told → Line → Told
told_on before (line.Agent number config) = tells before config
told_on before (line.Client number client) = joins before client
told_on before (line.Event number moment inputs) = begins before
told_on before (line.Control number moment address port octets) = begins before

-- what all these lines tell
abbrev pub told_by : List Line → Told
told_by lines = after_lines told_on (Settings None) lines

-- ---- what follows from reading

-- the clients so far are those of the settings so far
abbrev pub Agrees : At → Told → Type 0
Agrees at (Settings None) = (at.section ≡ section.Start) × (at.addresses ≡ [])
Agrees at (Settings (Some config)) =
    (at.section ≡ section.Settings) × (at.addresses ≡ map (λ c. c.address) config.clients) × InLimits config
Agrees at Begun = at.section ≡ section.Events

-- what a line that is followed wants of what was told before it
abbrev pub CanFollow : Told → Line → Type 0
CanFollow (Settings told) (line.Agent number config) = InLimits config
CanFollow (Settings None) (line.Client number client) = ⊤
CanFollow (Settings (Some config)) (line.Client number client) =
    InLimits config × ClientInLimits client × (length config.clients < 1024) × (find_address client.address config.clients ≡ None)
CanFollow (Settings None) (line.Event number moment inputs) = ⊤
CanFollow (Settings (Some config)) (line.Event number moment inputs) = InLimits config
CanFollow (Settings None) (line.Control number moment address port octets) = ⊤
CanFollow (Settings (Some config)) (line.Control number moment address port octets) = InLimits config
CanFollow Begun said = ⊤

-- a line that was read can be followed, and the next one then too
abbrev pub LinesCanFollow : Type 0
LinesCanFollow = (at : At) (told : Told) (octets : List ℕ) (said : Line) (next : At) → Agrees at told
    → read_line at octets ≡ Ok (said, next) → CanFollow told said × Agrees next (told_on told said)
