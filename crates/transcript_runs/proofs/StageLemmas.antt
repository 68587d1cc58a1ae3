-- Lines that are followed after others.
use Rattle.std.proofs.Common.{◌≡◌, List, Some, None, refl}
use Rattle.transcript.specs.Told.{told_by, told_on}
use Rattle.transcript.specs.declared.line.Line.{Line}
use Rattle.transcript.specs.declared.line.Line.TheVariants as line
use Rattle.transcript.proofs.Reading.FollowLemmas.{after-seen}
use Rattle.transcript_runs.specs.Runs.{Running, Settings, Stage, first_stage, follow, stage_after, told_of}

-- ---- what was told

told-on : (stage : Stage) (said : Line) → told_of (follow stage said) ≡ told_on (told_of stage) said
told-on (Settings before) (line.Agent number config) = refl
told-on (Settings before) (line.Client number client) = refl
told-on (Settings None) (line.Event number moment inputs) = refl
told-on (Settings (Some config)) (line.Event number moment inputs) = refl
told-on (Settings None) (line.Control number moment address port octets) = refl
told-on (Settings (Some config)) (line.Control number moment address port octets) = refl
told-on (Running config ps) (line.Agent number other) = refl
told-on (Running config ps) (line.Client number client) = refl
told-on (Running config ps) (line.Event number moment inputs) = refl
told-on (Running config ps) (line.Control number moment address port octets) = refl

pub told-so-far : (lines : List Line) → told_of (stage_after first_stage lines) ≡ told_by lines
told-so-far lines = after-seen follow told_on told_of told-on first_stage lines
