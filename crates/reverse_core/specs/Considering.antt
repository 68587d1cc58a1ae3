-- Internal: what a request leads to, as the code comes to it.
use Rattle.std.specs.Prelude.{◌≡◌, ℕ, [], ◌∷◌, Option, Some, None, if◌then◌else◌}
use Rattle.reverse_map.specs.declared.own.Reverse.{Reverse}
use Rattle.reverse_core.specs.declared.events.ReverseOutput.TheVariants.{Send}
use Rattle.reverse_core.specs.declared.requests.KeptAnswer.{KeptAnswer}
use Rattle.reverse_core.specs.declared.considering.Considered.{Considered}
use Rattle.reverse_core.specs.declared.considering.Considered.TheVariants as considered
use Rattle.reverse_core.specs.declared.considering.Found.{Found}
use Rattle.reverse_core.specs.declared.considering.Found.TheVariants as found
use Rattle.reverse_core.specs.Requests.{Deed, Nothing, Takes, Repeats, Closes, Ticks, is_kept}
use Rattle.reverse_core.specs.History.{Outcome, Known, Unknown, IsOpen, IsKept}

-- what a look tells
abbrev pub found_view : Found → Known
found_view found.Unknown = Unknown
found_view found.Open = IsOpen
found_view (found.Kept k) = IsKept k.now

-- what is known of the key of this answer
abbrev pub known_by : Reverse → ℕ → Option KeptAnswer → Known
known_by own at None = Unknown
known_by own at (Some k) = if is_kept own at k then IsKept k else Unknown

-- nothing is done to the requests
abbrev pub IsStill : Deed → Type 0
IsStill Nothing = Unit {0}
IsStill (Repeats k hop) = Unit {0}
IsStill (Takes t) = ⊥
IsStill (Closes t answer) = ⊥
IsStill Ticks = ⊥

-- what a request leads to
abbrev pub Considers : Outcome → Considered → Type 0
Considers o (considered.Says output) = (o.outputs ≡ output ∷ []) × IsStill o.deed
Considers o (considered.Takes taken) = (o.outputs ≡ Send taken.sent ∷ []) × (o.deed ≡ Takes taken)
