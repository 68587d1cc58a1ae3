-- How the readings of a clock go on.
use Rattle.std.proofs.Common.{ℕ, ◌<◌, ◌≤◌, List, [], ◌∷◌, ◌++◌, Option}
use Rattle.std.proofs.lemmas.List.Elements.{All-nil, All-push}
use Rattle.wire_devices.specs.Telling.{Adds}
use Rattle.wire_devices.proofs.TellingLaws.{Adds-append, Adds-none}
use Rattle.peer_runs.specs.Until.{Early, InTime, Late, TimeIsOver, until_of}

-- the clock wasn't read yet
pub early-none : (until : ℕ) (known : Option (List ℕ)) → Early until known known
early-none until known = record { readings = []; adds = Adds-none known; each = All-nil (λ reading. reading < until) }

module _ (until reading : ℕ) {before then now : Option (List ℕ)} (early : Early until before then) (adds : Adds then now (reading ∷ [])) where
  pub early-more : reading < until → Early until before now
  early-more sooner = record {
    readings = early.readings ++ reading ∷ [];
    adds = Adds-append early.adds adds;
    each = All-push (λ r. r < until) early.readings reading early.each sooner;
  }

  pub late-at : until ≤ reading → Late until before now
  late-at over = record { readings = early.readings; last = reading; adds = Adds-append early.adds adds; each = early.each; over = over }

-- a first reading, and then these
module _ (first millis : ℕ) {before then now : Option (List ℕ)} (adds : Adds before then (first ∷ [])) where
  pub in-time : Early (until_of first millis) then now → InTime millis before now
  in-time early = record { first = first; readings = early.readings; adds = Adds-append adds early.adds; each = early.each }

  pub time-over : Late (until_of first millis) then now → TimeIsOver millis before now
  time-over late =
      record { first = first; readings = late.readings; last = late.last; adds = Adds-append adds late.adds; each = late.each; over = late.over }
