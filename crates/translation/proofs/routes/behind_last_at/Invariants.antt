use Rattle.std.proofs.Common.{◌≡◌, length}
use Rattle.std.specs.Prelude.{option_copied}
use Rattle.std.specs.Option.{option_or}
use Rattle.translation.specs.Routes.{behind_last_at}
use Rattle.translation.proofs.routes.behind_last_at.Given as goal

-- what stands behind the last one in the rest, or what was found before it
abbrev pub invariant-loop-rest : goal.invariant-loop-rest
invariant-loop-rest l = option_or (behind_last_at l.rest) (option_copied l.found) ≡ behind_last_at l.name

abbrev pub decreases-loop-rest : goal.decreases-loop-rest
decreases-loop-rest l = length l.rest
