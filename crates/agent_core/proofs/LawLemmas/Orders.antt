-- The order of the requests that were taken up.
use Rattle.std.proofs.Common.{◌<◌, List, [], ◌∷◌}
use Rattle.std.specs.List.{AllByRecursion}
use Rattle.agent_core.specs.Places.{Taking}

-- the later one was taken up at a later place
abbrev pub Ascending : List Taking → Type 0
Ascending [] = Unit {0}
Ascending (t ∷ ts) = AllByRecursion (λ u. t.place < u.place) ts × Ascending ts
