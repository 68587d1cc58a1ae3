-- Words that are borrowed, without where they lie in memory.
use Rattle.std.specs.Prelude.{ℕ, List, map}
use Rattle.std.specs.Borrow.{Bor}

-- the octets of each word
abbrev pub plain : List (Bor (List ℕ)) → List (List ℕ)
plain words = map (λ w. w.now) words
