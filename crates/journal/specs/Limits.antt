-- What keeps the lines of a journal within its limits (profile).
use Rattle.std.specs.Prelude.{◌≡◌, ◌≢◌, ℕ, ◌<◌, ◌≤◌, List, [], ◌∷◌, ◌++◌, length, None}
use Rattle.text_commands.specs.Tasks.{Task}
use Rattle.journal.specs.Journal.{end_block}

-- a line that is longer than a transcript's may be is bad, and something short goes out at the end
pub record IsShortTask (task : Task) : Type 0 where
  pub long_is_bad : (lines : List (List ℕ)) (line : List ℕ) → 140000 < length line → task.stop (lines ++ line ∷ []) ≢ None
  pub short_end : (lines : List (List ℕ)) → (first : List ℕ) × ((more : List (List ℕ)) × (end_block task lines ≡ first ∷ more) × (length first ≤ 140100))
