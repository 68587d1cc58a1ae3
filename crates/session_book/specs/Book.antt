-- The book: the sessions that access servers reported, in the order of their Starts (profile).
use Rattle.std.specs.Prelude.{ℕ, nat_lt, nat_eq, not, List, [], ◌∷◌, ◌++◌, filter, length, Option, Some, None, if◌then◌else◌}
use Rattle.std.specs.Cmp.Lexicographic.{pointwise}
use Rattle.std.specs.Map.{lookup}
use Rattle.session_book.specs.declared.sessions.Entry.{Entry}

-- an entry beside its session
abbrev pub Row : Type 0
Row = List ℕ × Entry

-- the entry of a session
abbrev pub entry_of : List ℕ → List Row → Option Entry
entry_of session rows = lookup (pointwise nat_eq session) rows

abbrev pub without : List ℕ → List Row → List Row
without session rows = filter (λ r. not (pointwise nat_eq session r.0)) rows

-- with one more, where the session has no entry yet and there are fewer than `capacity`
abbrev pub appended : ℕ → List ℕ → Entry → List Row → Option Entry → List Row
appended capacity session entry rows (Some known) = rows
appended capacity session entry rows None = if nat_lt (length rows) capacity then rows ++ (session, entry) ∷ [] else rows

-- what an input does to the book
pub data Change : Type 0 where
  Keep : Change
  Append : List ℕ → Entry → Change
  Remove : List ℕ → Change

abbrev pub changed : ℕ → Change → List Row → List Row
changed capacity Keep rows = rows
changed capacity (Append session entry) rows = appended capacity session entry rows (entry_of session rows)
changed capacity (Remove session) rows = without session rows
