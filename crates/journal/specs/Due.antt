-- Internal: lines that are due.
use Rattle.std.specs.Prelude.{◌≡◌, ℕ, ◌≤◌, true, false, List, length, Result, Ok, Err}
use Rattle.std.specs.List.{AllByRecursion}
use Rattle.std.specs.Str.{bytes_eq}
use Rattle.journal.specs.Checking.{reason_of}

-- none is longer than a line of a journal may be
abbrev pub AreShort : List (List ℕ) → Type 0
AreShort lines = AllByRecursion (λ line. length line ≤ 140100) lines

-- the line is the one that is due, and these octets are due behind it, or this is why it isn't
abbrev pub TakesDue : Result Unit ℕ → List ℕ → List ℕ → List ℕ → List ℕ → Type 0
TakesDue (Ok done) due line rest now = (bytes_eq line due ≡ true) × (now ≡ rest)
TakesDue (Err reason) due line rest now = (bytes_eq line due ≡ false) × (reason ≡ reason_of due line)
