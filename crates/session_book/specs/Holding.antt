-- What is kept of the book.
use Rattle.std.specs.Prelude.{◌≡◌, ℕ, List, [], ◌∷◌, length, None}
use Rattle.session_book.specs.Book.{Row, entry_of}

-- no two entries have one session
abbrev pub AreApart : List Row → Type 0
AreApart [] = Unit {0}
AreApart (r ∷ rows) = (entry_of r.0 rows ≡ None) × AreApart rows

-- these rows hold the book's entries: the same entry for each session, and as many
pub record Holds (kept rows : List Row) : Type 0 where
  pub found : (session : List ℕ) → entry_of session kept ≡ entry_of session rows
  pub count : length kept ≡ length rows
  pub apart : AreApart rows
