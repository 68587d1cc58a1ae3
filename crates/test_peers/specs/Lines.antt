-- The lines of a text, and the words of a line (profile).
use Rattle.std.specs.Prelude.{ℕ, ◌==◌, List, [], ◌∷◌, length, Option, Some, None, if◌then◌else◌}
use Rattle.std.specs.List.{slice_split}

-- what stands between separators, empty pieces too
abbrev pub pieces_of : ℕ → List ℕ → List (List ℕ)
pieces_of separator octets = slice_split (λ x. x == separator) octets

-- nothing behind the last end of a line is no line
abbrev pub ended : List (List ℕ) → List (List ℕ)
ended [] = []
ended (piece ∷ []) = if length piece == 0 then [] else piece ∷ []
ended (piece ∷ next ∷ pieces) = piece ∷ ended (next ∷ pieces)

-- each line ends by the octet 0a, and the last one may end with the text
abbrev pub lines_of : List ℕ → List (List ℕ)
lines_of text = ended (pieces_of 10 text)

-- words are separated by one space
abbrev pub words_of : List ℕ → List (List ℕ)
words_of line = pieces_of 32 line

-- the two words of a line that has two
abbrev pub two_of : List (List ℕ) → Option (List ℕ × List ℕ)
two_of [] = None
two_of (first ∷ []) = None
two_of (first ∷ second ∷ []) = Some (first, second)
two_of (first ∷ second ∷ word ∷ words) = None
