-- The lines of a text from outside.
use Rattle.std.proofs.Common.{◌≡◌, [], ◌∷◌, codes, refl}
use Rattle.text_lines.specs.Words.{lines_of}

lines_of-two : lines_of (codes "ab\n\nc") ≡ codes "ab" ∷ [] ∷ codes "c" ∷ []
lines_of-two = refl
