-- The lines of a text, from its octets.
use Rattle.std.proofs.Common.{◌≡◌, ℕ, Bool, true, false, ◌||◌, eqb, List, [], ◌∷◌, ◌++◌, refl, ap, ◌∙◌}
use Rattle.text_lines.specs.Words.{in_front, lines_of}
use Rattle.text_lines.specs.Streams.{IsUnended}

or-left : (a b : Bool) → (a || b) ≡ false → a ≡ false
or-left true b e = e
or-left false b e = refl

or-right : (a b : Bool) → (a || b) ≡ false → b ≡ false
or-right true b e = cc
or-right false b e = e

-- octets that end no line, and then one that does
pub lines-cut : (xs ys : List ℕ) → IsUnended xs → lines_of (xs ++ 10 ∷ ys) ≡ xs ∷ lines_of ys
lines-cut [] ys unended = refl
lines-cut (x ∷ xs) ys unended =
    ap (λ b. in_front b x (lines_of (xs ++ 10 ∷ ys))) (or-left (eqb x 10) _ unended)
    ∙ ap (in_front false x) (lines-cut xs ys (or-right (eqb x 10) _ unended))

-- octets that end no line, and then nothing
pub lines-last : (x : ℕ) (xs : List ℕ) → IsUnended (x ∷ xs) → lines_of (x ∷ xs) ≡ (x ∷ xs) ∷ []
lines-last x [] unended = ap (λ b. in_front b x []) (or-left (eqb x 10) _ unended)
lines-last x (y ∷ ys) unended =
    ap (λ b. in_front b x (lines_of (y ∷ ys))) (or-left (eqb x 10) _ unended)
    ∙ ap (in_front false x) (lines-last y ys (or-right (eqb x 10) _ unended))

-- octets that end no line begin the first one
front-more : (x : ℕ) (lines : List (List ℕ)) → (rest : List ℕ) × ((more : List (List ℕ)) × (in_front false x lines ≡ (x ∷ rest) ∷ more))
front-more x [] = ([], ([], refl))
front-more x (line ∷ lines) = (line, (lines, refl))

pub lines-front : (x : ℕ) (xs ys : List ℕ) → IsUnended (x ∷ xs)
    → (rest : List ℕ) × ((more : List (List ℕ)) × (lines_of (x ∷ xs ++ ys) ≡ (x ∷ xs ++ rest) ∷ more))
lines-front x [] ys unended =
    let (rest, (more, is)) = front-more x (lines_of ys) in
    (rest, (more, ap (λ b. in_front b x (lines_of ys)) (or-left (eqb x 10) _ unended) ∙ is))
lines-front x (y ∷ xs) ys unended =
    let (rest, (more, is)) = lines-front y xs ys (or-right (eqb x 10) _ unended) in
    (rest, (more, ap (λ b. in_front b x (lines_of (y ∷ xs ++ ys))) (or-left (eqb x 10) _ unended) ∙ ap (in_front false x) is))
