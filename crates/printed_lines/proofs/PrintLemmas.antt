-- A text that ends in octets.
use Rattle.std.proofs.Common.{◌≡◌, ℕ, List, [], ◌∷◌, ◌++◌, Result, IfOk, subst}
use Rattle.printed_lines.specs.Text.{hex_text}

-- what `with_hex` makes of a start is a line, where the start and the octets in hex are
pub IfOk-line : {E : Type 0} (r : Result (List ℕ) E) (start octets line : List ℕ)
    → IfOk r (λ o. o ≡ start ++ hex_text octets ++ 10 ∷ []) → start ++ hex_text octets ++ 10 ∷ [] ≡ line
    → IfOk r (λ o. o ≡ line)
IfOk-line r start octets line h e = let P : List ℕ → Type 0 = λ t. IfOk r (λ o. o ≡ t) in subst P e h
