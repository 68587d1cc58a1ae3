-- Addresses that are joined, words that follow one another, and lines.
use Rattle.std.proofs.Common.{◌≡◌, ℕ, ◌+◌, ◌<◌, List, [], ◌∷◌, ◌++◌, length, drop, get_or, map, Some, sym, ap, ◌∙◌, append-nil, append_assoc, arith}
use Rattle.std.specs.List.{flat_map, join_with_byte, slice_get}
use Rattle.std.proofs.lemmas.List.{drop_more}
use Rattle.std.proofs.lemmas.Option.{slice_get_within, get_or_from_slice_get}
use Rattle.printed_lines.specs.SettingsText.{addresses_text, further_text}
use Rattle.printed_lines.specs.Text.{address_text}

-- the first one, and then each behind a separator
joined : (x : List ℕ) (addresses : List ℕ)
    → join_with_byte 44 (x ∷ map address_text addresses) ≡ x ++ flat_map further_text addresses
joined x [] = sym (append-nil x)
joined x (a ∷ more) = ap (λ rest. x ++ 44 ∷ rest) (joined (address_text a) more)

pub first_of_addresses : (xs : List ℕ) → 0 < length xs
    → addresses_text xs ≡ address_text (get_or xs 0 0) ++ flat_map further_text (drop 1 xs)
first_of_addresses [] h = absurd (omega (arith, h))
first_of_addresses (x ∷ xs) h = joined (address_text x) xs

-- what was written before, a further word and a space
pub worded : (now before was word text : List ℕ) → now ≡ before ++ word ++ 32 ∷ [] → before ≡ was → word ≡ text
    → now ≡ was ++ text ++ 32 ∷ []
worded now before was word text e b w =
    e ∙ ap (λ t. t ++ word ++ 32 ∷ []) b ∙ ap (λ t. was ++ t ++ 32 ∷ []) w

-- and the last word
pub last_word : (now before was word text : List ℕ) → now ≡ before ++ word → before ≡ was → word ≡ text → now ≡ was ++ text
last_word now before was word text e b w = e ∙ ap (λ t. t ++ word) b ∙ ap (λ t. was ++ t) w

pub eight_words : (start a b c d e f g h : List ℕ)
    → ((((((((start ++ a ++ 32 ∷ []) ++ b ++ 32 ∷ []) ++ c ++ 32 ∷ []) ++ d ++ 32 ∷ []) ++ e ++ 32 ∷ []) ++ f ++ 32 ∷ []) ++ g ++ 32 ∷ []) ++ h) ++ 10 ∷ []
    ≡ (start ++ (a ++ 32 ∷ (b ++ 32 ∷ (c ++ 32 ∷ (d ++ 32 ∷ (e ++ 32 ∷ (f ++ 32 ∷ (g ++ 32 ∷ h)))))))) ++ 10 ∷ []
eight_words start a b c d e f g h = simp append_assoc

-- once the line of the element at a place is written, the lines behind it are left
pub next_line : {X : Type 0} (f : X → List ℕ) (xs : List X) (i : ℕ) (x : X) (before now line all : List ℕ)
    → slice_get xs i ≡ Some x → now ≡ before ++ line → line ≡ f x
    → before ++ flat_map f (drop i xs) ≡ all → now ++ flat_map f (drop (i + 1) xs) ≡ all
next_line f xs i x before now line all at written is h =
    let here : drop i xs ≡ x ∷ drop (i + 1) xs =
    drop_more xs i x (slice_get_within xs i x at) ∙ ap (λ y. y ∷ drop (i + 1) xs) (get_or_from_slice_get xs i x x at) in
    ap (λ t. t ++ flat_map f (drop (i + 1) xs)) (written ∙ ap (λ t. before ++ t) is)
    ∙ append_assoc before (f x) (flat_map f (drop (i + 1) xs))
    ∙ ap (λ ys. before ++ flat_map f ys) (sym here) ∙ h
