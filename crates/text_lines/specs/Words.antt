-- Lines, words, and what a word stands for (profile).
use Rattle.std.specs.Prelude.{ℕ, Bool, true, false, ◌==◌, nat_le, not, ◌&&◌, ◌||◌, List, [], ◌∷◌, length, codes, slice_index, Option, Some, None, if◌then◌else◌}
use Rattle.std.specs.Result.{result_ok}
use Rattle.std.specs.Char.{is_ascii_digit}
use Rattle.std.specs.List.{list_all, slice_split}
use Rattle.std.specs.Str.{bytes_eq}
use Rattle.std.specs.Str.Parse.{digits_value}
use Rattle.hex.specs.Hex.{decode_of}
use Rattle.address_text.specs.Address.{address_in}

-- an octet in front of lines: 0a ends an empty one, another octet joins the first
abbrev pub in_front : Bool → ℕ → List (List ℕ) → List (List ℕ)
in_front true x lines = [] ∷ lines
in_front false x [] = (x ∷ []) ∷ []
in_front false x (line ∷ lines) = (x ∷ line) ∷ lines

-- the lines of a text: each ends by the octet 0a, and the last one may end with the text
abbrev pub lines_of : List ℕ → List (List ℕ)
lines_of [] = []
lines_of (x ∷ xs) = in_front (x == 10) x (lines_of xs)

-- the words of a line are separated by one space
abbrev pub words_of : List ℕ → List (List ℕ)
words_of line = slice_split (λ c. c == 32) line

-- the second step, where the first gave a value
infixl 10 ◌>>=◌
abbrev pub ◌>>=◌ : {A B : Type 0} → Option A → (A → Option B) → Option B
None >>= f = None
Some x >>= f = f x

-- one or more decimal digits, and the first of several isn't 0
abbrev pub is_numeral : List ℕ → Bool
is_numeral word =
    nat_le 1 (length word) && list_all is_ascii_digit word && (length word == 1 || not (slice_index word 0 == 48))

-- a decimal number up to a limit
abbrev pub number_word : ℕ → List ℕ → Option ℕ
number_word limit word =
    if is_numeral word && nat_le (digits_value 10 word) limit then Some (digits_value 10 word) else None

-- octets as pairs of hex digits of either case, or '-' for no octets
abbrev pub hex_word : List ℕ → Option (List ℕ)
hex_word word =
    if bytes_eq word (codes "-") then Some []
    else if length word == 0 then None
    else result_ok (decode_of word)

-- one of two words: the first stands for true, the second for false
abbrev pub choice_word : List ℕ → List ℕ → List ℕ → Option Bool
choice_word on off word = if bytes_eq word on then Some true else if bytes_eq word off then Some false else None

abbrev pub addresses_of : List (List ℕ) → Option (List ℕ)
addresses_of [] = Some []
addresses_of (piece ∷ pieces) = do
  address ← address_in piece
  addresses ← addresses_of pieces
  Some (address ∷ addresses)

-- addresses separated by ',', or '-' for none
abbrev pub addresses_word : List ℕ → Option (List ℕ)
addresses_word word = if bytes_eq word (codes "-") then Some [] else addresses_of (slice_split (λ c. c == 44) word)
