-- Lines that are given, due and unended.
use Rattle.std.proofs.Common.{◌≡◌, ℕ, zero, suc, ◌+◌, ◌/◌, ◌%◌, ◌<◌, ◌≤◌, ◌==◌, Bool, true, false, ◌||◌, ◌&&◌, not, List, [], ◌∷◌, ◌++◌, length, drop, map, slice_index, inl, inr, refl, sym, ap, ◌∙◌, subst, append_assoc, arith}
use Rattle.std.specs.List.{AllByRecursion, list_any}
use Rattle.std.specs.Str.{bytes_eq}
use Rattle.std.proofs.lemmas.Bool.{and_parts, cases_lt}
use Rattle.std.proofs.lemmas.List.{get_or_past, length-append, length-drop}
use Rattle.std.proofs.lemmas.List.Concat.{flat_map-cons}
use Rattle.hex.specs.Hex.{encode_lower, encode_with, lower_digits}
use Rattle.hex.proofs.HexLemmas.{length-encode_with}
use Rattle.text_lines.specs.Streams.{IsFirstPiece, IsUnended}
use Rattle.text_lines.specs.Words.{in_front, lines_of}
use Rattle.text_lines.proofs.LineLemmas.{lines-cut, lines-last}
use Rattle.text_commands.specs.Tasks.{ended_text}
use Rattle.text_commands.proofs.TaskLemmas.{each-push}
use Rattle.journal.specs.Due.{AreShort}
use Rattle.journal.specs.Journal.{given_line, given_lines, seal_line}

-- ---- what ends no line

pub unended-front : (x : ℕ) (xs : List ℕ) → (x == 10) ≡ false → IsUnended xs → IsUnended (x ∷ xs)
unended-front x xs other unended = ap (λ b. b || list_any (λ y. y == 10) xs) other ∙ unended

abbrev none_ends : ℕ → Bool
none_ends zero = true
none_ends (suc n) = not (slice_index lower_digits n == 10) && none_ends n

not-true : (b : Bool) → not b ≡ true → b ≡ false
not-true true e = cc e
not-true false e = refl

none_ends-at : (n k : ℕ) → none_ends n ≡ true → k < n → (slice_index lower_digits k == 10) ≡ false
none_ends-at zero k h lt = absurd (omega arith)
none_ends-at (suc n) k h lt =
    let parts = and_parts (not (slice_index lower_digits n == 10)) (none_ends n) h in
    elim (cases_lt k n) [
      | inl below ↦ none_ends-at n k parts.1 below
      | inr top ↦
          let e : k ≡ n = omega arith in
          ap (λ k. slice_index lower_digits k == 10) e ∙ not-true (slice_index lower_digits n == 10) parts.0
    ]

digit-ends-none : (k : ℕ) → (slice_index lower_digits k == 10) ≡ false
digit-ends-none k = elim (cases_lt k 16) [
  | inl below ↦ none_ends-at 16 k refl below
  | inr past ↦ ap (λ c. c == 10) (get_or_past lower_digits k 0 (omega arith))
]

pub unended-digits : (octets : List ℕ) → IsUnended (encode_lower octets)
unfolding encode_with
unended-digits [] = refl
unended-digits (octet ∷ octets) =
    unended-front (slice_index lower_digits (octet / 16)) (slice_index lower_digits (octet % 16) ∷ encode_lower octets) (digit-ends-none (octet / 16))
    (unended-front (slice_index lower_digits (octet % 16)) (encode_lower octets) (digit-ends-none (octet % 16)) (unended-digits octets))

pub unended-seal : (seal : List ℕ) → IsUnended (seal_line seal)
unended-seal seal = unended-front 61 (32 ∷ encode_lower seal) refl (unended-front 32 (encode_lower seal) refl (unended-digits seal))

-- ---- lines of a text

pub unended-lines : (xs : List ℕ) → AllByRecursion IsUnended (lines_of xs)
unended-lines [] = tt
unended-lines (x ∷ xs) = by (x == 10) refl (lines_of xs) (unended-lines xs)
  where
    by : (b : Bool) → (x == 10) ≡ b → (lines : List (List ℕ)) → AllByRecursion IsUnended lines → AllByRecursion IsUnended (in_front b x lines)
    by true e lines each = (refl, each)
    by false e [] each = (unended-front x [] e refl, tt)
    by false e (line ∷ lines) each = (unended-front x line e each.0, each.1)

given-each : (lines : List (List ℕ)) → AllByRecursion IsUnended lines → AllByRecursion IsUnended (map given_line lines)
given-each [] each = tt
given-each (line ∷ lines) each = (unended-front 62 (32 ∷ line) refl (unended-front 32 line refl each.0), given-each lines each.1)

pub unended-given : (text : List ℕ) → AllByRecursion IsUnended (given_lines text)
unended-given text = given-each (lines_of text) (unended-lines text)

pub unended-due : (given seal : List ℕ) → AllByRecursion IsUnended (given_lines given ++ seal_line seal ∷ [])
unended-due given seal = each-push IsUnended (given_lines given) (seal_line seal) (given-each (lines_of given) (unended-lines given)) (unended-seal seal)

-- ---- lines one after another

pub ended-first : (line : List ℕ) (lines : List (List ℕ)) → ended_text (line ∷ lines) ≡ line ++ 10 ∷ ended_text lines
ended-first line lines = flat_map-cons (λ line. line ++ 10 ∷ []) line lines ∙ append_assoc line (10 ∷ []) (ended_text lines)

length-zero : (xs : List ℕ) → length xs ≡ 0 → xs ≡ []
length-zero [] e = refl
length-zero (x ∷ xs) e = absurd (omega (arith, e))

drop-past : (n : ℕ) (xs : List ℕ) → length xs ≤ n → drop n xs ≡ []
drop-past n xs past = length-zero (drop n xs) (omega (arith, past, length-drop n xs))

-- the first line of a text, and what stands behind it
pub behind-line : (ends : Bool) (xs piece : List ℕ) (n : ℕ) → IsFirstPiece ends xs piece → (ends ≡ true → n ≡ 1) × (ends ≡ false → n ≡ 0)
    → 0 < length xs → given_lines xs ≡ given_line piece ∷ given_lines (drop (length piece + n) xs)
behind-line true xs piece n (unended, is) count some =
    ap given_lines is ∙ ap (λ lines. map given_line lines) (lines-cut piece (drop (length piece + 1) xs) unended)
    ∙ ap (λ n. given_line piece ∷ given_lines (drop (length piece + n) xs)) (sym (count.0 refl))
behind-line false [] piece n (unended, is) count some = absurd (omega (arith, some))
behind-line false (x ∷ xs) piece n (unended, is) count some =
    let none : drop (length piece + n) (x ∷ xs) ≡ [] = drop-past (length piece + n) (x ∷ xs) (omega (arith, count.1 refl, ap length is)) in
    ap (λ lines. map given_line lines) (lines-last x xs (subst IsUnended (sym is) unended))
    ∙ ap (λ p. given_line p ∷ []) is ∙ ap (λ rest. given_line piece ∷ given_lines rest) (sym none)

-- ---- the line that is due

head-is : (x y : ℕ) (xs ys : List ℕ) → x ∷ xs ≡ y ∷ ys → x ≡ y
head-is x y xs ys e = cc e

tail-is : (x y : ℕ) (xs ys : List ℕ) → x ∷ xs ≡ y ∷ ys → xs ≡ ys
tail-is x y xs ys e = cc e

cons-same : (x y : ℕ) (xs ys : List ℕ) → x ≡ y → xs ≡ ys → x ∷ xs ≡ y ∷ ys
cons-same x y xs ys e f = cc (e, f)

unended-tail : (x : ℕ) (xs : List ℕ) → IsUnended (x ∷ xs) → IsUnended xs
unended-tail x xs unended = by (x == 10) refl
  where
    by : (b : Bool) → (x == 10) ≡ b → IsUnended xs
    by true e = cc (sym (ap (λ b. b || list_any (λ y. y == 10) xs) e) ∙ unended)
    by false e = sym (ap (λ b. b || list_any (λ y. y == 10) xs) e) ∙ unended

-- a line that ends isn't unended
ended-not : (line rest : List ℕ) {piece : List ℕ} → piece ≡ line ++ 10 ∷ rest → IsUnended piece → ⊥
ended-not [] rest e unended = cc (sym (ap (λ xs. list_any (λ y. y == 10) xs) e) ∙ unended)
ended-not (x ∷ line) rest e unended = ended-not line rest refl (unended-tail x (line ++ 10 ∷ rest) (sym (ap (λ xs. list_any (λ y. y == 10) xs) e) ∙ unended))

drop-append-all : (xs ys : List ℕ) → drop (length xs) (xs ++ ys) ≡ ys
drop-append-all [] ys = refl
drop-append-all (x ∷ xs) ys = drop-append-all xs ys

drop-line : (line rest : List ℕ) → drop (length line + 1) (line ++ 10 ∷ rest) ≡ rest
drop-line line rest = ap (λ n. drop n (line ++ 10 ∷ rest)) (sym (length-append line (10 ∷ []))) ∙ ap (λ xs. drop (length (line ++ 10 ∷ [])) xs) (sym (append_assoc line (10 ∷ []) rest)) ∙ drop-append-all (line ++ 10 ∷ []) rest

prefix-same : (xs ys us vs : List ℕ) → IsUnended xs → IsUnended ys → xs ++ 10 ∷ us ≡ ys ++ 10 ∷ vs → xs ≡ ys
prefix-same [] [] us vs first second e = refl
prefix-same [] (y ∷ ys) us vs first second e = cc (second, ap (λ c. (c == 10) || list_any (λ z. z == 10) ys) (sym (head-is 10 y us (ys ++ 10 ∷ vs) e)))
prefix-same (x ∷ xs) [] us vs first second e = cc (first, ap (λ c. (c == 10) || list_any (λ z. z == 10) xs) (head-is x 10 (xs ++ 10 ∷ us) vs e))
prefix-same (x ∷ xs) (y ∷ ys) us vs first second e =
    cons-same x y xs ys (head-is x y (xs ++ 10 ∷ us) (ys ++ 10 ∷ vs) e)
    (prefix-same xs ys us vs (unended-tail x xs first) (unended-tail y ys second) (tail-is x y (xs ++ 10 ∷ us) (ys ++ 10 ∷ vs) e))

-- the first piece of octets that begin with a line that ends is that line
pub piece-is : (ends : Bool) (xs piece line rest : List ℕ) → IsFirstPiece ends xs piece → IsUnended line → xs ≡ line ++ 10 ∷ rest → (piece ≡ line) × (ends ≡ true)
piece-is true xs piece line rest (unended, is) line_unended e =
    (prefix-same piece line (drop (length piece + 1) xs) rest unended line_unended (sym is ∙ e), refl)
piece-is false xs piece line rest (unended, is) line_unended e = absurd (ended-not line rest (sym is ∙ e) unended)

-- behind that line the rest stands
pub behind-due : (line rest xs : List ℕ) (n : ℕ) → xs ≡ line ++ 10 ∷ rest → n ≡ 1 → drop (length line + n) xs ≡ rest
behind-due line rest xs n e one = ap (λ xs. drop (length line + n) xs) e ∙ ap (λ n. drop (length line + n) (line ++ 10 ∷ rest)) one ∙ drop-line line rest

-- ---- lines that are short

pub short-due : (given seal : List ℕ) → AreShort (given_lines given) → length seal ≡ 16 → AreShort (given_lines given ++ seal_line seal ∷ [])
short-due given seal short sixteen =
    each-push (λ line. length line ≤ 140100) (given_lines given) (seal_line seal) short (omega (arith, sixteen, length-encode_with lower_digits seal))

-- ---- a line beside the one that is due

pub other-is : (ends : Bool) (xs piece due rest line : List ℕ) (r : Bool) → IsFirstPiece ends xs piece → IsUnended due → xs ≡ due ++ 10 ∷ rest
    → r ≡ not (bytes_eq line piece) → r ≡ true → (bytes_eq line due ≡ false) × (piece ≡ due)
other-is ends xs piece due rest line r first unended is test differs =
    let (same, ended) = piece-is ends xs piece due rest first unended is in
    (ap (λ p. bytes_eq line p) (sym same) ∙ not-true (bytes_eq line piece) (sym test ∙ differs), same)

not-false : (b : Bool) → not b ≡ false → b ≡ true
not-false true e = refl
not-false false e = cc e

pub same-is : (ends : Bool) (xs piece due rest line : List ℕ) (r : Bool) (n : ℕ) → IsFirstPiece ends xs piece → IsUnended due → xs ≡ due ++ 10 ∷ rest
    → r ≡ not (bytes_eq line piece) → r ≡ false → (ends ≡ true → n ≡ 1) → (bytes_eq line due ≡ true) × (drop (length piece + n) xs ≡ rest)
same-is ends xs piece due rest line r n first unended is test equal count =
    let (same, ended) = piece-is ends xs piece due rest first unended is in (
      ap (λ p. bytes_eq line p) (sym same) ∙ not-false (bytes_eq line piece) (sym test ∙ equal),
      ap (λ p. drop (length p + n) xs) same ∙ behind-due due rest xs n is (count ended),
    )
