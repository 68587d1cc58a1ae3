-- What a numeral stands for.
use Rattle.std.proofs.Common.{◌≡◌, ℕ, zero, suc, ◌^◌, ◌<◌, ◌≤◌, true, not, ◌&&◌, ◌||◌, cond, eqb, leb, List, [], ◌∷◌, length, get_or, Option, Some, None, Result, Ok, Err, refl, sym, subst, ap, ◌∙◌, arith, tests}
use Rattle.std.specs.Char.{is_ascii_digit}
use Rattle.std.specs.Fmt.{decimal}
use Rattle.std.specs.List.{list_all}
use Rattle.std.specs.Result.{MatchResult, OkIff, result_ok}
use Rattle.std.specs.Str.{IsAscii, IsUtf8, all_ascii_digits}
use Rattle.std.specs.Str.Parse.{ParsesUnsigned, digits_value}
use Rattle.std.proofs.lemmas.Bool.{and_from, and_parts, or_left, or_right, ne_eqb, le-leb, lt-leb, leb-true, cond-true, cond-false}
use Rattle.std.proofs.lemmas.Fmt.{decimal_digit, decimal_is_IsNumeral, decimal_nonempty, digits_decimal, first_decimal}
use Rattle.std.proofs.lemmas.Option.{same_Some}
use Rattle.std.proofs.lemmas.Str.{IsUtf8-from_ascii}
use Rattle.std.proofs.lemmas.Str.Ascii.{IsAscii-nil, IsAscii-cons}
use Rattle.std.proofs.lemmas.Str.Parse.{IsNumeralModel, numerals_by_value, tells_all_ascii_digits, parse_digits}
use Rattle.text_lines.specs.Words.{◌>>=◌, is_numeral, number_word}

list_all-digits : (ds : List ℕ) → list_all is_ascii_digit ds ≡ all_ascii_digits ds
list_all-digits [] = refl
list_all-digits (c ∷ cs) = ap (λ rest. is_ascii_digit c && rest) (list_all-digits cs)

pub numerals : IsNumeralModel (λ ds. all_ascii_digits ds ≡ true) (digits_value 10)
numerals = numerals_by_value _ tells_all_ascii_digits

IsAscii-digits : (ds : List ℕ) → all_ascii_digits ds ≡ true → IsAscii ds
IsAscii-digits [] h = IsAscii-nil
IsAscii-digits (c ∷ cs) h =
    let parts = and_parts (is_ascii_digit c) (all_ascii_digits cs) h in
    IsAscii-cons c cs (grind (arith, tests)) (IsAscii-digits cs parts.1)

pub record IsNumeral (word : List ℕ) : Type 0 where
  pub some : 1 ≤ length word
  pub digits : all_ascii_digits word ≡ true

pub numeral-parts : (word : List ℕ) → is_numeral word ≡ true → IsNumeral word
numeral-parts word h =
    let outer = and_parts (leb 1 (length word) && list_all is_ascii_digit word) _ h in
    let inner = and_parts (leb 1 (length word)) (list_all is_ascii_digit word) outer.0 in
    record { some = leb-true _ _ inner.0; digits = sym (list_all-digits word) ∙ inner.1 }

pub IsUtf8-numeral : (word : List ℕ) → is_numeral word ≡ true → IsUtf8 word
IsUtf8-numeral word h = IsUtf8-from_ascii word (IsAscii-digits word (numeral-parts word h).digits)

number_word-numeral : (limit : ℕ) (word : List ℕ) → is_numeral word ≡ true
    → number_word limit word ≡ cond (leb (digits_value 10 word) limit) (Some (digits_value 10 word)) None
number_word-numeral limit word h =
    ap (λ b. cond (b && leb (digits_value 10 word) limit) (Some (digits_value 10 word)) None) h

within-parsed : {E : Type 0} (n : ℕ) (some : Type 0) (r : Result ℕ E) → some → OkIff r (some × (n < 2 ^ 64)) n
    → result_ok r ≡ cond (leb n 18446744073709551615) (Some n) None
within-parsed n some (Ok x) there h =
    ap Some h.1 ∙ sym (cond-true (leb n 18446744073709551615) (Some n) None (le-leb n 18446744073709551615 (omega (arith, h.0.1))))
within-parsed n some (Err e) there h =
    sym (cond-false (leb n 18446744073709551615) (Some n) None (lt-leb n 18446744073709551615 (omega (arith, λ (w : n < 2 ^ 64). h (there, w)))))

-- what `parse` gives for a numeral
pub result_ok-parse : {E : Type 0} (word : List ℕ) (r : Result ℕ E) → is_numeral word ≡ true → ParsesUnsigned 64 10 word r
    → result_ok r ≡ number_word 18446744073709551615 word
result_ok-parse word r h parses =
    let parts = numeral-parts word h in
    within-parsed (digits_value 10 word) (0 < length word) r (omega (arith, parts.some))
    (parse_digits numerals 64 word r parses parts.digits)
    ∙ sym (number_word-numeral 18446744073709551615 word h)

-- of two steps that gave a value, each did
pub bind-some : {A B : Type 0} (o : Option A) (f : A → Option B) (y : B) → (o >>= f) ≡ Some y
    → (x : A) × (o ≡ Some x) × (f x ≡ Some y)
bind-some None f y e = cc
bind-some (Some x) f y e = (x, refl, e)

-- an `Ok` that was there, and what is known of it
pub ok-some : {X E : Type 0} (P : X → Type 0) (Q : E → Type 0) (r : Result X E) (x : X)
    → MatchResult r P Q → result_ok r ≡ Some x → P x
ok-some P Q (Ok y) x h e = subst P (same_Some y x e) h
ok-some P Q (Err d) x h e = cc

pub ok-none : {X E : Type 0} {A : Type 0} (P : X → Type 0) (Q : E → Type 0) (r : Result X E)
    → MatchResult r P (λ e. (A → ⊥) × Q e) → result_ok r ≡ None → A → ⊥
ok-none P Q (Ok y) h e a = cc
ok-none P Q (Err d) h e a = h.0 a

-- ---- what a number is written as

-- the first of several digits isn't 0
plain-first : (n : ℕ) → n < 2 ^ 64 → (eqb (length (decimal n)) 1 || not (eqb (get_or (decimal n) 0 0) 48)) ≡ true
plain-first zero small = or_left (eqb (length (decimal 0)) 1) _ (ap (λ (ds : List ℕ). eqb (length ds) 1) (decimal_digit 0 (omega arith)))
plain-first (suc n) small =
    or_right _ _ (ap not (ne_eqb (get_or (decimal (suc n)) 0 0) 48 (λ e. omega (arith, first_decimal (suc n) (omega arith) small))))

is_numeral-decimal : (n : ℕ) → n < 2 ^ 64 → is_numeral (decimal n) ≡ true
is_numeral-decimal n small =
    let some = le-leb 1 (length (decimal n)) (omega (arith, decimal_nonempty n small)) in
    let all = list_all-digits (decimal n) ∙ digits_decimal numerals n small in
    and_from _ _ (and_from _ _ some all) (plain-first n small)

pub number_word-decimal : (limit n : ℕ) → n ≤ limit → n < 2 ^ 64 → number_word limit (decimal n) ≡ Some n
number_word-decimal limit n within small =
    let value : digits_value 10 (decimal n) ≡ n = (decimal_is_IsNumeral n small).1 in
    cond-true (is_numeral (decimal n) && leb (digits_value 10 (decimal n)) limit) (Some (digits_value 10 (decimal n))) None
    (and_from _ _ (is_numeral-decimal n small) (le-leb (digits_value 10 (decimal n)) limit (omega (arith, value))))
    ∙ ap Some value
