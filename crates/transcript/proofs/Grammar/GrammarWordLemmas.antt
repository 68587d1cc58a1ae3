-- Each word that is read is one of the grammar, and each word of the grammar is read: numbers, choices, hex.
use Rattle.std.proofs.Common.{◌≡◌, ◌≢◌, ℕ, ◌+◌, ◌*◌, ◌/◌, ◌%◌, ◌^◌, ◌<◌, ◌≤◌, Bool, true, false, not, ◌&&◌, ◌||◌, cond, eqb, leb, List, [], ◌∷◌, ◌++◌, length, map, get_or, codes, decimal, bytes_eq, Option, Some, None, Result, Ok, Err, refl, sym, ap, ap₂, subst, ◌∙◌, arith}
use Rattle.std.specs.Char.{digit_char, is_ascii_digit, to_ascii_lowercase}
use Rattle.std.specs.List.{list_all, slice_index}
use Rattle.std.specs.Result.{result_ok}
use Rattle.std.specs.Str.Parse.{digits_value}
use Rattle.std.proofs.lemmas.Bool.{agree_below_at, and_parts, cond-false, cond-true, eqb-false, eqb-true, false_from_ne_true, leb-true, ne_eqb}
use Rattle.std.proofs.lemmas.Bool.Decides.{nat_tests}
use Rattle.std.proofs.lemmas.Fmt.{decimal-digits_value}
use Rattle.std.proofs.lemmas.List.{length-map, map-append}
use Rattle.std.proofs.lemmas.List.Elements.{All-append, All-cons, All-from_get_or, All-head, All-nil, All-same, All-tail, All-weaker}
use Rattle.std.proofs.lemmas.Option.{cond_some, same_Some}
use Rattle.std.proofs.lemmas.Slice.Eq.{bytes_eq-Decides}
use Rattle.wire_core.specs.Numbers.{AreOctets}
use Rattle.hex.specs.Hex.{decode_of, decode_pairs, digit_or_error, encode_lower, encode_with, hex_digit_value, is_hex_digit, lower_digits, pair_value, ◌>>=◌}
use Rattle.hex.specs.declared.error.FromHexError.{FromHexError}
use Rattle.hex.proofs.HexLemmas.{decode_of-even, decode_of-ok, decode_pairs-ok, length-encode_with}
use Rattle.hex.proofs.Pairs.{cons_byte, decode_pairs-ok_pair}
use Rattle.text_lines.specs.Words.{choice_word, hex_word, is_numeral, number_word}
use Rattle.text_lines.proofs.WordLemmas.{number_word-decimal, numeral-parts, numerals}
use Rattle.transcript.specs.Grammar.{IsChoice, IsHex, IsNumber, Lacks}
use Rattle.transcript.proofs.Grammar.GrammarJoinLemmas.{any-lacks}

-- ---- numbers

alone : (word : List ℕ) → (eqb (length word) 1 || not (eqb (get_or word 0 0) 48)) ≡ true → get_or word 0 0 ≡ 48
    → length word ≡ 1
alone word h zero = grind (arith, nat_tests)

pub number-spelled : (limit : ℕ) (word : List ℕ) (n : ℕ) → limit < 2 ^ 64 → number_word limit word ≡ Some n → IsNumber limit word n
number-spelled limit word n small e =
    let (tests, same) = cond_some _ (digits_value 10 word) n e in
    let parts = and_parts (is_numeral word) (leb (digits_value 10 word) limit) tests in
    let fits = leb-true _ _ parts.1 in
    let numeral = numeral-parts word parts.0 in
    let first = (and_parts (leb 1 (length word) && list_all is_ascii_digit word) _ parts.0).1 in
    let spelled : decimal (digits_value 10 word) ≡ word =
    decimal-digits_value numerals word numeral.digits numeral.some (alone word first) (omega arith) in
    (sym spelled ∙ ap decimal same, omega arith)

pub number-read : (limit : ℕ) (word : List ℕ) (n : ℕ) → limit < 2 ^ 64 → IsNumber limit word n → number_word limit word ≡ Some n
number-read limit word n small (is, within) = ap (number_word limit) is ∙ number_word-decimal limit n within (omega arith)

-- ---- one of two words

pub choice-spelled : (on off word : List ℕ) (value : Bool) → choice_word on off word ≡ Some value → IsChoice on off word value
choice-spelled on off word value e = by (bytes_eq word on) (bytes_eq word off) refl refl e
  where
    by : (a b : Bool) → bytes_eq word on ≡ a → bytes_eq word off ≡ b → cond a (Some true) (cond b (Some false) None) ≡ Some value
        → IsChoice on off word value
    by true b is_on is_off e = subst (IsChoice on off word) (same_Some true value e) ((bytes_eq-Decides word on).0 is_on)
    by false true is_on is_off e = subst (IsChoice on off word) (same_Some false value e) ((bytes_eq-Decides word off).0 is_off)
    by false false is_on is_off e = cc

pub choice-read : (on off word : List ℕ) (value : Bool) → bytes_eq off on ≡ false → IsChoice on off word value
    → choice_word on off word ≡ Some value
choice-read on off word true differ is =
    ap (choice_word on off) is ∙ cond-true (bytes_eq on on) _ _ ((bytes_eq-Decides on on).1 refl)
choice-read on off word false differ is =
    ap (choice_word on off) is ∙ cond-false (bytes_eq off on) _ _ differ
    ∙ cond-true (bytes_eq off off) _ _ ((bytes_eq-Decides off off).1 refl)

-- ---- digits of hex, and their lower case

lower_digit : (d : ℕ) → d < 16 → slice_index lower_digits d ≡ digit_char d
lower_digit d small =
    eqb-true _ _ (agree_below_at (λ k. eqb (slice_index lower_digits k) (digit_char k)) (λ k. true) 16 d refl small)

digit-small : (c v : ℕ) → hex_digit_value c ≡ Some v → v < 16
digit-small c v e = grind (arith, nat_tests)

digit-lowered : (c v : ℕ) → hex_digit_value c ≡ Some v → to_ascii_lowercase c ≡ digit_char v
digit-lowered c v e = grind (arith, nat_tests)

digit-read : (c d : ℕ) → d < 16 → to_ascii_lowercase c ≡ digit_char d → hex_digit_value c ≡ Some d
digit-read c d small e = grind (arith, nat_tests)

-- ---- pairs of them

record Pair (a b : ℕ) (rest : Result (List ℕ) FromHexError) (octets : List ℕ) : Type 0 where
  high : ℕ
  low : ℕ
  behind : List ℕ
  is_high : hex_digit_value a ≡ Some high
  is_low : hex_digit_value b ≡ Some low
  is_rest : rest ≡ Ok behind
  octets_are : octets ≡ (high * 16 + low) ∷ behind

pair : (i a b : ℕ) (rest : Result (List ℕ) FromHexError) (octets : List ℕ)
    → (pair_value a b i >>= (λ octet. rest >>= (λ behind. Ok (octet ∷ behind)))) ≡ Ok octets → Pair a b rest octets
pair i a b rest octets e = by (hex_digit_value a) (hex_digit_value b) rest refl refl refl e
  where
    by : (high low : Option ℕ) (r : Result (List ℕ) FromHexError) → hex_digit_value a ≡ high → hex_digit_value b ≡ low
        → rest ≡ r
        → ((digit_or_error a i high >>= (λ h. digit_or_error b (i + 1) low >>= (λ l. Ok (h * 16 + l))))
        >>= (λ octet. r >>= (λ behind. Ok (octet ∷ behind)))) ≡ Ok octets
        → Pair a b rest octets
    by None low r is_high is_low is_rest e = cc
    by (Some high) None r is_high is_low is_rest e = cc
    by (Some high) (Some low) (Err fault) is_high is_low is_rest e = cc
    by (Some high) (Some low) (Ok behind) is_high is_low is_rest e = record {
      high = high;
      low = low;
      behind = behind;
      is_high = is_high;
      is_low = is_low;
      is_rest = is_rest;
      octets_are = cc;
    }

pairs-lowered : (i : ℕ) (word octets : List ℕ) → decode_pairs i word ≡ Ok octets
    → map to_ascii_lowercase word ≡ encode_lower octets
unfolding decode_pairs encode_with
pairs-lowered i [] octets e =
    let none : [] ≡ octets = cc in
    subst (λ o. [] ≡ encode_lower o) none refl
pairs-lowered i (a ∷ []) octets e = cc
pairs-lowered i (a ∷ b ∷ word) octets e =
    let p = pair i a b (decode_pairs (i + 2) word) octets e in
    let small = digit-small b p.low p.is_low in
    let large = digit-small a p.high p.is_high in
    let high : (p.high * 16 + p.low) / 16 ≡ p.high = omega arith in
    let low : (p.high * 16 + p.low) % 16 ≡ p.low = omega arith in
    let first : to_ascii_lowercase a ≡ slice_index lower_digits ((p.high * 16 + p.low) / 16) =
    digit-lowered a p.high p.is_high ∙ sym (lower_digit p.high large) ∙ ap (slice_index lower_digits) (sym high) in
    let second : to_ascii_lowercase b ≡ slice_index lower_digits ((p.high * 16 + p.low) % 16) =
    digit-lowered b p.low p.is_low ∙ sym (lower_digit p.low small) ∙ ap (slice_index lower_digits) (sym low) in
    let behind = pairs-lowered (i + 2) word p.behind p.is_rest in
    subst (λ o. map to_ascii_lowercase (a ∷ b ∷ word) ≡ encode_lower o) (sym p.octets_are) cc

pairs-read : (i : ℕ) (word octets : List ℕ) → AreOctets octets → map to_ascii_lowercase word ≡ encode_lower octets
    → decode_pairs i word ≡ Ok octets
unfolding decode_pairs encode_with
pairs-read i [] [] small e = refl
pairs-read i [] (x ∷ octets) small e = cc
pairs-read i (a ∷ word) [] small e = cc
pairs-read i (a ∷ []) (x ∷ octets) small e = cc
pairs-read i (a ∷ b ∷ word) (x ∷ octets) small e =
    let fits : x < 256 = All-head (λ y. y < 256) x octets small in
    let first : to_ascii_lowercase a ≡ slice_index lower_digits (x / 16) = cc in
    let second : to_ascii_lowercase b ≡ slice_index lower_digits (x % 16) = cc in
    let rest : map to_ascii_lowercase word ≡ encode_lower octets = cc in
    let high = digit-read a (x / 16) (omega arith) (first ∙ lower_digit (x / 16) (omega arith)) in
    let low = digit-read b (x % 16) (omega arith) (second ∙ lower_digit (x % 16) (omega arith)) in
    let value : pair_value a b i ≡ Ok (x / 16 * 16 + x % 16) = rw (high, low) refl in
    let whole : x / 16 * 16 + x % 16 ≡ x = omega arith in
    decode_pairs-ok_pair i a b _ word value
    ∙ ap (cons_byte (x / 16 * 16 + x % 16)) (pairs-read (i + 2) word octets (All-tail (λ y. y < 256) x octets small) rest)
    ∙ ap (λ (o : ℕ). Ok (o ∷ octets)) whole

-- ---- whole words of hex

pub hex-some : (word octets : List ℕ) → (length word ≡ 0 → ⊥) → decode_of word ≡ Ok octets → IsHex word octets
hex-some word [] some e = absurd (some (decode_of-ok word [] e).2)
hex-some word (x ∷ octets) some e =
    let (even, digits, len, bytes) = decode_of-ok word (x ∷ octets) e in (
      All-from_get_or (λ y. y < 256) (x ∷ octets) 0 (λ i within. bytes i),
      pairs-lowered 0 word (x ∷ octets) (sym (decode_of-even word even) ∙ e),
    )

ok-is : {A E : Type 0} (r : Result A E) (x : A) → result_ok r ≡ Some x → r ≡ Ok x
ok-is (Ok y) x e = ap Ok (same_Some y x e)
ok-is (Err fault) x e = cc

pub hex-spelled : (word octets : List ℕ) → hex_word word ≡ Some octets → IsHex word octets
hex-spelled word octets e = by (bytes_eq word (codes "-")) (eqb (length word) 0) refl refl e
  where
    by : (a b : Bool) → bytes_eq word (codes "-") ≡ a → eqb (length word) 0 ≡ b
        → cond a (Some []) (cond b None (result_ok (decode_of word))) ≡ Some octets → IsHex word octets
    by true b is empty e = subst (IsHex word) (same_Some [] octets e) ((bytes_eq-Decides word (codes "-")).0 is)
    by false true is empty e = cc
    by false false is empty e = hex-some word octets (eqb-false (length word) 0 empty) (ok-is (decode_of word) octets e)

pub hex-read : (word octets : List ℕ) → IsHex word octets → hex_word word ≡ Some octets
hex-read word [] is = ap hex_word is
hex-read word (x ∷ octets) (small, lowered) =
    let len : length word ≡ 2 * length (x ∷ octets) =
    sym (length-map word to_ascii_lowercase) ∙ ap length lowered ∙ length-encode_with lower_digits (x ∷ octets) in
    let two : 2 ≤ length word = omega arith in
    let dash : bytes_eq word (codes "-") ≡ false =
    false_from_ne_true _ (λ is. let one : length word ≡ 1 = ap length ((bytes_eq-Decides word (codes "-")).0 is) in omega arith) in
    cond-false (bytes_eq word (codes "-")) _ _ dash
    ∙ cond-false (eqb (length word) 0) _ _ (ne_eqb (length word) 0 (λ z. omega arith))
    ∙ ap result_ok (decode_of-even word (omega arith) ∙ pairs-read 0 word (x ∷ octets) small lowered)

-- a word of hex has '-' and digits alone in it
pub hex-lacks : (c : ℕ) (word octets : List ℕ) → c ≢ 45 → is_hex_digit c ≡ false → IsHex word octets → Lacks c word
hex-lacks c word [] dash none is =
    All-same (λ y. y ≢ c) word (codes "-") is (All-cons (λ y. y ≢ c) 45 [] (λ e. dash (sym e)) (All-nil (λ y. y ≢ c)))
hex-lacks c word (x ∷ octets) dash none (small, lowered) =
    All-weaker (λ d. is_hex_digit d ≡ true) (λ d. d ≢ c) (λ d digit e. cc (digit, none, e)) word
    (decode_pairs-ok 0 word (x ∷ octets) (pairs-read 0 word (x ∷ octets) small lowered)).0

encode-append : (xs ys : List ℕ) → encode_lower (xs ++ ys) ≡ encode_lower xs ++ encode_lower ys
unfolding encode_with
encode-append [] ys = refl
encode-append (x ∷ xs) ys =
    ap (λ r. slice_index lower_digits (x / 16) ∷ slice_index lower_digits (x % 16) ∷ r) (encode-append xs ys)

-- two words of hex in one
pub hex-joined : (a b x y : List ℕ) → 0 < length x → 0 < length y → IsHex a x → IsHex b y → IsHex (a ++ b) (x ++ y)
hex-joined a b [] y some more is-a is-b = absurd (omega (arith, some))
hex-joined a b (x ∷ xs) [] some more is-a is-b = absurd (omega (arith, more))
hex-joined a b (x ∷ xs) (y ∷ ys) some more (small, lowered) (small', lowered') = (
  All-append (λ o. o < 256) (x ∷ xs) (y ∷ ys) small small',
  map-append to_ascii_lowercase a b ∙ ap₂ (λ p q. p ++ q) lowered lowered' ∙ sym (encode-append (x ∷ xs) (y ∷ ys)),
)
