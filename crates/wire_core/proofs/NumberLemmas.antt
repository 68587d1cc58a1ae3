-- Numbers and their octets: what a caller needs to go from one to the other.
use Rattle.std.proofs.Common.{◌≡◌, ℕ, ◌+◌, ◌*◌, ◌/◌, ◌%◌, ◌<◌, ◌≤◌, ◌^◌, List, [], ◌∷◌, ◌++◌, length, get_or, drop, refl, fold, sym, ◌∙◌, ap, arith, add-one}
use Rattle.std.proofs.Math.Seq.{drop-cons}
use Rattle.std.proofs.lemmas.List.Sums.{fold-append}
use Rattle.std.specs.Int.{w16, w32, w64, to_be_bytes}
use Rattle.wire_core.specs.Numbers.{u16, u24, u32, u64, number, octets_at, NumbersAreReadBack}

-- one more octet at a place
octets_at-more : (xs : List ℕ) (place next count : ℕ) → place < length xs → next ≡ place + 1 → octets_at xs place (count + 1) ≡ get_or xs place 0 ∷ octets_at xs next count
octets_at-more xs place next count inside e = rw (e, add-one, drop-cons xs place 0, add-one) refl

pub octets_at-2 : (xs : List ℕ) (p q : ℕ) → q + 1 ≤ length xs → q ≡ p + 1 → octets_at xs p 2 ≡ get_or xs p 0 ∷ get_or xs q 0 ∷ []
octets_at-2 xs p q inside e =
    octets_at-more xs p q 1 (omega arith) e ∙ ap (λ r. get_or xs p 0 ∷ r) (octets_at-more xs q (q + 1) 0 (omega arith) refl)

pub octets_at-3 : (xs : List ℕ) (p q r : ℕ) → r + 1 ≤ length xs → q ≡ p + 1 → r ≡ q + 1 → octets_at xs p 3 ≡ get_or xs p 0 ∷ get_or xs q 0 ∷ get_or xs r 0 ∷ []
octets_at-3 xs p q r inside e f =
    octets_at-more xs p q 2 (omega arith) e ∙ ap (λ rest. get_or xs p 0 ∷ rest) (octets_at-2 xs q r inside f)

pub octets_at-4 : (xs : List ℕ) (p q r s : ℕ) → s + 1 ≤ length xs → q ≡ p + 1 → r ≡ q + 1 → s ≡ r + 1 → octets_at xs p 4 ≡ get_or xs p 0 ∷ get_or xs q 0 ∷ get_or xs r 0 ∷ get_or xs s 0 ∷ []
octets_at-4 xs p q r s inside e f g =
    octets_at-more xs p q 3 (omega arith) e ∙ ap (λ rest. get_or xs p 0 ∷ rest) (octets_at-3 xs q r s inside f g)

-- the octets at a place in two parts
pub octets_at-8 : (xs : List ℕ) (p a : ℕ) → p + 8 ≤ length xs → a ≡ p + 4 → octets_at xs p 8 ≡ octets_at xs p 4 ++ octets_at xs a 4
octets_at-8 xs p a inside e =
    octets_at-more xs p (p + 1) 7 (omega arith) refl
    ∙ ap (λ rest. get_or xs p 0 ∷ rest) (octets_at-more xs (p + 1) (p + 2) 6 (omega arith) (omega arith)
    ∙ ap (λ rest. get_or xs (p + 1) 0 ∷ rest) (octets_at-more xs (p + 2) (p + 3) 5 (omega arith) (omega arith)
    ∙ ap (λ rest. get_or xs (p + 2) 0 ∷ rest) (octets_at-more xs (p + 3) a 4 (omega arith) (omega arith))))
    ∙ ap (λ front. front ++ octets_at xs a 4) (sym (octets_at-4 xs p (p + 1) (p + 2) (p + 3) (omega arith) refl (omega arith) (omega arith)))

pub number-2 : (a b : ℕ) → number (a ∷ b ∷ []) ≡ a * 256 + b
unfolding number
number-2 a b = omega arith

pub number-3 : (a b c : ℕ) → number (a ∷ b ∷ c ∷ []) ≡ (a * 256 + b) * 256 + c
unfolding number
number-3 a b c = omega arith

pub number-4 : (a b c d : ℕ) → number (a ∷ b ∷ c ∷ d ∷ []) ≡ ((a * 256 + b) * 256 + c) * 256 + d
unfolding number
number-4 a b c d = omega arith

pub number-u16 : (n : ℕ) → n < 2 ^ 16 → number (u16 n) ≡ n
unfolding number u16
number-u16 n fits = omega arith

pub number-u24 : (n : ℕ) → n < 2 ^ 24 → number (u24 n) ≡ n
unfolding number u24
number-u24 n fits = omega arith

pub number-u32 : (n : ℕ) → n < 2 ^ 32 → number (u32 n) ≡ n
unfolding number u32
number-u32 n fits = omega arith

-- octets are the text of the number that they stand for
pub u16-is : (n a b : ℕ) → a < 256 → b < 256 → n ≡ a * 256 + b → u16 n ≡ a ∷ b ∷ []
unfolding u16
u16-is n a b p q e =
    let high : n / 256 % 256 ≡ a = omega arith in
    let low : n % 256 ≡ b = omega arith in
    rw (high, low) refl

pub u24-is : (n a b c : ℕ) → a < 256 → b < 256 → c < 256 → n ≡ (a * 256 + b) * 256 + c → u24 n ≡ a ∷ b ∷ c ∷ []
unfolding u24
u24-is n a b c p q r e =
    let first : n / 65536 % 256 ≡ a = omega arith in
    let second : n / 256 % 256 ≡ b = omega arith in
    let third : n % 256 ≡ c = omega arith in
    rw (first, second, third) refl

pub u32-is : (n a b c d : ℕ) → a < 256 → b < 256 → c < 256 → d < 256 → n ≡ ((a * 256 + b) * 256 + c) * 256 + d → u32 n ≡ a ∷ b ∷ c ∷ d ∷ []
unfolding u32
u32-is n a b c d p q r s e =
    let first : n / 16777216 % 256 ≡ a = omega arith in
    let second : n / 65536 % 256 ≡ b = omega arith in
    let third : n / 256 % 256 ≡ c = omega arith in
    let fourth : n % 256 ≡ d = omega arith in
    rw (first, second, third, fourth) refl

pub u16-number : (a b : ℕ) → a < 256 → b < 256 → u16 (number (a ∷ b ∷ [])) ≡ a ∷ b ∷ []
u16-number a b p q = u16-is _ a b p q (number-2 a b)

pub u24-number : (a b c : ℕ) → a < 256 → b < 256 → c < 256 → u24 (number (a ∷ b ∷ c ∷ [])) ≡ a ∷ b ∷ c ∷ []
u24-number a b c p q r = u24-is _ a b c p q r (number-3 a b c)

pub u32-number : (a b c d : ℕ) → a < 256 → b < 256 → c < 256 → d < 256 → u32 (number (a ∷ b ∷ c ∷ d ∷ [])) ≡ a ∷ b ∷ c ∷ d ∷ []
u32-number a b c d p q r s = u32-is _ a b c d p q r s (number-4 a b c d)

pub length-u16 : (n : ℕ) → length (u16 n) ≡ 2
unfolding u16
length-u16 n = refl

pub length-u24 : (n : ℕ) → length (u24 n) ≡ 3
unfolding u24
length-u24 n = refl

pub length-u32 : (n : ℕ) → length (u32 n) ≡ 4
unfolding u32
length-u32 n = refl

-- a fold that begins at a number begins at 0 and has it in front
fold-from : (a : ℕ) (ys : List ℕ) → length ys ≡ 4 → fold (λ n x. n * 256 + x) a ys ≡ a * 4294967296 + fold (λ n x. n * 256 + x) 0 ys
fold-from a [] e = absurd (omega arith)
fold-from a (x ∷ []) e = absurd (omega arith)
fold-from a (x ∷ y ∷ []) e = absurd (omega arith)
fold-from a (x ∷ y ∷ z ∷ []) e = absurd (omega arith)
fold-from a (x ∷ y ∷ z ∷ w ∷ []) e = omega arith
fold-from a (x ∷ y ∷ z ∷ w ∷ v ∷ rest) e = absurd (omega arith)

-- octets in two groups, the second of four
pub number-append : (xs ys : List ℕ) → length ys ≡ 4 → number (xs ++ ys) ≡ number xs * 4294967296 + number ys
unfolding number
number-append xs ys e = fold-append (λ n x. n * 256 + x) 0 xs ys ∙ fold-from _ ys e

-- eight octets are four of the high half and four of the low half
u64-halves : (n : ℕ) → n < 2 ^ 64 → u64 n ≡ u32 (n / 4294967296) ++ u32 (n % 4294967296)
unfolding u32 u64
u64-halves n fits =
    let a : n / 4294967296 / 16777216 % 256 ≡ n / 72057594037927936 % 256 = omega arith in
    let b : n / 4294967296 / 65536 % 256 ≡ n / 281474976710656 % 256 = omega arith in
    let c : n / 4294967296 / 256 % 256 ≡ n / 1099511627776 % 256 = omega arith in
    let d : n % 4294967296 / 16777216 % 256 ≡ n / 16777216 % 256 = omega arith in
    let e : n % 4294967296 / 65536 % 256 ≡ n / 65536 % 256 = omega arith in
    let f : n % 4294967296 / 256 % 256 ≡ n / 256 % 256 = omega arith in
    let g : n % 4294967296 % 256 ≡ n % 256 = omega arith in
    rw (a, b, c, d, e, f, g) refl

pub number-u64 : (n : ℕ) → n < 2 ^ 64 → number (u64 n) ≡ n
number-u64 n fits =
    let high : n / 4294967296 < 2 ^ 32 = omega arith in
    let low : n % 4294967296 < 2 ^ 32 = omega arith in
    ap number (u64-halves n fits)
    ∙ number-append (u32 (n / 4294967296)) (u32 (n % 4294967296)) (length-u32 _)
    ∙ ap (λ m. m * 4294967296 + number (u32 (n % 4294967296))) (number-u32 (n / 4294967296) high)
    ∙ ap (λ m. n / 4294967296 * 4294967296 + m) (number-u32 (n % 4294967296) low)
    ∙ omega arith

pub numbers_are_read_back : NumbersAreReadBack
numbers_are_read_back = record { in_two = number-u16; in_three = number-u24; in_four = number-u32; in_eight = number-u64 }

-- what std calls the big-endian bytes of a number
pub to_be_bytes-16 : (n : ℕ) → to_be_bytes w16 n ≡ u16 n
unfolding u16
to_be_bytes-16 n = refl

pub to_be_bytes-32 : (n : ℕ) → to_be_bytes w32 n ≡ u32 n
unfolding u32
to_be_bytes-32 n = refl

pub to_be_bytes-24 : (n : ℕ) → drop 1 (to_be_bytes w32 n) ≡ u24 n
unfolding u24
to_be_bytes-24 n = refl

pub to_be_bytes-64 : (n : ℕ) → to_be_bytes w64 n ≡ u64 n
unfolding u64
to_be_bytes-64 n = refl
