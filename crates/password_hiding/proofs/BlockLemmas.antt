-- Blocks of a list, before and after one of them is written.
use Rattle.std.proofs.Common.{◌≡◌, ℕ, zero, suc, ◌+◌, ◌-◌, ◌*◌, ◌/◌, ◌%◌, ◌<◌, ◌≤◌, List, [], ◌∷◌, ◌++◌, length, get_or, set, take, drop, refl, sym, ap, ◌∙◌, append_assoc, inl, inr, subst, true, replicate, add-one, arith, take_all, leb}
use Rattle.std.specs.Prelude.{bit_xor}
use Rattle.std.proofs.lemmas.Bool.{cases_lt, and_parts, leb-true, le-leb, eqb-true}
use Rattle.std.proofs.lemmas.Bool.Decides.{eqb_tells}
use Rattle.std.proofs.lemmas.List.{take_at, drop_at, drop_more, take_more, set_at, get_or_at, drop-take, take-take, drop-drop, length-take-le, length-drop, length-append, take-append-drop, take-replicate, length-replicate}
use Rattle.std.proofs.lemmas.Nat.Bits.{same_from_bits, bit_at_xor, bit_at-lt}
use Rattle.std.proofs.Math.Seq.{take-append-add}
use Rattle.md5.specs.Md5.{md5}
use Rattle.md5.proofs.StandardFacts.{length-md5}
use Rattle.password_hiding.specs.Hiding.{block, xor_each, before_block, mask, is_hidden_length, Hides, hidden_blocks, plain_blocks, padded_length, padded}

-- ---- octet by octet

xor_twice : (a m : ℕ) → bit_xor (bit_xor a m) m ≡ a
xor_twice a m = same_from_bits (bit_xor (bit_xor a m) m) a (λ i. omega (arith, bit_at_xor (bit_xor a m) m i, bit_at_xor a m i, bit_at-lt a i, bit_at-lt m i))

pub xor_each_twice : (xs ms : List ℕ) → length xs ≤ length ms → xor_each (xor_each xs ms) ms ≡ xs
xor_each_twice [] ms le = refl
xor_each_twice (x ∷ xs) [] le = absurd (omega arith)
xor_each_twice (x ∷ xs) (m ∷ ms) le = rw (xor_twice x m, xor_each_twice xs ms (omega arith)) refl

pub length-xor_each : (xs ms : List ℕ) → length xs ≤ length ms → length (xor_each xs ms) ≡ length xs
length-xor_each [] ms le = refl
length-xor_each (x ∷ xs) [] le = absurd (omega arith)
length-xor_each (x ∷ xs) (m ∷ ms) le = omega (arith, length-xor_each xs ms (omega arith))

xor_each-push : (xs ms : List ℕ) (x m : ℕ) → length xs ≡ length ms → xor_each (xs ++ x ∷ []) (ms ++ m ∷ []) ≡ xor_each xs ms ++ bit_xor x m ∷ []
xor_each-push [] [] x m e = refl
xor_each-push [] (n ∷ ms) x m e = absurd (omega arith)
xor_each-push (y ∷ xs) [] x m e = absurd (omega arith)
xor_each-push (y ∷ xs) (n ∷ ms) x m e = ap (λ (rest : List ℕ). bit_xor y n ∷ rest) (xor_each-push xs ms x m (omega arith))

-- one more octet changed in place
pub one_more : (xs ms ys : List ℕ) (i : ℕ) → i < length xs → i < length ms → ys ≡ xor_each (take i xs) (take i ms) ++ drop i xs
    → set ys i (bit_xor (get_or ys i 0) (get_or ms i 0)) ≡ xor_each (take (i + 1) xs) (take (i + 1) ms) ++ drop (i + 1) xs
one_more xs ms ys i lt lm so_far =
    let tx : length (take i xs) ≡ i = length-take-le i xs (omega arith) in
    let tm : length (take i ms) ≡ i = length-take-le i ms (omega arith) in
    let front : List ℕ = xor_each (take i xs) (take i ms) in
    let size : length front ≡ i = length-xor_each (take i xs) (take i ms) (omega arith) ∙ tx in
    let text : ys ≡ front ++ get_or xs i 0 ∷ drop (i + 1) xs = so_far ∙ ap (λ (r : List ℕ). front ++ r) (drop_more xs i 0 lt) in
    let y : ℕ = bit_xor (get_or xs i 0) (get_or ms i 0) in
    ap (λ (zs : List ℕ). set zs i (bit_xor (get_or zs i 0) (get_or ms i 0))) text
    ∙ ap (λ (x : ℕ). set (front ++ get_or xs i 0 ∷ drop (i + 1) xs) i (bit_xor x (get_or ms i 0))) (get_or_at front (get_or xs i 0) (drop (i + 1) xs) 0 i size)
    ∙ set_at front (get_or xs i 0) (drop (i + 1) xs) y i size
    ∙ sym (append_assoc front (y ∷ []) (drop (i + 1) xs))
    ∙ ap (λ (r : List ℕ). r ++ drop (i + 1) xs) (sym (xor_each-push (take i xs) (take i ms) (get_or xs i 0) (get_or ms i 0) (tx ∙ sym tm)))
    ∙ ap (λ (r : List ℕ). xor_each r (take i ms ++ get_or ms i 0 ∷ []) ++ drop (i + 1) xs) (sym (take_more xs i 0 lt))
    ∙ ap (λ (r : List ℕ). xor_each (take (i + 1) xs) r ++ drop (i + 1) xs) (sym (take_more ms i 0 lm))

-- ---- blocks

pub length-block : (xs : List ℕ) (i : ℕ) → 16 * i + 16 ≤ length xs → length (block xs i) ≡ 16
length-block xs i le = length-take-le 16 (drop (16 * i) xs) (omega (arith, length-drop (16 * i) xs))

pub length-mask : (secret authenticator hidden : List ℕ) (i : ℕ) → length (mask secret authenticator hidden i) ≡ 16
length-mask secret authenticator hidden i = length-md5 (secret ++ before_block authenticator hidden i)

pub block-take : (xs : List ℕ) (n i : ℕ) → 16 * i + 16 ≤ n → block (take n xs) i ≡ block xs i
block-take xs n i le =
    let split : n ≡ 16 * i + (n - 16 * i) = omega arith in
    ap (λ (j : ℕ). take 16 (drop (16 * i) (take j xs))) split
    ∙ ap (λ (ys : List ℕ). take 16 ys) (drop-take (16 * i) (n - 16 * i) xs)
    ∙ take-take 16 (n - 16 * i) (drop (16 * i) xs) (omega arith)

-- one more block of a front
pub take-block : (xs : List ℕ) (i : ℕ) → 16 * i ≤ length xs → take (16 * suc i) xs ≡ take (16 * i) xs ++ block xs i
take-block xs i le =
    let at : 16 * suc i ≡ 16 * i + 16 = omega arith in
    let len : length (take (16 * i) xs) ≡ 16 * i = length-take-le (16 * i) xs le in
    ap (λ (n : ℕ). take n xs) at
    ∙ ap (λ (ys : List ℕ). take (16 * i + 16) ys) (sym (take-append-drop (16 * i) xs))
    ∙ ap (λ (n : ℕ). take (n + 16) (take (16 * i) xs ++ drop (16 * i) xs)) (sym len)
    ∙ take-append-add (take (16 * i) xs) (drop (16 * i) xs) 16

-- ---- a block that is written

-- the octets with another block in place of block i
pub record Written (octets new changed : List ℕ) (i place : ℕ) : Type 0 where
  pub place_is : place ≡ 16 * i
  pub inside : 16 * i + 16 ≤ length octets
  pub size : length new ≡ 16
  pub text : changed ≡ take place octets ++ new ++ drop (place + 16) octets

front_of : (octets new changed : List ℕ) (i place : ℕ) → Written octets new changed i place → length (take place octets) ≡ 16 * i
front_of octets new changed i place w = length-take-le place octets (omega (arith, w.place_is, w.inside)) ∙ w.place_is

split_of : (octets new changed : List ℕ) (i place : ℕ) → Written octets new changed i place → changed ≡ take place octets ++ (new ++ drop (place + 16) octets)
split_of octets new changed i place w = w.text ∙ append_assoc (take place octets) new (drop (place + 16) octets)

pub written_block : (octets new changed : List ℕ) (i place : ℕ) → Written octets new changed i place → block changed i ≡ new
written_block octets new changed i place w =
    ap (λ (xs : List ℕ). block xs i) (split_of octets new changed i place w)
    ∙ ap (λ (xs : List ℕ). take 16 xs) (drop_at (take place octets) (new ++ drop (place + 16) octets) (16 * i) (front_of octets new changed i place w))
    ∙ take_at new (drop (place + 16) octets) 16 w.size

pub written_earlier : (octets new changed : List ℕ) (i place : ℕ) → Written octets new changed i place → (j : ℕ) → j < i → block changed j ≡ block octets j
written_earlier octets new changed i place w j lt =
    let same : take (16 * i) changed ≡ take (16 * i) octets =
    ap (λ (xs : List ℕ). take (16 * i) xs) (split_of octets new changed i place w)
    ∙ take_at (take place octets) (new ++ drop (place + 16) octets) (16 * i) (front_of octets new changed i place w)
    ∙ ap (λ (n : ℕ). take n octets) w.place_is in
    sym (block-take changed (16 * i) j (omega arith)) ∙ ap (λ (xs : List ℕ). block xs j) same ∙ block-take octets (16 * i) j (omega arith)

pub written_rest : (octets new changed : List ℕ) (i place : ℕ) → Written octets new changed i place → drop (16 * suc i) changed ≡ drop (16 * suc i) octets
written_rest octets new changed i place w =
    let at : place + 16 ≡ 16 * suc i = omega (arith, w.place_is) in
    let len : length (take place octets ++ new) ≡ 16 * suc i = omega (arith, length-append (take place octets) new, front_of octets new changed i place w, w.size) in
    ap (λ (xs : List ℕ). drop (16 * suc i) xs) w.text
    ∙ drop_at (take place octets ++ new) (drop (place + 16) octets) (16 * suc i) len
    ∙ ap (λ (n : ℕ). drop n octets) at

-- a block changed in place
pub masked : (secret before octets changed : List ℕ) (i place : ℕ) → place ≡ 16 * i → 16 * i + 16 ≤ length octets
    → changed ≡ take place octets ++ xor_each (take 16 (drop place octets)) (md5 (secret ++ before)) ++ drop (place + 16) octets
    → Written octets (xor_each (block octets i) (md5 (secret ++ before))) changed i place
masked secret before octets changed i place e le text =
    let len : length (block octets i) ≡ 16 = length-block octets i le in
    record {
      place_is = e;
      inside = le;
      size = length-xor_each (block octets i) (md5 (secret ++ before)) (omega (arith, length-md5 (secret ++ before))) ∙ len;
      text = text ∙ ap (λ (n : ℕ). take place octets ++ xor_each (take 16 (drop n octets)) (md5 (secret ++ before)) ++ drop (place + 16) octets) e;
    }

pub before_next : (authenticator hidden found : List ℕ) (i place : ℕ) → place ≡ 16 * i → found ≡ take 16 (drop place hidden) → found ≡ before_block authenticator hidden (i + 1)
before_next authenticator hidden found i place e is = rw add-one (is ∙ ap (λ (n : ℕ). take 16 (drop n hidden)) e)

before_same : (authenticator octets changed : List ℕ) (i : ℕ) → ((k : ℕ) → k < i → block changed k ≡ block octets k)
    → (j : ℕ) → j ≤ i → before_block authenticator changed j ≡ before_block authenticator octets j
before_same authenticator octets changed i same zero le = refl
before_same authenticator octets changed i same (suc k) le = same k (omega arith)

pub rest_after : (old octets new changed : List ℕ) (i place : ℕ) → Written octets new changed i place → drop (16 * i) octets ≡ drop (16 * i) old
    → drop (16 * (i + 1)) changed ≡ drop (16 * (i + 1)) old
rest_after old octets new changed i place w rest =
    let at : 16 * suc i ≡ 16 * i + 16 = omega arith in
    rw add-one (written_rest octets new changed i place w
    ∙ ap (λ (n : ℕ). drop n octets) at ∙ sym (drop-drop 16 (16 * i) octets)
    ∙ ap (λ (xs : List ℕ). drop 16 xs) rest
    ∙ drop-drop 16 (16 * i) old ∙ ap (λ (n : ℕ). drop n old) (sym at))

-- ---- one more block hidden

hide_now : (secret authenticator old octets new changed before : List ℕ) (i place : ℕ) → Written octets new changed i place
    → before ≡ before_block authenticator octets i → new ≡ xor_each (block octets i) (md5 (secret ++ before)) → drop (16 * i) octets ≡ drop (16 * i) old
    → block changed i ≡ xor_each (block old i) (mask secret authenticator changed i)
hide_now secret authenticator old octets new changed before i place w eb en rest =
    written_block octets new changed i place w ∙ en
    ∙ ap (λ (xs : List ℕ). xor_each (take 16 xs) (md5 (secret ++ before))) rest
    ∙ ap (λ (xs : List ℕ). xor_each (block old i) (md5 (secret ++ xs))) (eb ∙ sym (before_same authenticator octets changed i (written_earlier octets new changed i place w) i (omega arith)))

pub hide_step : (secret authenticator old octets new changed before : List ℕ) (i place : ℕ) → Written octets new changed i place
    → before ≡ before_block authenticator octets i → new ≡ xor_each (block octets i) (md5 (secret ++ before)) → drop (16 * i) octets ≡ drop (16 * i) old
    → ((j : ℕ) → j < i → block octets j ≡ xor_each (block old j) (mask secret authenticator octets j))
    → (j : ℕ) → j < i + 1 → block changed j ≡ xor_each (block old j) (mask secret authenticator changed j)
hide_step secret authenticator old octets new changed before i place w eb en rest hidden j lt =
    let earlier = written_earlier octets new changed i place w in
    let now = hide_now secret authenticator old octets new changed before i place w eb en rest in
    elim (cases_lt j i) [
      | inl low ↦ earlier j low ∙ hidden j low ∙ ap (λ (xs : List ℕ). xor_each (block old j) (md5 (secret ++ xs))) (sym (before_same authenticator octets changed i earlier j (omega arith)))
      | inr high ↦
          let e : i ≡ j = omega arith in
          subst (λ (k : ℕ). block changed k ≡ xor_each (block old k) (mask secret authenticator changed k)) e now
    ]

-- ---- one more block unhidden

pub unhide_step : (secret authenticator old octets new changed before : List ℕ) (i place : ℕ) → Written octets new changed i place
    → before ≡ before_block authenticator old i → new ≡ xor_each (block octets i) (md5 (secret ++ before)) → drop (16 * i) octets ≡ drop (16 * i) old
    → ((j : ℕ) → j < i → block octets j ≡ xor_each (block old j) (mask secret authenticator old j))
    → (j : ℕ) → j < i + 1 → block changed j ≡ xor_each (block old j) (mask secret authenticator old j)
unhide_step secret authenticator old octets new changed before i place w eb en rest plain j lt =
    let now : block changed i ≡ xor_each (block old i) (mask secret authenticator old i) =
    written_block octets new changed i place w ∙ en
    ∙ ap (λ (xs : List ℕ). xor_each (take 16 xs) (md5 (secret ++ before))) rest
    ∙ ap (λ (xs : List ℕ). xor_each (block old i) (md5 (secret ++ xs))) eb in
    elim (cases_lt j i) [
      | inl low ↦ written_earlier octets new changed i place w j low ∙ plain j low
      | inr high ↦
          let e : i ≡ j = omega arith in
          subst (λ (k : ℕ). block changed k ≡ xor_each (block old k) (mask secret authenticator old k)) e now
    ]

pub plain_front : (secret authenticator old octets : List ℕ) (n : ℕ) → 16 * n ≤ length octets
    → ((j : ℕ) → j < n → block octets j ≡ xor_each (block old j) (mask secret authenticator old j)) → take (16 * n) octets ≡ plain_blocks secret authenticator old n
unfolding plain_blocks
plain_front secret authenticator old octets zero le plain = refl
plain_front secret authenticator old octets (suc n) le plain =
    take-block octets n (omega arith)
    ∙ ap (λ (xs : List ℕ). xs ++ block octets n) (plain_front secret authenticator old octets n (omega arith) (λ j lt. plain j (omega arith)))
    ∙ ap (λ (xs : List ℕ). plain_blocks secret authenticator old n ++ xs) (plain n (omega arith))

-- ---- the hidden form

-- a block is masked by what stands before it, so that a front tells as much as the whole
before_front : (authenticator hidden : List ℕ) (i : ℕ) → before_block authenticator (take (16 * i) hidden) i ≡ before_block authenticator hidden i
before_front authenticator hidden zero = refl
before_front authenticator hidden (suc k) = block-take hidden (16 * suc k) k (omega arith)

pub hidden_front : (secret authenticator plain hidden : List ℕ) (n : ℕ) → 16 * n ≤ length hidden
    → ((j : ℕ) → j < n → block hidden j ≡ xor_each (block plain j) (mask secret authenticator hidden j)) → take (16 * n) hidden ≡ hidden_blocks secret authenticator plain n
unfolding hidden_blocks
hidden_front secret authenticator plain hidden zero le blocks = refl
hidden_front secret authenticator plain hidden (suc n) le blocks =
    take-block hidden n (omega arith)
    ∙ ap (λ (xs : List ℕ). take (16 * n) hidden ++ xs) (blocks n (omega arith))
    ∙ ap (λ (xs : List ℕ). take (16 * n) hidden ++ xor_each (block plain n) (md5 (secret ++ xs))) (sym (before_front authenticator hidden n))
    ∙ ap (λ (xs : List ℕ). xs ++ xor_each (block plain n) (mask secret authenticator xs n))
    (hidden_front secret authenticator plain hidden n (omega arith) (λ j lt. blocks j (omega arith)))

-- ---- sizes

pub record Sized (n : ℕ) : Type 0 where
  pub low : 16 ≤ n
  pub high : n ≤ 128
  pub whole : n % 16 ≡ 0

pub sized : (n : ℕ) → is_hidden_length n ≡ true → Sized n
sized n e =
    let a = and_parts _ _ e in
    let b = and_parts _ _ a.0 in
    record { low = leb-true 16 n b.0; high = leb-true n 128 b.1; whole = eqb-true (n % 16) 0 a.1 }

-- ---- what is unhidden

pub unhides : (secret authenticator old octets : List ℕ) → is_hidden_length (length old) ≡ true → length octets ≡ length old
    → ((j : ℕ) → j < length old / 16 → block octets j ≡ xor_each (block old j) (mask secret authenticator old j)) → Hides secret authenticator octets old
unhides secret authenticator old octets size same plain =
    let s = sized (length old) size in
    record {
      same_length = same;
      size = size;
      blocks = λ i lt. sym (
          ap (λ (xs : List ℕ). xor_each xs (mask secret authenticator old i)) (plain i (omega (arith, s.whole)))
          ∙ xor_each_twice (block old i) (mask secret authenticator old i) (omega (arith, length-block old i (omega (arith, s.whole)), length-mask secret authenticator old i)));
    }

-- ---- one form at most

unmasked : (secret authenticator plain hidden : List ℕ) → Hides secret authenticator plain hidden → (j : ℕ) → j < length hidden / 16
    → block plain j ≡ xor_each (block hidden j) (mask secret authenticator hidden j)
unmasked secret authenticator plain hidden h j lt =
    let s = sized (length hidden) h.size in
    let inside : 16 * j + 16 ≤ length plain = omega (arith, h.same_length, s.whole) in
    sym (xor_each_twice (block plain j) (mask secret authenticator hidden j) (omega (arith, length-block plain j inside, length-mask secret authenticator hidden j)))
    ∙ ap (λ (xs : List ℕ). xor_each xs (mask secret authenticator hidden j)) (sym (h.blocks j (omega arith)))

pub plain_is : (secret authenticator plain hidden : List ℕ) → Hides secret authenticator plain hidden → plain ≡ plain_blocks secret authenticator hidden (length hidden / 16)
plain_is secret authenticator plain hidden h =
    let s = sized (length hidden) h.size in
    let all : length plain ≤ 16 * (length hidden / 16) = omega (arith, h.same_length, s.whole) in
    sym (take_all (16 * (length hidden / 16)) plain all)
    ∙ plain_front secret authenticator hidden plain (length hidden / 16) (omega (arith, h.same_length)) (unmasked secret authenticator plain hidden h)

pub form_is : (secret authenticator plain hidden : List ℕ) → Hides secret authenticator plain hidden → hidden ≡ hidden_blocks secret authenticator plain (length plain / 16)
form_is secret authenticator plain hidden h =
    let s = sized (length hidden) h.size in
    let all : length hidden ≤ 16 * (length hidden / 16) = omega (arith, s.whole) in
    sym (take_all (16 * (length hidden / 16)) hidden all)
    ∙ hidden_front secret authenticator plain hidden (length hidden / 16) (omega (arith, s.whole)) (λ j lt. h.blocks j (omega arith))
    ∙ ap (λ (n : ℕ). hidden_blocks secret authenticator plain (n / 16)) (sym h.same_length)

same_before : (authenticator hidden other : List ℕ) (n : ℕ) → take (16 * n) hidden ≡ take (16 * n) other → before_block authenticator hidden n ≡ before_block authenticator other n
same_before authenticator hidden other zero e = refl
same_before authenticator hidden other (suc k) e =
    sym (block-take hidden (16 * suc k) k (omega arith)) ∙ ap (λ (xs : List ℕ). block xs k) e ∙ block-take other (16 * suc k) k (omega arith)

same_front : (secret authenticator plain hidden other : List ℕ) → Hides secret authenticator plain hidden → Hides secret authenticator plain other
    → (n : ℕ) → 16 * n ≤ length plain → take (16 * n) hidden ≡ take (16 * n) other
same_front secret authenticator plain hidden other h k zero le = refl
same_front secret authenticator plain hidden other h k (suc n) le =
    let e = same_front secret authenticator plain hidden other h k n (omega arith) in
    let last : block hidden n ≡ block other n =
    h.blocks n (omega (arith, h.same_length))
    ∙ ap (λ (xs : List ℕ). xor_each (block plain n) (md5 (secret ++ xs))) (same_before authenticator hidden other n e)
    ∙ sym (k.blocks n (omega (arith, k.same_length))) in
    take-block hidden n (omega (arith, h.same_length))
    ∙ ap (λ (xs : List ℕ). xs ++ block hidden n) e
    ∙ ap (λ (xs : List ℕ). take (16 * n) other ++ xs) last
    ∙ sym (take-block other n (omega (arith, k.same_length)))

pub hidden_is : (secret authenticator plain hidden other : List ℕ) → Hides secret authenticator plain hidden → Hides secret authenticator plain other → hidden ≡ other
hidden_is secret authenticator plain hidden other h k =
    let s = sized (length hidden) h.size in
    let n : ℕ = length hidden / 16 in
    let all : length hidden ≤ 16 * n = omega (arith, s.whole) in
    let all_other : length other ≤ 16 * n = omega (arith, s.whole, h.same_length, k.same_length) in
    sym (take_all (16 * n) hidden all) ∙ same_front secret authenticator plain hidden other h k n (omega (arith, h.same_length)) ∙ take_all (16 * n) other all_other

-- ---- padding

pub padded_bounds : (n : ℕ) → n ≤ 128 → (n ≤ padded_length n) × (padded_length n ≤ 128)
padded_bounds n le = elim (eqb_tells n 0) [
  | inl none ↦ rw none.0 (omega (arith, none.1), omega arith)
  | inr some ↦ rw some.0 (omega arith, omega arith)
]

pub padded_size : (n : ℕ) → n ≤ 128 → is_hidden_length (padded_length n) ≡ true
padded_size n le = elim (eqb_tells n 0) [
  | inl none ↦ rw none.0 refl
  | inr some ↦
      let positive : (n ≡ 0 → ⊥) → 0 < n = λ h. omega (arith, h) in
      let low : leb 16 ((n + 15) / 16 * 16) ≡ true = le-leb _ _ (omega (arith, positive some.1)) in
      let high : leb ((n + 15) / 16 * 16) 128 ≡ true = le-leb _ _ (omega arith) in
      let whole : (n + 15) / 16 * 16 % 16 ≡ 0 = omega arith in
      rw (some.0, low, high, whole) refl
]

pub padded_room : (n : ℕ) → n ≤ padded_length n
padded_room n = elim (eqb_tells n 0) [
  | inl none ↦ rw none.0 (omega (arith, none.1))
  | inr some ↦ rw some.0 (omega arith)
]

pub padded_least : (n m : ℕ) → is_hidden_length m ≡ true → n ≤ m → padded_length n ≤ m
padded_least n m e le =
    let s = sized m e in
    elim (eqb_tells n 0) [
      | inl none ↦ rw none.0 s.low
      | inr some ↦ rw some.0 (omega (arith, s.whole))
    ]

pub padded_is : (password octets : List ℕ) → length password ≤ 128 → octets ≡ password ++ replicate (128 - length password) 0
    → take (padded_length (length password)) octets ≡ padded password
padded_is password octets le e =
    let n : ℕ = length password in
    let bounds = padded_bounds n le in
    let size : padded_length n ≡ n + (padded_length n - n) = omega (arith, bounds.0) in
    ap (λ (xs : List ℕ). take (padded_length n) xs) e
    ∙ ap (λ (k : ℕ). take k (password ++ replicate (128 - n) 0)) size
    ∙ take-append-add password (replicate (128 - n) 0) (padded_length n - n)
    ∙ ap (λ (xs : List ℕ). password ++ xs) (take-replicate (padded_length n - n) (128 - n) 0 (omega (arith, bounds.1)))

pub moved : (secret authenticator plain other hidden last : List ℕ) → plain ≡ other → hidden ≡ last → Hides secret authenticator plain hidden → Hides secret authenticator other last
moved secret authenticator plain other hidden last e f h =
    subst (λ (xs : List ℕ). Hides secret authenticator other xs) f (subst (λ (xs : List ℕ). Hides secret authenticator xs hidden) e h)

-- what was hidden in place is the front of all the octets
pub front_hidden : (password octets hidden : List ℕ) (n : ℕ) → length password ≤ 128 → octets ≡ password ++ replicate (128 - length password) 0 → n ≡ padded_length (length password)
    → length (take n octets) ≡ length hidden → hidden ≡ take n (hidden ++ drop n octets)
front_hidden password octets hidden n le e size same =
    let bounds = padded_bounds (length password) le in
    let all : length octets ≡ 128 = omega (arith, ap length e, length-append password (replicate (128 - length password) 0), length-replicate {A = ℕ} (128 - length password) 0) in
    let len : length hidden ≡ n = sym same ∙ length-take-le n octets (omega (arith, bounds.1)) in
    sym (take_at hidden (drop n octets) n len)
