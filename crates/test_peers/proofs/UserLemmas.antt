-- A list of users, line by line, and the form of the list.
use Rattle.std.proofs.Common.{◌≡◌, ℕ, suc, ◌+◌, ◌<◌, ◌≤◌, ◌⊎◌, inl, inr, Bool, true, false, cond, eqb, ltb, ◌||◌, List, [], ◌∷◌, ◌++◌, length, codes, Option, Some, None, Result, Ok, Err, refl, sym, ap, ◌∙◌, append_assoc, arith}
use Rattle.std.specs.Prelude.{IfOk, MatchResult}
use Rattle.std.specs.List.{AllPass, list_any}
use Rattle.std.specs.Result.{result_ok, result_unwrap_or}
use Rattle.std.specs.Str.{bytes_eq}
use Rattle.std.proofs.lemmas.Bool.{eqb-false, false_from_ne_true, le-ltb, ltb-false, ne_eqb, or_parts}
use Rattle.std.proofs.lemmas.List.{append-nil, length-append}
use Rattle.std.proofs.lemmas.List.Folds.{list_any-append}
use Rattle.std.proofs.lemmas.Option.{same_Some}
use Rattle.std.proofs.lemmas.Slice.Eq.{bytes_eq-Decides}
use Rattle.hex.specs.Hex.{decode_of, is_hex_digit}
use Rattle.hex.specs.declared.error.FromHexError.{FromHexError}
use Rattle.hex.proofs.HexLemmas.{decode_of-ok}
use Rattle.test_peers.specs.declared.users.User.{User}
use Rattle.test_peers.specs.declared.fault.HomeFault.{HomeFault}
use Rattle.test_peers.specs.declared.fault.HomeFault.TheVariants.{BadLine, NoMemory}
use Rattle.test_peers.specs.Lines.{lines_of, pieces_of, two_of, words_of}
use Rattle.test_peers.specs.UserForm.{HasNone, IsHex, IsUserLine, IsUserList}
use Rattle.test_peers.specs.Users.{Reads, hex_word, put_first, unless_bad, user_in, user_of, users_from, users_in, with_password, with_words}
use Rattle.test_peers.proofs.LineLemmas.{Cut, cuts, first_line, lines-step, piece-first, piece-whole, pieces_none, two_of_more}

-- ---- the reader's loop

-- users before those that are read
abbrev pub put_all : List User → Result (List User) HomeFault → Result (List User) HomeFault
put_all users (Ok more) = Ok (users ++ more)
put_all users (Err fault) = Err fault

pub put_none : (r : Result (List User) HomeFault) → put_all [] r ≡ r
put_none (Ok users) = refl
put_none (Err fault) = refl

pub put_one : (users : List User) (user : User) (r : Result (List User) HomeFault)
    → put_all (users ++ user ∷ []) r ≡ put_all users (put_first user r)
put_one users user (Ok more) = ap (λ us. Ok us) (append_assoc users (user ∷ []) more)
put_one users user (Err fault) = refl

-- a line that is a user's adds one
pub reads_on : (users : List User) (user : User) (line : List ℕ) (rest : List (List ℕ)) → user_in (length users + 1) line ≡ Ok user
    → put_all (users ++ user ∷ []) (users_from (length (users ++ user ∷ []) + 1) rest) ≡ put_all users (users_from (length users + 1) (line ∷ rest))
unfolding users_from
reads_on users user line rest read =
    let count : length (users ++ user ∷ []) ≡ length users + 1 = length-append users (user ∷ []) in
    rw (count, read) (put_one users user (users_from (length users + 1 + 1) rest))

-- a line that isn't ends the reading
pub stops_at : (users : List User) (line : List ℕ) (rest : List (List ℕ)) (fault : HomeFault) (read : Result (List User) HomeFault)
    → Reads {X = User} (Err fault) (user_in (length users + 1) line)
    → put_all users (users_from (length users + 1) (line ∷ rest)) ≡ read → Reads {X = List User} (Err fault) read
unfolding users_from
stops_at users line rest (BadLine number reason) read bad all =
    let stopped : put_all users (users_from (length users + 1) (line ∷ rest)) ≡ Err (BadLine number reason) = rw bad refl in
    sym all ∙ stopped
stops_at users line rest NoMemory read bad all = tt

-- no line is left
pub reads_all : (users : List User) (number : ℕ) → put_all users (users_from number []) ≡ Ok users
unfolding users_from
reads_all users number = ap (λ us. Ok us) (append-nil users)

-- ---- HEX

digit-not : (s : ℕ) → is_hex_digit s ≡ false → (x : ℕ) → is_hex_digit x ≡ true → eqb x s ≡ false
digit-not s other x digit = ne_eqb x s (λ same. cc (other, digit, ap is_hex_digit same))

-- hex digits hold no other octet
digits-none : (s : ℕ) → is_hex_digit s ≡ false → (xs : List ℕ) → AllPass is_hex_digit xs → HasNone s xs
digits-none s other [] all = refl
digits-none s other (x ∷ xs) all =
    rw (digit-not s other x (all 0 0 (omega arith))) (digits-none s other xs (λ k d h. all (suc k) d (omega arith)))

hex-none : (s : ℕ) → is_hex_digit s ≡ false → eqb 45 s ≡ false → (text octets : List ℕ) → IsHex text octets → HasNone s text
hex-none s other dash text octets (inl (is, none)) = rw is (rw dash refl)
hex-none s other dash text octets (inr (some, is)) = digits-none s other text (decode_of-ok text octets is).1

not-dash : (text octets : List ℕ) → decode_of text ≡ Ok octets → text ≡ codes "-" → ⊥
not-dash text octets is dash = let odd = ap length dash in omega (arith, odd, (decode_of-ok text octets is).0)

-- HEX is read as what it stands for
hex-read : (text octets : List ℕ) → IsHex text octets → hex_word text ≡ Some octets
hex-read text octets (inl (is, none)) = rw (is, none) refl
hex-read text octets (inr (some, is)) =
    let other : bytes_eq text (codes "-") ≡ false = false_from_ne_true _ (λ same. not-dash text octets is ((bytes_eq-Decides text (codes "-")).0 same)) in
    rw (other, ne_eqb (length text) 0 (λ none. omega arith), is) refl

ok-some : (r : Result (List ℕ) FromHexError) (octets : List ℕ) → result_ok r ≡ Some octets → r ≡ Ok octets
ok-some (Ok x) octets h = ap (λ o. Ok o) (same_Some x octets h)
ok-some (Err e) octets h = cc

hex-form-on : (b c : Bool) (text octets : List ℕ) → bytes_eq text (codes "-") ≡ b → eqb (length text) 0 ≡ c
    → cond b (Some []) (cond c None (result_ok (decode_of text))) ≡ Some octets → IsHex text octets
hex-form-on true c text octets dash none h = inl ((bytes_eq-Decides text (codes "-")).0 dash, sym (same_Some [] octets h))
hex-form-on false true text octets dash none h = cc
hex-form-on false false text octets dash none h =
    let some : ¬ (length text ≡ 0) = eqb-false (length text) 0 none in
    inr (omega arith, ok-some (decode_of text) octets h)

-- and only HEX is
hex-form : (text octets : List ℕ) → hex_word text ≡ Some octets → IsHex text octets
hex-form text octets h = hex-form-on (bytes_eq text (codes "-")) (eqb (length text) 0) text octets refl refl h

-- ---- one line

-- a user's line has no end within it
unended : (line : List ℕ) (user : User) → IsUserLine line user → HasNone 10 line
unended line user is =
    ap (list_any (λ y. eqb y 10)) is.text ∙ list_any-append (λ y. eqb y 10) user.name (32 ∷ is.hex)
    ∙ ap (λ b. b || list_any (λ y. eqb y 10) (32 ∷ is.hex)) is.name.ends ∙ hex-none 10 refl refl is.hex user.password is.password

-- a user's line is read as the user
user-read : (number : ℕ) (line : List ℕ) (user : User) → IsUserLine line user → user_in number line ≡ Ok user
user-read number line user is =
    let spaces = hex-none 32 refl refl is.hex user.password is.password in
    let words : words_of line ≡ user.name ∷ is.hex ∷ [] =
    ap (pieces_of 32) is.text ∙ piece-first 32 user.name is.hex is.name.spaces ∙ ap (λ ps. user.name ∷ ps) (piece-whole 32 is.hex spaces) in
    rw (le-ltb 140000 (length line) is.short, words, ne_eqb (length user.name) 0 (λ none. omega (arith, is.name.some)), hex-read is.hex user.password is.password) refl

-- the parts of a line's two words
record Parts (name hex : List ℕ) (user : User) : Type 0 where
  named : name ≡ user.name
  some : 0 < length name
  password : hex_word hex ≡ Some user.password

parts-on : (number : ℕ) (b : Bool) (name hex : List ℕ) (p : Option (List ℕ)) (user : User) → eqb (length name) 0 ≡ b → hex_word hex ≡ p
    → cond b (Err (BadLine number 3)) (with_password number name p) ≡ Ok user → Parts name hex user
parts-on number true name hex p user none word h = cc
parts-on number false name hex None user none word h = cc
parts-on number false name hex (Some password) user none word h =
    let made : User = record { name = name; password = password } in
    let same : made ≡ user = ap (λ (r : Result User HomeFault). result_unwrap_or r user) h in
    let apart : ¬ (length name ≡ 0) = eqb-false (length name) 0 none in
    record { named = ap (λ u. u.name) same; some = omega arith; password = word ∙ ap (λ u. Some u.password) same }

parts : (number : ℕ) (name hex : List ℕ) (user : User) → with_words number name hex ≡ Ok user → Parts name hex user
parts number name hex user h = parts-on number (eqb (length name) 0) name hex (hex_word hex) user refl refl h

first-word : (line : List ℕ) (cut : Cut 32 line) → words_of line ≡ cut.piece ∷ pieces_of 32 cut.rest
first-word line cut = ap (pieces_of 32) cut.text ∙ piece-first 32 cut.piece cut.rest cut.none

one-word : (number : ℕ) (line : List ℕ) (user : User) → words_of line ≡ line ∷ [] → user_of number (two_of (words_of line)) ≡ Ok user
    → IsUserLine line user
one-word number line user one h = let bad = rw one at h in cc

two-words : (number : ℕ) (line : List ℕ) (user : User) (cut : Cut 32 line) → HasNone 10 line → length line ≤ 140000
    → user_of number (two_of (words_of line)) ≡ Ok user → Cut 32 cut.rest ⊎ HasNone 32 cut.rest → IsUserLine line user
two-words number line user cut none short h (inl more) =
    let words = first-word line cut ∙ ap (λ ps. cut.piece ∷ ps) (ap (pieces_of 32) more.text ∙ piece-first 32 more.piece more.rest more.none) in
    let two = ap two_of words ∙ two_of_more cut.piece more.piece (pieces_of 32 more.rest) (pieces_none 32 more.rest) in
    let bad = rw two at h in
    cc
two-words number line user cut none short h (inr last) =
    let words : words_of line ≡ cut.piece ∷ cut.rest ∷ [] = first-word line cut ∙ ap (λ ps. cut.piece ∷ ps) (piece-whole 32 cut.rest last) in
    let p = parts number cut.piece cut.rest user (rw words at h) in
    let text = ap (list_any (λ y. eqb y 10)) cut.text ∙ list_any-append (λ y. eqb y 10) cut.piece (32 ∷ cut.rest) in
    let ends = or_parts (list_any (λ y. eqb y 10) cut.piece) (list_any (λ y. eqb y 10) (32 ∷ cut.rest)) (sym text ∙ none) in
    record {
      hex = cut.rest;
      text = cut.text ∙ ap (λ name. name ++ 32 ∷ cut.rest) p.named;
      name = record { some = rw (← p.named) p.some; spaces = rw (← p.named) cut.none; ends = rw (← p.named) ends.0 };
      password = hex-form cut.rest user.password p.password;
      short = short;
    }

words-form : (number : ℕ) (line : List ℕ) (user : User) → HasNone 10 line → length line ≤ 140000
    → user_of number (two_of (words_of line)) ≡ Ok user → IsUserLine line user
words-form number line user none short h = elim (cuts 32 line) [
  | inr one ↦ one-word number line user (piece-whole 32 line one) h
  | inl cut ↦ two-words number line user cut none short h (cuts 32 cut.rest)
]

user-form-on : (b : Bool) (number : ℕ) (line : List ℕ) (user : User) → ltb 140000 (length line) ≡ b → HasNone 10 line
    → cond b (Err (BadLine number 1)) (user_of number (two_of (words_of line))) ≡ Ok user → IsUserLine line user
user-form-on true number line user long none h = cc
user-form-on false number line user long none h = words-form number line user none (ltb-false _ _ long) h

-- what is read as a user is a user's line
user-form : (number : ℕ) (line : List ℕ) (user : User) → HasNone 10 line → user_in number line ≡ Ok user → IsUserLine line user
user-form number line user none h = user-form-on (ltb 140000 (length line)) number line user refl none h

-- ---- all lines

line-some : (line : List ℕ) (user : User) → IsUserLine line user → 0 < length line
line-some line user is = omega (arith, is.name.some, ap length is.text, length-append user.name (32 ∷ is.hex))

-- a list of this form is read as its users
pub list-read : (users : List User) (number : ℕ) (text : List ℕ) → IsUserList text users → users_from number (lines_of text) ≡ Ok users
unfolding IsUserList users_from
list-read [] number text none = rw none refl
list-read (user ∷ users) number text (rest, begins, others) =
    let lines = lines-step text begins.line rest begins.text (unended begins.line user begins.user_line) (line-some begins.line user begins.user_line) in
    rw (lines, user-read number begins.line user begins.user_line, list-read users (number + 1) rest others) refl

unless-none : (r : Result User HomeFault) (others : Result (List User) HomeFault) → unless_bad r others ≡ Ok [] → ⊥
unless-none (Ok user) (Ok users) h = cc
unless-none (Ok user) (Err fault) h = cc
unless-none (Err fault) others h = cc

unless-parts : (r : Result User HomeFault) (others : Result (List User) HomeFault) (user : User) (users : List User)
    → unless_bad r others ≡ Ok (user ∷ users) → (r ≡ Ok user) × (others ≡ Ok users)
unless-parts (Ok u) (Ok us) user users h = (cc, cc)
unless-parts (Ok u) (Err fault) user users h = cc
unless-parts (Err fault) others user users h = cc

-- what is read as users has the form
pub list-form : (users : List User) (number : ℕ) (text : List ℕ) → users_from number (lines_of text) ≡ Ok users → IsUserList text users
unfolding IsUserList users_from
list-form [] number [] h = refl
list-form [] number (x ∷ xs) h =
    let first = first_line (x ∷ xs) (omega arith) in
    absurd (unless-none (user_in number first.line) (users_from (number + 1) (lines_of first.rest)) (rw first.lines at h))
list-form (user ∷ users) number [] h = cc
list-form (user ∷ users) number (x ∷ xs) h =
    let first = first_line (x ∷ xs) (omega arith) in
    let both = unless-parts (user_in number first.line) (users_from (number + 1) (lines_of first.rest)) user users (rw first.lines at h) in (
      first.rest,
      record { line = first.line; text = first.text; user_line = user-form number first.line user first.unended both.0 },
      list-form users (number + 1) first.rest both.1,
    )

-- ---- what the reader answers

pub answers-found : (r : Result (List User) HomeFault) (text : List ℕ) → Reads r (users_in text) → IfOk r (λ users. IsUserList text users)
answers-found (Ok users) text read = list-form users 1 text read
answers-found (Err fault) text read = tt

pub answers-only : (r : Result (List User) HomeFault) (text : List ℕ) → Reads r (users_in text)
    → (known : List User) → IsUserList text known → MatchResult r (λ users. users ≡ known) (λ fault. fault ≡ NoMemory)
answers-only (Ok users) text read known is = let known_read = list-read known 1 text is in cc
answers-only (Err (BadLine line reason)) text read known is = let known_read = list-read known 1 text is in cc
answers-only (Err NoMemory) text read known is = refl
