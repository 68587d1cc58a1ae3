-- Fresh sessions and classes, for the crates above.
use Rattle.std.proofs.Common.{◌≡◌, ℕ, zero, suc, ◌+◌, ◌/◌, ◌%◌, ◌≤◌, ◌<◌, ◌^◌, Bool, true, ◌&&◌, slice_index, inl, inr, nat_le, List, [], ◌∷◌, ◌++◌, length, refl, length-append, arith}
use Rattle.std.specs.Prelude.{codes}
use Rattle.std.specs.Fmt.{decimal}
use Rattle.std.specs.List.{list_all}
use Rattle.std.proofs.lemmas.Bool.{and_from, and_parts, cases_lt}
use Rattle.std.proofs.lemmas.List.Elements.{All-head, All-tail}
use Rattle.hex.specs.Hex.{encode_lower, encode_with, lower_digits}
use Rattle.hex.proofs.HexLemmas.{length-encode_with}
use Rattle.wire_core.specs.Numbers.{AreOctets}
use Rattle.std.proofs.lemmas.Bool.Decides.{nat_tests}
use Rattle.std.proofs.lemmas.Fmt.{decimal_by_steps, decimal_injective, length-decimal-le}
use Rattle.std.proofs.lemmas.List.{append_cancel_left}
use Rattle.std.proofs.lemmas.List.Folds.{list_all-append}
use Rattle.wire_core.specs.Words.{is_identity_octet, is_session_text}
use Rattle.session_carrier.specs.Session.{fresh_session, class_text, accounting_text, FreshSessionsDiffer, FreshSessionsAreTexts, FreshSessionsAreShort, AccountingSessionsAreTexts, AccountingSessionsHaveLength}

pub fresh_sessions_differ : FreshSessionsDiffer
unfolding fresh_session
fresh_sessions_differ host boot m n m_fits n_fits same =
    decimal_injective m n m_fits n_fits (append_cancel_left (host ++ codes ";" ++ decimal boot ++ codes ";") _ _ same)

pub fresh_sessions_are_short : FreshSessionsAreShort
unfolding fresh_session
fresh_sessions_are_short host boot serial boot_fits serial_fits =
    let boot_short = length-decimal-le 10 boot (omega arith) (omega arith) (omega arith) in
    let serial_short = length-decimal-le 20 serial (omega arith) (omega arith) (omega arith) in
    simp length-append (omega arith)

abbrev is_visible : ℕ → Bool
is_visible c = nat_le 33 c && nat_le c 126

abbrev are_visible : List ℕ → Bool
are_visible = list_all is_visible

are_visible-decimal : (n : ℕ) → n < 2 ^ 64 → are_visible (decimal n) ≡ true
are_visible-decimal n fits =
    decimal_by_steps (λ _ ds. are_visible ds ≡ true)
    (λ d small. grind (arith, nat_tests))
    (λ d ds large shown. rw list_all-append (and_from _ _ shown (grind (arith, nat_tests))))
    n fits

is_visible-identity : (x : ℕ) → is_identity_octet x ≡ true → is_visible x ≡ true
is_visible-identity x h = grind (arith, nat_tests)

are_visible-identity : (xs : List ℕ) → list_all is_identity_octet xs ≡ true → are_visible xs ≡ true
are_visible-identity [] h = refl
are_visible-identity (x ∷ xs) h =
    let parts = and_parts (is_identity_octet x) (list_all is_identity_octet xs) h in
    and_from _ _ (is_visible-identity x parts.0) (are_visible-identity xs parts.1)

is_session_text-visible : (xs : List ℕ) → 1 ≤ length xs → are_visible xs ≡ true → is_session_text xs ≡ true
is_session_text-visible xs some shown = and_from (nat_le 1 (length xs)) _ (grind (arith, nat_tests)) shown

pub fresh_sessions_are_texts : FreshSessionsAreTexts
unfolding fresh_session
fresh_sessions_are_texts host boot serial boot_fits serial_fits identity =
    let parts = and_parts (nat_le 1 (length host) && nat_le (length host) 255) _ identity in
    let some = (and_parts (nat_le 1 (length host)) _ parts.0).0 in
    let host_shown = are_visible-identity host parts.1 in
    let boot_shown = are_visible-decimal boot (omega arith) in
    let serial_shown = are_visible-decimal serial serial_fits in
    is_session_text-visible (fresh_session host boot serial)
    (simp length-append (grind (arith, nat_tests)))
    (simp (list_all-append, host_shown, boot_shown, serial_shown))

pub length-class_text : (session : List ℕ) → length (class_text session) ≡ 9 + length session
unfolding class_text
length-class_text session = length-append (codes "Diameter/") session

-- ---- accounting sessions

pub accounting_sessions_have_length : AccountingSessionsHaveLength
unfolding accounting_text
accounting_sessions_have_length host client acct =
    simp (length-append, length-encode_with) (omega arith)

-- the digits below n are visible
abbrev all_shown : ℕ → Bool
all_shown zero = true
all_shown (suc n) = is_visible (slice_index lower_digits n) && all_shown n

all_shown-at : (n k : ℕ) → all_shown n ≡ true → k < n → is_visible (slice_index lower_digits k) ≡ true
all_shown-at zero k h lt = absurd (omega arith)
all_shown-at (suc n) k h lt =
    let parts = and_parts (is_visible (slice_index lower_digits n)) (all_shown n) h in
    elim (cases_lt k n) [
      | inl below ↦ all_shown-at n k parts.1 below
      | inr top ↦ (let e : k ≡ n = omega arith in rw e parts.0)
    ]

-- the sixteen digits are visible
digit_shown : (d : ℕ) → d < 16 → is_visible (slice_index lower_digits d) ≡ true
digit_shown d small = all_shown-at 16 d refl small

are_visible-encode : (bytes : List ℕ) → AreOctets bytes → are_visible (encode_lower bytes) ≡ true
unfolding encode_with
are_visible-encode [] h = refl
are_visible-encode (b ∷ bytes) h =
    let fits : b < 256 = All-head (λ x. x < 256) b bytes h in
    let high = digit_shown (b / 16) (omega arith) in
    let low = digit_shown (b % 16) (omega arith) in
    and_from _ _ high (and_from _ _ low (are_visible-encode bytes (All-tail (λ x. x < 256) b bytes h)))

pub accounting_sessions_are_texts : AccountingSessionsAreTexts
unfolding accounting_text
accounting_sessions_are_texts host client acct octets host_is client_is =
    let parts = and_parts (nat_le 1 (length host) && nat_le (length host) 255) _ host_is in
    let some = (and_parts (nat_le 1 (length host)) _ parts.0).0 in
    let host_shown = are_visible-identity host parts.1 in
    let client_shown = are_visible-identity client (and_parts (nat_le 1 (length client) && nat_le (length client) 255) _ client_is).1 in
    let digits_shown = are_visible-encode acct octets in
    is_session_text-visible (accounting_text host client acct)
    (simp length-append (grind (arith, nat_tests)))
    (simp (list_all-append, host_shown, client_shown, digits_shown))
