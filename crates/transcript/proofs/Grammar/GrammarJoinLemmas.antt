-- Words that are joined are those that are split: the words of a line, and the addresses of a word.
use Rattle.std.proofs.Common.{◌≡◌, ◌≢◌, ℕ, ◌+◌, ◌^◌, ◌<◌, ◌≤◌, ◌==◌, Bool, true, false, cond, eqb, List, [], ◌∷◌, length, codes, decimal, bytes_eq, All, Option, Some, None, option_and_then, refl, sym, ap, subst, ◌∙◌, append-nil, lit≤, arith}
use Rattle.std.specs.List.{AllZip, join_with_byte, list_any, onto_first, slice_split}
use Rattle.std.specs.Net.Grammar.{IsDotted}
use Rattle.std.specs.Net.Reader.{read_ipv4, read_number, read_octet}
use Rattle.std.specs.Net.Text.{dotted_text}
use Rattle.std.proofs.NetLemmas.Ipv4.{read_ipv4_complete, read_ipv4_sound}
use Rattle.std.proofs.lemmas.Bool.{cond-false, eq-eqb, eqb-false, false_from_ne_true, ne_eqb, or_parts}
use Rattle.std.proofs.lemmas.Fmt.{decimal_by_steps}
use Rattle.std.proofs.lemmas.List.Elements.{All-append, All-cons, All-head, All-nil, All-push, All-same, All-tail, All-weaker}
use Rattle.std.proofs.lemmas.List.Splits.{join_with_byte-slice_split, length-slice_split, slice_split_at, slice_split_none}
use Rattle.std.proofs.lemmas.Option.{same_Some}
use Rattle.std.proofs.lemmas.Slice.Eq.{bytes_eq-Decides}
use Rattle.address_text.specs.Address.{address_in, alone}
use Rattle.text_lines.specs.Words.{addresses_of, addresses_word, words_of}
use Rattle.text_lines.proofs.WordLemmas.{bind-some}
use Rattle.transcript.specs.Grammar.{IsAddress, IsAddresses, IsLine, Lacks}

-- ---- pieces with an octet between them

pub passed : (c : ℕ) (xs : List ℕ) → Lacks c xs → All (λ x. (x == c) ≡ false) xs
passed c xs lack = All-weaker (λ x. x ≢ c) (λ x. (x == c) ≡ false) (λ x other. ne_eqb x c other) xs lack

pub any-lacks : (x : ℕ) (xs : List ℕ) → list_any (λ y. eqb y x) xs ≡ false → Lacks x xs
any-lacks x [] e = All-nil (λ y. y ≢ x)
any-lacks x (y ∷ ys) e =
    let (other, others) = or_parts (eqb y x) (list_any (λ z. eqb z x) ys) e in
    All-cons (λ z. z ≢ x) y ys (eqb-false y x other) (any-lacks x ys others)

-- where none has the octet, they are split as they were joined
join-split : (c : ℕ) (pieces : List (List ℕ)) → 1 ≤ length pieces → All (Lacks c) pieces
    → slice_split (λ x. x == c) (join_with_byte c pieces) ≡ pieces
join-split c [] some lack = absurd (omega (arith, some))
join-split c (piece ∷ []) some lack =
    slice_split_none (λ x. x == c) piece (passed c piece (All-head (Lacks c) piece [] lack))
join-split c (piece ∷ next ∷ pieces) some lack =
    slice_split_at (λ x. x == c) piece c (join_with_byte c (next ∷ pieces))
    (passed c piece (All-head (Lacks c) piece (next ∷ pieces) lack)) (eq-eqb c c refl)
    ∙ ap (λ r. piece ∷ r) (join-split c (next ∷ pieces) (omega arith) (All-tail (Lacks c) piece (next ∷ pieces) lack))

-- and no piece of a split has it
split-lacks : (c : ℕ) (xs : List ℕ) → All (Lacks c) (slice_split (λ x. x == c) xs)
split-lacks c [] = All-cons (Lacks c) [] [] (All-nil (λ y. y ≢ c)) (All-nil (Lacks c))
split-lacks c (x ∷ xs) = by (eqb x c) refl (slice_split (λ y. y == c) xs) (split-lacks c xs)
  where
    by : (b : Bool) → eqb x c ≡ b → (pieces : List (List ℕ)) → All (Lacks c) pieces
        → All (Lacks c) (cond b ([] ∷ pieces) (onto_first x pieces))
    by true is pieces lack = All-cons (Lacks c) [] pieces (All-nil (λ y. y ≢ c)) lack
    by false is [] lack =
        All-cons (Lacks c) (x ∷ []) []
        (All-cons (λ y. y ≢ c) x [] (eqb-false x c is) (All-nil (λ y. y ≢ c)))
        (All-nil (Lacks c))
    by false is (piece ∷ pieces) lack =
        All-cons (Lacks c) (x ∷ piece) pieces
        (All-cons (λ y. y ≢ c) x piece (eqb-false x c is) (All-head (Lacks c) piece pieces lack))
        (All-tail (Lacks c) piece pieces lack)

split-some : (c : ℕ) (xs : List ℕ) → 1 ≤ length (slice_split (λ x. x == c) xs)
split-some c xs = omega (arith, length-slice_split (λ x. x == c) xs)

-- ---- lines

pub line-spelled : (octets : List ℕ) → IsLine octets (words_of octets)
line-spelled octets = record {
  some = split-some 32 octets;
  spaceless = split-lacks 32 octets;
  spelled = sym (join_with_byte-slice_split 32 octets);
}

pub line-read : (octets : List ℕ) (words : List (List ℕ)) → IsLine octets words → words_of octets ≡ words
line-read octets words line = ap words_of line.spelled ∙ join-split 32 words line.some line.spaceless

-- ---- addresses

pub address-spelled : (word : List ℕ) (address : ℕ) → address_in word ≡ Some address → IsAddress word address
address-spelled word address e = by (read_ipv4 word) refl e
  where
    by : (r : Option (List ℕ × List ℕ)) → read_ipv4 word ≡ r → option_and_then alone r ≡ Some address → IsAddress word address
    by None read e = cc
    by (Some (octets, [])) read e =
        let (front, split, dotted) = read_ipv4_sound word octets [] read in
        (octets, subst (λ t. IsDotted t octets) (sym (split ∙ append-nil front)) dotted, sym (same_Some _ address e))
    by (Some (octets, x ∷ rest)) read e = cc

pub address-read : (word : List ℕ) (address : ℕ) → IsAddress word address → address_in word ≡ Some address
address-read word address (octets, dotted, is) =
    let read : read_ipv4 word ≡ Some (octets, []) = rw append-nil at (read_ipv4_complete word octets [] dotted (lit≤ tt)) in
    ap (option_and_then alone) read ∙ ap Some (sym is)

pub decimal-lacks : (c n : ℕ) → c < 48 → n < 2 ^ 64 → Lacks c (decimal n)
decimal-lacks c n low fits =
    decimal_by_steps (λ _ digits. Lacks c digits)
    (λ d small. All-cons (λ y. y ≢ c) (48 + d) [] (λ e. omega arith) (All-nil (λ y. y ≢ c)))
    (λ d digits large lack. All-push (λ y. y ≢ c) digits _ lack (λ e. omega arith))
    n fits

-- an address has no ',' in it, nor a space
pub address-lacks : (x : ℕ) (word : List ℕ) (address : ℕ) → x < 46 → IsAddress word address → Lacks x word
address-lacks x word address low (octets, d, is) =
    let P : ℕ → Type 0 = λ y. y ≢ x in
    let dot : All P (codes ".") = All-cons P 46 [] (λ e. omega arith) (All-nil P) in
    let a = decimal-lacks x d.a (omega arith) (omega (arith, d.fit.0)) in
    let b = decimal-lacks x d.b (omega arith) (omega (arith, d.fit.1)) in
    let c = decimal-lacks x d.c (omega arith) (omega (arith, d.fit.2)) in
    let e = decimal-lacks x d.d (omega arith) (omega (arith, d.fit.3)) in
    All-same P word (dotted_text d.a d.b d.c d.d) d.spelled
    (All-append P _ _ (All-append P _ _ (All-append P _ _
    (All-append P _ _ (All-append P _ _ (All-append P _ _ a dot) b) dot) c) dot) e)

addresses-lack : (pieces : List (List ℕ)) (addresses : List ℕ) → AllZip IsAddress pieces addresses → All (Lacks 44) pieces
addresses-lack [] addresses zip = All-nil (Lacks 44)
addresses-lack (piece ∷ pieces) [] zip = absurd zip
addresses-lack (piece ∷ pieces) (a ∷ addresses) zip =
    All-cons (Lacks 44) piece pieces (address-lacks 44 piece a (lit≤ tt) zip.0) (addresses-lack pieces addresses zip.1)

pieces-spelled : (pieces : List (List ℕ)) (addresses : List ℕ) → addresses_of pieces ≡ Some addresses
    → AllZip IsAddress pieces addresses
pieces-spelled [] addresses e = subst (λ r. AllZip IsAddress [] r) (same_Some [] addresses e) tt
pieces-spelled (piece ∷ pieces) addresses e =
    let (a, read, e1) = bind-some (address_in piece) _ addresses e in
    let (more, others, e2) = bind-some (addresses_of pieces) _ addresses e1 in
    subst (λ r. AllZip IsAddress (piece ∷ pieces) r) (same_Some (a ∷ more) addresses e2)
    (address-spelled piece a read, pieces-spelled pieces more others)

pieces-read : (pieces : List (List ℕ)) (addresses : List ℕ) → AllZip IsAddress pieces addresses
    → addresses_of pieces ≡ Some addresses
pieces-read [] [] zip = refl
pieces-read [] (a ∷ addresses) zip = absurd zip
pieces-read (piece ∷ pieces) [] zip = absurd zip
pieces-read (piece ∷ pieces) (a ∷ addresses) zip =
    rw (address-read piece a zip.0, pieces-read pieces addresses zip.1) refl

-- one address or more
addresses-some : (word : List ℕ) (pieces : List (List ℕ)) (addresses : List ℕ) → 1 ≤ length pieces → word ≡ join_with_byte 44 pieces
    → AllZip IsAddress pieces addresses → IsAddresses word addresses
addresses-some word [] addresses some is zip = absurd (omega (arith, some))
addresses-some word (piece ∷ pieces) [] some is zip = absurd zip
addresses-some word (piece ∷ pieces) (a ∷ addresses) some is zip = (piece ∷ pieces, zip, is)

pub addresses-spelled : (word addresses : List ℕ) → addresses_word word ≡ Some addresses → IsAddresses word addresses
addresses-spelled word addresses e = by (bytes_eq word (codes "-")) refl e
  where
    by : (b : Bool) → bytes_eq word (codes "-") ≡ b
        → cond b (Some []) (addresses_of (slice_split (λ c. c == 44) word)) ≡ Some addresses → IsAddresses word addresses
    by true is e = subst (IsAddresses word) (same_Some [] addresses e) ((bytes_eq-Decides word (codes "-")).0 is)
    by false is e =
        addresses-some word (slice_split (λ c. c == 44) word) addresses (split-some 44 word)
        (sym (join_with_byte-slice_split 44 word)) (pieces-spelled _ addresses e)

-- '-' is no address
no-dash : (address : ℕ) → IsAddress (codes "-") address → ⊥
unfolding read_number read_octet read_ipv4
no-dash address is =
    let none : address_in (codes "-") ≡ None = refl in
    let some = address-read (codes "-") address is in
    cc

no-dashes : (pieces : List (List ℕ)) (a : ℕ) (addresses : List ℕ) → AllZip IsAddress pieces (a ∷ addresses)
    → join_with_byte 44 pieces ≡ codes "-" → ⊥
no-dashes [] a addresses zip is = zip
no-dashes (piece ∷ pieces) a addresses zip is =
    let lack = addresses-lack (piece ∷ pieces) (a ∷ addresses) zip in
    let split = sym (join-split 44 (piece ∷ pieces) (omega arith) lack) ∙ ap (slice_split (λ c. c == 44)) is in
    let first : piece ≡ codes "-" = cc in
    no-dash a (subst (λ w. IsAddress w a) first zip.0)

pub addresses-read : (word addresses : List ℕ) → IsAddresses word addresses → addresses_word word ≡ Some addresses
addresses-read word [] is = ap addresses_word is
addresses-read word (a ∷ addresses) (pieces, zip, is) =
    let other : bytes_eq word (codes "-") ≡ false =
    false_from_ne_true _ (λ same. no-dashes pieces a addresses zip (sym is ∙ (bytes_eq-Decides word (codes "-")).0 same)) in
    let some : 1 ≤ length pieces = pieces-some pieces a addresses zip in
    cond-false (bytes_eq word (codes "-")) _ _ other
    ∙ ap (λ w. addresses_of (slice_split (λ c. c == 44) w)) is
    ∙ ap addresses_of (join-split 44 pieces some (addresses-lack pieces (a ∷ addresses) zip))
    ∙ pieces-read pieces (a ∷ addresses) zip
  where
    pieces-some : (pieces : List (List ℕ)) (a : ℕ) (addresses : List ℕ) → AllZip IsAddress pieces (a ∷ addresses)
        → 1 ≤ length pieces
    pieces-some [] a addresses zip = absurd zip
    pieces-some (piece ∷ pieces) a addresses zip = omega arith
