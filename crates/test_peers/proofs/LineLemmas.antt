-- Octets cut at a separator, and the lines of a text.
use Rattle.std.proofs.Common.{◌≡◌, ℕ, ◌+◌, ◌-◌, ◌<◌, ◌≤◌, ◌⊎◌, inl, inr, Bool, true, false, not, cond, eqb, ltb, List, [], ◌∷◌, ◌++◌, length, take, drop, Option, Some, None, unwrap_or, position, refl, sym, ap, ◌∙◌, subst, arith}
use Rattle.std.specs.Borrow.{Bor}
use Rattle.std.specs.List.{join_with_byte, list_any, onto_first, position_or_len}
use Rattle.std.specs.Option.{option_copied}
use Rattle.std.proofs.lemmas.Bool.{eq-eqb, eqb-true, ltb-false, ltb-true, ne_eqb, or_parts}
use Rattle.std.proofs.lemmas.List.{take_rest}
use Rattle.std.proofs.lemmas.List.Splits.{join_with_byte-slice_split, slice_split_first}
use Rattle.std.proofs.lemmas.Option.{cond_some}
use Rattle.test_peers.specs.Lines.{ended, lines_of, pieces_of, two_of}
use Rattle.test_peers.specs.PacketLines.{one_of}
use Rattle.test_peers.specs.UserForm.{HasNone}
use Rattle.test_peers.specs.Views.{pieces_left}

-- ---- where a separator stands

abbrev place_of : ℕ → List ℕ → ℕ
place_of s xs = position_or_len (λ x. eqb x s) xs

none-on : (b : Bool) (s x : ℕ) (xs : List ℕ) → eqb x s ≡ b → length (x ∷ xs) ≤ cond (not b) (1 + place_of s xs) 0
    → (length xs ≤ place_of s xs → HasNone s xs) → HasNone s (x ∷ xs)
none-on true s x xs e h further = absurd (omega arith)
none-on false s x xs e h further = rw e (further (omega arith))

none-past : (s : ℕ) (xs : List ℕ) → length xs ≤ place_of s xs → HasNone s xs
none-past s [] h = refl
none-past s (x ∷ xs) h = none-on (eqb x s) s x xs refl h (none-past s xs)

cond-none : (b : Bool) (i : ℕ) → cond b (Some i) None ≡ None → b ≡ false
cond-none true i e = cc
cond-none false i e = refl

-- where none was found, there is none
pub none-found : (s : ℕ) (xs : List ℕ) → position (λ x. eqb x s) xs ≡ None → HasNone s xs
none-found s xs none =
    none-past s xs (ltb-false _ _ (cond-none (ltb (place_of s xs) (length xs)) (place_of s xs) none))

-- ---- the pieces

-- without a separator there is one piece
pub piece-whole : (s : ℕ) (xs : List ℕ) → HasNone s xs → pieces_of s xs ≡ xs ∷ []
piece-whole s [] h = refl
piece-whole s (x ∷ xs) h =
    let p : (eqb x s ≡ false) × HasNone s xs = or_parts (eqb x s) (list_any (λ y. eqb y s) xs) h in
    rw (p.0, piece-whole s xs p.1) refl

-- the first piece ends at the first separator
pub piece-first : (s : ℕ) (xs ys : List ℕ) → HasNone s xs → pieces_of s (xs ++ s ∷ ys) ≡ xs ∷ pieces_of s ys
piece-first s [] ys h = rw (eq-eqb s s refl) refl
piece-first s (x ∷ xs) ys h =
    let p : (eqb x s ≡ false) × HasNone s xs = or_parts (eqb x s) (list_any (λ y. eqb y s) xs) h in
    rw (p.0, piece-first s xs ys p.1) refl

-- where one was found, the piece before it comes first
pub piece-found : (s : ℕ) (xs : List ℕ) (i : ℕ) → position (λ x. eqb x s) xs ≡ Some i
    → pieces_of s xs ≡ take i xs ∷ pieces_of s (take (length xs - (i + 1)) (drop (i + 1) xs))
piece-found s xs i found =
    let here = cond_some (ltb (place_of s xs) (length xs)) (place_of s xs) i found in
    let P : ℕ → Type 0 = λ k. pieces_of s xs ≡ take k xs ∷ pieces_of s (drop (k + 1) xs) in
    subst P here.1 (slice_split_first (λ x. eqb x s) xs 0 (ltb-true _ _ here.0))
    ∙ ap (λ rest. take i xs ∷ pieces_of s rest) (sym (take_rest xs (i + 1)))

-- the piece before a separator, and what stands after it
pub record Cut (s : ℕ) (xs : List ℕ) : Type 0 where
  pub piece : List ℕ
  pub rest : List ℕ
  pub text : xs ≡ piece ++ s ∷ rest
  pub none : HasNone s piece

cuts-on : (b : Bool) (s x : ℕ) (xs : List ℕ) → eqb x s ≡ b → Cut s xs ⊎ HasNone s xs → Cut s (x ∷ xs) ⊎ HasNone s (x ∷ xs)
cuts-on true s x xs e h = inl (record { piece = []; rest = xs; text = ap (λ y. y ∷ xs) (eqb-true x s e); none = refl })
cuts-on false s x xs e (inl cut) =
    inl (record { piece = x ∷ cut.piece; rest = cut.rest; text = ap (λ ys. x ∷ ys) cut.text; none = rw e cut.none })
cuts-on false s x xs e (inr none) = inr (rw e none)

-- octets hold a separator, or they are one piece
pub cuts : (s : ℕ) (xs : List ℕ) → Cut s xs ⊎ HasNone s xs
cuts s [] = inr refl
cuts s (x ∷ xs) = cuts-on (eqb x s) s x xs refl (cuts s xs)

-- ---- the lines

pieces-some : (b : Bool) (x : ℕ) (pieces : List (List ℕ)) → 0 < length (cond b ([] ∷ pieces) (onto_first x pieces))
pieces-some true x pieces = omega arith
pieces-some false x [] = omega arith
pieces-some false x (piece ∷ pieces) = omega arith

-- there is at least one piece
pub pieces_none : (s : ℕ) (xs : List ℕ) → 0 < length (pieces_of s xs)
pieces_none s [] = omega arith
pieces_none s (x ∷ xs) = pieces-some (eqb x s) x (pieces_of s xs)

ended-more : (line : List ℕ) (pieces : List (List ℕ)) → 0 < length pieces → ended (line ∷ pieces) ≡ line ∷ ended pieces
ended-more line [] some = absurd (omega arith)
ended-more line (piece ∷ pieces) some = refl

-- a line that ends, and then the others
pub lines-more : (text line rest : List ℕ) → pieces_of 10 text ≡ line ∷ pieces_of 10 rest → lines_of text ≡ line ∷ lines_of rest
lines-more text line rest e = ap ended e ∙ ended-more line (pieces_of 10 rest) (pieces_none 10 rest)

ended-one : (line : List ℕ) → 0 < length line → ended (line ∷ []) ≡ line ∷ []
ended-one line some = rw (ne_eqb (length line) 0 (λ none. omega arith)) refl

-- a last line
pub lines-last : (text : List ℕ) → 0 < length text → pieces_of 10 text ≡ text ∷ [] → lines_of text ≡ text ∷ []
lines-last text some e = ap ended e ∙ ended-one text some

-- the first of the lines, and those in what stands after its end
pub line_left : (text line : List ℕ) (rest : Option (Bor (List ℕ))) (last : Bor (List ℕ)) → last.now ≡ [] → 0 < length text
    → pieces_of 10 text ≡ line ∷ pieces_left 10 (option_copied rest) → lines_of text ≡ line ∷ lines_of (unwrap_or rest last).now
line_left text line None last none some e =
    let whole : line ≡ text = sym (ap (join_with_byte 10) e) ∙ join_with_byte-slice_split 10 text in
    lines-last text some (e ∙ ap (λ l. l ∷ []) whole) ∙ ap (λ l. l ∷ []) (sym whole)
    ∙ ap (λ xs. line ∷ lines_of xs) (sym none)
line_left text line (Some rest) last none some e = lines-more text line rest.now e

-- ---- the words

-- more than two words aren't two
pub two_of_more : (first second : List ℕ) (pieces : List (List ℕ)) → 0 < length pieces → two_of (first ∷ second ∷ pieces) ≡ None
two_of_more first second [] some = absurd (omega arith)
two_of_more first second (piece ∷ pieces) some = refl

-- more than one word isn't one
pub one_of_more : (word : List ℕ) (pieces : List (List ℕ)) → 0 < length pieces → one_of (word ∷ pieces) ≡ None
one_of_more word [] some = absurd (omega arith)
one_of_more word (piece ∷ pieces) some = refl

-- ---- a text's first line

-- the text is a line and its end, and then the rest, or a last line alone
abbrev pub Starts : List ℕ → List ℕ → List ℕ → Type 0
Starts text line rest = (text ≡ line ++ 10 ∷ rest) ⊎ ((text ≡ line) × (rest ≡ []))

pub lines-step : (text line rest : List ℕ) → Starts text line rest → HasNone 10 line → 0 < length line → lines_of text ≡ line ∷ lines_of rest
lines-step text line rest (inl is) none some =
    lines-more text line rest (ap (pieces_of 10) is ∙ piece-first 10 line rest none)
lines-step text line rest (inr (is, nothing)) none some =
    ap lines_of is ∙ lines-last line some (piece-whole 10 line none) ∙ ap (λ xs. line ∷ lines_of xs) (sym nothing)

-- a text that isn't empty has a first line
pub record FirstLine (octets : List ℕ) : Type 0 where
  pub line : List ℕ
  pub rest : List ℕ
  pub text : Starts octets line rest
  pub unended : HasNone 10 line
  pub lines : lines_of octets ≡ line ∷ lines_of rest

pub first_line : (text : List ℕ) → 0 < length text → FirstLine text
first_line text some = elim (cuts 10 text) [
  | inl cut ↦ record {
    line = cut.piece;
    rest = cut.rest;
    text = inl cut.text;
    unended = cut.none;
    lines = lines-more text cut.piece cut.rest (ap (pieces_of 10) cut.text ∙ piece-first 10 cut.piece cut.rest cut.none);
  }
  | inr none ↦ record {
    line = text;
    rest = [];
    text = inr (refl, refl);
    unended = none;
    lines = lines-last text some (piece-whole 10 text none);
  }
]
