-- What one pass gives is what the places give.
use Rattle.std.proofs.Common.{Bool, true, false, cond, not, ◌||◌, take, ◌≡◌, ℕ, List, [], ◌∷◌, ◌++◌, length, refl, sym, ap, ◌∙◌, append_assoc}
use Rattle.std.specs.List.{flat_map, enumerate_from, list_any}
use Rattle.std.proofs.Math.Bool.{or-false, or-true}
use Rattle.std.proofs.lemmas.List.{length_push, take_at}
use Rattle.std.proofs.lemmas.List.Folds.{list_any-append}
use Rattle.diameter_avp.specs.Avps.{AvpParts}
use Rattle.translation.specs.Passing.{pieces_after}

-- ---- the places of a test

-- one element more
pub any-push : {A : Type 0} (test : A → Bool) (before : List A) (a : A) → list_any test (before ++ a ∷ []) ≡ (list_any test before || test a)
any-push test before a =
    list_any-append test before (a ∷ []) ∙ ap (λ (x : Bool). list_any test before || x) (or-false (test a))

-- it passes
pub any-here : {A : Type 0} (test : A → Bool) (before : List A) (a : A) → test a ≡ true → true ≡ list_any test (before ++ a ∷ [])
any-here test before a is =
    sym (any-push test before a ∙ ap (λ (x : Bool). list_any test before || x) is ∙ or-true (list_any test before))

-- or it doesn't
pub any-before : {A : Type 0} (test : A → Bool) (before : List A) (a : A) (b : Bool) → b ≡ list_any test before → test a ≡ false → b ≡ list_any test (before ++ a ∷ [])
any-before test before a b e not_a =
    e ∙ sym (any-push test before a ∙ ap (λ (x : Bool). list_any test before || x) not_a ∙ or-false (list_any test before))

-- what stands before an element is the list up to its place
pub take-before : {A : Type 0} (all before rest : List A) (a : A) → before ++ a ∷ rest ≡ all → before ≡ take (length before) all
take-before all before rest a e = sym (take_at before (a ∷ rest) (length before) refl) ∙ ap (take (length before)) e

-- AVPs that stand at the first place alone
pub first-alone : (b c : Bool) (avps : List AvpParts) → b ≡ c → cond b [] avps ≡ cond (not c) avps []
first-alone true c avps e = rw (← e) refl
first-alone false c avps e = rw (← e) refl

-- ---- all places

-- A pass whose state tells what stood before (Saw), and that gives at each place of all what the place gives.
pub record Places {S A : Type 0} (piece : S → A → List AvpParts) (noted : S → A → S) (placed : ℕ → A → List AvpParts) (Saw : S → List A → Type 0) (all : List A) : Type 0 where
  pub next : (seen : S) (before : List A) (a : A) → Saw seen before → Saw (noted seen a) (before ++ a ∷ [])
  pub same : (seen : S) (before rest : List A) (a : A) → Saw seen before → before ++ a ∷ rest ≡ all → piece seen a ≡ placed (length before) a

pub pieces_after-places : {S A : Type 0} (piece : S → A → List AvpParts) (noted : S → A → S) (placed : ℕ → A → List AvpParts) (Saw : S → List A → Type 0) (all before rest : List A) (seen : S)
    → Places piece noted placed Saw all → Saw seen before → before ++ rest ≡ all
    → pieces_after piece noted seen rest ≡ flat_map (λ p. placed p.0 p.1) (enumerate_from (length before) rest)
pieces_after-places piece noted placed Saw all before [] seen places saw e = refl
pieces_after-places piece noted placed Saw all before (a ∷ rest) seen places saw e =
    let others = pieces_after-places piece noted placed Saw all (before ++ a ∷ []) rest (noted seen a) places (places.next seen before a saw) (append_assoc before (a ∷ []) rest ∙ e) in
    let counted = ap (λ n. flat_map (λ p. placed p.0 p.1) (enumerate_from n rest)) (length_push before a) in
    ap (λ avps. avps ++ pieces_after piece noted (noted seen a) rest) (places.same seen before rest a saw e)
    ∙ ap (λ avps. placed (length before) a ++ avps) (others ∙ counted)
