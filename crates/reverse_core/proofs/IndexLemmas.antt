-- The index of keys, as requests are taken up, answered and dropped.
use Rattle.std.proofs.Common.{◌≡◌, ℕ, suc, ◌+◌, ◌≤◌, Bool, true, false, cond, List, [], ◌∷◌, ◌++◌, length, Option, Some, None, refl, sym, ap, ◌∙◌, arith}
use Rattle.std.specs.Option.{option_or}
use Rattle.reverse_core.specs.declared.key.Key.{Key}
use Rattle.reverse_core.specs.declared.requests.OpenRequest.{OpenRequest}
use Rattle.reverse_core.specs.declared.requests.KeptAnswer.{KeptAnswer}
use Rattle.reverse_core.specs.declared.ledger.Standing.{Standing}
use Rattle.reverse_core.specs.declared.ledger.Standing.TheVariants.{Open, Kept}
use Rattle.reverse_core.specs.Keys.{same_key}
use Rattle.reverse_core.specs.KeyLaws.{same_key-equal, same_key-refl}
use Rattle.reverse_core.specs.State.{open_standing, kept_standing, standing_of, count_open, count_kept}

-- ---- counts

abbrev pub one_if : Bool → ℕ
one_if b = cond b 1 0

pub count-between : (q : Key) (before behind : List OpenRequest) (o : OpenRequest)
    → count_open q (before ++ o ∷ behind) ≡ count_open q (before ++ behind) + one_if (same_key o.taken.key q)
count-between q [] behind o = refl
count-between q (x ∷ before) behind o = omega (arith, count-between q before behind o)

pub count-last : (q : Key) (os : List OpenRequest) (o : OpenRequest) → count_open q (os ++ o ∷ []) ≡ count_open q os + one_if (same_key o.taken.key q)
count-last q [] o = refl
count-last q (x ∷ os) o = omega (arith, count-last q os o)

pub count-end : (q : Key) (ks : List KeptAnswer) (k : KeptAnswer) → count_kept q (ks ++ k ∷ []) ≡ count_kept q ks + one_if (same_key k.key q)
count-end q [] k = refl
count-end q (x ∷ ks) k = omega (arith, count-end q ks k)

-- ---- where a key that no request has stands

open-none-by : (b : Bool) (n : ℕ) (s : Option Standing) → n + one_if b ≡ 0 → (n ≡ 0 → s ≡ None) → cond b (Some Open) s ≡ None
open-none-by true n s e rest = absurd (omega arith)
open-none-by false n s e rest = rest (omega arith)

pub open-none : (q : Key) (os : List OpenRequest) → count_open q os ≡ 0 → open_standing q os ≡ None
open-none q [] e = refl
open-none q (o ∷ os) e = open-none-by (same_key o.taken.key q) (count_open q os) (open_standing q os) e (open-none q os)

kept-none-by : (b : Bool) (m n : ℕ) (s : Option Standing) → n + one_if b ≡ 0 → (n ≡ 0 → s ≡ None) → cond b (Some (Kept m)) s ≡ None
kept-none-by true m n s e rest = absurd (omega arith)
kept-none-by false m n s e rest = rest (omega arith)

pub kept-none : (q : Key) (n : ℕ) (ks : List KeptAnswer) → count_kept q ks ≡ 0 → kept_standing q n ks ≡ None
kept-none q n [] e = refl
kept-none q n (k ∷ ks) e = kept-none-by (same_key k.key q) n (count_kept q ks) (kept_standing q (n + 1) ks) e (kept-none q (n + 1) ks)

-- ---- one is taken up

open-more : (q : Key) (os : List OpenRequest) (o : OpenRequest) (b : Bool) → same_key o.taken.key q ≡ b
    → open_standing q (os ++ o ∷ []) ≡ option_or (open_standing q os) (cond b (Some Open) None)
open-more q [] o b e = ap (λ c. cond c (Some Open) None) e
open-more q (x ∷ os) o b e =
    elim (same_key x.taken.key q) as (λ c. cond c (Some Open) (open_standing q (os ++ o ∷ [])) ≡ option_or (cond c (Some Open) (open_standing q os)) (cond b (Some Open) None)) [
      | true ↦ refl
      | false ↦ open-more q os o b e
    ]

or-none : (s : Option Standing) → option_or s None ≡ s
or-none None = refl
or-none (Some x) = refl

same-count : (k q : Key) (F : Key → ℕ) → same_key k q ≡ true → F q ≡ F k
same-count k q F e = ap F (sym (same_key-equal k q e))

pub standing-taken : (q : Key) (os : List OpenRequest) (o : OpenRequest) (n : ℕ) (ks : List KeptAnswer)
    → count_open o.taken.key os + count_kept o.taken.key ks ≡ 0
    → cond (same_key o.taken.key q) (Some Open) (standing_of q os n ks) ≡ standing_of q (os ++ o ∷ []) n ks
standing-taken q os o n ks none = by (same_key o.taken.key q) refl
  where
    by : (b : Bool) → same_key o.taken.key q ≡ b → cond b (Some Open) (standing_of q os n ks) ≡ standing_of q (os ++ o ∷ []) n ks
    by true e =
        let gone : open_standing q os ≡ None =
        open-none q os (let same = same-count o.taken.key q (λ x. count_open x os) e in omega arith) in
        sym (ap (λ s. option_or s (kept_standing q n ks)) (open-more q os o true e ∙ ap (λ s. option_or s (Some Open)) gone))
    by false e = ap (λ s. option_or s (kept_standing q n ks)) (sym (open-more q os o false e ∙ or-none (open_standing q os)))

-- ---- the first answer is dropped

pub standing-dropped : (q : Key) (os : List OpenRequest) (k : KeptAnswer) (n : ℕ) (ks : List KeptAnswer)
    → count_open q os + count_kept q (k ∷ ks) ≤ 1
    → cond (same_key k.key q) None (standing_of q os n (k ∷ ks)) ≡ standing_of q os (n + 1) ks
standing-dropped q os k n ks single = by (same_key k.key q) single
  where
    by : (b : Bool) → count_open q os + (count_kept q ks + one_if b) ≤ 1
        → cond b None (option_or (open_standing q os) (cond b (Some (Kept n)) (kept_standing q (n + 1) ks))) ≡ standing_of q os (n + 1) ks
    by true s = sym (rw (open-none q os (omega arith), kept-none q (n + 1) ks (omega arith)) refl)
    by false s = refl

-- ---- one is answered

open-between : (q : Key) (before behind : List OpenRequest) (o : OpenRequest) → same_key o.taken.key q ≡ false
    → open_standing q (before ++ o ∷ behind) ≡ open_standing q (before ++ behind)
open-between q [] behind o e = ap (λ b. cond b (Some Open) (open_standing q behind)) e
open-between q (x ∷ before) behind o e = ap (λ s. cond (same_key x.taken.key q) (Some Open) s) (open-between q before behind o e)

kept-more : (q : Key) (n : ℕ) (ks : List KeptAnswer) (k : KeptAnswer) (b : Bool) → same_key k.key q ≡ b
    → kept_standing q n (ks ++ k ∷ []) ≡ option_or (kept_standing q n ks) (cond b (Some (Kept (n + length ks))) None)
kept-more q n [] k b e = rw (e, let z : n + 0 ≡ n = omega arith in z) refl
kept-more q n (x ∷ ks) k b e =
    elim (same_key x.key q) as (λ c. cond c (Some (Kept n)) (kept_standing q (n + 1) (ks ++ k ∷ []))
    ≡ option_or (cond c (Some (Kept n)) (kept_standing q (n + 1) ks)) (cond b (Some (Kept (n + suc (length ks)))) None)) [
      | true ↦ refl
      | false ↦ (kept-more q (n + 1) ks k b e ∙ ap (λ m. option_or (kept_standing q (n + 1) ks) (cond b (Some (Kept m)) None)) (let z : n + 1 + length ks ≡ n + suc (length ks) = omega arith in z))
    ]

pub standing-answered : (q : Key) (before behind : List OpenRequest) (o : OpenRequest) (n : ℕ) (ks : List KeptAnswer) (k : KeptAnswer)
    → k.key ≡ o.taken.key → count_open q (before ++ o ∷ behind) + count_kept q ks ≤ 1
    → cond (same_key o.taken.key q) (Some (Kept (n + length ks))) (standing_of q (before ++ o ∷ behind) n ks)
    ≡ standing_of q (before ++ behind) n (ks ++ k ∷ [])
standing-answered q before behind o n ks k same single =
    by (same_key o.taken.key q) refl (omega (arith, count-between q before behind o))
  where
    by : (b : Bool) → same_key o.taken.key q ≡ b → count_open q (before ++ behind) + one_if (same_key o.taken.key q) + count_kept q ks ≤ 1
        → cond b (Some (Kept (n + length ks))) (standing_of q (before ++ o ∷ behind) n ks) ≡ standing_of q (before ++ behind) n (ks ++ k ∷ [])
    by true e s =
        let s' = rw e at s in
        let gone : open_standing q (before ++ behind) ≡ None = open-none q (before ++ behind) (omega arith) in
        let none : kept_standing q n ks ≡ None = kept-none q n ks (omega arith) in
        let here : same_key k.key q ≡ true = ap (λ x. same_key x q) same ∙ e in
        sym (ap (λ x. option_or x (kept_standing q n (ks ++ k ∷ []))) gone ∙ kept-more q n ks k true here ∙ ap (λ x. option_or x (Some (Kept (n + length ks)))) none)
    by false e s =
        let other : same_key k.key q ≡ false = ap (λ x. same_key x q) same ∙ e in
        ap (λ x. option_or x (kept_standing q n ks)) (open-between q before behind o e)
        ∙ ap (λ x. option_or (open_standing q (before ++ behind)) x) (sym (kept-more q n ks k false other ∙ or-none (kept_standing q n ks)))

-- ---- an open request's key stands

pub open-some : (q : Key) (before behind : List OpenRequest) (o : OpenRequest) → same_key o.taken.key q ≡ true
    → open_standing q (before ++ o ∷ behind) ≡ Some Open
open-some q [] behind o e = ap (λ b. cond b (Some Open) (open_standing q behind)) e
open-some q (x ∷ before) behind o e =
    elim (same_key x.taken.key q) as (λ c. cond c (Some Open) (open_standing q (before ++ o ∷ behind)) ≡ Some Open) [
      | true ↦ refl
      | false ↦ open-some q before behind o e
    ]

pub standing-open : (before behind : List OpenRequest) (o : OpenRequest) (n : ℕ) (ks : List KeptAnswer)
    → standing_of o.taken.key (before ++ o ∷ behind) n ks ≡ Some Open
standing-open before behind o n ks =
    ap (λ s. option_or s (kept_standing o.taken.key n ks)) (open-some o.taken.key before behind o (same_key-refl o.taken.key))
