-- The elements of a list, by recursion.
use Rattle.std.proofs.Common.{◌≡◌, ◌<◌, ◌⊎◌, inl, inr, Bool, true, false, cond, List, [], ◌∷◌, ◌++◌, filter, subst, arith}
use Rattle.std.specs.Prelude.{find, Some}
use Rattle.std.specs.List.{AllByRecursion as Each, Contains}
use Rattle.std.proofs.lemmas.List.Elements.{Contains-push, Contains-push_cases, Contains-append_left, Contains-append_right, Contains-append_cases}

pub none-there : {X : Type 0} (x : X) → Contains [] x → ⊥
none-there x h = let low : h.0 < 0 = h.1 in omega (arith, low)

pub first-there : {X : Type 0} (x : X) (xs : List X) → Contains (x ∷ xs) x
first-there x xs = Contains-append_left (x ∷ []) xs x (Contains-push [] x)

pub later-there : {X : Type 0} (x : X) (xs : List X) (y : X) → Contains xs y → Contains (x ∷ xs) y
later-there x xs y h = Contains-append_right (x ∷ []) xs y h

pub there-cases : {X : Type 0} (x : X) (xs : List X) (y : X) → Contains (x ∷ xs) y → (x ≡ y) ⊎ Contains xs y
there-cases x xs y h =
    elim (Contains-append_cases (x ∷ []) xs y h) [
      | inl one ↦ (elim (Contains-push_cases [] x y one) [ inl none ↦ absurd (none-there y none) | inr is ↦ inl is ])
      | inr more ↦ inr more
    ]

pub each-there : {X : Type 0} (P : X → Type 0) (xs : List X) (x : X) → Each P xs → Contains xs x → P x
each-there P [] x all h = absurd (none-there x h)
each-there P (y ∷ xs) x all h = elim (there-cases y xs x h) [ inl is ↦ subst P is all.0 | inr more ↦ each-there P xs x all.1 more ]

pub each-filter : {X : Type 0} (P : X → Type 0) (test : X → Bool) (xs : List X) → Each P xs → Each P (filter test xs)
each-filter P test [] all = tt
each-filter P test (x ∷ xs) all =
    elim (test x) as (λ b. Each P (cond b (x ∷ filter test xs) (filter test xs))) [
      | true ↦ (all.0, each-filter P test xs all.1)
      | false ↦ each-filter P test xs all.1
    ]

pub each-end : {X : Type 0} (P : X → Type 0) (xs : List X) (x : X) → Each P xs → P x → Each P (xs ++ x ∷ [])
each-end P [] x all more = (more, tt)
each-end P (y ∷ xs) x all more = (all.0, each-end P xs x all.1 more)

pub each-append : {X : Type 0} (P : X → Type 0) (xs ys : List X) → Each P xs → Each P ys → Each P (xs ++ ys)
each-append P [] ys all more = more
each-append P (x ∷ xs) ys all more = (all.0, each-append P xs ys all.1 more)

pub each-found : {X : Type 0} (P : X → Type 0) (test : X → Bool) (xs : List X) (x : X) → Each P xs → find test xs ≡ Some x → P x
each-found P test [] x all e = absurd (cc)
each-found P test (y ∷ xs) x all e =
    elim (test y) as (λ b. cond b (Some y) (find test xs) ≡ Some x → P x) [
      | true ↦ (λ f. let is : y ≡ x = cc in subst P is all.0)
      | false ↦ (λ f. each-found P test xs x all.1 f)
    ] e

pub each-of : {X : Type 0} (P : X → Type 0) (xs : List X) → ((x : X) → Contains xs x → P x) → Each P xs
each-of P [] f = tt
each-of P (x ∷ xs) f = (f x (first-there x xs), each-of P xs (λ y there. f y (later-there x xs y there)))

pub each-from : {X : Type 0} (P Q : X → Type 0) (xs : List X) → ((x : X) → P x → Q x) → Each P xs → Each Q xs
each-from P Q [] f all = tt
each-from P Q (x ∷ xs) f all = (f x all.0, each-from P Q xs f all.1)
