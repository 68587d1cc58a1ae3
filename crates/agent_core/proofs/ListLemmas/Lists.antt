-- What std's lists lack: filters, searches and changes of one element, under a map.
use Rattle.std.proofs.Common.{◌≡◌, Bool, true, false, cond, ◌&&◌, List, [], ◌∷◌, ◌++◌, map, filter, find, option_map, Some, refl, ap, subst}
use Rattle.std.specs.List.{AllByRecursion}

-- what a test keeps, tested again by what implies it
pub filter-within : {X : Type 0} (p q : X → Bool) → ((x : X) → q x ≡ true → p x ≡ true) → (xs : List X) → filter q (filter p xs) ≡ filter q xs
filter-within p q implies [] = refl
filter-within {X} p q implies (x ∷ xs) =
    elim (p x) as (λ b. p x ≡ b → filter q (cond b (x ∷ filter p xs) (filter p xs)) ≡ filter q (x ∷ xs)) [
      | true ↦ (λ e. ap (λ r. cond (q x) (x ∷ r) r) (filter-within p q implies xs))
      | false ↦ (λ e.
          elim (q x) as (λ c. q x ≡ c → filter q (filter p xs) ≡ cond c (x ∷ filter q xs) (filter q xs)) [
            | true ↦ (λ f. absurd (let yes : p x ≡ true = implies x f in cc))
            | false ↦ (λ f. filter-within p q implies xs)
          ] refl)
    ] refl

pub filter-map : {X Y : Type 0} (p : Y → Bool) (f : X → Y) (xs : List X) → filter p (map f xs) ≡ map f (filter (λ x. p (f x)) xs)
filter-map p f [] = refl
filter-map {X} {Y} p f (x ∷ xs) =
    elim (p (f x)) as (λ b. cond b (f x ∷ filter p (map f xs)) (filter p (map f xs)) ≡ map f (cond b (x ∷ filter (λ y. p (f y)) xs) (filter (λ y. p (f y)) xs))) [
      | true ↦ ap (λ r. f x ∷ r) (filter-map p f xs)
      | false ↦ filter-map p f xs
    ]

pub find-map : {X Y : Type 0} (p : Y → Bool) (f : X → Y) (xs : List X) → find p (map f xs) ≡ option_map f (find (λ x. p (f x)) xs)
find-map p f [] = refl
find-map {X} {Y} p f (x ∷ xs) =
    elim (p (f x)) as (λ b. cond b (Some (f x)) (find p (map f xs)) ≡ option_map f (cond b (Some x) (find (λ y. p (f y)) xs))) [
      | true ↦ refl
      | false ↦ find-map p f xs
    ]

-- what holds of each element holds of what a search finds
pub find-All : {X : Type 0} (P : X → Type 0) (p : X → Bool) (xs : List X) → AllByRecursion P xs → (x : X) → find p xs ≡ Some x → P x
find-All P p [] all y found = absurd (cc)
find-All {X} P p (x ∷ xs) all y found =
    elim (p x) as (λ b. cond b (Some x) (find p xs) ≡ Some y → P y) [
      | true ↦ (λ e. let same : x ≡ y = cc in subst P same all.0)
      | false ↦ (λ e. find-All P p xs all.1 y e)
    ] found

pub find-true : {X : Type 0} (p : X → Bool) (xs : List X) (x : X) → find p xs ≡ Some x → p x ≡ true
find-true p [] y found = absurd (cc)
find-true {X} p (x ∷ xs) y found =
    elim (p x) as (λ b. p x ≡ b → cond b (Some x) (find p xs) ≡ Some y → p y ≡ true) [
      | true ↦ (λ h e. let same : x ≡ y = cc in subst (λ (z : X). p z ≡ true) same h)
      | false ↦ (λ h e. find-true p xs y e)
    ] refl found

pub AllByRecursion-filter : {X : Type 0} (P : X → Type 0) (p : X → Bool) (xs : List X) → AllByRecursion P xs → AllByRecursion P (filter p xs)
AllByRecursion-filter P p [] all = all
AllByRecursion-filter {X} P p (x ∷ xs) all =
    elim (p x) as (λ b. AllByRecursion P (cond b (x ∷ filter p xs) (filter p xs))) [
      | true ↦ (all.0, AllByRecursion-filter P p xs all.1)
      | false ↦ AllByRecursion-filter P p xs all.1
    ]

pub AllByRecursion-map : {X Y : Type 0} (P : Y → Type 0) (f : X → Y) (xs : List X) → AllByRecursion (λ x. P (f x)) xs → AllByRecursion P (map f xs)
AllByRecursion-map P f [] all = tt
AllByRecursion-map P f (x ∷ xs) all = (all.0, AllByRecursion-map P f xs all.1)

pub AllByRecursion-push : {X : Type 0} (P : X → Type 0) (xs : List X) (y : X) → AllByRecursion P xs → P y → AllByRecursion P (xs ++ y ∷ [])
AllByRecursion-push P [] y all h = (h, tt)
AllByRecursion-push P (x ∷ xs) y all h = (all.0, AllByRecursion-push P xs y all.1 h)

pub AllByRecursion-weaken : {X : Type 0} (P Q : X → Type 0) → ((x : X) → P x → Q x) → (xs : List X) → AllByRecursion P xs → AllByRecursion Q xs
AllByRecursion-weaken P Q implies [] all = tt
AllByRecursion-weaken P Q implies (x ∷ xs) all = (implies x all.0, AllByRecursion-weaken P Q implies xs all.1)

-- two functions that agree on each element
pub map-same : {X Y : Type 0} (f g : X → Y) (xs : List X) → AllByRecursion (λ x. f x ≡ g x) xs → map f xs ≡ map g xs
map-same f g [] all = refl
map-same f g (x ∷ xs) all = let head = all.0 in let tail = map-same f g xs all.1 in cc

-- a search behind a filter
pub find-filter : {X : Type 0} (p q : X → Bool) (xs : List X) → find q (filter p xs) ≡ find (λ x. p x && q x) xs
find-filter p q [] = refl
find-filter {X} p q (x ∷ xs) =
    elim (p x) as (λ b. find q (cond b (x ∷ filter p xs) (filter p xs)) ≡ cond (b && q x) (Some x) (find (λ y. p y && q y) xs)) [
      | true ↦ ap (λ r. cond (q x) (Some x) r) (find-filter p q xs)
      | false ↦ find-filter p q xs
    ]

-- two tests, one behind the other
pub filter-both : {X : Type 0} (p q : X → Bool) (xs : List X) → filter (λ x. p x && q x) xs ≡ filter q (filter p xs)
filter-both p q [] = refl
filter-both {X} p q (x ∷ xs) =
    elim (p x) as (λ b. cond (b && q x) (x ∷ filter (λ y. p y && q y) xs) (filter (λ y. p y && q y) xs) ≡ filter q (cond b (x ∷ filter p xs) (filter p xs))) [
      | true ↦ ap (λ r. cond (q x) (x ∷ r) r) (filter-both p q xs)
      | false ↦ filter-both p q xs
    ]

-- two tests that agree on each element
pub filter-alike : {X : Type 0} (p q : X → Bool) (xs : List X) → AllByRecursion (λ x. p x ≡ q x) xs → filter p xs ≡ filter q xs
filter-alike p q [] all = refl
filter-alike p q (x ∷ xs) all = let here = all.0 in let rest = filter-alike p q xs all.1 in cc

-- two tests that agree
pub find-same : {X : Type 0} (p q : X → Bool) → ((x : X) → p x ≡ q x) → (xs : List X) → find p xs ≡ find q xs
find-same p q same [] = refl
find-same p q same (x ∷ xs) = let here = same x in let rest = find-same p q same xs in cc

pub filter-same : {X : Type 0} (p q : X → Bool) → ((x : X) → p x ≡ q x) → (xs : List X) → filter p xs ≡ filter q xs
filter-same p q same [] = refl
filter-same p q same (x ∷ xs) = let here = same x in let rest = filter-same p q same xs in cc
