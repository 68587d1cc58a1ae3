-- What several reads in a row took off what was to come.
use Rattle.std.proofs.Common.{◌≡◌, ℕ, List, [], ◌++◌, length, take, drop, Option, Some, None, sym, ap, ◌∙◌, refl, append_assoc}
use Rattle.std.proofs.lemmas.List.{drop_at, take_at, append-nil}
use Rattle.std.specs.Io.KnownBytes.{prepend_known}
use Rattle.wire_core.specs.Source.{Consumes, IsAtEnd}

prepend-nil : (left : Option (List ℕ)) → prepend_known [] left ≡ left
prepend-nil None = refl
prepend-nil (Some xs) = refl

prepend-append : (xs ys : List ℕ) (left : Option (List ℕ)) → prepend_known xs (prepend_known ys left) ≡ prepend_known (xs ++ ys) left
prepend-append xs ys None = refl
prepend-append xs ys (Some zs) = ap Some (sym (append_assoc xs ys zs))

prepend-some : (left : Option (List ℕ)) (xs all : List ℕ) → prepend_known xs left ≡ Some all → (ys : List ℕ) × (left ≡ Some ys) × (all ≡ xs ++ ys)
prepend-some None xs all e = cc
prepend-some (Some ys) xs all e = (ys, refl, cc)

-- no read at all
pub Consumes-none : (left : Option (List ℕ)) → Consumes left left []
Consumes-none left = record { front = sym (prepend-nil left) }

-- a read that took nothing
pub Consumes-same : {before now : Option (List ℕ)} → now ≡ before → Consumes before now []
Consumes-same {before} {now} same = record { front = sym same ∙ sym (prepend-nil now) }

-- some reads, and then some more
pub Consumes-append : {before then now : Option (List ℕ)} {xs ys : List ℕ} → Consumes before then xs → Consumes then now ys → Consumes before now (xs ++ ys)
Consumes-append {before} {then} {now} {xs} {ys} c d =
    record { front = c.front ∙ ap (prepend_known xs) d.front ∙ prepend-append xs ys now }

-- what still is to come, from what was
pub Consumes-told : {before now : Option (List ℕ)} {xs : List ℕ} → Consumes before now xs → (all : List ℕ) → before ≡ Some all → (ys : List ℕ) × (now ≡ Some ys) × (all ≡ xs ++ ys)
Consumes-told {before} {now} {xs} c all told = prepend-some now xs all (sym c.front ∙ told)

-- the same by places
pub Consumes-drop : {before now : Option (List ℕ)} {xs : List ℕ} → Consumes before now xs → (all : List ℕ) → before ≡ Some all → now ≡ Some (drop (length xs) all)
Consumes-drop {before} {now} {xs} c all told =
    let (ys, still, cut) = Consumes-told c all told in still ∙ ap Some (sym (ap (drop (length xs)) cut ∙ drop_at xs ys (length xs) refl))

pub Consumes-take : {before now : Option (List ℕ)} {xs : List ℕ} → Consumes before now xs → (all : List ℕ) → before ≡ Some all → xs ≡ take (length xs) all
Consumes-take {before} {now} {xs} c all told =
    let (ys, still, cut) = Consumes-told c all told in sym (ap (take (length xs)) cut ∙ take_at xs ys (length xs) refl)

-- what was to come, from what still is
pub Consumes-still : {before now : Option (List ℕ)} {xs : List ℕ} → Consumes before now xs → (ys : List ℕ) → now ≡ Some ys → before ≡ Some (xs ++ ys)
Consumes-still {before} {now} {xs} c ys still = c.front ∙ ap (prepend_known xs) still

-- at the end these reads took all there was
pub Consumes-end : {before now : Option (List ℕ)} {xs : List ℕ} → Consumes before now xs → IsAtEnd now → (all : List ℕ) → before ≡ Some all → (all ≡ xs) × (now ≡ Some [])
Consumes-end {before} {now} {xs} c end all told =
    let (ys, still, cut) = Consumes-told c all told in
    let none : ys ≡ [] = end ys still in
    (cut ∙ ap (λ zs. xs ++ zs) none ∙ append-nil xs, still ∙ ap Some none)
