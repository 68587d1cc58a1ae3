-- Lists, and lists less some of their items, joined.
use Rattle.std.proofs.Common.{◌≡◌, ℕ, ◌+◌, List, [], ◌∷◌, ◌++◌, length, refl, subst, arith}
use Rattle.server_workers.specs.Entries.{Less}
use Rattle.server_workers.specs.Entries.Less.{empty, keeps, loses}

pub less-append : {A : Type 0} (xs ys : List A) (n : ℕ) (zs us : List A) (m : ℕ) → Less xs ys n → Less zs us m → Less (xs ++ zs) (ys ++ us) (n + m)
less-append xs ys n zs us m empty more = subst (λ k. Less zs us k) (let e : m ≡ 0 + m = omega arith in e) more
less-append xs ys n zs us m (keeps x xs' ys' n' less) more =
    keeps x (xs' ++ zs) (ys' ++ us) (n' + m) (less-append xs' ys' n' zs us m less more)
less-append xs ys n zs us m (loses x xs' ys' n' less) more =
    subst (λ k. Less (x ∷ xs' ++ zs) (ys' ++ us) k) (let e : n' + m + 1 ≡ n' + 1 + m = omega arith in e)
    (loses x (xs' ++ zs) (ys' ++ us) (n' + m) (less-append xs' ys' n' zs us m less more))

pub less-same : {A : Type 0} (xs : List A) → Less xs (xs ++ []) 0
less-same [] = empty
less-same (x ∷ xs) = keeps x xs (xs ++ []) 0 (less-same xs)

pub less-length : {A : Type 0} (xs ys : List A) (n : ℕ) → Less xs ys n → length xs ≡ length ys + n
less-length xs ys n empty = refl
less-length xs ys n (keeps x xs' ys' n' less) = let e = less-length xs' ys' n' less in omega (arith, e)
less-length xs ys n (loses x xs' ys' n' less) = let e = less-length xs' ys' n' less in omega (arith, e)
