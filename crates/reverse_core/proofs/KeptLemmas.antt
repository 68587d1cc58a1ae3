-- The queue of kept answers.
use Rattle.std.proofs.Common.{◌≡◌, ℕ, ◌+◌, ◌≤◌, true, List, [], ◌∷◌, length, filter, nat_lt, refl, ap, arith}
use Rattle.std.specs.List.{AllByRecursion}
use Rattle.reverse_core.specs.declared.requests.KeptAnswer.{KeptAnswer}
use Rattle.reverse_core.specs.Windows.{IsNoLater, Pairs}

-- from one that is still to be kept on, all are
pub later-kept : (m r : ℕ) (k : KeptAnswer) (ks : List KeptAnswer) → nat_lt m (k.at + r) ≡ true → AllByRecursion (IsNoLater k) ks
    → filter (λ x. nat_lt m (x.at + r)) ks ≡ ks
later-kept m r k [] here later = refl
later-kept m r k (x ∷ ks) here later =
    let too : nat_lt m (x.at + r) ≡ true = (let low : k.at ≤ x.at = later.0 in grind arith) in
    rw too (ap (λ l. x ∷ l) (later-kept m r k ks here later.1))

pub kept_on : (m r : ℕ) (k : KeptAnswer) (ks : List KeptAnswer) → Pairs IsNoLater (k ∷ ks) → nat_lt m (k.at + r) ≡ true
    → length (filter (λ x. nat_lt m (x.at + r)) (k ∷ ks)) ≡ length (k ∷ ks)
kept_on m r k ks cooled here = rw here (omega (arith, ap length (later-kept m r k ks here cooled.0)))
