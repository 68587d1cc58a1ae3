-- The open requests after a place.
use Rattle.std.proofs.Common.{◌≡◌, ℕ, ◌+◌, ◌<◌, Bool, true, false, cond, ◌&&◌, eqb, not, List, [], ◌∷◌, ◌++◌, length, map, filter, Option, Some, None, refl, sym, ap, ◌∙◌, arith}
use Rattle.std.specs.Prelude.{option_and_then}
use Rattle.std.specs.List.{AllByRecursion}
use Rattle.std.proofs.lemmas.Bool.{eq-eqb}
use Rattle.reverse_core.specs.declared.requests.Taken.{Taken}
use Rattle.reverse_core.specs.declared.requests.OpenRequest.{OpenRequest}
use Rattle.reverse_core.specs.declared.requests.Sent.{Sent}
use Rattle.reverse_core.specs.Requests.{Deed, Nothing, Takes, Repeats, Closes, Ticks, after, is_due, is_last, is_spent, first_sent, sent_again, renewed}
use Rattle.reverse_core.specs.Places.{ReversePlace, with_taken, takings, count, sent_until, sent_after, if_open, open_among}
use Rattle.reverse_core.specs.State.{takes}

-- ---- numbers

-- each request's number is below how many were taken up
abbrev pub Numbered : List ReversePlace → Type 0
Numbered ps = AllByRecursion (λ t. t.number < count ps) (takings ps)

-- what is taken up has the next number
abbrev pub IsFresh : Deed → ℕ → Type 0
IsFresh (Takes t) n = t.number ≡ n
IsFresh Nothing n = Unit {0}
IsFresh (Repeats k hop) n = Unit {0}
IsFresh (Closes t answer) n = Unit {0}
IsFresh Ticks n = Unit {0}

length-end : (list : List Taken) (t : Taken) → length (list ++ t ∷ []) ≡ length list + 1
length-end [] t = omega arith
length-end (x ∷ list) t = omega (arith, length-end list t)

pub count-after : (d : Deed) (list : List Taken) → length list + takes d ≡ length (with_taken d list)
count-after (Takes t) list = sym (length-end list t)
count-after Nothing list = omega arith
count-after (Repeats k hop) list = omega arith
count-after (Closes t answer) list = omega arith
count-after Ticks list = omega arith

below-end : (list : List Taken) (t : Taken) (n : ℕ) → t.number ≡ n → AllByRecursion (λ x. x.number < n) list → AllByRecursion (λ x. x.number < n + 1) (list ++ t ∷ [])
below-end [] t n e all = (omega arith, tt)
below-end (x ∷ list) t n e all = (let low : x.number < n = all.0 in omega arith, below-end list t n e all.1)

below-as : (n m : ℕ) (list : List Taken) → n ≡ m → AllByRecursion (λ x. x.number < n) list → AllByRecursion (λ x. x.number < m) list
below-as n m [] e all = tt
below-as n m (x ∷ list) e all = (let low : x.number < n = all.0 in omega arith, below-as n m list e all.1)

pub numbered-after : (d : Deed) (list : List Taken) → IsFresh d (length list) → AllByRecursion (λ t. t.number < length list) list
    → AllByRecursion (λ t. t.number < length (with_taken d list)) (with_taken d list)
numbered-after (Takes t) list fresh all =
    below-as (length list + 1) (length (list ++ t ∷ [])) (list ++ t ∷ []) (sym (length-end list t)) (below-end list t (length list) fresh all)
numbered-after Nothing list fresh all = all
numbered-after (Repeats k hop) list fresh all = all
numbered-after (Closes t answer) list fresh all = all
numbered-after Ticks list fresh all = all

-- ---- each deed

aged-one : (m : ℕ) (t : Taken) (s : Sent) (rest : List OpenRequest) (b : Bool) → (is_due m s && is_last s) ≡ b
    → map (renewed m) (filter (λ o. not (is_spent m o)) (record { taken = t; sent = s } ∷ rest))
    ≡ if_open t (cond b None (Some (sent_again m s))) ++ map (renewed m) (filter (λ o. not (is_spent m o)) rest)
aged-one m t s rest true e = rw e refl
aged-one m t s rest false e = rw e refl

aged-head : (m : ℕ) (t : Taken) (s : Option Sent) (rest : List OpenRequest)
    → map (renewed m) (filter (λ o. not (is_spent m o)) (if_open t s ++ rest))
    ≡ if_open t (option_and_then (sent_until m) s) ++ map (renewed m) (filter (λ o. not (is_spent m o)) rest)
aged-head m t None rest = refl
aged-head m t (Some s) rest = aged-one m t s rest (is_due m s && is_last s) refl

aged-open : (m : ℕ) (f : Taken → Option Sent) (list : List Taken)
    → map (renewed m) (filter (λ o. not (is_spent m o)) (open_among f list)) ≡ open_among (λ t. option_and_then (sent_until m) (f t)) list
aged-open m f [] = refl
aged-open m f (t ∷ list) =
    aged-head m t (f t) (open_among f list) ∙ ap (λ os. if_open t (option_and_then (sent_until m) (f t)) ++ os) (aged-open m f list)

closed-head : (n : ℕ) (t : Taken) (s : Option Sent) (rest : List OpenRequest) (b : Bool) → eqb t.number n ≡ b
    → filter (λ o. not (eqb o.taken.number n)) (if_open t s ++ rest) ≡ if_open t (cond b None s) ++ filter (λ o. not (eqb o.taken.number n)) rest
closed-head n t None rest true e = refl
closed-head n t None rest false e = refl
closed-head n t (Some s) rest true e = rw e refl
closed-head n t (Some s) rest false e = rw e refl

closed-open : (n : ℕ) (f : Taken → Option Sent) (list : List Taken)
    → filter (λ o. not (eqb o.taken.number n)) (open_among f list) ≡ open_among (λ t. cond (eqb t.number n) None (f t)) list
closed-open n f [] = refl
closed-open n f (t ∷ list) =
    closed-head n t (f t) (open_among f list) (eqb t.number n) refl
    ∙ ap (λ os. if_open t (cond (eqb t.number n) None (f t)) ++ os) (closed-open n f list)

join-end : (t : Taken) (s : Option Sent) (rest : List OpenRequest) (o : OpenRequest) → (if_open t s ++ rest) ++ o ∷ [] ≡ if_open t s ++ (rest ++ o ∷ [])
join-end t None rest o = refl
join-end t (Some s) rest o = refl

taken-open : (u : Taken) (s : Sent) (f : Taken → Option Sent) (list : List Taken) → AllByRecursion (λ t. t.number < u.number) list
    → open_among f list ++ record { taken = u; sent = s } ∷ [] ≡ open_among (λ t. cond (eqb t.number u.number) (Some s) (f t)) (list ++ u ∷ [])
taken-open u s f [] all = rw (eq-eqb u.number u.number refl) refl
taken-open u s f (t ∷ list) all =
    let low : t.number < u.number = all.0 in
    let other : eqb t.number u.number ≡ false = grind arith in
    join-end t (f t) (open_among f list) (record { taken = u; sent = s })
    ∙ ap (λ os. if_open t (f t) ++ os) (taken-open u s f list all.1)
    ∙ ap (λ c. if_open t (cond c (Some s) (f t)) ++ open_among (λ t. cond (eqb t.number u.number) (Some s) (f t)) (list ++ u ∷ [])) (sym other)

pub open-after : (d : Deed) (m : ℕ) (f : Taken → Option Sent) (list : List Taken) → IsFresh d (length list) → AllByRecursion (λ t. t.number < length list) list
    → after d m (open_among f list) ≡ open_among (λ t. sent_after d m t (f t)) (with_taken d list)
open-after Nothing m f list fresh all = refl
open-after (Takes u) m f list fresh all = taken-open u (first_sent m) f list (below-as (length list) u.number list (sym fresh) all)
open-after (Repeats k hop) m f list fresh all = refl
open-after (Closes u answer) m f list fresh all = closed-open u.number f list
open-after Ticks m f list fresh all = aged-open m f list
