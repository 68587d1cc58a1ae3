-- The open aborts after a place.
use Rattle.std.proofs.Common.{◌≡◌, ℕ, ◌+◌, ◌<◌, Bool, true, false, cond, eqb, not, List, [], ◌∷◌, ◌++◌, length, map, filter, Option, Some, None, refl, sym, ap, ◌∙◌, arith}
use Rattle.std.specs.Prelude.{option_and_then}
use Rattle.std.specs.List.{AllByRecursion}
use Rattle.std.proofs.lemmas.Bool.{eq-eqb}
use Rattle.session_book.specs.declared.aborts.Abort.{Abort}
use Rattle.session_book.specs.declared.aborts.OpenAbort.{OpenAbort}
use Rattle.session_book.specs.declared.aborts.Sent.{Sent}
use Rattle.session_book.specs.Aborts.{Deed, Nothing, Opens, Answers, Ages, Ends, after, is_spent, first_sent, sent_again, renewed}
use Rattle.session_book.specs.Places.{BookPlace, with_opened, opened, count, sent_until, sent_after, if_open, open_among}
use Rattle.session_book.specs.State.{opens}

-- ---- numbers

-- each abort's number is below how many were opened
abbrev pub Numbered : List BookPlace → Type 0
Numbered ps = AllByRecursion (λ a. a.number < count ps) (opened ps)

-- what is opened has the next number
abbrev pub IsFresh : Deed → ℕ → Type 0
IsFresh (Opens a) n = a.number ≡ n
IsFresh Nothing n = Unit {0}
IsFresh (Answers a ended) n = Unit {0}
IsFresh Ages n = Unit {0}
IsFresh Ends n = Unit {0}

length-end : (list : List Abort) (a : Abort) → length (list ++ a ∷ []) ≡ length list + 1
length-end [] a = omega arith
length-end (x ∷ list) a = omega (arith, length-end list a)

pub count-after : (d : Deed) (list : List Abort) → length list + opens d ≡ length (with_opened d list)
count-after (Opens a) list = sym (length-end list a)
count-after Nothing list = omega arith
count-after (Answers a ended) list = omega arith
count-after Ages list = omega arith
count-after Ends list = omega arith

below-end : (list : List Abort) (a : Abort) (n : ℕ) → a.number ≡ n → AllByRecursion (λ x. x.number < n) list → AllByRecursion (λ x. x.number < n + 1) (list ++ a ∷ [])
below-end [] a n e all = (omega arith, tt)
below-end (x ∷ list) a n e all = (let low : x.number < n = all.0 in omega arith, below-end list a n e all.1)

below-as : (n m : ℕ) (list : List Abort) → n ≡ m → AllByRecursion (λ x. x.number < n) list → AllByRecursion (λ x. x.number < m) list
below-as n m [] e all = tt
below-as n m (x ∷ list) e all = (let low : x.number < n = all.0 in omega arith, below-as n m list e all.1)

pub numbered-after : (d : Deed) (list : List Abort) → IsFresh d (length list) → AllByRecursion (λ a. a.number < length list) list
    → AllByRecursion (λ a. a.number < length (with_opened d list)) (with_opened d list)
numbered-after (Opens a) list fresh all =
    below-as (length list + 1) (length (list ++ a ∷ [])) (list ++ a ∷ []) (sym (length-end list a)) (below-end list a (length list) fresh all)
numbered-after Nothing list fresh all = all
numbered-after (Answers a ended) list fresh all = all
numbered-after Ages list fresh all = all
numbered-after Ends list fresh all = all

-- ---- each deed

none-open : (list : List Abort) → [] ≡ open_among (λ a. None) list
none-open [] = refl
none-open (a ∷ list) = none-open list

aged-one : (m : ℕ) (a : Abort) (s : Sent) (rest : List OpenAbort) (b : Bool) → is_spent m s ≡ b
    → map (renewed m) (filter (λ o. not (is_spent m o.sent)) (record { abort = a; sent = s } ∷ rest))
    ≡ if_open a (cond b None (Some (sent_again m s))) ++ map (renewed m) (filter (λ o. not (is_spent m o.sent)) rest)
aged-one m a s rest true e = rw e refl
aged-one m a s rest false e = rw e refl

aged-head : (m : ℕ) (a : Abort) (s : Option Sent) (rest : List OpenAbort)
    → map (renewed m) (filter (λ o. not (is_spent m o.sent)) (if_open a s ++ rest))
    ≡ if_open a (option_and_then (sent_until m) s) ++ map (renewed m) (filter (λ o. not (is_spent m o.sent)) rest)
aged-head m a None rest = refl
aged-head m a (Some s) rest = aged-one m a s rest (is_spent m s) refl

aged-open : (m : ℕ) (f : Abort → Option Sent) (list : List Abort)
    → map (renewed m) (filter (λ o. not (is_spent m o.sent)) (open_among f list)) ≡ open_among (λ a. option_and_then (sent_until m) (f a)) list
aged-open m f [] = refl
aged-open m f (a ∷ list) =
    aged-head m a (f a) (open_among f list) ∙ ap (λ os. if_open a (option_and_then (sent_until m) (f a)) ++ os) (aged-open m f list)

answered-head : (n : ℕ) (a : Abort) (s : Option Sent) (rest : List OpenAbort) (b : Bool) → eqb a.number n ≡ b
    → filter (λ o. not (eqb o.abort.number n)) (if_open a s ++ rest) ≡ if_open a (cond b None s) ++ filter (λ o. not (eqb o.abort.number n)) rest
answered-head n a None rest true e = refl
answered-head n a None rest false e = refl
answered-head n a (Some s) rest true e = rw e refl
answered-head n a (Some s) rest false e = rw e refl

answered-open : (n : ℕ) (f : Abort → Option Sent) (list : List Abort)
    → filter (λ o. not (eqb o.abort.number n)) (open_among f list) ≡ open_among (λ a. cond (eqb a.number n) None (f a)) list
answered-open n f [] = refl
answered-open n f (a ∷ list) =
    answered-head n a (f a) (open_among f list) (eqb a.number n) refl
    ∙ ap (λ os. if_open a (cond (eqb a.number n) None (f a)) ++ os) (answered-open n f list)

join-end : (a : Abort) (s : Option Sent) (rest : List OpenAbort) (o : OpenAbort) → (if_open a s ++ rest) ++ o ∷ [] ≡ if_open a s ++ (rest ++ o ∷ [])
join-end a None rest o = refl
join-end a (Some s) rest o = refl

opened-open : (b : Abort) (s : Sent) (f : Abort → Option Sent) (list : List Abort) → AllByRecursion (λ a. a.number < b.number) list
    → open_among f list ++ record { abort = b; sent = s } ∷ [] ≡ open_among (λ a. cond (eqb a.number b.number) (Some s) (f a)) (list ++ b ∷ [])
opened-open b s f [] all = rw (eq-eqb b.number b.number refl) refl
opened-open b s f (a ∷ list) all =
    let low : a.number < b.number = all.0 in
    let other : eqb a.number b.number ≡ false = grind arith in
    join-end a (f a) (open_among f list) (record { abort = b; sent = s })
    ∙ ap (λ os. if_open a (f a) ++ os) (opened-open b s f list all.1)
    ∙ ap (λ c. if_open a (cond c (Some s) (f a)) ++ open_among (λ a. cond (eqb a.number b.number) (Some s) (f a)) (list ++ b ∷ [])) (sym other)

pub open-after : (d : Deed) (m : ℕ) (f : Abort → Option Sent) (list : List Abort) → IsFresh d (length list) → AllByRecursion (λ a. a.number < length list) list
    → after d m (open_among f list) ≡ open_among (λ a. sent_after d m a (f a)) (with_opened d list)
open-after Nothing m f list fresh all = refl
open-after (Opens b) m f list fresh all = opened-open b (first_sent m) f list (below-as (length list) b.number list (sym fresh) all)
open-after (Answers b ended) m f list fresh all = answered-open b.number f list
open-after Ages m f list fresh all = aged-open m f list
open-after Ends m f list fresh all = none-open list
