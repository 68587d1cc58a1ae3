-- Queues of slots.
use Rattle.std.proofs.Common.{◌≡◌, ℕ, zero, suc, ◌+◌, ◌-◌, ◌<◌, ◌≤◌, Bool, true, false, cond, ◌&&◌, not, List, [], ◌∷◌, ◌++◌, length, map, filter, drop, Option, Some, None, refl, sym, ap, ◌∙◌, subst, arith}
use Rattle.std.specs.Prelude.{nat_le, option_map, option_to_list, slice_set}
use Rattle.std.specs.List.{AllByRecursion}
use Rattle.reverse_core.specs.declared.requests.OpenRequest.{OpenRequest}
use Rattle.reverse_core.specs.Requests.{is_due, is_last, is_spent, renewed}
use Rattle.reverse_core.specs.Windows.{filled, numbers, slot_at, is_first_passed, IsNumbered, IsSent, IsSentBefore, KeepsSent, Pairs}

abbrev Slots : Type 0
Slots = List (Option OpenRequest)

-- ---- lists

pub filled-append : (xs ys : Slots) → filled (xs ++ ys) ≡ filled xs ++ filled ys
filled-append [] ys = refl
filled-append (None ∷ xs) ys = filled-append xs ys
filled-append (Some o ∷ xs) ys = ap (λ os. o ∷ os) (filled-append xs ys)

pub all-append : (P : OpenRequest → Type 0) (xs ys : List OpenRequest) → AllByRecursion P xs → AllByRecursion P ys → AllByRecursion P (xs ++ ys)
all-append P [] ys h k = k
all-append P (x ∷ xs) ys h k = (h.0, all-append P xs ys h.1 k)

pub all-left : (P : OpenRequest → Type 0) (xs ys : List OpenRequest) → AllByRecursion P (xs ++ ys) → AllByRecursion P xs
all-left P [] ys h = tt
all-left P (x ∷ xs) ys h = (h.0, all-left P xs ys h.1)

pub all-right : (P : OpenRequest → Type 0) (xs ys : List OpenRequest) → AllByRecursion P (xs ++ ys) → AllByRecursion P ys
all-right P [] ys h = h
all-right P (x ∷ xs) ys h = all-right P xs ys h.1

pub all-weaker : (P Q : OpenRequest → Type 0) → ((o : OpenRequest) → P o → Q o) → (xs : List OpenRequest) → AllByRecursion P xs → AllByRecursion Q xs
all-weaker P Q f [] h = tt
all-weaker P Q f (x ∷ xs) h = (f x h.0, all-weaker P Q f xs h.1)

pub rising-end : (xs : List OpenRequest) (o : OpenRequest) → Pairs IsSentBefore xs → AllByRecursion (λ x. x.sent.last ≤ o.sent.last) xs → Pairs IsSentBefore (xs ++ o ∷ [])
rising-end [] o h late = (tt, tt)
rising-end (x ∷ xs) o h late = (all-append (IsSentBefore x) xs (o ∷ []) h.0 (late.0, tt), rising-end xs o h.1 late.1)

pub all-without : (P : OpenRequest → Type 0) (before behind : List OpenRequest) (o : OpenRequest) → AllByRecursion P (before ++ o ∷ behind) → AllByRecursion P (before ++ behind)
all-without P [] behind o h = h.1
all-without P (x ∷ before) behind o h = (h.0, all-without P before behind o h.1)

rising-without : (before behind : List OpenRequest) (o : OpenRequest) → Pairs IsSentBefore (before ++ o ∷ behind) → Pairs IsSentBefore (before ++ behind)
rising-without [] behind o h = h.1
rising-without (x ∷ before) behind o h = (all-without (IsSentBefore x) before behind o h.0, rising-without before behind o h.1)

-- ---- a place of two lists

pub at-left : (xs ys : Slots) (i : ℕ) → i < length xs → slot_at (xs ++ ys) i ≡ slot_at xs i
at-left [] ys i below = absurd (omega arith)
at-left (x ∷ xs) ys zero below = refl
at-left (x ∷ xs) ys (suc i) below = at-left xs ys i (omega arith)

pub at-right : (xs ys : Slots) (i : ℕ) → length xs ≤ i → slot_at (xs ++ ys) i ≡ slot_at ys (i - length xs)
at-right [] ys i above = ap (slot_at ys) (let e : i ≡ i - 0 = omega arith in e)
at-right (x ∷ xs) ys zero above = absurd (omega arith)
at-right (x ∷ xs) ys (suc i) above = at-right xs ys i (omega arith) ∙ ap (slot_at ys) (let e : i - length xs ≡ suc i - suc (length xs) = omega arith in e)

pub set-left : (xs ys : Slots) (i : ℕ) → i < length xs → slice_set (xs ++ ys) i None ≡ slice_set xs i None ++ ys
set-left [] ys i below = absurd (omega arith)
set-left (x ∷ xs) ys zero below = refl
set-left (x ∷ xs) ys (suc i) below = ap (λ l. x ∷ l) (set-left xs ys i (omega arith))

pub set-right : (xs ys : Slots) (i : ℕ) → length xs ≤ i → slice_set (xs ++ ys) i None ≡ xs ++ slice_set ys (i - length xs) None
set-right [] ys i above = ap (λ j. slice_set ys j None) (let e : i ≡ i - 0 = omega arith in e)
set-right (x ∷ xs) ys zero above = absurd (omega arith)
set-right (x ∷ xs) ys (suc i) above =
    ap (λ l. x ∷ l) (set-right xs ys i (omega arith) ∙ ap (λ j. xs ++ slice_set ys j None) (let e : i - length xs ≡ suc i - suc (length xs) = omega arith in e))

-- ---- how often and when they were sent

-- the filled slots once one is emptied
record IsPart (old new : List OpenRequest) : Type 1 where
  all : (P : OpenRequest → Type 0) → AllByRecursion P old → AllByRecursion P new
  rising : Pairs IsSentBefore old → Pairs IsSentBefore new

part-more : (x : OpenRequest) (old new : List OpenRequest) → IsPart old new → IsPart (x ∷ old) (x ∷ new)
part-more x old new p = record {
  all = λ P h. (h.0, p.all P h.1);
  rising = λ h. (p.all (IsSentBefore x) h.0, p.rising h.1);
}

part-set : (slots : Slots) (i : ℕ) → IsPart (filled slots) (filled (slice_set slots i None))
part-set [] i = record { all = λ P h. h; rising = λ h. h }
part-set (None ∷ slots) zero = record { all = λ P h. h; rising = λ h. h }
part-set (Some o ∷ slots) zero = record { all = λ P h. h.1; rising = λ h. h.1 }
part-set (None ∷ slots) (suc i) = part-set slots i
part-set (Some o ∷ slots) (suc i) = part-more o (filled slots) (filled (slice_set slots i None)) (part-set slots i)

pub keeps-set : (slots : Slots) (i : ℕ) → KeepsSent slots (slice_set slots i None)
keeps-set slots i = λ n h. record { times_are = (part-set slots i).all (λ o. o.sent.times ≡ n) h.times_are; rising = (part-set slots i).rising h.rising }

part-drop : (k : ℕ) (slots : Slots) → IsPart (filled slots) (filled (drop k slots))
part-drop zero slots = record { all = λ P h. h; rising = λ h. h }
part-drop (suc k) [] = record { all = λ P h. h; rising = λ h. h }
part-drop (suc k) (None ∷ slots) = part-drop k slots
part-drop (suc k) (Some o ∷ slots) = (let p = part-drop k slots in record { all = λ P h. p.all P h.1; rising = λ h. p.rising h.1 })

pub keeps-drop : (k : ℕ) (slots : Slots) → KeepsSent slots (drop k slots)
keeps-drop k slots = λ n h. record { times_are = (part-drop k slots).all (λ o. o.sent.times ≡ n) h.times_are; rising = (part-drop k slots).rising h.rising }

-- ---- numbers

pub numbered-same : (n : ℕ) (xs ys : Slots) → numbers xs ≡ numbers ys → IsNumbered n xs → IsNumbered n ys
numbered-same n [] [] e h = tt
numbered-same n [] (y ∷ ys) e h = absurd (cc)
numbered-same n (x ∷ xs) [] e h = absurd (cc)
numbered-same n (None ∷ xs) (None ∷ ys) e h = numbered-same (n + 1) xs ys (cc) h
numbered-same n (None ∷ xs) (Some q ∷ ys) e h = absurd (cc)
numbered-same n (Some o ∷ xs) (None ∷ ys) e h = absurd (cc)
numbered-same n (Some o ∷ xs) (Some q ∷ ys) e h =
    (let same : o.taken.number ≡ q.taken.number = cc in let is : o.taken.number ≡ n = h.0 in omega arith, numbered-same (n + 1) xs ys (cc) h.1)

pub numbers-append : (xs ys : Slots) → numbers (xs ++ ys) ≡ numbers xs ++ numbers ys
numbers-append [] ys = refl
numbers-append (x ∷ xs) ys = ap (λ l. option_map (λ o. o.taken.number) x ∷ l) (numbers-append xs ys)

pub length-numbers : (xs : Slots) → length (numbers xs) ≡ length xs
length-numbers [] = refl
length-numbers (x ∷ xs) = ap suc (length-numbers xs)

pub number-renewed : (m : ℕ) (slot : Option OpenRequest) → option_map (λ o. o.taken.number) (option_map (renewed m) slot) ≡ option_map (λ o. o.taken.number) slot
number-renewed m None = refl
number-renewed m (Some o) = refl

pub numbered-drop : (n k : ℕ) (slots : Slots) → k ≤ length slots → IsNumbered n slots → IsNumbered (n + k) (drop k slots)
numbered-drop n zero slots low h = subst (λ i. IsNumbered i slots) (omega arith) h
numbered-drop n (suc k) [] low h = tt
numbered-drop n (suc k) (None ∷ slots) low h = subst (λ i. IsNumbered i (drop k slots)) (omega arith) (numbered-drop (n + 1) k slots (omega arith) h)
numbered-drop n (suc k) (Some o ∷ slots) low h = subst (λ i. IsNumbered i (drop k slots)) (omega arith) (numbered-drop (n + 1) k slots (omega arith) h.1)

pub drop-left : (k : ℕ) (xs ys : Slots) → k ≤ length xs → drop k (xs ++ ys) ≡ drop k xs ++ ys
drop-left zero xs ys low = refl
drop-left (suc k) [] ys low = absurd (omega arith)
drop-left (suc k) (x ∷ xs) ys low = drop-left k xs ys (omega arith)

pub length-drop : (k : ℕ) (xs : Slots) → k ≤ length xs → length (drop k xs) + k ≡ length xs
length-drop zero xs low = omega arith
length-drop (suc k) [] low = omega arith
length-drop (suc k) (x ∷ xs) low = omega (arith, length-drop k xs (omega arith))

-- ---- what isn't due

later-due : (m : ℕ) (o q : OpenRequest) → is_due m o.sent ≡ false → IsSentBefore o q → is_due m q.sent ≡ false
later-due m o q e before = grind arith

pub none-due : (m : ℕ) (o : OpenRequest) (os : List OpenRequest) → is_due m o.sent ≡ false → AllByRecursion (IsSentBefore o) os → AllByRecursion (λ x. is_due m x.sent ≡ false) os
none-due m o os e h = all-weaker (IsSentBefore o) (λ x. is_due m x.sent ≡ false) (λ q. later-due m o q e) os h

-- where the first slot isn't passed, no answer in the queue is overdue
pub queue-due : (m : ℕ) (slots : Slots) → Pairs IsSentBefore (filled slots) → is_first_passed m slots ≡ false → AllByRecursion (λ x. is_due m x.sent ≡ false) (filled slots)
queue-due m [] h e = tt
queue-due m (None ∷ slots) h e = absurd (cc)
queue-due m (Some o ∷ slots) h e = (e, none-due m o (filled slots) e h.0)

pub renewed-still : (m : ℕ) (os : List OpenRequest) → AllByRecursion (λ x. is_due m x.sent ≡ false) os → map (renewed m) os ≡ os
renewed-still m [] h = refl
renewed-still m (o ∷ os) h =
    let e : is_due m o.sent ≡ false = h.0 in
    rw e (ap (λ l. o ∷ l) (renewed-still m os h.1))

pub renewed-last : (m : ℕ) (os : List OpenRequest) → AllByRecursion (λ o. o.sent.times ≡ 3) os → map (renewed m) os ≡ os
renewed-last m [] h = refl
renewed-last m (o ∷ os) h = by (is_due m o.sent) (renewed-last m os h.1)
  where
    last : is_last o.sent ≡ true
    last = let t : o.sent.times ≡ 3 = h.0 in grind arith

    by : (b : Bool) → map (renewed m) os ≡ os
        → record { taken = o.taken; sent = cond (b && not (is_last o.sent)) (record { times = o.sent.times + 1; last = m }) o.sent } ∷ map (renewed m) os ≡ o ∷ os
    by true rest = rw last (ap (λ l. o ∷ l) rest)
    by false rest = ap (λ l. o ∷ l) rest

pub none-spent : (m : ℕ) (os : List OpenRequest) → AllByRecursion (λ x. is_due m x.sent ≡ false) os → filter (is_spent m) os ≡ []
none-spent m [] h = refl
none-spent m (o ∷ os) h = let e : is_due m o.sent ≡ false = h.0 in rw e (none-spent m os h.1)

pub fewer-spent : (m n : ℕ) (os : List OpenRequest) → n < 3 → AllByRecursion (λ o. o.sent.times ≡ n) os → filter (is_spent m) os ≡ []
fewer-spent m n [] few h = refl
fewer-spent m n (o ∷ os) few h = by (is_due m o.sent) (fewer-spent m n os few h.1)
  where
    more : is_last o.sent ≡ false
    more = let t : o.sent.times ≡ n = h.0 in grind arith

    by : (b : Bool) → filter (is_spent m) os ≡ [] → cond (b && is_last o.sent) (o ∷ filter (is_spent m) os) (filter (is_spent m) os) ≡ []
    by true rest = rw more rest
    by false rest = rest

-- ---- a place of three lists

length-both : (xs ys : Slots) → length (xs ++ ys) ≡ length xs + length ys
length-both [] ys = omega arith
length-both (x ∷ xs) ys = omega (arith, length-both xs ys)

pub set-first : (xs ys zs : Slots) (i : ℕ) → i < length xs → slice_set xs i None ++ ys ++ zs ≡ slice_set (xs ++ ys ++ zs) i None
set-first xs ys zs i below =
    sym (set-left (xs ++ ys) zs i (omega (arith, length-both xs ys)) ∙ ap (λ l. l ++ zs) (set-left xs ys i below))

pub set-second : (xs ys zs : Slots) (i : ℕ) → length xs ≤ i → i - length xs < length ys → xs ++ slice_set ys (i - length xs) None ++ zs ≡ slice_set (xs ++ ys ++ zs) i None
set-second xs ys zs i above below =
    sym (set-left (xs ++ ys) zs i (omega (arith, length-both xs ys)) ∙ ap (λ l. l ++ zs) (set-right xs ys i above))

pub set-third : (xs ys zs : Slots) (i : ℕ) → length xs ≤ i → length ys ≤ i - length xs → xs ++ ys ++ slice_set zs (i - length xs - length ys) None ≡ slice_set (xs ++ ys ++ zs) i None
set-third xs ys zs i above beyond =
    sym (set-right (xs ++ ys) zs i (omega (arith, length-both xs ys))
    ∙ ap (λ j. xs ++ ys ++ slice_set zs j None) (let e : i - length (xs ++ ys) ≡ i - length xs - length ys = omega (arith, length-both xs ys) in e))

pub at-first : (xs ys zs : Slots) (i : ℕ) → i < length xs → slot_at xs i ≡ slot_at (xs ++ ys ++ zs) i
at-first xs ys zs i below = sym (at-left (xs ++ ys) zs i (omega (arith, length-both xs ys)) ∙ at-left xs ys i below)

pub at-second : (xs ys zs : Slots) (i : ℕ) → length xs ≤ i → i - length xs < length ys → slot_at ys (i - length xs) ≡ slot_at (xs ++ ys ++ zs) i
at-second xs ys zs i above below = sym (at-left (xs ++ ys) zs i (omega (arith, length-both xs ys)) ∙ at-right xs ys i above)

pub at-third : (xs ys zs : Slots) (i : ℕ) → length xs ≤ i → length ys ≤ i - length xs → slot_at zs (i - length xs - length ys) ≡ slot_at (xs ++ ys ++ zs) i
at-third xs ys zs i above beyond =
    sym (at-right (xs ++ ys) zs i (omega (arith, length-both xs ys))
    ∙ ap (slot_at zs) (let e : i - length (xs ++ ys) ≡ i - length xs - length ys = omega (arith, length-both xs ys) in e))

-- ---- one slot is moved to the queue of what was sent once more often

pub append-nil : (os : List OpenRequest) → os ++ [] ≡ os
append-nil [] = refl
append-nil (o ∷ os) = ap (λ l. o ∷ l) (append-nil os)

append-one : (xs : List OpenRequest) (o : OpenRequest) (ys : List OpenRequest) → (xs ++ o ∷ []) ++ ys ≡ xs ++ o ∷ ys
append-one [] o ys = refl
append-one (x ∷ xs) o ys = ap (λ l. x ∷ l) (append-one xs o ys)

filled-end : (m : ℕ) (to : Slots) (slot : Option OpenRequest) → filled (to ++ option_map (renewed m) slot ∷ []) ≡ filled to ++ map (renewed m) (option_to_list slot)
filled-end m to None = filled-append to (None ∷ [])
filled-end m to (Some o) = filled-append to (Some (renewed m o) ∷ [])

pub moved-list : (m : ℕ) (to from : Slots) (slot : Option OpenRequest)
    → filled (to ++ option_map (renewed m) slot ∷ []) ++ map (renewed m) (filled from) ≡ filled to ++ map (renewed m) (filled (slot ∷ from))
moved-list m to from None = ap (λ l. l ++ map (renewed m) (filled from)) (filled-end m to None ∙ append-nil (filled to))
moved-list m to from (Some o) =
    ap (λ l. l ++ map (renewed m) (filled from)) (filled-end m to (Some o)) ∙ append-one (filled to) (renewed m o) (map (renewed m) (filled from))

numbers-end : (to : Slots) (s : Option OpenRequest) (from : Slots) → numbers ((to ++ s ∷ []) ++ from) ≡ numbers to ++ option_map (λ o. o.taken.number) s ∷ numbers from
numbers-end [] s from = refl
numbers-end (x ∷ to) s from = ap (λ l. option_map (λ o. o.taken.number) x ∷ l) (numbers-end to s from)

pub moved-numbers : (m : ℕ) (to from : Slots) (slot : Option OpenRequest)
    → numbers ((to ++ option_map (renewed m) slot ∷ []) ++ from) ≡ numbers (to ++ slot ∷ from)
moved-numbers m to from slot =
    numbers-end to (option_map (renewed m) slot) from
    ∙ ap (λ n. numbers to ++ n ∷ numbers from) (number-renewed m slot)
    ∙ sym (numbers-append to (slot ∷ from))

renewed-due : (m n : ℕ) (o : OpenRequest) → is_due m o.sent ≡ true → o.sent.times ≡ n → n < 3 → renewed m o ≡ record { taken = o.taken; sent = record { times = n + 1; last = m } }
renewed-due m n o due times few =
    let more : is_last o.sent ≡ false = grind arith in
    rw (due, more) (ap (λ t. record { taken = o.taken; sent = record { times = t + 1; last = m } }) times)

pub moved-sent : (m n : ℕ) (to from : Slots) (slot : Option OpenRequest) → is_first_passed m (slot ∷ from) ≡ true → AllByRecursion (λ o. o.sent.last ≤ m) (filled to) → n < 3
    → IsSent (n + 1) to → IsSent n (slot ∷ from) → IsSent (n + 1) (to ++ option_map (renewed m) slot ∷ []) × IsSent n from
moved-sent m n to from None passed late few to_sent from_sent = (
  let same : filled (to ++ None ∷ []) ≡ filled to = filled-end m to None ∙ append-nil (filled to) in
      record {
        times_are = subst (AllByRecursion (λ o. o.sent.times ≡ n + 1)) (sym same) to_sent.times_are;
        rising = subst (Pairs IsSentBefore) (sym same) to_sent.rising;
      },
  record { times_are = from_sent.times_are; rising = from_sent.rising },
)
moved-sent m n to from (Some o) passed late few to_sent from_sent = (
  let is : renewed m o ≡ record { taken = o.taken; sent = record { times = n + 1; last = m } } = renewed-due m n o passed from_sent.times_are.0 few in
      let same : filled (to ++ Some (renewed m o) ∷ []) ≡ filled to ++ record { taken = o.taken; sent = record { times = n + 1; last = m } } ∷ [] =
      filled-end m to (Some o) ∙ ap (λ (x : OpenRequest). filled to ++ x ∷ []) is in
      record {
        times_are = subst (AllByRecursion (λ x. x.sent.times ≡ n + 1)) (sym same) (all-append (λ x. x.sent.times ≡ n + 1) (filled to) _ to_sent.times_are (refl, tt));
        rising = subst (Pairs IsSentBefore) (sym same) (rising-end (filled to) (record { taken = o.taken; sent = record { times = n + 1; last = m } }) to_sent.rising late);
      },
  record { times_are = from_sent.times_are.1; rising = from_sent.rising.1 },
)

-- the last sending of what is overdue is now
last-renewed : (m : ℕ) (o : OpenRequest) → is_due m o.sent ≡ true → (renewed m o).sent.last ≤ m
last-renewed m o due = by (is_last o.sent)
  where
    before : o.sent.last ≤ m
    before = let d : nat_le (o.sent.last + 2000) m ≡ true = due in grind arith

    by : (b : Bool) → (cond (is_due m o.sent && not b) (record { times = o.sent.times + 1; last = m }) o.sent).last ≤ m
    by true = rw due before
    by false = rw due (omega arith)

pub last-kept : (m : ℕ) (o : OpenRequest) → o.sent.last ≤ m → (renewed m o).sent.last ≤ m
last-kept m o before = by (is_due m o.sent && not (is_last o.sent))
  where
    by : (b : Bool) → (cond b (record { times = o.sent.times + 1; last = m }) o.sent).last ≤ m
    by true = omega arith
    by false = before

pub moved-late : (m : ℕ) (to from : Slots) (slot : Option OpenRequest) → is_first_passed m (slot ∷ from) ≡ true → AllByRecursion (λ o. o.sent.last ≤ m) (filled to)
    → AllByRecursion (λ o. o.sent.last ≤ m) (filled (to ++ option_map (renewed m) slot ∷ []))
moved-late m to from None passed late = subst (AllByRecursion (λ o. o.sent.last ≤ m)) (sym (filled-end m to None ∙ append-nil (filled to))) late
moved-late m to from (Some o) passed late =
    subst (AllByRecursion (λ x. x.sent.last ≤ m)) (sym (filled-end m to (Some o)))
    (all-append (λ x. x.sent.last ≤ m) (filled to) (renewed m o ∷ []) late (last-renewed m o passed, tt))

pub rising-rest : (from : Slots) (slot : Option OpenRequest) → Pairs IsSentBefore (filled (slot ∷ from)) → Pairs IsSentBefore (filled from)
rising-rest from None h = h
rising-rest from (Some o) h = h.1

pub length-moved : (to from : Slots) (s t : Option OpenRequest) → length (to ++ t ∷ []) + length from ≡ length to + length (s ∷ from)
length-moved to from s t = omega (arith, length-both to (t ∷ []))
