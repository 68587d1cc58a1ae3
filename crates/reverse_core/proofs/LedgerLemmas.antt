-- What a ledger always keeps, as requests are taken up, answered and dropped.
use Rattle.std.proofs.Common.{◌≡◌, ℕ, ◌+◌, ◌<◌, ◌≤◌, ◌^◌, Bool, true, false, cond, not, nat_lt, List, [], ◌∷◌, ◌++◌, length, map, filter, Some, None, refl, sym, ap, ◌∙◌, subst, arith}
use Rattle.std.specs.List.{AllByRecursion}
use Rattle.std.specs.Option.{option_or}
use Rattle.std.proofs.lemmas.List.{length-map}
use Rattle.std.specs.HashMap.{HashMap, get}
use Rattle.std.specs.declared.hash.FoldHasher.{FoldHasher}
use Rattle.std.specs.declared.hash.BuildHasherDefault.{BuildHasherDefault}
use Rattle.reverse_map.specs.declared.own.Reverse.{Reverse}
use Rattle.reverse_core.specs.declared.key.Key.{Key}
use Rattle.reverse_core.specs.declared.requests.Taken.{Taken}
use Rattle.reverse_core.specs.declared.requests.OpenRequest.{OpenRequest}
use Rattle.reverse_core.specs.declared.requests.KeptAnswer.{KeptAnswer}
use Rattle.reverse_core.specs.declared.ledger.Ledger.{Ledger}
use Rattle.reverse_core.specs.declared.ledger.Standing.{Standing}
use Rattle.reverse_core.specs.declared.ledger.Standing.TheVariants.{Open, Kept}
use Rattle.reverse_core.specs.Keys.{same_key}
use Rattle.reverse_core.specs.KeyLaws.{same_key-equal}
use Rattle.reverse_core.specs.Requests.{first_sent, is_spent, kept_answer, renewed, silence}
use Rattle.reverse_core.specs.Windows.{OpenParts, KeptParts, TakesOut, Pairs, IsNoLater, is_first}
use Rattle.reverse_core.specs.Ticking.{silences}
use Rattle.reverse_core.specs.State.{open_standing, kept_standing, standing_of, count_open, count_kept, IsSound, MayTake}
use Rattle.reverse_core.proofs.IndexLemmas.{one_if, count-between, count-end, count-last, standing-answered, standing-dropped, standing-open, standing-taken}
use Rattle.reverse_core.proofs.KeptLemmas.{later-kept}
use Rattle.reverse_core.proofs.QueueLemmas.{all-append, all-weaker, all-without}
use Rattle.reverse_core.proofs.WindowSteps.{late-renewed}

abbrev Index : Type 0
Index = HashMap Key Standing (BuildHasherDefault FoldHasher)

-- ---- lists

length-between : {X : Type 0} → (before behind : List X) (x : X) → length (before ++ x ∷ behind) ≡ length (before ++ behind) + 1
length-between [] behind x = omega arith
length-between (y ∷ before) behind x = omega (arith, length-between before behind x)

length-end : {X : Type 0} → (xs : List X) (x : X) → length (xs ++ x ∷ []) ≡ length xs + 1
length-end [] x = omega arith
length-end (y ∷ xs) x = omega (arith, length-end xs x)

pub append-between : (xs : List KeptAnswer) (k : KeptAnswer) (ys : List KeptAnswer) → (xs ++ k ∷ []) ++ ys ≡ xs ++ k ∷ ys
append-between [] k ys = refl
append-between (x ∷ xs) k ys = ap (λ l. x ∷ l) (append-between xs k ys)

all-end : (P : KeptAnswer → Type 0) (ks : List KeptAnswer) (k : KeptAnswer) → AllByRecursion P ks → P k → AllByRecursion P (ks ++ k ∷ [])
all-end P [] k all here = (here, tt)
all-end P (x ∷ ks) k all here = (all.0, all-end P ks k all.1 here)

sent-later : (n m : ℕ) (os : List OpenRequest) → n ≤ m → AllByRecursion (λ o. o.sent.last ≤ n) os → AllByRecursion (λ o. o.sent.last ≤ m) os
sent-later n m os low all = all-weaker (λ o. o.sent.last ≤ n) (λ o. o.sent.last ≤ m) (λ o h. omega arith) os all

all-later : (n m : ℕ) (ks : List KeptAnswer) → n ≤ m → AllByRecursion (λ k. k.at ≤ n) ks → AllByRecursion (λ k. k.at ≤ m) ks
all-later n m [] low all = tt
all-later n m (k ∷ ks) low all = (let at : k.at ≤ n = all.0 in omega arith, all-later n m ks low all.1)

cooled-end : (ks : List KeptAnswer) (k : KeptAnswer) → Pairs IsNoLater ks → AllByRecursion (λ x. x.at ≤ k.at) ks → Pairs IsNoLater (ks ++ k ∷ [])
cooled-end [] k cooled all = (tt, tt)
cooled-end (x ∷ ks) k cooled all = (all-end (IsNoLater x) ks k cooled.0 all.0, cooled-end ks k cooled.1 all.1)

-- ---- one is taken up

single-taken : (q : Key) (t : Taken) (n m : ℕ) → n + m ≤ 1 → (same_key t.key q ≡ true → n + m ≡ 0) → n + one_if (same_key t.key q) + m ≤ 1
single-taken q t n m single none =
    elim (same_key t.key q) as (λ b. (b ≡ true → n + m ≡ 0) → n + one_if b + m ≤ 1) [
      | true ↦ (λ f. omega (arith, f refl))
      | false ↦ (λ f. omega arith)
    ] none

pub sound-taken : (l : Ledger) (index : Index) (ones : OpenParts) (t : Taken) (m : ℕ) → IsSound l → MayTake l.open_ones.list l.kept.list l.open_ones.next t
    → ((q : Key) → get same_key index q ≡ cond (same_key t.key q) (Some Open) (get same_key l.index q))
    → ones.list ≡ l.open_ones.list ++ record { taken = t; sent = first_sent m } ∷ [] → ones.next ≡ l.open_ones.next + 1 → l.open_ones.next + 1 < 2 ^ 64 → l.moment ≤ m
    → IsSound (record l { index = index; open_ones = ones; moment = m })
sound-taken l index ones t m s may updates list next fits late =
    let o : OpenRequest = record { taken = t; sent = first_sent m } in
    let os = l.open_ones.list in
    let ks = l.kept.list in
    let none : (q : Key) → same_key t.key q ≡ true → count_open q os + count_kept q ks ≡ 0 =
    (λ q e. ap (λ k. count_open k os + count_kept k ks) (sym (same_key-equal t.key q e)) ∙ may.key) in
    record {
      host = s.host;
      realm = s.realm;
      index = λ q. updates q ∙ ap (cond (same_key t.key q) (Some Open)) (s.index q) ∙ standing-taken q os o l.kept.dropped ks may.key
          ∙ ap (λ xs. standing_of q xs l.kept.dropped ks) (sym list);
      single = λ q. subst (λ xs. count_open q xs + count_kept q ks ≤ 1) (sym list)
          (let all = single-taken q t (count_open q os) (count_kept q ks) (s.single q) (none q) in omega (arith, count-last q os o));
      few = (let low = may.few in omega (arith, ap length list, length-end os o));
      counted = (let c = s.counted in omega (arith, ap length list, length-end os o));
      fits = omega arith;
      cooled = s.cooled;
      by = all-later l.moment m ks late s.by;
      sent_by = subst (AllByRecursion (λ x. x.sent.last ≤ m)) (sym list)
          (all-append (λ x. x.sent.last ≤ m) os (o ∷ []) (sent-later l.moment m os late s.sent_by) (omega arith, tt));
    }

-- ---- one is answered

pub sound-answered : (l : Ledger) (index : Index) (ones : OpenParts) (kept : KeptParts) (o : OpenRequest) (m : ℕ) (answer : List ℕ) → IsSound l
    → TakesOut o l.open_ones.list ones.list → ones.next ≡ l.open_ones.next → l.moment ≤ m
    → ((q : Key) → get same_key index q ≡ cond (same_key o.taken.key q) (Some (Kept (l.kept.dropped + length l.kept.list))) (get same_key l.index q))
    → kept ≡ record { dropped = l.kept.dropped; list = l.kept.list ++ kept_answer o.taken m answer ∷ [] }
    → IsSound (record l { index = index; open_ones = ones; kept = kept; moment = m })
sound-answered l index ones kept o m answer s takes next late updates is =
    let k = kept_answer o.taken m answer in
    let ks = l.kept.list in
    let n = l.kept.dropped in
    let before = takes.before in
    let behind = takes.behind in
    let list : kept.list ≡ ks ++ k ∷ [] = ap (λ (x : KeptParts). x.list) is in
    let dropped : kept.dropped ≡ n = ap (λ (x : KeptParts). x.dropped) is in
    let all : AllByRecursion (λ x. x.at ≤ m) ks = all-later l.moment m ks late s.by in
    record {
      host = s.host;
      realm = s.realm;
      index = λ q. updates q
          ∙ ap (cond (same_key o.taken.key q) (Some (Kept (n + length ks)))) (s.index q ∙ ap (λ xs. standing_of q xs n ks) takes.old_is)
          ∙ standing-answered q before behind o n ks k refl (subst (λ xs. count_open q xs + count_kept q ks ≤ 1) takes.old_is (s.single q))
          ∙ ap (λ xs. standing_of q xs n (ks ++ k ∷ [])) (sym takes.new_is)
          ∙ ap (λ (x : KeptParts). standing_of q ones.list x.dropped x.list) (sym is);
      single = λ q. (let one = s.single q in
          omega (arith, ap (count_open q) takes.old_is, ap (count_open q) takes.new_is, ap (count_kept q) list, count-between q before behind o, count-end q ks k));
      few = (let low = s.few in omega (arith, ap length takes.old_is, ap length takes.new_is, ap length list, length-between before behind o, length-end ks k));
      counted = (let c = s.counted in omega (arith, ap length takes.old_is, ap length takes.new_is, ap length list, length-between before behind o, length-end ks k));
      fits = (let f = s.fits in omega arith);
      cooled = subst (Pairs IsNoLater) (sym list) (cooled-end ks k s.cooled all);
      by = subst (AllByRecursion (λ x. x.at ≤ m)) (sym list) (all-end (λ x. x.at ≤ m) ks k all (omega arith));
      sent_by = sent-later l.moment m ones.list late
          (subst (AllByRecursion (λ x. x.sent.last ≤ l.moment)) (sym takes.new_is)
          (all-without (λ x. x.sent.last ≤ l.moment) before behind o (subst (AllByRecursion (λ x. x.sent.last ≤ l.moment)) takes.old_is s.sent_by)));
    }

-- the key of an open request stands in the index
pub key-stands : (l : Ledger) (o : OpenRequest) (new : List OpenRequest) → IsSound l → TakesOut o l.open_ones.list new → get same_key l.index o.taken.key ≡ Some Open
key-stands l o new s takes =
    s.index o.taken.key ∙ ap (λ xs. standing_of o.taken.key xs l.kept.dropped l.kept.list) takes.old_is
    ∙ standing-open takes.before takes.behind o l.kept.dropped l.kept.list

pub room-is : (l : Ledger) (o : OpenRequest) (new : List OpenRequest) → IsSound l → TakesOut o l.open_ones.list new → length l.kept.list < 4096
room-is l o new s takes = (let low = s.few in omega (arith, ap length takes.old_is, length-between takes.before takes.behind o))

-- ---- the first answer is dropped

pub sound-dropped : (l : Ledger) (index : Index) (kept : KeptParts) (k : KeptAnswer) → IsSound l → l.kept.list ≡ k ∷ kept.list → kept.dropped ≡ l.kept.dropped + 1
    → ((q : Key) → get same_key index q ≡ cond (same_key k.key q) None (get same_key l.index q))
    → IsSound (record l { index = index; kept = kept })
sound-dropped l index kept k s list dropped updates =
    let os = l.open_ones.list in
    let n = l.kept.dropped in
    record {
      host = s.host;
      realm = s.realm;
      index = λ q. updates q ∙ ap (cond (same_key k.key q) None) (s.index q ∙ ap (λ xs. standing_of q os n xs) list)
          ∙ standing-dropped q os k n kept.list (subst (λ xs. count_open q os + count_kept q xs ≤ 1) list (s.single q))
          ∙ ap (λ d. standing_of q os d kept.list) (sym dropped);
      single = λ q. (let one = s.single q in omega (arith, ap (count_kept q) list));
      few = (let low = s.few in omega (arith, ap length list));
      counted = (let c = s.counted in omega (arith, ap length list));
      fits = s.fits;
      cooled = (subst (Pairs IsNoLater) list s.cooled).1;
      by = (subst (AllByRecursion (λ x. x.at ≤ l.moment)) list s.by).1;
      sent_by = s.sent_by;
    }

-- where the first is still to be kept, all are
pub all-kept : (r m : ℕ) (ks : List KeptAnswer) → Pairs IsNoLater ks → is_first (λ k. not (nat_lt m (k.at + r))) ks ≡ false
    → filter (λ k. nat_lt m (k.at + r)) ks ≡ ks
all-kept r m [] cooled first = refl
all-kept r m (k ∷ ks) cooled first =
    let here : nat_lt m (k.at + r) ≡ true = by (nat_lt m (k.at + r)) first in
    rw here (ap (λ l. k ∷ l) (later-kept m r k ks here cooled.0))
  where
    by : (b : Bool) → not b ≡ false → b ≡ true
    by true e = refl
    by false e = absurd (cc)

-- ---- time passes

pub sound-later : (l : Ledger) (m : ℕ) → IsSound l → l.moment ≤ m → IsSound (record l { moment = m })
sound-later l m s late = record {
  host = s.host;
  realm = s.realm;
  index = s.index;
  single = s.single;
  few = s.few;
  counted = s.counted;
  fits = s.fits;
  cooled = s.cooled;
  by = all-later l.moment m l.kept.list late s.by;
  sent_by = sent-later l.moment m l.open_ones.list late s.sent_by;
}

pub filter-twice : {X : Type 0} → (p : X → Bool) (xs : List X) → filter p (filter p xs) ≡ filter p xs
filter-twice p [] = refl
filter-twice p (x ∷ xs) = by (p x) refl (filter-twice p xs)
  where
    by : (b : Bool) → p x ≡ b → filter p (filter p xs) ≡ filter p xs → filter p (cond b (x ∷ filter p xs) (filter p xs)) ≡ cond b (x ∷ filter p xs) (filter p xs)
    by true e h = rw e (ap (λ l. x ∷ l) h)
    by false e h = h

-- ---- those that are overdue are sent again

standing-renewed : (q : Key) (m : ℕ) (os : List OpenRequest) → open_standing q (map (renewed m) os) ≡ open_standing q os
standing-renewed q m [] = refl
standing-renewed q m (o ∷ os) = ap (cond (same_key o.taken.key q) (Some Open)) (standing-renewed q m os)

count-renewed : (q : Key) (m : ℕ) (os : List OpenRequest) → count_open q (map (renewed m) os) ≡ count_open q os
count-renewed q m [] = refl
count-renewed q m (o ∷ os) = ap (λ n. n + one_if (same_key o.taken.key q)) (count-renewed q m os)

pub sound-renewed : (l : Ledger) (ones : OpenParts) (m : ℕ) → IsSound l → ones.list ≡ map (renewed m) l.open_ones.list → ones.next ≡ l.open_ones.next → l.moment ≡ m
    → IsSound (record l { open_ones = ones })
sound-renewed l ones m s list next now =
    let os = l.open_ones.list in
    let ks = l.kept.list in
    record {
      host = s.host;
      realm = s.realm;
      index = λ q. s.index q ∙ ap (λ x. option_or x (kept_standing q l.kept.dropped ks)) (sym (standing-renewed q m os))
          ∙ ap (λ xs. standing_of q xs l.kept.dropped ks) (sym list);
      single = λ q. (let one = s.single q in omega (arith, ap (count_open q) list, count-renewed q m os));
      few = (let low = s.few in omega (arith, ap length list, length-map os (renewed m)));
      counted = (let c = s.counted in omega (arith, ap length list, length-map os (renewed m)));
      fits = (let f = s.fits in omega arith);
      cooled = s.cooled;
      by = s.by;
      sent_by = subst (AllByRecursion (λ o. o.sent.last ≤ l.moment)) (sym list)
          (subst (λ n. AllByRecursion (λ o. o.sent.last ≤ n) (map (renewed m) os)) (sym now)
          (late-renewed m os (subst (λ n. AllByRecursion (λ o. o.sent.last ≤ n) os) now s.sent_by)));
    }

-- ---- what is spent

pub spent-first : (m : ℕ) (o : OpenRequest) (xs : List OpenRequest) → is_spent m o ≡ true → filter (is_spent m) (o ∷ xs) ≡ o ∷ filter (is_spent m) xs
spent-first m o xs e = ap (λ c. cond c (o ∷ filter (is_spent m) xs) (filter (is_spent m) xs)) e

pub spent-others : (m : ℕ) (o : OpenRequest) (xs : List OpenRequest) → is_spent m o ≡ true → filter (λ x. not (is_spent m x)) (o ∷ xs) ≡ filter (λ x. not (is_spent m x)) xs
spent-others m o xs e = ap (λ c. cond (not c) (o ∷ filter (λ x. not (is_spent m x)) xs) (filter (λ x. not (is_spent m x)) xs)) e

pub none-silent : (own : Reverse) (m : ℕ) (os : List OpenRequest) → [] ≡ silences own m os → os ≡ filter (λ x. not (is_spent m x)) os
none-silent own m [] e = refl
none-silent own m (o ∷ os) e = by (is_spent m o) e (none-silent own m os)
  where
    by : (b : Bool) → [] ≡ map (λ x. silence own x.taken) (cond b (o ∷ filter (is_spent m) os) (filter (is_spent m) os))
        → ([] ≡ silences own m os → os ≡ filter (λ x. not (is_spent m x)) os)
        → o ∷ os ≡ cond (not b) (o ∷ filter (λ x. not (is_spent m x)) os) (filter (λ x. not (is_spent m x)) os)
    by true f rest = absurd (cc)
    by false f rest = ap (λ l. o ∷ l) (rest f)
