-- What a window over the open requests keeps, as requests come and go.
use Rattle.std.proofs.Common.{◌≡◌, ℕ, ◌+◌, ◌-◌, ◌<◌, ◌≤◌, ◌^◌, true, false, cond, List, [], ◌∷◌, ◌++◌, length, map, filter, drop, Option, Some, None, refl, sym, ap, ◌∙◌, subst, arith}
use Rattle.std.specs.Prelude.{slice_set}
use Rattle.std.specs.List.{AllByRecursion}
use Rattle.std.proofs.lemmas.List.{append_assoc, length-map, map-append}
use Rattle.reverse_core.specs.declared.requests.OpenRequest.{OpenRequest}
use Rattle.reverse_core.specs.declared.requests.Taken.{Taken}
use Rattle.reverse_core.specs.Requests.{first_sent, is_spent, renewed}
use Rattle.reverse_core.specs.Windows.{filled, numbers, is_first_passed, HasLengths, IsNumbered, IsSent, IsSentBefore, IsWindow, KeepsSent, Pairs}
use Rattle.reverse_core.proofs.WindowLemmas.{filled-more, length-both, length-end, length-more, length-set, length-three, numbered-more, numbered-set}
use Rattle.reverse_core.proofs.QueueLemmas.{all-append, all-left, all-right, drop-left, fewer-spent, filled-append, keeps-drop, last-kept, length-drop, length-numbers, none-spent, numbered-drop, numbered-same, numbers-append, queue-due, renewed-last, rising-end}

abbrev Slots : Type 0
Slots = List (Option OpenRequest)

-- ---- one slot is emptied

pub window-emptied : (first j : ℕ) (a b c a' b' c' : Slots) (count count' r3 r2 r1 s3 s2 s1 : ℕ) → IsWindow first a b c count r3 r2 r1
    → a' ++ b' ++ c' ≡ slice_set (a ++ b ++ c) j None → HasLengths a' b' c' (length a) (length b) (length c)
    → KeepsSent a a' → KeepsSent b b' → KeepsSent c c' → count' ≡ length (filled (slice_set (a ++ b ++ c) j None)) → s3 ≡ r3 → s2 ≡ r2 → s1 ≡ r1
    → IsWindow first a' b' c' count' s3 s2 s1
window-emptied first j a b c a' b' c' count count' r3 r2 r1 s3 s2 s1 w items lengths sent3 sent2 sent1 counted e3 e2 e1 = record {
  numbered = subst (IsNumbered first) (sym items) (numbered-set first j (a ++ b ++ c) w.numbered);
  few = omega (arith, w.few, lengths.thrice_is, lengths.twice_is, lengths.once_is);
  fits = omega (arith, w.fits, ap length items, length-set j (a ++ b ++ c));
  counted = counted ∙ ap (λ l. length (filled l)) (sym items);
  thrice_sent = sent3 3 w.thrice_sent;
  twice_sent = sent2 2 w.twice_sent;
  once_sent = sent1 1 w.once_sent;
  room_thrice = omega (arith, w.room_thrice);
  room_twice = omega (arith, w.room_twice);
  room_once = omega (arith, w.room_once);
}

-- ---- one more

late-once : (m : ℕ) (a b c : Slots) → AllByRecursion (λ o. o.sent.last ≤ m) (filled (a ++ b ++ c)) → AllByRecursion (λ o. o.sent.last ≤ m) (filled c)
late-once m a b c h = all-right (λ o. o.sent.last ≤ m) (filled (a ++ b)) (filled c) (subst (AllByRecursion (λ o. o.sent.last ≤ m)) (filled-append (a ++ b) c) h)

pub window-more : (first m : ℕ) (a b c : Slots) (t : Taken) (count r3 r2 r1 : ℕ) → IsNumbered first (a ++ b ++ c) → length (a ++ b ++ c) < 256
    → first + length (a ++ b ++ c) + 1 < 2 ^ 64 → t.number ≡ first + length (a ++ b ++ c) → count ≡ length (filled (a ++ b ++ c))
    → IsSent 3 a → IsSent 2 b → IsSent 1 c → AllByRecursion (λ o. o.sent.last ≤ m) (filled (a ++ b ++ c)) → 256 ≤ r3 → 256 ≤ r2 → 256 ≤ r1
    → IsWindow first a b (c ++ Some (record { taken = t; sent = first_sent m }) ∷ []) (count + 1) r3 r2 r1
window-more first m a b c t count r3 r2 r1 numbered room fits number counted sent3 sent2 sent1 late e3 e2 e1 =
    let o : OpenRequest = record { taken = t; sent = first_sent m } in
    let joined : a ++ b ++ (c ++ Some o ∷ []) ≡ (a ++ b ++ c) ++ Some o ∷ [] = sym (append_assoc (a ++ b) c (Some o ∷ [])) in
    let more : filled (c ++ Some o ∷ []) ≡ filled c ++ o ∷ [] = filled-more c o in
    record {
      numbered = subst (IsNumbered first) (sym joined) (numbered-more first (a ++ b ++ c) o numbered number);
      few = omega (arith, length-three a b c, length-three a b (c ++ Some o ∷ []), ap length joined, length-more (a ++ b ++ c) (Some o));
      fits = omega (arith, ap length joined, length-more (a ++ b ++ c) (Some o));
      counted = omega (arith, ap (λ l. length (filled l)) joined, ap length (filled-more (a ++ b ++ c) o), length-end (filled (a ++ b ++ c)) o);
      thrice_sent = sent3;
      twice_sent = sent2;
      once_sent = record {
        times_are = subst (AllByRecursion (λ x. x.sent.times ≡ 1)) (sym more) (all-append (λ x. x.sent.times ≡ 1) (filled c) (o ∷ []) sent1.times_are (refl, tt));
        rising = subst (Pairs IsSentBefore) (sym more) (rising-end (filled c) o sent1.rising (late-once m a b c late));
      };
      room_thrice = e3;
      room_twice = e2;
      room_once = e1;
    }

-- ---- the first are dropped

pub window-dropped : (first k : ℕ) (a b c a' : Slots) (count count' r3 r2 r1 s3 : ℕ) → IsWindow first a b c count r3 r2 r1 → k ≤ length a → a' ≡ drop k a
    → count' ≡ length (filled (a' ++ b ++ c)) → s3 ≡ r3 → IsWindow (first + (length a - length a')) a' b c count' s3 r2 r1
window-dropped first k a b c a' count count' r3 r2 r1 s3 w low is counted e3 =
    let short : length a' + k ≡ length a = omega (arith, ap length is, length-drop k a low) in
    let whole : drop k (a ++ b ++ c) ≡ a' ++ b ++ c =
    drop-left k (a ++ b) c (omega (arith, length-both a b)) ∙ ap (λ l. l ++ c) (drop-left k a b low ∙ ap (λ l. l ++ b) (sym is)) in
    let all : k ≤ length (a ++ b ++ c) = omega (arith, length-three a b c) in
    record {
      numbered = subst (λ n. IsNumbered n (a' ++ b ++ c)) (let e : first + k ≡ first + (length a - length a') = omega arith in e)
          (subst (IsNumbered (first + k)) whole (numbered-drop first k (a ++ b ++ c) all w.numbered));
      few = omega (arith, w.few);
      fits = omega (arith, w.fits, length-three a b c, length-three a' b c);
      counted = counted;
      thrice_sent = subst (IsSent 3) (sym is) (keeps-drop k a 3 w.thrice_sent);
      twice_sent = w.twice_sent;
      once_sent = w.once_sent;
      room_thrice = omega (arith, w.room_thrice);
      room_twice = w.room_twice;
      room_once = w.room_once;
    }

-- ---- what is spent

filter-append : (m : ℕ) (xs ys : List OpenRequest) → filter (is_spent m) (xs ++ ys) ≡ filter (is_spent m) xs ++ filter (is_spent m) ys
filter-append m [] ys = refl
filter-append m (x ∷ xs) ys =
    elim (is_spent m x) as (λ b. cond b (x ∷ filter (is_spent m) (xs ++ ys)) (filter (is_spent m) (xs ++ ys))
    ≡ cond b (x ∷ filter (is_spent m) xs) (filter (is_spent m) xs) ++ filter (is_spent m) ys) [
      | true ↦ ap (λ l. x ∷ l) (filter-append m xs ys)
      | false ↦ filter-append m xs ys
    ]

-- where no answer to what was sent three times is overdue, no request is spent
pub window-spent : (m : ℕ) (a b c : Slots) → IsSent 3 a → IsSent 2 b → IsSent 1 c → is_first_passed m a ≡ false → filter (is_spent m) (filled (a ++ b ++ c)) ≡ []
window-spent m a b c sent3 sent2 sent1 first =
    ap (filter (is_spent m)) (filled-append (a ++ b) c ∙ ap (λ l. l ++ filled c) (filled-append a b))
    ∙ filter-append m (filled a ++ filled b) (filled c)
    ∙ ap (λ l. l ++ filter (is_spent m) (filled c)) (filter-append m (filled a) (filled b))
    ∙ ap (λ l. l ++ filter (is_spent m) (filled b) ++ filter (is_spent m) (filled c)) (none-spent m (filled a) (queue-due m a sent3.rising first))
    ∙ ap (λ l. l ++ filter (is_spent m) (filled c)) (fewer-spent m 2 (filled b) (omega arith) sent2.times_are)
    ∙ fewer-spent m 1 (filled c) (omega arith) sent1.times_are

-- ---- those that are overdue are sent again

pub late-renewed : (m : ℕ) (os : List OpenRequest) → AllByRecursion (λ o. o.sent.last ≤ m) os → AllByRecursion (λ o. o.sent.last ≤ m) (map (renewed m) os)
late-renewed m [] h = tt
late-renewed m (o ∷ os) h = (last-kept m o h.0, late-renewed m os h.1)

pub late-thrice : (m : ℕ) (a b c : Slots) → AllByRecursion (λ o. o.sent.last ≤ m) (filled (a ++ b ++ c)) → AllByRecursion (λ o. o.sent.last ≤ m) (filled a)
late-thrice m a b c h =
    all-left (λ o. o.sent.last ≤ m) (filled a) (filled b)
    (subst (AllByRecursion (λ o. o.sent.last ≤ m)) (filled-append a b)
    (all-left (λ o. o.sent.last ≤ m) (filled (a ++ b)) (filled c) (subst (AllByRecursion (λ o. o.sent.last ≤ m)) (filled-append (a ++ b) c) h)))

late-twice : (m : ℕ) (a b c : Slots) → AllByRecursion (λ o. o.sent.last ≤ m) (filled (a ++ b ++ c)) → AllByRecursion (λ o. o.sent.last ≤ m) (filled b)
late-twice m a b c h =
    all-right (λ o. o.sent.last ≤ m) (filled a) (filled b)
    (subst (AllByRecursion (λ o. o.sent.last ≤ m)) (filled-append a b)
    (all-left (λ o. o.sent.last ≤ m) (filled (a ++ b)) (filled c) (subst (AllByRecursion (λ o. o.sent.last ≤ m)) (filled-append (a ++ b) c) h)))

pub late-moved : (m : ℕ) (a b c a' b' : Slots) → AllByRecursion (λ o. o.sent.last ≤ m) (filled (a ++ b ++ c)) → filled a' ++ filled b' ≡ filled a ++ map (renewed m) (filled b)
    → AllByRecursion (λ o. o.sent.last ≤ m) (filled b')
late-moved m a b c a' b' h list =
    all-right (λ o. o.sent.last ≤ m) (filled a') (filled b')
    (subst (AllByRecursion (λ o. o.sent.last ≤ m)) (sym list)
    (all-append (λ o. o.sent.last ≤ m) (filled a) (map (renewed m) (filled b)) (late-thrice m a b c h) (late-renewed m (filled b) (late-twice m a b c h))))

pub length-same : (xs ys : Slots) → numbers xs ≡ numbers ys → length xs ≡ length ys
length-same xs ys e = sym (length-numbers xs) ∙ ap length e ∙ length-numbers ys

pub numbers-moved : (a b c a' b' b'' c' : Slots) → numbers (a' ++ b') ≡ numbers (a ++ b) → numbers (b'' ++ c') ≡ numbers (b' ++ c) → numbers (a' ++ b'' ++ c') ≡ numbers (a ++ b ++ c)
numbers-moved a b c a' b' b'' c' e f =
    ap numbers (append_assoc a' b'' c') ∙ numbers-append a' (b'' ++ c') ∙ ap (λ l. numbers a' ++ l) f ∙ sym (numbers-append a' (b' ++ c))
    ∙ ap numbers (sym (append_assoc a' b' c)) ∙ numbers-append (a' ++ b') c ∙ ap (λ l. l ++ numbers c) e ∙ sym (numbers-append (a ++ b) c)

pub renewed-list : (m : ℕ) (a b c a' b' b'' c' : Slots) → IsSent 3 a → filled a' ++ filled b' ≡ filled a ++ map (renewed m) (filled b)
    → filled b'' ++ filled c' ≡ filled b' ++ map (renewed m) (filled c) → filled (a' ++ b'' ++ c') ≡ map (renewed m) (filled (a ++ b ++ c))
renewed-list m a b c a' b' b'' c' sent e f =
    ap filled (append_assoc a' b'' c') ∙ filled-append a' (b'' ++ c') ∙ ap (λ l. filled a' ++ l) (filled-append b'' c' ∙ f)
    ∙ sym (append_assoc (filled a') (filled b') (map (renewed m) (filled c))) ∙ ap (λ l. l ++ map (renewed m) (filled c)) e
    ∙ ap (λ l. l ++ map (renewed m) (filled b) ++ map (renewed m) (filled c)) (sym (renewed-last m (filled a) sent.times_are))
    ∙ sym (ap (map (renewed m)) (filled-append (a ++ b) c ∙ ap (λ l. l ++ filled c) (filled-append a b))
    ∙ map-append (renewed m) (filled a ++ filled b) (filled c) ∙ ap (λ l. l ++ map (renewed m) (filled c)) (map-append (renewed m) (filled a) (filled b)))

pub window-renewed : (first m : ℕ) (a b c a' b' b'' c' : Slots) (count r3 r2 r1 s3 s2 s1 : ℕ) → IsWindow first a b c count r3 r2 r1
    → numbers (a' ++ b') ≡ numbers (a ++ b) → numbers (b'' ++ c') ≡ numbers (b' ++ c) → filled (a' ++ b'' ++ c') ≡ map (renewed m) (filled (a ++ b ++ c))
    → IsSent 3 a' → IsSent 2 b'' → IsSent 1 c' → s3 ≡ r3 → s2 ≡ r2 → s1 ≡ r1 → IsWindow first a' b'' c' count s3 s2 s1
window-renewed first m a b c a' b' b'' c' count r3 r2 r1 s3 s2 s1 w e f list sent3 sent2 sent1 e3 e2 e1 =
    let same = numbers-moved a b c a' b' b'' c' e f in
    let long : length (a' ++ b'' ++ c') ≡ length (a ++ b ++ c) = length-same (a' ++ b'' ++ c') (a ++ b ++ c) same in
    record {
      numbered = numbered-same first (a ++ b ++ c) (a' ++ b'' ++ c') (sym same) w.numbered;
      few = omega (arith, w.few, long, length-three a b c, length-three a' b'' c');
      fits = omega (arith, w.fits, long);
      counted = w.counted ∙ sym (ap length list ∙ length-map (filled (a ++ b ++ c)) (renewed m));
      thrice_sent = sent3;
      twice_sent = sent2;
      once_sent = sent1;
      room_thrice = omega (arith, w.room_thrice);
      room_twice = omega (arith, w.room_twice);
      room_once = omega (arith, w.room_once);
    }

pub filled-dropped : (a b c a' : Slots) (o : OpenRequest) → filled a ≡ o ∷ filled a' → filled (a ++ b ++ c) ≡ o ∷ filled (a' ++ b ++ c)
filled-dropped a b c a' o e =
    filled-append (a ++ b) c ∙ ap (λ l. l ++ filled c) (filled-append a b ∙ ap (λ l. l ++ filled b) e)
    ∙ ap (λ l. o ∷ l) (sym (filled-append (a' ++ b) c ∙ ap (λ l. l ++ filled c) (filled-append a' b)))

pub filled-still : (a b c a' : Slots) → filled a' ≡ filled a → filled (a' ++ b ++ c) ≡ filled (a ++ b ++ c)
filled-still a b c a' e =
    filled-append (a' ++ b) c ∙ ap (λ l. l ++ filled c) (filled-append a' b ∙ ap (λ l. l ++ filled b) e)
    ∙ sym (filled-append (a ++ b) c ∙ ap (λ l. l ++ filled c) (filled-append a b))
