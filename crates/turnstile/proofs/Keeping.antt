-- Each step keeps the rule of the table.
use Rattle.std.proofs.Common.{◌≡◌, ◌≢◌, ℕ, zero, suc, ◌+◌, ◌%◌, ◌^◌, ◌<◌, ◌≤◌, List, [], ◌∷◌, ◌++◌, length, set, slice_index, Option, Some, refl, sym, ap, ◌∙◌, subst, inl, inr, ⊎_elim, arith, append-nil, length-append}
use Rattle.std.proofs.Math.Nat.{mod-add-mod}
use Rattle.std.proofs.lemmas.List.{set_comm}
use mathlib.Core.Logic.{dite}
use mathlib.Core.Option.{some, none, some-injective, some-ne-none}
use mathlib.Core.Option as maybe
use native.Mathlib.Decide.{ℕ_discrete}
use lib.ListN.{get_elem?}
use Rattle.atomic_table.specs.Table.{State, Me, step, Act, keeps, takes, gives, stepped, carried_after, put_back, rest, Valid, Allows, Splits, Joins, opening}
use Rattle.atomic_table.proofs.Lists.{at_set, set_here, set_else, at_longer, one_turn}
use Rattle.turnstile.specs.declared.view.Known.{Known}
use Rattle.turnstile.specs.declared.view.View.{View}
use Rattle.turnstile.specs.declared.view.Stage.{Stage}
use Rattle.turnstile.specs.declared.view.Stage.TheVariants.{Idle, Waits, Serves}
use Rattle.turnstile.specs.Turns.{Turn, StartsWith, longer, In, Distinct, least, greatest, without, of, plain, Numbered}
use Rattle.turnstile.specs.Knowing.{Stands, fresh, left_of, right_of}
use Rattle.turnstile.specs.Order.{tickets, HasTicket, waiting, holding, idle, AtStage, StaysTrue, JoinedStayTrue, Fits, Apart, Longest, StandsAfter, InSlot, TurnsInOrder, looked, finished, drew, after, raised, both, spent, Agree, learned}
use Rattle.turnstile.proofs.Lists.{total_set, total_end, total_two, total_below, each_set, at_end, inside, pairs_set, pairs_end, least-in, greatest-in, in-without, without-distinct, length-without, in-append, in-left, in-right, distinct-append, of-append, of-other, numbered-end, starts_whole, starts_more, longer_begins, squeeze, begin_both}

module _ {A B : Type 0} where
  stage_later : (all : List (Turn A B)) (drawn drawn' : ℕ) (seen : List (Turn A B)) (st : Stage) → drawn ≤ drawn' → AtStage all drawn seen st → AtStage all drawn' seen st
  stage_later all drawn drawn' seen Idle le h = tt
  stage_later all drawn drawn' seen (Waits t) le h = let b = h.1 in (h.0, omega arith)
  stage_later all drawn drawn' seen (Serves t) le h = let b = h.1 in (h.0, omega arith, h.2)

  stage_more : (all : List (Turn A B)) (x : Turn A B) (drawn : ℕ) (seen : List (Turn A B)) (st : Stage) → (HasTicket st (length all) → ⊥) → AtStage all drawn seen st → AtStage (all ++ x ∷ []) drawn seen st
  stage_more all x drawn seen Idle never h = tt
  stage_more all x drawn seen (Waits t) never h = let ne : t ≢ length all = never in let a = h.0 in let l = length-append all (x ∷ []) in (omega arith, h.1)
  stage_more all x drawn seen (Serves t) never h = absurd (never (sym h.0))

  pub bounds : (all : List (Turn A B)) (drawn : ℕ) (seen : List (Turn A B)) (st : Stage) (t : ℕ) → AtStage all drawn seen st → HasTicket st t → (length all ≤ t) × (t < drawn)
  bounds all drawn seen Idle t h g = absurd g
  bounds all drawn seen (Waits s) t h g = let e : s ≡ t = g in let a = h.0 in let b = h.1 in (omega arith, omega arith)
  bounds all drawn seen (Serves s) t h g = let e : s ≡ t = g in let a = h.0 in let b = h.1 in (omega arith, omega arith)

module _ {D A B : Type 0} where
  pub apart_flip : (v w : View D A B) → Apart v w → Apart w v
  apart_flip v w a = record { numbers = λ n h g. a.numbers n g h; stages = λ t h g. a.stages t g h }

  later : (first : D) (all : List (Turn A B)) (drawn drawn' : ℕ) (v : View D A B) → drawn ≤ drawn' → Fits first all drawn v → Fits first all drawn' v
  later first all drawn drawn' v le f = record {
    holds = f.holds;
    some_number = f.some_number;
    ticketed = f.ticketed;
    distinct = f.distinct;
    below = f.below;
    told = f.told;
    staged = stage_later all drawn drawn' v.known.seen v.stage le f.staged;
  }

  holds_more : (first : D) (all : List (Turn A B)) (m : ℕ) (t : Option (A × B)) (k : Known D A B) → ((n : ℕ) → In n k.numbers → n ≢ m) → StaysTrue first all k → StaysTrue first (all ++ (m, t) ∷ []) k
  holds_more first all m t k ne h = record {
    from = h.from;
    begins = starts_more all k.seen ((m, t) ∷ []) h.begins;
    own = λ n i. h.own n i ∙ sym (of-append n all ((m, t) ∷ []) ∙ (ap (λ (r : List (Option (A × B))). of n all ++ r) (of-other n m t (ne n i)) ∙ append-nil (of n all)));
  }

  told_more : (first : D) (all : List (Turn A B)) (m : ℕ) (t : Option (A × B)) (numbers : List ℕ) (ks : List (Known D A B)) → ((n : ℕ) → In n numbers → n ≢ m) → JoinedStayTrue first all numbers ks → JoinedStayTrue first (all ++ (m, t) ∷ []) numbers ks
  told_more first all m t numbers [] ne h = tt
  told_more first all m t numbers (k ∷ ks) ne h = (holds_more first all m t k (λ n i. ne n (h.1 n i)) h.0, h.1, told_more first all m t numbers ks ne h.2)

  -- what another seat knows stays true where a turn is added
  grows : (first : D) (all : List (Turn A B)) (m : ℕ) (t : Option (A × B)) (drawn : ℕ) (v : View D A B) → ((n : ℕ) → In n v.known.numbers → n ≢ m) → (HasTicket v.stage (length all) → ⊥)
      → Fits first all drawn v → Fits first (all ++ (m, t) ∷ []) drawn v
  grows first all m t drawn v ne never f = record {
    holds = holds_more first all m t v.known ne f.holds;
    some_number = f.some_number;
    ticketed = f.ticketed;
    distinct = f.distinct;
    below = f.below;
    told = told_more first all m t v.known.numbers v.told ne f.told;
    staged = stage_more all (m, t) drawn v.known.seen v.stage never f.staged;
  }

  longest_set : (all : List (Turn A B)) (vs : List (View D A B)) (i : ℕ) (v w : View D A B) → get_elem? vs i ≡ some v → (0 < length v.known.numbers → 0 < length w.known.numbers)
      → (v.known.seen ≡ all → w.known.seen ≡ all) → Longest all vs → Longest all (set vs i w)
  longest_set all vs i v w at numbers seen l = dite (ℕ_discrete l.0 i)
      (λ e. let same : l.1 ≡ v = some-injective l.1 v (sym l.2 ∙ (ap (get_elem? vs) e ∙ at)) in
      (i, w, set_here vs i w (inside vs i v at), numbers (subst (λ (x : View D A B). 0 < length x.known.numbers) same l.3), seen (sym (ap (λ (x : View D A B). x.known.seen) same) ∙ l.4)))
      (λ ne. (l.0, l.1, set_else vs i l.0 w ne ∙ l.2, l.3, l.4))

module _ {D A B Base : Type 0} (stands : D → Base → List (Option (A × B)) → Type 0) (first : D) where
  abbrev V : Type 0
  V = View D A B

  abbrev St : Type 0
  St = State (Option D) V

  abbrev M : Type 0
  M = Me (Option D) V

  abbrev Homes : Type 0
  Homes = List (maybe.Option (Option D))

  abbrev Rule : St → Type 0
  Rule = TurnsInOrder stands first

  abbrev Goes : ℕ → M → ℕ → (ℕ → ℕ) → (ℕ → M → Type 0) → List V → List ℕ → Homes → Type 0
  Goes id me i f then views words homes = (w : V) × (a : Act (Option D)) × Valid homes me.1 a
      × Rule (stepped (record { words = words; homes = homes; views = views }) i (f (slice_index words i)) id me.1 w a) × then (slice_index words i) (w, carried_after me.1 a)

  -- a step over the words and the slot that the rule names
  goes : (s : St) (k : Rule s) (id : ℕ) (me : M) (i : ℕ) (f : ℕ → ℕ) (then : ℕ → M → Type 0)
      → Goes id me i f then s.views (k.drawn % 2 ^ 64 ∷ length k.all % 2 ^ 64 ∷ []) (k.slot ∷ []) → Goes id me i f then s.views s.words s.homes
  goes s k id me i f then h = subst (λ (ws : List ℕ). Goes id me i f then s.views ws s.homes) (sym k.words)
      (subst (λ (hs : Homes). Goes id me i f then s.views (k.drawn % 2 ^ 64 ∷ length k.all % 2 ^ 64 ∷ []) hs) (sym k.homes) h)

  slot_set : (all : List (Turn A B)) (vs : List V) (i : ℕ) (v w : V) → get_elem? vs i ≡ some v → (v.stage ≡ Serves (length all) → w.stage ≡ Serves (length all))
      → (slot : maybe.Option (Option D)) → InSlot stands first all vs slot → InSlot stands first all (set vs i w) slot
  slot_set all vs i v w at keep (some y) h = h
  slot_set all vs i v w at keep none h = dite (ℕ_discrete h.0 i)
      (λ e. let same : h.1 ≡ v = some-injective h.1 v (sym h.2 ∙ (ap (get_elem? vs) e ∙ at)) in
      (i, w, set_here vs i w (inside vs i v at), keep (sym (ap (λ (x : V). x.stage) same) ∙ h.3)))
      (λ ne. (h.0, h.1, set_else vs i h.0 w ne ∙ h.2, h.3))

  -- where nobody serves, the desk is in the slot
  at_home : (all : List (Turn A B)) (vs : List V) (slot : maybe.Option (Option D)) → InSlot stands first all vs slot → ((i : ℕ) (v : V) → get_elem? vs i ≡ some v → v.stage ≡ Serves (length all) → ⊥)
      → (desk : D) × (slot ≡ some (Some desk)) × StandsAfter stands first all desk
  at_home all vs (some y) h never = (h.0, ap some h.1, h.2)
  at_home all vs none h never = absurd (never h.0 h.1 h.2 h.3)

  -- one seat's view changes, and no turn is added
  changes : (s : St) (k : Rule s) (i : ℕ) (v w : V) (drawn' : ℕ) (slot' : maybe.Option (Option D)) → get_elem? s.views i ≡ some v → k.drawn ≤ drawn'
      → drawn' + waiting v ≡ k.drawn + waiting w → w.known.numbers ≡ v.known.numbers → (v.known.seen ≡ k.all → w.known.seen ≡ k.all) → Fits first k.all drawn' w
      → ((j : ℕ) (u : V) → j ≢ i → get_elem? s.views j ≡ some u → (t : ℕ) → HasTicket w.stage t → HasTicket u.stage t → ⊥) → InSlot stands first k.all (set s.views i w) slot'
      → Rule record { words = drawn' % 2 ^ 64 ∷ length k.all % 2 ^ 64 ∷ []; homes = slot' ∷ []; views = set s.views i w }
  changes s k i v w drawn' slot' at le count numbers seen fits own_ticket there = record {
    all = k.all;
    drawn = drawn';
    slot = slot';
    words = refl;
    homes = refl;
    out = (let t = total_set waiting s.views i v w at in let o = k.out in omega arith);
    four = (let t = total_set holding s.views i v w at in let o = k.four in let e : holding w ≡ holding v = ap length numbers in omega arith);
    fits = each_set (Fits first k.all drawn') s.views i w fits (λ j u _ at_j. later first k.all k.drawn drawn' u le (k.fits j u at_j));
    apart = pairs_set Apart apart_flip s.views i w k.apart (λ j u ne at_j. let old = k.apart i j v u at at_j (λ e. ne (sym e)) in
        record { numbers = λ n h g. old.numbers n (subst (In n) numbers h) g; stages = own_ticket j u ne at_j });
    longest = longest_set k.all s.views i v w at (subst (λ (l : List ℕ). 0 < length l) (sym numbers)) seen k.longest;
    numbered = k.numbered;
    there = there;
  }

  -- at most four tickets are out
  few : (s : St) (k : Rule s) → k.drawn ≤ length k.all + 4
  few s k = let l = total_below waiting holding s.views (λ i v at. (k.fits i v at).ticketed) in let o = k.out in let f = k.four in omega arith

  carried : (v : V) (all : List (Turn A B)) (desk : D) → v.known.first ≡ Some first → StandsAfter stands first all desk → Stands stands v.known desk all
  carried v all desk from follows base c = let same : c.0 ≡ first = (let e : Some c.0 ≡ Some first = sym c.1 ∙ from in cc) in follows base (subst (λ (d : D). stands d base []) same c.2)

  pub draws : (slots id : ℕ) (me : M) → me.0.stage ≡ Idle → 0 < length me.0.known.numbers → Allows Rule slots id me 0 (λ n. (n + 1) % 2 ^ 64) (drew (step slots 0 1 0 none) me)
  draws slots id me is some_number s k deep at _ =
      let v : V = me.0 in let w : V = record { known = v.known; told = v.told; stage = Waits k.drawn } in let f = k.fits id v at in let o = k.out in
      let no_ticket : waiting v ≡ 0 = ap tickets is in
      goes s k id me 0 (λ n. (n + 1) % 2 ^ 64) (drew (step slots 0 1 0 none) me) (
        w,
        keeps,
        tt,
        subst (λ (n : ℕ). Rule record { words = n ∷ length k.all % 2 ^ 64 ∷ []; homes = k.slot ∷ []; views = set s.views id w }) (sym (mod-add-mod k.drawn (2 ^ 64) 1))
            (changes s k id v w (k.drawn + 1) k.slot at (omega arith) (omega arith) refl (λ e. e)
            record {
              holds = f.holds;
              some_number = inr some_number;
              ticketed = omega arith;
              distinct = f.distinct;
              below = f.below;
              told = f.told;
              staged = (omega arith, omega arith);
            }
            (λ j u ne at_j t h g. let b = bounds k.all k.drawn u.known.seen u.stage t (k.fits j u at_j).staged g in let b' = b.1 in let e : k.drawn ≡ t = h in absurd (omega arith))
            (slot_set k.all s.views id v w at (λ e. let z : Idle ≡ Serves (length k.all) = sym is ∙ e in cc) k.slot k.there)),
        (k.drawn, refl, refl, refl),
      )

  -- the seat with the ticket that is due takes the desk
  due_at : (s : St) (k : Rule s) (id t : ℕ) (v w : V) → get_elem? s.views id ≡ some v → v.stage ≡ Waits t → length k.all ≡ t → t < k.drawn
      → w ≡ record { known = record { first = v.known.first; numbers = v.known.numbers; seen = k.all }; told = v.told; stage = Serves t }
      → (desk : D) × (k.slot ≡ some (Some desk)) × StandsAfter stands first k.all desk
      × Rule record { words = k.drawn % 2 ^ 64 ∷ length k.all % 2 ^ 64 ∷ []; homes = none ∷ []; views = set s.views id w }
  due_at s k id t v w at is here drawn w_is =
      let f = k.fits id v at in let one : waiting v ≡ 1 = ap tickets is in let ticketed = f.ticketed in
      let mine : (x : ℕ) → HasTicket (Serves t) x → HasTicket v.stage x = λ x h. subst (λ (st : Stage). HasTicket st x) (sym is) h in
      let nobody : (i : ℕ) (u : V) → get_elem? s.views i ≡ some u → u.stage ≡ Serves (length k.all) → ⊥ = λ i u at_i serves. dite (ℕ_discrete i id)
      (λ e. let same : u ≡ v = some-injective u v (sym at_i ∙ (ap (get_elem? s.views) e ∙ at)) in let z : Waits t ≡ Serves (length k.all) = sym is ∙ (sym (ap (λ (x : V). x.stage) same) ∙ serves) in cc)
      (λ ne. (k.apart id i v u at at_i (λ e. ne (sym e))).stages t (mine t refl) (subst (λ (st : Stage). HasTicket st t) (sym serves) here)) in
      let home = at_home k.all s.views k.slot k.there nobody in
      let w' : V = record { known = record { first = v.known.first; numbers = v.known.numbers; seen = k.all }; told = v.told; stage = Serves t } in (
        home.0,
        home.1,
        home.2,
        subst (λ (x : V). Rule record { words = k.drawn % 2 ^ 64 ∷ length k.all % 2 ^ 64 ∷ []; homes = none ∷ []; views = set s.views id x }) (sym w_is)
            (changes s k id v w' k.drawn none at (omega arith) (omega arith) refl (λ _. refl)
            record {
              holds = record { from = f.holds.from; begins = starts_whole k.all; own = λ n i. refl };
              some_number = inr (omega arith);
              ticketed = omega arith;
              distinct = f.distinct;
              below = f.below;
              told = f.told;
              staged = (here, drawn, refl);
            }
            (λ j u ne at_j x h g. (k.apart id j v u at at_j (λ e. ne (sym e))).stages x (mine x h) g)
            (id, w', set_here s.views id w' (inside s.views id v at), ap Serves (sym here))),
      )

  -- a load that finds nothing new
  waits_on : (s : St) (k : Rule s) (id : ℕ) (v : V) → get_elem? s.views id ≡ some v
      → Rule record { words = k.drawn % 2 ^ 64 ∷ length k.all % 2 ^ 64 ∷ []; homes = k.slot ∷ []; views = set s.views id v }
  waits_on s k id v at = changes s k id v v k.drawn k.slot at (omega arith) refl refl (λ e. e) (k.fits id v at)
      (λ j u ne at_j. (k.apart id j v u at at_j (λ e. ne (sym e))).stages) (slot_set k.all s.views id v v at (λ e. e) k.slot k.there)

  pub looks : (slots id : ℕ) (me : M) (t : ℕ) → me.0.stage ≡ Waits t → me.0.told ≡ [] → me.1 ≡ [] → 0 < length me.0.known.numbers
      → Allows Rule slots id me 1 (λ n. n) (looked stands (step slots 1 0 0 none) me)
  looks slots id me t is untold bare some_number s k deep at _ =
      let v : V = me.0 in let f = k.fits id v at in
      let staged : (length k.all ≤ t) × (t < k.drawn) = subst (AtStage k.all k.drawn v.known.seen) is f.staged in
      let low = staged.0 in let high = staged.1 in let out = few s k in
      let w : V = record { known = record { first = v.known.first; numbers = v.known.numbers; seen = k.all }; told = v.told; stage = Serves t } in
      goes s k id me 1 (λ n. n) (looked stands (step slots 1 0 0 none) me) (dite (ℕ_discrete (length k.all % 2 ^ 64) (t % 2 ^ 64))
      (λ e. let here : length k.all ≡ t = one_turn (length k.all) t (2 ^ 64) low (omega arith) e in
      let d = due_at s k id t v w at is here high refl in (
        w,
        takes 0 (Some d.0),
        ap some d.1,
        d.3,
        λ t' is'. let same : t ≡ t' = (let z : Waits t ≡ Waits t' = sym is ∙ is' in cc) in (
          (λ _. record {
            desk = d.0;
            ticket = t;
            hand = ap (λ (r : List (ℕ × Option D)). (0, Some d.0) ∷ r) bare;
            stage = refl;
            told = untold;
            same = (refl, refl);
            begins = f.holds.begins;
            own = λ n i. sym (f.holds.own n i);
            stood = carried v k.all d.0 (f.holds.from some_number) d.2;
          }),
          λ never. absurd (never (e ∙ ap (λ (x : ℕ). x % 2 ^ 64) same)),
        ),
      ))
      (λ ne. (
        v,
        keeps,
        tt,
        waits_on s k id v at,
        λ t' is'. let same : t' ≡ t = (let z : Waits t' ≡ Waits t = sym is' ∙ is in cc) in (
          (λ e. absurd (ne (e ∙ ap (λ (x : ℕ). x % 2 ^ 64) same))),
          λ _. refl,
        ),
      )))

  -- a turn is added by the seat that serves
  adds : (s : St) (k : Rule s) (id t : ℕ) (v : V) (turn : Option (A × B)) (desk : D) → get_elem? s.views id ≡ some v → v.stage ≡ Serves t → 0 < length v.known.numbers
      → Stands stands v.known desk (after turn v.known).seen
      → Rule record { words = k.drawn % 2 ^ 64 ∷ (length k.all % 2 ^ 64 + 1) % 2 ^ 64 ∷ []; homes = some (Some desk) ∷ []; views = set s.views id (idle (after turn v.known)) }
  adds s k id t v turn desk at is some_number stood =
      let f = k.fits id v at in let staged : (length k.all ≡ t) × (t < k.drawn) × (v.known.seen ≡ k.all) = subst (AtStage k.all k.drawn v.known.seen) is f.staged in
      let m : ℕ = least v.known.numbers in let x : Turn A B = (m, turn) in let all' : List (Turn A B) = k.all ++ x ∷ [] in let w : V = idle (after turn v.known) in
      let same : w.known.seen ≡ all' = ap (λ (l : List (Turn A B)). l ++ x ∷ []) staged.2 in
      let one : waiting v ≡ 1 = ap tickets is in let long : length all' ≡ length k.all + 1 = length-append k.all (x ∷ []) in
      let mine : HasTicket v.stage (length k.all) = subst (λ (st : Stage). HasTicket st (length k.all)) (sym is) (sym staged.0) in
      subst (λ (n : ℕ). Rule record { words = k.drawn % 2 ^ 64 ∷ n ∷ []; homes = some (Some desk) ∷ []; views = set s.views id w })
      (ap (λ (n : ℕ). n % 2 ^ 64) long ∙ sym (mod-add-mod (length k.all) (2 ^ 64) 1)) record {
        all = all';
        drawn = k.drawn;
        slot = some (Some desk);
        words = refl;
        homes = refl;
        out = (let z = total_set waiting s.views id v w at in let o = k.out in omega arith);
        four = (let z = total_set holding s.views id v w at in let o = k.four in omega arith);
        fits = each_set (Fits first all' k.drawn) s.views id w
            record {
              holds = record { from = f.holds.from; begins = subst (λ (l : List (Turn A B)). StartsWith all' l) (sym same) (starts_whole all'); own = λ n i. ap (of n) same };
              some_number = inr some_number;
              ticketed = omega arith;
              distinct = f.distinct;
              below = f.below;
              told = tt;
              staged = tt;
            }
            (λ j u ne at_j. let a = k.apart id j v u at at_j (λ e. ne (sym e)) in
            grows first k.all m turn k.drawn u (λ n i e. a.numbers m (least-in v.known.numbers some_number) (subst (λ (y : ℕ). In y u.known.numbers) e i)) (a.stages (length k.all) mine) (k.fits j u at_j));
        apart = pairs_set Apart apart_flip s.views id w k.apart (λ j u ne at_j. record { numbers = (k.apart id j v u at at_j (λ e. ne (sym e))).numbers; stages = λ y h g. h });
        longest = (id, w, set_here s.views id w (inside s.views id v at), some_number, same);
        numbered = numbered-end k.all m turn k.numbered (f.below m (least-in v.known.numbers some_number));
        there = (desk, refl, λ base c. subst (λ (l : List (Turn A B)). stands desk base (plain l)) same (stood base (first, f.holds.from some_number, c)));
      }

  pub raises : (slots id : ℕ) (me : M) (turn : Option (A × B)) (t : ℕ) (desk : D) → me.0.stage ≡ Serves t → 0 < length me.0.known.numbers → me.1 ≡ (0, Some desk) ∷ []
      → Stands stands me.0.known desk (after turn me.0.known).seen → Allows Rule slots id me 1 (λ n. (n + 1) % 2 ^ 64) (raised turn (step slots 1 1 0 none) me)
  raises slots id me turn t desk is some_number hand stood s k deep at _ = let w : V = idle (after turn me.0.known) in
      goes s k id me 1 (λ n. (n + 1) % 2 ^ 64) (raised turn (step slots 1 1 0 none) me) (
        w,
        gives,
        tt,
        subst (λ (cs : List (ℕ × Option D)). Rule record { words = k.drawn % 2 ^ 64 ∷ (length k.all % 2 ^ 64 + 1) % 2 ^ 64 ∷ []; homes = put_back (k.slot ∷ []) cs; views = set s.views id w }) (sym hand)
            (adds s k id t me.0 turn desk at is some_number stood),
        (refl, ap rest hand),
      )

  -- two pasts that hold, of which what is seen is the longer, agree with it
  agrees : (all : List (Turn A B)) (k v u : Known D A B) → StaysTrue first all v → StaysTrue first all u → 0 < length v.numbers → 0 < length u.numbers → k.seen ≡ longer v.seen u.seen → Agree k v u
  agrees all k v u hv hu some_v some_u is = let l = longer_begins all v.seen u.seen hv.begins hu.begins in record {
    first = hv.from some_v ∙ sym (hu.from some_u);
    begins = subst (λ (x : List (Turn A B)). StartsWith x v.seen × StartsWith x u.seen) (sym is) (l.1, l.2);
    own = λ n i. ap (of n) is ∙ (squeeze n v.seen (longer v.seen u.seen) all l.1 l.0 (hv.own n i) ∙ sym (hv.own n i));
    theirs = λ n i. ap (of n) is ∙ (squeeze n u.seen (longer v.seen u.seen) all l.2 l.0 (hu.own n i) ∙ sym (hu.own n i));
  }

  pub learns : (slots id : ℕ) (me : M) → me.0.stage ≡ Idle → me.1 ≡ [] → Allows Rule slots id me 0 (λ n. n) (learned (step slots 0 0 0 none) me)
  learns slots id me is bare s k deep at _ = let v : V = me.0 in let w : V = idle v.known in let f = k.fits id v at in let no_ticket : waiting v ≡ 0 = ap tickets is in
      goes s k id me 0 (λ n. n) (learned (step slots 0 0 0 none) me) (
        w,
        keeps,
        tt,
        changes s k id v w k.drawn k.slot at (omega arith) (omega arith) refl (λ e. e)
            record {
              holds = f.holds;
              some_number = ⊎_elim (λ e. inl (ap (λ (x : V). idle x.known) e)) (λ h. inr h) f.some_number;
              ticketed = omega arith;
              distinct = f.distinct;
              below = f.below;
              told = tt;
              staged = tt;
            }
            (λ j u ne at_j t h g. h)
            (slot_set k.all s.views id v w at (λ e. let z : Idle ≡ Serves (length k.all) = sym is ∙ e in cc) k.slot k.there),
        (
          ap (λ (r : List (ℕ × Option D)). (w, r)) bare,
          λ a b told_is some_a some_b seen_is. let t : JoinedStayTrue first k.all v.known.numbers (a ∷ b ∷ []) = subst (JoinedStayTrue first k.all v.known.numbers) told_is f.told in
              agrees k.all v.known a b t.0 t.2.0 some_a some_b seen_is,
        ),
      )

  -- where one seat has all numbers, it alone has a ticket and has seen all turns
  alone : (s : St) (k : Rule s) (id : ℕ) (v : V) → get_elem? s.views id ≡ some v → length v.known.numbers ≡ 4 → (k.drawn ≤ length k.all + 1) × (v.known.seen ≡ k.all)
  alone s k id v at four = let none_there : V = spent in let vs : List V = set s.views id none_there in
      let h = total_set holding s.views id v none_there at in let t = total_set waiting s.views id v none_there at in
      let l = total_below waiting holding vs (each_set (λ (x : V). waiting x ≤ holding x) s.views id none_there (omega arith) (λ j u ne at_j. (k.fits j u at_j).ticketed)) in
      let o = k.out in let f = k.four in let long = k.longest in let small : waiting v ≤ 1 = at_most_one v.stage in (
        omega arith,
        dite (ℕ_discrete long.0 id)
            (λ e. let same : long.1 ≡ v = some-injective long.1 v (sym long.2 ∙ (ap (get_elem? s.views) e ∙ at)) in sym (ap (λ (x : V). x.known.seen) same) ∙ long.4)
            (λ ne. let two = total_two holding s.views id long.0 v long.1 at long.2 ne in let p = long.3 in absurd (omega arith)),
      )
    where
      at_most_one : (st : Stage) → tickets st ≤ 1
      at_most_one Idle = omega arith
      at_most_one (Waits t) = omega arith
      at_most_one (Serves t) = omega arith

  pub finishes : (slots id : ℕ) (me : M) (t : ℕ) → me.0.stage ≡ Waits t → length me.0.known.numbers ≡ 4 → me.1 ≡ [] → Allows Rule slots id me 1 (λ n. n) (finished stands (step slots 1 0 0 none) me)
  finishes slots id me t is four bare s k deep at _ =
      let v : V = me.0 in let f = k.fits id v at in let staged : (length k.all ≤ t) × (t < k.drawn) = subst (AtStage k.all k.drawn v.known.seen) is f.staged in
      let low = staged.0 in let high = staged.1 in let a = alone s k id v at four in let one = a.0 in let here : length k.all ≡ t = omega arith in
      let w : V = record { known = v.known; told = v.told; stage = Serves t } in
      let w_is : w ≡ record { known = record { first = v.known.first; numbers = v.known.numbers; seen = k.all }; told = v.told; stage = Serves t } =
      ap (λ (l : List (Turn A B)). let x : V = record { known = record { first = v.known.first; numbers = v.known.numbers; seen = l }; told = v.told; stage = Serves t } in x) a.1 in
      let d = due_at s k id t v w at is here high w_is in
      goes s k id me 1 (λ n. n) (finished stands (step slots 1 0 0 none) me) (
        w,
        takes 0 (Some d.0),
        ap some d.1,
        d.3,
        (
          refl,
          subst Numbered (sym a.1) k.numbered,
          (
            d.0,
            ap (λ (r : List (ℕ × Option D)). (0, Some d.0) ∷ r) bare,
            subst (Stands stands v.known d.0) (sym a.1) (carried v k.all d.0 (f.holds.from (omega arith)) d.2),
          ),
        ),
      )

  slot_end : (all : List (Turn A B)) (vs : List V) (w : V) (slot : maybe.Option (Option D)) → InSlot stands first all vs slot → InSlot stands first all (vs ++ w ∷ []) slot
  slot_end all vs w (some y) h = h
  slot_end all vs w none h = (h.0, h.1, at_longer vs (w ∷ []) h.0 h.1 h.2, h.3)

  each_end : (P : V → Type 0) (vs : List V) (w : V) → ((j : ℕ) (u : V) → get_elem? vs j ≡ some u → P u) → P w → (j : ℕ) (u : V) → get_elem? (vs ++ w ∷ []) j ≡ some u → P u
  each_end P vs w others mine j u at = ⊎_elim (λ (t : get_elem? vs j ≡ some u). others j u t) (λ (t : (j ≡ length vs) × (w ≡ u)). subst P t.1 mine) (at_end vs w u j at)

  pub splits : (id : ℕ) (v : V) → v.stage ≡ Idle → 1 < length v.known.numbers → Splits Rule id v (idle (left_of v.known)) (idle (right_of v.known))
  splits id v is two s k at =
      let ns : List ℕ = v.known.numbers in let g : ℕ = greatest ns in let left : V = idle (left_of v.known) in let right : V = idle (right_of v.known) in let vs : List V = set s.views id left in
      let f = k.fits id v at in let g_in = greatest-in ns (omega arith) in let len = length-without g ns g_in in let apart = without-distinct g ns f.distinct in let no_ticket : waiting v ≡ 0 = ap tickets is in
      let long = longest_set k.all s.views id v left at (λ _. omega arith) (λ e. e) k.longest in
      let is_g : (n : ℕ) → In n (g ∷ []) → n ≡ g = λ n h. ⊎_elim (λ (e : n ≡ g). e) (λ z. absurd z) h in record {
        all = k.all;
        drawn = k.drawn;
        slot = k.slot;
        words = k.words;
        homes = k.homes;
        out = (let z = total_set waiting s.views id v left at in let y = total_end waiting vs right in let o = k.out in omega arith);
        four = (let z = total_set holding s.views id v left at in let y = total_end holding vs right in let o = k.four in omega arith);
        fits = each_end (Fits first k.all k.drawn) vs right
            (each_set (Fits first k.all k.drawn) s.views id left
            record {
              holds = record { from = λ _. f.holds.from (omega arith); begins = f.holds.begins; own = λ n i. f.holds.own n (in-without g n ns i) };
              some_number = inr (omega arith);
              ticketed = omega arith;
              distinct = apart.0;
              below = λ n i. f.below n (in-without g n ns i);
              told = tt;
              staged = tt;
            }
            (λ j u _ at_j. k.fits j u at_j))
            record {
              holds = record { from = λ _. f.holds.from (omega arith); begins = f.holds.begins; own = λ n i. f.holds.own n (subst (λ (x : ℕ). In x ns) (sym (is_g n i)) g_in) };
              some_number = inr (omega arith);
              ticketed = omega arith;
              distinct = ((λ h. h), tt);
              below = λ n i. f.below n (subst (λ (x : ℕ). In x ns) (sym (is_g n i)) g_in);
              told = tt;
              staged = tt;
            };
        apart = pairs_end Apart apart_flip vs right
            (pairs_set Apart apart_flip s.views id left k.apart (λ j u ne at_j. record { numbers = λ n h. (k.apart id j v u at at_j (λ e. ne (sym e))).numbers n (in-without g n ns h); stages = λ t h z. h }))
            (each_set (Apart right) s.views id left
            record { numbers = λ n h z. apart.1 (subst (λ (x : ℕ). In x (without g ns)) (is_g n h) z); stages = λ t h z. h }
            (λ j u ne at_j. record { numbers = λ n h. (k.apart id j v u at at_j (λ e. ne (sym e))).numbers n (subst (λ (x : ℕ). In x ns) (sym (is_g n h)) g_in); stages = λ t h z. h }));
        longest = (long.0, long.1, at_longer vs (right ∷ []) long.0 long.1 long.2, long.3, long.4);
        numbered = k.numbered;
        there = slot_end k.all vs right k.slot (slot_set k.all s.views id v left at (λ e. let z : Idle ≡ Serves (length k.all) = sym is ∙ e in cc) k.slot k.there);
      }

  apart_spent : (u : V) → Apart spent u
  apart_spent u = record { numbers = λ n h z. h; stages = λ t h z. h }

  pub joins : (id : ℕ) (v : V) (other : ℕ) (w : V) → v.stage ≡ Idle → w.stage ≡ Idle → 0 < length v.known.numbers → Joins Rule id v other w (both v w) spent
  joins id v other w is is' some_number s k at away there =
      let b : V = both v w in let nothing : V = spent in let vs : List V = set s.views other nothing in
      let at_other : get_elem? s.views other ≡ some w = sym (set_else s.views id other b away) ∙ there in
      let at_id : get_elem? vs id ≡ some v = set_else s.views other id nothing (λ e. away (sym e)) ∙ at in
      let f = k.fits id v at in let f' = k.fits other w at_other in let a = k.apart id other v w at at_other (λ e. away (sym e)) in
      let l = longer_begins k.all v.known.seen w.known.seen f.holds.begins f'.holds.begins in let seen : List (Turn A B) = longer v.known.seen w.known.seen in
      let len = length-append v.known.numbers w.known.numbers in let no_ticket : waiting v ≡ 0 = ap tickets is in let no_ticket' : waiting w ≡ 0 = ap tickets is' in
      let old = k.longest in let z_in : (x : V) → get_elem? s.views old.0 ≡ some x → old.1 ≡ x = λ x e. some-injective old.1 x (sym old.2 ∙ e) in
      let here = set_here vs id b (inside vs id v at_id) in
      let seen_all : StartsWith seen k.all → seen ≡ k.all = λ h. sym (begin_both k.all seen l.0 h) in
      let ns : List ℕ = v.known.numbers in let ms : List ℕ = w.known.numbers in
      subst (λ (x : List V). Rule record { words = s.words; homes = s.homes; views = x }) (sym (set_comm s.views id other b nothing (λ e. away (sym e)))) record {
        all = k.all;
        drawn = k.drawn;
        slot = k.slot;
        words = k.words;
        homes = k.homes;
        out = (let x = total_set waiting s.views other w nothing at_other in let y = total_set waiting vs id v b at_id in let o = k.out in omega arith);
        four = (let x = total_set holding s.views other w nothing at_other in let y = total_set holding vs id v b at_id in let o = k.four in omega arith);
        fits = each_set (Fits first k.all k.drawn) vs id b
            record {
              holds = record {
                from = λ _. f.holds.from some_number;
                begins = l.0;
                own = λ n i. ⊎_elim (λ h. squeeze n v.known.seen seen k.all l.1 l.0 (f.holds.own n h)) (λ h. squeeze n w.known.seen seen k.all l.2 l.0 (f'.holds.own n h)) (in-append n ns ms i);
              };
              some_number = inr (omega arith);
              ticketed = omega arith;
              distinct = distinct-append ns ms f.distinct f'.distinct a.numbers;
              below = λ n i. ⊎_elim (f.below n) (f'.below n) (in-append n ns ms i);
              told = (f.holds, (λ n i. in-left n ns ms i), (f'.holds, (λ n i. in-right n ns ms i), tt));
              staged = tt;
            }
            (λ j u _ at_j. each_set (Fits first k.all k.drawn) s.views other nothing
            record {
              holds = record { from = λ h. absurd (omega arith); begins = (k.all, refl); own = λ n i. absurd i };
              some_number = inl refl;
              ticketed = omega arith;
              distinct = tt;
              below = λ n i. absurd i;
              told = tt;
              staged = tt;
            }
            (λ i x _ at_i. k.fits i x at_i) j u at_j);
        apart = pairs_set Apart apart_flip vs id b (pairs_set Apart apart_flip s.views other nothing k.apart (λ j u _ _. apart_spent u))
            (λ j u ne at_j. ⊎_elim
            (λ (t : (j ≡ other) × (nothing ≡ u)). subst (Apart b) t.1 (apart_flip nothing b (apart_spent b)))
            (λ (t : (j ≢ other) × (get_elem? s.views j ≡ some u)). let p = k.apart id j v u at t.1 (λ e. ne (sym e)) in let q = k.apart other j w u at_other t.1 (λ e. t.0 (sym e)) in
            record { numbers = λ n h g. ⊎_elim (λ i. p.numbers n i g) (λ i. q.numbers n i g) (in-append n ns ms h); stages = λ x h g. h })
            (at_set s.views other j nothing u at_j));
        longest = dite (ℕ_discrete old.0 id)
            (λ e. let same : old.1 ≡ v = z_in v (ap (get_elem? s.views) e ∙ at) in let p : 0 < length ns = subst (λ (x : V). 0 < length x.known.numbers) same old.3 in
            (id, b, here, omega arith, seen_all (subst (λ (x : List (Turn A B)). StartsWith seen x) (sym (ap (λ (x : V). x.known.seen) same) ∙ old.4) l.1)))
            (λ ne. dite (ℕ_discrete old.0 other)
            (λ e. let same : old.1 ≡ w = z_in w (ap (get_elem? s.views) e ∙ at_other) in let p : 0 < length ms = subst (λ (x : V). 0 < length x.known.numbers) same old.3 in
            (id, b, here, omega arith, seen_all (subst (λ (x : List (Turn A B)). StartsWith seen x) (sym (ap (λ (x : V). x.known.seen) same) ∙ old.4) l.2)))
            (λ ne'. (old.0, old.1, set_else vs id old.0 b ne ∙ (set_else s.views other old.0 nothing ne' ∙ old.2), old.3, old.4)));
        numbered = k.numbered;
        there = slot_set k.all vs id v b at_id (λ e. let z : Idle ≡ Serves (length k.all) = sym is ∙ e in cc) k.slot
            (slot_set k.all s.views other w nothing at_other (λ e. let z : Idle ≡ Serves (length k.all) = sym is' ∙ e in cc) k.slot k.there);
      }

  pub opens : Rule (opening (0 ∷ 0 ∷ []) (Some first ∷ []) (idle (fresh first)))
  opens = record {
    all = [];
    drawn = 0;
    slot = some (Some first);
    words = refl;
    homes = refl;
    out = refl;
    four = refl;
    fits = one;
    apart = alone_there;
    longest = (0, idle (fresh first), refl, omega arith, refl);
    numbered = tt;
    there = (first, refl, λ base h. h);
  }
    where
      distinct : Distinct (0 ∷ 1 ∷ 2 ∷ 3 ∷ [])
      distinct = (
        (λ h. ⊎_elim (λ (e : 0 ≡ 1). absurd (omega arith)) (λ t. ⊎_elim (λ (e : 0 ≡ 2). absurd (omega arith)) (λ u. ⊎_elim (λ (e : 0 ≡ 3). absurd (omega arith)) (λ z. z) u) t) h),
        (
          (λ h. ⊎_elim (λ (e : 1 ≡ 2). absurd (omega arith)) (λ t. ⊎_elim (λ (e : 1 ≡ 3). absurd (omega arith)) (λ z. z) t) h),
          ((λ h. ⊎_elim (λ (e : 2 ≡ 3). absurd (omega arith)) (λ z. z) h), ((λ h. h), tt)),
        ),
      )

      below : (n : ℕ) → In n (0 ∷ 1 ∷ 2 ∷ 3 ∷ []) → n < 4
      below n h = ⊎_elim (λ (e : n ≡ 0). omega arith)
          (λ t. ⊎_elim (λ (e : n ≡ 1). omega arith) (λ u. ⊎_elim (λ (e : n ≡ 2). omega arith) (λ x. ⊎_elim (λ (e : n ≡ 3). omega arith) (λ z. absurd z) x) u) t) h

      one : (i : ℕ) (v : V) → get_elem? (idle (fresh first) ∷ []) i ≡ some v → Fits first [] 0 v
      one zero v at = subst (Fits first [] 0) (some-injective (idle (fresh first)) v at) record {
        holds = record { from = λ _. refl; begins = ([], refl); own = λ n i. refl };
        some_number = inr (omega arith);
        ticketed = omega arith;
        distinct = distinct;
        below = below;
        told = tt;
        staged = tt;
      }
      one (suc i) v at = absurd (some-ne-none v (sym at))

      alone_there : (i j : ℕ) (v w : V) → get_elem? (idle (fresh first) ∷ []) i ≡ some v → get_elem? (idle (fresh first) ∷ []) j ≡ some w → i ≢ j → Apart v w
      alone_there zero zero v w at_i at_j ne = absurd (ne refl)
      alone_there zero (suc j) v w at_i at_j ne = absurd (some-ne-none w (sym at_j))
      alone_there (suc i) j v w at_i at_j ne = absurd (some-ne-none v (sym at_i))

  pub opens_with : (slots : List (Option D)) → slots ≡ Some first ∷ [] → Rule (opening (0 ∷ 0 ∷ []) slots (idle (fresh first)))
  opens_with slots is = subst (λ (xs : List (Option D)). Rule (opening (0 ∷ 0 ∷ []) xs (idle (fresh first)))) (sym is) opens
