-- What a visit and a join tell of what a pass knows.
use Rattle.std.proofs.Common.{◌≡◌, ◌<◌, List, [], ◌∷◌, ◌++◌, length, Option, sym, ap, ◌∙◌, subst, append-nil}
use Rattle.atomic_table.specs.Table.{Me}
use Rattle.turnstile.specs.declared.view.Known.{Known}
use Rattle.turnstile.specs.declared.view.View.{View}
use Rattle.turnstile.specs.Turns.{least, longer, of, plain}
use Rattle.turnstile.specs.Knowing.{Carries, Stands, Visited, Joined}
use Rattle.turnstile.specs.Order.{Due, Agree, after}
use Rattle.turnstile.proofs.Lists.{least-in, of-append, of-same, of-other, plain-append}

module _ {D A B Base : Type 0} (stands : D → Base → List (Option (A × B)) → Type 0) where
  -- the desk that stepped stands for all turns and this one
  pub stands_on : (m m' m'' : Me (Option D) (View D A B)) (turn : Option (A × B)) (next : D) (due : Due stands m m') → m''.0 ≡ m'.0
      → ((base : Base) (turns : List (Option (A × B))) → stands due.desk base turns → stands next base (turns ++ turn ∷ []))
      → Stands stands m''.0.known next (after turn m''.0.known).seen
  stands_on m m' m'' turn next due same steps = let k : Known D A B = m'.0.known in
      subst (λ (x : Known D A B). Stands stands x next (after turn x).seen) (sym (ap (λ (v : View D A B). v.known) same))
      (λ base c. subst (stands next base) (sym (plain-append k.seen ((least k.numbers, turn) ∷ []))) (steps base (plain k.seen) (due.stood base (c.0, sym due.same.0 ∙ c.1, c.2))))

  -- some desk stands for all that is seen then
  pub stood_then : (v w k : Known D A B) (turn : Option (A × B)) (next : D) → k.first ≡ v.first → w ≡ after turn k → Stands stands k next (after turn k).seen
      → (base : Base) → Carries stands v base → (desk : D) × stands desk base (plain w.seen)
  stood_then v w k turn next first w_is stood base c = (next, subst (λ (x : Known D A B). stands next base (plain x.seen)) (sym w_is) (stood base (c.0, first ∙ c.1, c.2)))

  -- the turn ends what is seen, and is one more of those under the least number
  pub visits : (v w : Known D A B) (m m' : Me (Option D) (View D A B)) (turn : Option (A × B)) → m.0.known ≡ v → 0 < length v.numbers → Due stands m m' → w ≡ after turn m'.0.known → Visited turn v w
  visits v w m m' turn before some_number due now = let k : Known D A B = m'.0.known in let u : Known D A B = m.0.known in
      let some_there : 0 < length u.numbers = subst (λ (x : Known D A B). 0 < length x.numbers) (sym before) some_number in
      let m_is : least u.numbers ≡ least k.numbers = ap least (sym due.same.1) in
      let told : Visited turn u (after turn k) = record {
        between = due.begins.0;
        seen = (λ i. due.begins.1 i ++ (least (due.same.1 i), turn) ∷ []);
        own = of-append (least u.numbers) k.seen ((least k.numbers, turn) ∷ [])
            ∙ (λ i. due.own (least u.numbers) (least-in u.numbers some_there) i ++ of-same (least u.numbers) (least k.numbers) turn m_is i);
        others = λ n h ne. of-append n k.seen ((least k.numbers, turn) ∷ [])
            ∙ ((λ i. due.own n h i ++ of-other n (least k.numbers) turn (λ e. ne (e ∙ sym m_is)) i) ∙ append-nil (of n u.seen));
        same = due.same;
      } in subst (λ (x : Known D A B). Visited turn x w) before (subst (λ (x : Known D A B). Visited turn u x) (sym now) told)

module _ {D A B : Type 0} where
  pub joined : (v u k w : Known D A B) → k ≡ record { first = v.first; numbers = v.numbers ++ u.numbers; seen = longer v.seen u.seen } → w ≡ k → Agree k v u → Joined v u w
  joined v u k w k_is w_is a = subst (Joined v u) (sym w_is) record {
    first = (ap (λ (x : Known D A B). x.first) k_is, ap (λ (x : Known D A B). x.first) k_is ∙ a.first);
    numbers = ap (λ (x : Known D A B). x.numbers) k_is;
    seen = ap (λ (x : Known D A B). x.seen) k_is;
    begins = a.begins;
    own = a.own;
    theirs = a.theirs;
  }
