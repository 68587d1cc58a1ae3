-- What goes through a queue from its sender to its recorder.
use Rattle.std.proofs.Common.{◌≡◌, ◌≢◌, ℕ, List, [], ◌∷◌, ◌++◌, Some, None, refl, sym, ap, ◌∙◌, subst, inl, inr, append_assoc, append-nil, arith}
use Rattle.std.proofs.lemmas.Grind.{flat_map-append}
use Rattle.std.proofs.lemmas.List.{flat_map_more}
use Rattle.atomic_table.specs.Seated.{TableId}
use Rattle.turnstile.specs.declared.view.Known.{Known}
use Rattle.turnstile.specs.Knowing.{Carries, Joined}
use Rattle.turnstile.specs.Passes.{known, table_of}
use Rattle.turnstile.specs.Turns.{In, Numbered, StartsWith, least, of, plain}
use Rattle.run_record.specs.declared.entry.Entry.{Entry}
use Rattle.run_record.specs.declared.entry.Entries.{Entries}
use Rattle.run_record.specs.declared.queue.Asked.{Asked}
use Rattle.run_record.specs.declared.queue.Asked.TheVariants.{Take, Stop}
use Rattle.run_record.specs.declared.queue.Given.{Given}
use Rattle.run_record.specs.declared.queue.Queue.{Queue}
use Rattle.run_record.specs.Queues.{HoldsFor, put_at, puts, stop_at, stops, taken_at, takes}
use Rattle.run_record.specs.Recordings.{Asks, IsSender, IsSpent, QueuePass, Records}
use Rattle.run_record.proofs.QueueLemmas.{found-first, found-last, no-back, no-front, none-of}

abbrev QueueKnown : Type 0
QueueKnown = Known Queue Asked Given

-- ---- the sender

-- a turn of the sender
pub sent-own : (asked : Asked) (given : Given) (k l : QueueKnown) → k.numbers ≡ 0 ∷ 1 ∷ 2 ∷ [] → Asks asked given k l
    → of 0 l.seen ≡ of 0 k.seen ++ Some (asked, given) ∷ []
sent-own asked given k l numbers asks =
    let first : least k.numbers ≡ 0 = ap least numbers in
    subst (λ n. of n l.seen ≡ of n k.seen ++ Some (asked, given) ∷ []) first asks.own

sent-other : (n : ℕ) (asked : Asked) (given : Given) (k l : QueueKnown) → k.numbers ≡ 0 ∷ 1 ∷ 2 ∷ [] → Asks asked given k l
    → In n (0 ∷ 1 ∷ 2 ∷ []) → n ≢ 0 → of n k.seen ≡ [] → of n l.seen ≡ []
sent-other n asked given k l numbers asks inside other none =
    let first : least k.numbers ≡ 0 = ap least numbers in
    asks.others n (subst (λ ns. In n ns) (sym numbers) inside) (λ e. other (e ∙ first)) ∙ none

pub sender-on : (queue : TableId) (pass pass' : QueuePass) (asked : Asked) (given : Given) → taken_at (Some (asked, given)) ≡ []
    → table_of pass' ≡ table_of pass → Asks asked given (known pass) (known pass') → IsSender queue pass → IsSender queue pass'
sender-on queue pass pass' asked given none table asks s =
    record {
      table = table ∙ s.table;
      numbers = asks.same.1 ∙ s.numbers;
      carries = (s.carries.0, asks.same.0 ∙ s.carries.1, s.carries.2);
      takes =
          ap takes (sent-own asked given (known pass) (known pass') s.numbers asks) ∙ flat_map-append taken_at (of 0 (known pass).seen) (Some (asked, given) ∷ [])
          ∙ ap (λ xs. xs ++ (taken_at (Some (asked, given)) ++ [])) s.takes ∙ ap (λ xs. xs ++ []) none;
      unused = (
        sent-other 1 asked given (known pass) (known pass') s.numbers asks (inr (inl refl)) (λ e. omega (arith, e)) s.unused.0,
        sent-other 2 asked given (known pass) (known pass') s.numbers asks (inr (inr (inl refl))) (λ e. omega (arith, e)) s.unused.1,
      );
    }

-- what it was given is what was put in
pub told-on : (asked : Asked) (given : Given) (k l : QueueKnown) → k.numbers ≡ 0 ∷ 1 ∷ 2 ∷ [] → Asks asked given k l
    → puts (of 0 l.seen) ≡ puts (of 0 k.seen) ++ put_at (Some (asked, given))
told-on asked given k l numbers asks =
    ap puts (sent-own asked given k l numbers asks) ∙ sym (flat_map_more put_at [] (of 0 k.seen) (Some (asked, given)))

-- ---- the recorder

module _ {E Base : Type 0} (stands : E → Base → List Entry → Type 0) (faults : E → ℕ) where
  pub records-none : (k : QueueKnown) (w : E) → Records stands faults k k w w
  records-none k w = record {
    mine = [];
    own = sym (append-nil (of (least k.numbers) k.seen));
    numbers = refl;
    all = λ base es s. subst (stands w base) (sym (append-nil es)) s;
    puts = refl;
    sound = λ none. refl;
  }

  pub records-on : (k l m : QueueKnown) (w v u : E) → Records stands faults k l w v → Records stands faults l m v u → Records stands faults k m w u
  records-on k l m w v u r s =
      let same : least l.numbers ≡ least k.numbers = ap least r.numbers in
      let own : of (least k.numbers) m.seen ≡ of (least k.numbers) l.seen ++ s.mine =
      subst (λ n. of n m.seen ≡ of n l.seen ++ s.mine) same s.own in
      record {
        mine = r.mine ++ s.mine;
        own = own ∙ ap (λ xs. xs ++ s.mine) r.own ∙ append_assoc (of (least k.numbers) k.seen) r.mine s.mine;
        numbers = s.numbers ∙ r.numbers;
        all = λ base es stood.
            subst (stands u base) (append_assoc es (takes r.mine) (takes s.mine) ∙ ap (λ xs. es ++ xs) (sym (flat_map-append taken_at r.mine s.mine)))
            (s.all base (es ++ takes r.mine) (r.all base es stood));
        puts = flat_map-append put_at r.mine s.mine ∙ ap (λ xs. xs ++ puts s.mine) r.puts ∙ s.puts;
        sound = λ none.
            let split : stops r.mine ++ stops s.mine ≡ [] = sym (flat_map-append stop_at r.mine s.mine) ∙ none in
            s.sound (no-back (stops r.mine) (stops s.mine) split) ∙ r.sound (no-front (stops r.mine) (stops s.mine) split);
      }

  -- what was taken was given to the writer, and no write failed
  pub records-take : (room : Entries) (given : Given) (k l : QueueKnown) (w v : E) → Asks (Take room) given k l → faults v ≡ faults w
      → ((base : Base) (es : List Entry) → stands w base es → stands v base (es ++ given.entries)) → Records stands faults k l w v
  records-take room given k l w v asks sound wrote = record {
    mine = Some (Take room, given) ∷ [];
    own = asks.own;
    numbers = asks.same.1;
    all = λ base es stood. subst (λ xs. stands v base (es ++ xs)) (sym (append-nil given.entries)) (wrote base es stood);
    puts = refl;
    sound = λ none. sound;
  }

  -- nothing was there to take
  pub records-rest : (room : Entries) (given : Given) (k l : QueueKnown) (w v : E) → Asks (Take room) given k l → given.entries ≡ [] → faults v ≡ faults w
      → ((base : Base) (es : List Entry) → stands w base es → stands v base es) → Records stands faults k l w v
  records-rest room given k l w v asks none sound rested =
      records-take room given k l w v asks sound
      (λ base es stood. subst (stands v base) (sym (ap (λ xs. es ++ xs) none ∙ append-nil es)) (rested base es stood))

  -- the last write failed, and nothing more is to be kept
  pub records-stop : (room : Entries) (given given' : Given) (moment : ℕ) (k l m : QueueKnown) (w v : E) → Asks (Take room) given k l → Asks (Stop moment) given' l m
      → ((base : Base) (es : List Entry) → stands w base es → stands v base (es ++ given.entries)) → Records stands faults k m w v
  records-stop room given given' moment k l m w v asks stop wrote =
      let same : least l.numbers ≡ least k.numbers = ap least asks.same.1 in
      let own : of (least k.numbers) m.seen ≡ of (least k.numbers) l.seen ++ Some (Stop moment, given') ∷ [] =
      subst (λ n. of n m.seen ≡ of n l.seen ++ Some (Stop moment, given') ∷ []) same stop.own in
      record {
        mine = Some (Take room, given) ∷ Some (Stop moment, given') ∷ [];
        own = own ∙ ap (λ xs. xs ++ Some (Stop moment, given') ∷ []) asks.own
            ∙ append_assoc (of (least k.numbers) k.seen) (Some (Take room, given) ∷ []) (Some (Stop moment, given') ∷ []);
        numbers = stop.same.1 ∙ asks.same.1;
        all = λ base es stood. subst (λ xs. stands v base (es ++ xs)) (sym (append-nil given.entries)) (wrote base es stood);
        puts = refl;
        sound = λ none. cc;
      }

  -- of a recorder that has taken no turn before
  module _ (k l : QueueKnown) (w v : E) (numbers : k.numbers ≡ 3 ∷ []) (unused : of 3 k.seen ≡ []) (r : Records stands faults k l w v) where
    mine-is : of 3 l.seen ≡ r.mine
    mine-is = let only : least k.numbers ≡ 3 = ap least numbers in subst (λ n. of n l.seen ≡ of n k.seen ++ r.mine) only r.own ∙ ap (λ xs. xs ++ r.mine) unused

    pub nothing-put : puts (of 3 l.seen) ≡ []
    nothing-put = ap puts mine-is ∙ r.puts

    pub sound-taken : stops (of 3 l.seen) ≡ [] → faults v ≡ faults w
    sound-taken none = r.sound (sym (ap stops mine-is) ∙ none)

    pub all-taken : (base : Base) (es : List Entry) → stands w base es → stands v base (es ++ takes (of 3 l.seen))
    all-taken base es stood = subst (λ ts. stands v base (es ++ takes ts)) (sym mine-is) (r.all base es stood)

-- ---- the end

module _ (queue table : TableId) (pass theirs : QueuePass) (joined : QueueKnown) (s : IsSender queue pass) (spent : IsSpent table theirs)
    (j : Joined (known pass) (known theirs) joined) where
  own-is : (n : ℕ) → In n (0 ∷ 1 ∷ 2 ∷ []) → of n joined.seen ≡ of n (known pass).seen
  own-is n inside = j.own n (subst (λ ns. In n ns) (sym s.numbers) inside)

  theirs-is : of 3 joined.seen ≡ of 3 (known theirs).seen
  theirs-is = j.theirs 3 (subst (λ ns. In 3 ns) (sym spent.numbers) (inl refl))

  unused-is : (of 1 joined.seen ≡ []) × (of 2 joined.seen ≡ [])
  unused-is = (own-is 1 (inr (inl refl)) ∙ s.unused.0, own-is 2 (inr (inr (inl refl))) ∙ s.unused.1)

  pub all-numbers : joined.numbers ≡ 0 ∷ 1 ∷ 2 ∷ 3 ∷ []
  all-numbers = j.numbers ∙ ap (λ xs. xs ++ (known theirs).numbers) s.numbers ∙ ap (λ xs. 0 ∷ 1 ∷ 2 ∷ xs) spent.numbers

  pub still-carries : Carries (λ (queue : Queue) (base : Unit {0}) turns. HoldsFor queue turns) joined tt
  still-carries = (s.carries.0, j.first.0 ∙ s.carries.1, s.carries.2)

  all-puts : Numbered joined.seen → puts (plain joined.seen) ≡ puts (of 0 (known pass).seen)
  all-puts numbered =
      found-first put_at joined.seen numbered unused-is.0 unused-is.1 (ap puts theirs-is ∙ spent.puts) ∙ ap puts (own-is 0 (inl refl))

  all-takes : Numbered joined.seen → takes (plain joined.seen) ≡ takes (of 3 (known theirs).seen)
  all-takes numbered =
      found-last taken_at joined.seen numbered unused-is.0 unused-is.1 (ap takes (own-is 0 (inl refl)) ∙ s.takes) ∙ ap takes theirs-is

  pub taken-begins : (desk : Queue) → Numbered joined.seen → HoldsFor desk (plain joined.seen)
      → StartsWith (puts (of 0 (known pass).seen)) (takes (of 3 (known theirs).seen))
  taken-begins desk numbered h =
      let (rest, whole) = h.begins in (
        desk.entries ++ rest,
        sym (all-puts numbered) ∙ whole ∙ append_assoc (takes (plain joined.seen)) desk.entries rest ∙ ap (λ xs. xs ++ (desk.entries ++ rest)) (all-takes numbered),
      )

  pub taken-whole : (desk : Queue) → Numbered joined.seen → HoldsFor desk (plain joined.seen) → desk.closed ≡ None → desk.entries ≡ []
      → puts (of 0 (known pass).seen) ≡ takes (of 3 (known theirs).seen)
  taken-whole desk numbered h closed empty =
      sym (all-puts numbered) ∙ sym (h.whole closed) ∙ ap (λ xs. takes (plain joined.seen) ++ xs) empty ∙ append-nil (takes (plain joined.seen)) ∙ all-takes numbered

  pub taken-unstopped : (desk : Queue) → HoldsFor desk (plain joined.seen) → desk.closed ≡ None → stops (of 3 (known theirs).seen) ≡ []
  taken-unstopped desk h closed = sym (ap stops theirs-is) ∙ none-of stop_at 3 joined.seen (h.unstopped closed)
