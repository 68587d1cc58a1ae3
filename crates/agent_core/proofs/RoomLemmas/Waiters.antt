-- How many rows wait once the table is changed.
use Rattle.std.proofs.Common.{◌≡◌, ℕ, suc, ◌+◌, ◌≤◌, Bool, true, false, cond, ◌&&◌, List, [], ◌∷◌, ◌++◌, length, filter, find, Option, Some, None, refl, ◌∙◌, ap, arith}
use Rattle.std.proofs.lemmas.Bool.{and_parts}
use Rattle.std.proofs.lemmas.List.{length-append}
use Rattle.std.proofs.lemmas.List.Elements.{filter-append}
use Rattle.pending_table.specs.declared.entry.Entry.{Entry}
use Rattle.pending_table.specs.Table as table
use Rattle.pending_table.specs.Table.{Row, TableParts, update_first}
use Rattle.agent_core.specs.Machine.{table_relinked}
use Rattle.agent_core.proofs.ListLemmas.Lists.{filter-within}
use Rattle.agent_core.proofs.StandingLemmas.Agreeing.{lt-later}

-- a weaker test keeps no fewer
pub filter-fewer : {X : Type 0} (p q : X → Bool) → ((x : X) → q x ≡ true → p x ≡ true) → (xs : List X) → length (filter q xs) ≤ length (filter p xs)
filter-fewer p q implies [] = omega arith
filter-fewer {X} p q implies (x ∷ xs) =
    elim (q x) as (λ b. q x ≡ b → length (cond b (x ∷ filter q xs) (filter q xs)) ≤ length (filter p (x ∷ xs))) [
      | true ↦ (λ e. rw (implies x e) (let h = filter-fewer p q implies xs in omega arith))
      | false ↦ (λ e.
          elim (p x) as (λ c. length (filter q xs) ≤ length (cond c (x ∷ filter p xs) (filter p xs))) [
            | true ↦ (let h = filter-fewer p q implies xs in omega arith)
            | false ↦ filter-fewer p q implies xs
          ])
    ] refl

-- a live one that waits, by the times of a table
abbrev pub awaited : TableParts → ℕ → Row → Bool
awaited t m r = table.is_live_waiting t.patience t.retention m r.1

abbrev pub lasting : TableParts → ℕ → Row → Bool
lasting t m r = table.is_live t.patience t.retention m r.1

pub awaited-lives : (t : TableParts) (m : ℕ) (r : Row) → awaited t m r ≡ true → lasting t m r ≡ true
awaited-lives t m r e = (and_parts _ _ e).0

-- those that wait among the live ones
pub waiting-live : (t : TableParts) (m : ℕ) → filter (awaited t m) (table.live t m) ≡ table.waiting t m
waiting-live t m = filter-within (lasting t m) (awaited t m) (awaited-lives t m) t.entries

-- while time passes
pub waiting-later : (t : TableParts) (m n : ℕ) → m ≤ n → length (table.waiting t n) ≤ length (table.waiting t m)
waiting-later t m n later =
    filter-fewer (awaited t m) (awaited t n) (λ r e.
    let both = and_parts _ _ e in
    let lived : lasting t m r ≡ true = lt-later (table.ends t.patience t.retention r.1.taken r.1.answer) m n later both.0 in
    rw (lived, both.1) refl) t.entries

one-row : (t : TableParts) (m : ℕ) (r : Row) → length (filter (awaited t m) (r ∷ [])) ≤ 1
one-row t m r = elim (awaited t m r) as (λ b. length (cond b (r ∷ []) []) ≤ 1) [
  | true ↦ omega arith
  | false ↦ omega arith
]

-- one more row
pub waiting-more : (t : TableParts) (m : ℕ) (r : Row) → length (table.waiting (record t { entries = table.live t m ++ r ∷ [] }) m) ≤ length (table.waiting t m) + 1
waiting-more t m r =
    let split : length (filter (awaited t m) (table.live t m ++ r ∷ [])) ≡ length (filter (awaited t m) (table.live t m)) + length (filter (awaited t m) (r ∷ [])) = ap length (filter-append (awaited t m) (table.live t m) (r ∷ [])) ∙ length-append (filter (awaited t m) (table.live t m)) (filter (awaited t m) (r ∷ [])) in
    let same : length (filter (awaited t m) (table.live t m)) ≡ length (table.waiting t m) = ap length (waiting-live t m) in
    let one = one-row t m r in
    omega arith

-- another link and other numbers
numbered-count : (t : TableParts) (m link n : ℕ) (rs : List Row) → length (filter (awaited t m) (table.numbered (table.is_live_waiting t.patience t.retention m) link n rs)) ≡ length (filter (awaited t m) rs)
numbered-count t m link n [] = refl
numbered-count t m link n (r ∷ rs) =
    elim (awaited t m r) as (λ b. awaited t m r ≡ b → length (filter (awaited t m) (table.numbered (table.is_live_waiting t.patience t.retention m) link n (r ∷ rs))) ≡ length (filter (awaited t m) (r ∷ rs))) [
      | true ↦ (λ e. rw e (rw e (ap suc (numbered-count t m link (n + 1) rs))))
      | false ↦ (λ e. rw e (rw e (numbered-count t m link n rs)))
    ] refl

pub waiting-relinked : (t : TableParts) (number m : ℕ) → length (table.waiting (table_relinked t number m) m) ≡ length (table.waiting t m)
waiting-relinked t number m = numbered-count t m number 0 (table.live t m) ∙ ap length (waiting-live t m)

-- one has its answer
settled-count : (w n : Entry → Bool) (f : Entry → Entry) → ((e : Entry) → w (f e) ≡ false) → (rs : List Row) (r : Row) → find (λ s. n s.1) (filter (λ s. w s.1) rs) ≡ Some r → length (filter (λ s. w s.1) (update_first (λ e. w e && n e) f rs)) + 1 ≡ length (filter (λ s. w s.1) rs)
settled-count w n f gone [] r found = absurd (cc)
settled-count w n f gone (s ∷ rs) r found =
    elim (w s.1) as (λ b. w s.1 ≡ b → find (λ x. n x.1) (cond b (s ∷ filter (λ x. w x.1) rs) (filter (λ x. w x.1) rs)) ≡ Some r → length (filter (λ x. w x.1) (cond (b && n s.1) ((s.0, f s.1) ∷ rs) (s ∷ update_first (λ e. w e && n e) f rs))) + 1 ≡ length (cond b (s ∷ filter (λ x. w x.1) rs) (filter (λ x. w x.1) rs))) [
      | true ↦ (λ e.
          elim (n s.1) as (λ c. cond c (Some s) (find (λ x. n x.1) (filter (λ x. w x.1) rs)) ≡ Some r → length (filter (λ x. w x.1) (cond c ((s.0, f s.1) ∷ rs) (s ∷ update_first (λ e. w e && n e) f rs))) + 1 ≡ length (s ∷ filter (λ x. w x.1) rs)) [
            | true ↦ (λ g. rw (gone s.1) (omega arith))
            | false ↦ (λ g. rw e (let h = settled-count w n f gone rs r g in omega arith))
          ])
      | false ↦ (λ e g. rw e (settled-count w n f gone rs r g))
    ] refl found

answered-waits-not : (b : Bool) (at : ℕ) (reply : Option (List ℕ)) → (b && table.is_waiting (table.answer_of at reply)) ≡ false
answered-waits-not true at (Some octets) = refl
answered-waits-not false at (Some octets) = refl
answered-waits-not true at None = refl
answered-waits-not false at None = refl

pub waiting-settled : (t : TableParts) (link number m : ℕ) (reply : Option (List ℕ)) (r : Row) → table.find_number t link number m ≡ Some r → length (table.waiting (record t { entries = table.settled t link number m reply }) m) + 1 ≡ length (table.waiting t m)
waiting-settled t link number m reply r found =
    settled-count (table.is_live_waiting t.patience t.retention m) (table.has_number link number) (λ e. record e { answer = table.answer_of m reply })
    (λ e. answered-waits-not (table.is_live t.patience t.retention m (record e { answer = table.answer_of m reply })) m reply) t.entries r found
