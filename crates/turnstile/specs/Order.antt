-- The rule of the table, and what each step tells. Word 0 counts the tickets drawn and word 1 the turns taken, both
-- modulo 2^64. Slot 0 has the desk.
use Rattle.std.specs.Prelude.{◌≡◌, ◌≢◌, ℕ, ◌+◌, ◌%◌, ◌^◌, ◌<◌, ◌≤◌, ◌⊎◌, List, [], ◌∷◌, ◌++◌, length, Option, Some, None}
use mathlib.Core.Option.{some, none}
use mathlib.Core.Option as maybe
use lib.ListN.{get_elem?}
use Rattle.atomic_table.specs.Table.{State, Me, Step}
use Rattle.atomic_table.specs.declared.shared.Seat.{Seat}
use Rattle.turnstile.specs.declared.view.Known.{Known}
use Rattle.turnstile.specs.declared.view.View.{View}
use Rattle.turnstile.specs.declared.view.Stage.{Stage}
use Rattle.turnstile.specs.declared.view.Stage.TheVariants.{Idle, Waits, Serves}
use Rattle.turnstile.specs.Turns.{Turn, StartsWith, longer, In, Distinct, least, of, plain, Numbered}
use Rattle.turnstile.specs.Knowing.{Stands}

-- how many tickets a seat has
abbrev pub tickets : Stage → ℕ
tickets Idle = 0
tickets (Waits t) = 1
tickets (Serves t) = 1

abbrev pub HasTicket : Stage → ℕ → Type 0
HasTicket Idle t = ⊥
HasTicket (Waits s) t = s ≡ t
HasTicket (Serves s) t = s ≡ t

abbrev pub total : {V : Type 0} → (V → ℕ) → List V → ℕ
total f [] = 0
total f (v ∷ vs) = f v + total f vs

module _ {A B : Type 0} where
  -- a ticket is one of those that were drawn and not used up; who serves has seen all turns
  abbrev pub AtStage : List (Turn A B) → ℕ → List (Turn A B) → Stage → Type 0
  AtStage all drawn seen Idle = Unit {0}
  AtStage all drawn seen (Waits t) = (length all ≤ t) × (t < drawn)
  AtStage all drawn seen (Serves t) = (length all ≡ t) × (t < drawn) × (seen ≡ all)

module _ {D A B : Type 0} where
  abbrev pub waiting : View D A B → ℕ
  waiting v = tickets v.stage

  abbrev pub holding : View D A B → ℕ
  holding v = length v.known.numbers

  abbrev pub idle : Known D A B → View D A B
  idle k = record { known = k; told = []; stage = Idle }

  -- the view of a seat that was given up in a join
  abbrev pub spent : View D A B
  spent = idle (record { first = None; numbers = []; seen = [] })

  -- what was known stays true: it begins all turns, and has all that were taken under its numbers
  pub record StaysTrue (first : D) (all : List (Turn A B)) (k : Known D A B) : Type 0 where
    pub from : 0 < length k.numbers → k.first ≡ Some first
    pub begins : StartsWith all k.seen
    pub own : (n : ℕ) → In n k.numbers → of n k.seen ≡ of n all

  -- what was known by passes that were joined, whose numbers are now this seat's
  abbrev pub JoinedStayTrue : D → List (Turn A B) → List ℕ → List (Known D A B) → Type 0
  JoinedStayTrue first all numbers [] = Unit {0}
  JoinedStayTrue first all numbers (k ∷ ks) = StaysTrue first all k × ((n : ℕ) → In n k.numbers → In n numbers) × JoinedStayTrue first all numbers ks

  -- each seat but one that was given up has at least one number
  pub record Fits (first : D) (all : List (Turn A B)) (drawn : ℕ) (v : View D A B) : Type 0 where
    pub holds : StaysTrue first all v.known
    pub some_number : (v ≡ spent) ⊎ (0 < length v.known.numbers)
    pub ticketed : tickets v.stage ≤ length v.known.numbers
    pub distinct : Distinct v.known.numbers
    pub below : (n : ℕ) → In n v.known.numbers → n < 4
    pub told : JoinedStayTrue first all v.known.numbers v.told
    pub staged : AtStage all drawn v.known.seen v.stage

  -- two seats share no number and no ticket
  pub record Apart (v w : View D A B) : Type 0 where
    pub numbers : (n : ℕ) → In n v.known.numbers → In n w.known.numbers → ⊥
    pub stages : (t : ℕ) → HasTicket v.stage t → HasTicket w.stage t → ⊥

  -- some seat with numbers has seen all turns
  abbrev pub Longest : List (Turn A B) → List (View D A B) → Type 0
  Longest all views = (i : ℕ) × (v : View D A B) × (get_elem? views i ≡ some v) × (0 < length v.known.numbers) × (v.known.seen ≡ all)

module _ {D A B Base : Type 0} (stands : D → Base → List (Option (A × B)) → Type 0) where
  abbrev pub StandsAfter : D → List (Turn A B) → D → Type 0
  StandsAfter first all desk = (base : Base) → stands first base [] → stands desk base (plain all)

  -- the slot has the desk, which stands for all turns; or a seat serves, and it is out
  abbrev pub InSlot : D → List (Turn A B) → List (View D A B) → maybe.Option (Option D) → Type 0
  InSlot first all views (some y) = (desk : D) × (y ≡ Some desk) × StandsAfter first all desk
  InSlot first all views none = (i : ℕ) × (v : View D A B) × (get_elem? views i ≡ some v) × (v.stage ≡ Serves (length all))

  pub record TurnsInOrder (first : D) (s : State (Option D) (View D A B)) : Type 0 where
    pub all : List (Turn A B)
    pub drawn : ℕ
    pub slot : maybe.Option (Option D)
    pub words : s.words ≡ drawn % 2 ^ 64 ∷ length all % 2 ^ 64 ∷ []
    pub homes : s.homes ≡ slot ∷ []
    pub out : length all + total waiting s.views ≡ drawn
    pub four : total holding s.views ≡ 4
    pub fits : (i : ℕ) (v : View D A B) → get_elem? s.views i ≡ some v → Fits first all drawn v
    pub apart : (i j : ℕ) (v w : View D A B) → get_elem? s.views i ≡ some v → get_elem? s.views j ≡ some w → i ≢ j → Apart v w
    pub longest : Longest all s.views
    pub numbered : Numbered all
    pub there : InSlot first all s.views slot

  -- the seat's turn has come: it has seen all turns, and has the desk, which stands for them
  pub record Due (m m' : Me (Option D) (View D A B)) : Type 0 where
    pub desk : D
    pub ticket : ℕ
    pub hand : m'.1 ≡ (0, Some desk) ∷ []
    pub stage : m'.0.stage ≡ Serves ticket
    pub told : m'.0.told ≡ []
    pub same : (m'.0.known.first ≡ m.0.known.first) × (m'.0.known.numbers ≡ m.0.known.numbers)
    pub begins : StartsWith m'.0.known.seen m.0.known.seen
    pub own : (n : ℕ) → In n m.0.known.numbers → of n m'.0.known.seen ≡ of n m.0.known.seen
    pub stood : Stands stands m.0.known desk m'.0.known.seen

  -- at a look: the seat's turn has come where the word is its ticket's, and else nothing changed
  abbrev pub looked : Step (Option D) → Me (Option D) (View D A B) → ℕ → Me (Option D) (View D A B) → Type 0
  looked st m n m' = (t : ℕ) → m.0.stage ≡ Waits t → (n ≡ t % 2 ^ 64 → Due m m') × (n ≢ t % 2 ^ 64 → m' ≡ m)

  -- the seat with all numbers is always due, and had seen all turns
  abbrev pub finished : Step (Option D) → Me (Option D) (View D A B) → ℕ → Me (Option D) (View D A B) → Type 0
  finished st m n m' = (m'.0.known.seen ≡ m.0.known.seen) × Numbered m.0.known.seen × ((desk : D) × (m'.1 ≡ (0, Some desk) ∷ []) × Stands stands m.0.known desk m.0.known.seen)

module _ {D A B : Type 0} where
  -- the seat has the ticket that the word counted
  abbrev pub drew : Step (Option D) → Me (Option D) (View D A B) → ℕ → Me (Option D) (View D A B) → Type 0
  drew st m n m' = (t : ℕ) × (n ≡ t % 2 ^ 64) × (m'.0 ≡ record m.0 { stage = Waits t }) × (m'.1 ≡ m.1)

  abbrev pub after : Option (A × B) → Known D A B → Known D A B
  after turn k = record k { seen = k.seen ++ (least k.numbers, turn) ∷ [] }

  -- the turn was added, the ticket is used up, and the desk was given back
  abbrev pub raised : Option (A × B) → Step (Option D) → Me (Option D) (View D A B) → ℕ → Me (Option D) (View D A B) → Type 0
  raised turn st m n m' = (m'.0 ≡ idle (after turn m.0.known)) × (m'.1 ≡ [])

  abbrev pub both : View D A B → View D A B → View D A B
  both v u = record {
    known = record { first = v.known.first; numbers = v.known.numbers ++ u.known.numbers; seen = longer v.known.seen u.known.seen };
    told = v.known ∷ u.known ∷ [];
    stage = Idle;
  }

  -- two pasts that were told begin what is seen, and have all that it has under their numbers
  pub record Agree (k v u : Known D A B) : Type 0 where
    pub first : v.first ≡ u.first
    pub begins : StartsWith k.seen v.seen × StartsWith k.seen u.seen
    pub own : (n : ℕ) → In n v.numbers → of n k.seen ≡ of n v.seen
    pub theirs : (n : ℕ) → In n u.numbers → of n k.seen ≡ of n u.seen

  abbrev pub learned : Step (Option D) → Me (Option D) (View D A B) → ℕ → Me (Option D) (View D A B) → Type 0
  learned st m n m' = (m' ≡ (idle m.0.known, []))
      × ((v u : Known D A B) → m.0.told ≡ v ∷ u ∷ [] → 0 < length v.numbers → 0 < length u.numbers → m.0.known.seen ≡ longer v.seen u.seen → Agree m.0.known v u)

  -- a seat between two calls
  abbrev pub Rests : Seat (Option D) (View D A B) → Type 0
  Rests s = (s.me.0.stage ≡ Idle) × (s.me.0.told ≡ []) × (s.me.1 ≡ []) × (0 < length s.me.0.known.numbers)

  abbrev pub AtTicket : Seat (Option D) (View D A B) → ℕ → Type 0
  AtTicket s n = (t : ℕ) × (s.me.0.stage ≡ Waits t) × (n ≡ t % 2 ^ 64)
