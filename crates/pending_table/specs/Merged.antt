-- Internal: the two stores of the body, as the one list that contracts see: those that wait and those that were settled, each with a serial number.
use Rattle.std.specs.Prelude.{ℕ, ◌+◌, ◌≤◌, Bool, nat_lt, List, [], ◌∷◌, map, if◌then◌else◌, ⊤}
use Rattle.std.specs.List.{AllByRecursion}
use Rattle.pending_table.specs.declared.entry.Entry.{Entry}
use Rattle.pending_table.specs.Table.{Row}

-- a row and its serial number
abbrev pub Held : Type 0
Held = ℕ × Row

-- with x at its place by serial number
abbrev pub put : Held → List Held → List Held
put x [] = x ∷ []
put x (p ∷ ps) = if nat_lt x.0 p.0 then x ∷ p ∷ ps else p ∷ put x ps

-- the waiting ones, with each settled one at its place
abbrev pub merged : List Held → List Held → List Held
merged ps [] = ps
merged ps (x ∷ xs) = put x (merged ps xs)

-- without the serial numbers
abbrev pub rows : List Held → List Row
rows ps = map (λ p. p.1) ps

-- R holds of each one and each later one
abbrev pub Pairs : {X : Type 0} → (X → X → Type 0) → List X → Type 0
Pairs R [] = ⊤
Pairs R (x ∷ xs) = AllByRecursion (R x) xs × Pairs R xs

-- the serial numbers don't fall
abbrev pub Rising : List Held → Type 0
Rising ps = Pairs (λ p q. p.0 ≤ q.0) ps

-- the first whose entry meets the test, with it changed
abbrev pub changed_first : (Entry → Bool) → (Entry → Entry) → List Held → List Held
changed_first test change [] = []
changed_first test change (p ∷ ps) = if test p.1.1 then (p.0, (p.1.0, change p.1.1)) ∷ ps else p ∷ changed_first test change ps

-- those that meet the test get this link and the numbers from n on
abbrev pub renumbered : (Entry → Bool) → ℕ → ℕ → List Held → List Held
renumbered test link n [] = []
renumbered test link n (p ∷ ps) = if test p.1.1
    then (p.0, (p.1.0, record p.1.1 { link = link; number = n })) ∷ renumbered test link (n + 1) ps
    else p ∷ renumbered test link n ps
