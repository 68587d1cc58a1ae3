-- Counts of what happened at the outside.
use Rattle.std.specs.Prelude.{◌≡◌, ℕ, ◌+◌, ◌-◌, ◌^◌, ◌≤◌, max, min}

-- One more than a count. A u64's count stands still at its end.
abbrev pub one_more : ℕ → ℕ
one_more n = max n (min (n + 1) (2 ^ 64 - 1))

-- A count rose, once or more often. One that a u64 keeps counts as risen at its end.
abbrev pub Rose : ℕ → ℕ → Type 0
Rose before now = min (before + 1) (2 ^ 64 - 1) ≤ now

-- A call's count of what P says: it rises by one where that happened, stays where it didn't, and never falls.
pub record Counts (P : Type 0) (before now : ℕ) : Type 0 where
  pub rises : P → now ≡ one_more before
  pub stays : ¬ P → now ≡ before
  pub never_falls : before ≤ now
