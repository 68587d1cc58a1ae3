-- Where a text of lines can't be gone on with (profile).
use Rattle.std.specs.Prelude.{ℕ}

-- the first bad line of a text, by its number, and the reason
pub record Bad : Type 0 where
  pub line : ℕ
  pub reason : ℕ
