-- What a dialer tells.
use Rattle.std.specs.Prelude.{◌≡◌, ℕ, Option, Some, None, IsNone}
use Rattle.wire_core.specs.Counts.{Counts}
use Rattle.wire_devices.specs.Sockets.{next_row}

-- the dials that gave no link, and those since the last one that did, counted up to 16
pub record Dials : Type 0 where
  pub faults : ℕ
  pub row : ℕ

-- what a dialer tells, and how many links it made
pub record DialCounts : Type 0 where
  pub told : Dials
  pub made : ℕ

abbrev pub no_dials : DialCounts
no_dials = record { told = record { faults = 0; row = 0 }; made = 0 }

abbrev pub row_after : {A : Type 0} → Option A → ℕ → ℕ
row_after None row = next_row row
row_after (Some x) row = 0

pub record Dialled {A : Type 0} (link : Option A) (before now : Dials) : Type 0 where
  pub row : now.row ≡ row_after link before.row
  pub faults : Counts (IsNone link) before.faults now.faults
