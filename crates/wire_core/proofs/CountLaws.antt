-- A count that rose stays risen.
use Rattle.std.proofs.Common.{◌≡◌, ℕ, ◌≤◌, arith}
use Rattle.wire_core.specs.Counts.{Rose, one_more}

pub Rose-one_more : (before now : ℕ) → now ≡ one_more before → Rose before now
Rose-one_more before now e = omega arith

pub Rose-later : (before then now : ℕ) → Rose before then → then ≤ now → Rose before now
Rose-later before then now rose later = omega arith

pub Rose-earlier : (before then now : ℕ) → before ≤ then → Rose then now → Rose before now
Rose-earlier before then now earlier rose = omega arith
