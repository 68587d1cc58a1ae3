-- What holds of every generated transcript.
use Rattle.std.specs.Prelude.{◌≡◌, ℕ, ◌≤◌, None}
use Rattle.generated_logins.specs.Generator.{generated_lines}
use Rattle.transcript.specs.Reading.{read_from, start}

-- no line of it is bad
abbrev pub GeneratedLinesAreSound : Type 0
GeneratedLinesAreSound = (count seed : ℕ) → 1 ≤ count → count ≤ 1000000 → (read_from start (generated_lines count seed)).stop ≡ None
