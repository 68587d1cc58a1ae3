-- The sources and sinks as contracts see them.
use Rattle.std.specs.Prelude.{ℕ, ◌==◌, min, Bool, List, [], ◌∷◌, length, if◌then◌else◌}
use Rattle.std.specs.List.{list_any}
use Rattle.wire_core.specs.declared.outside.Got.{Got}
use Rattle.wire_core.specs.declared.outside.Got.TheVariants.{Bytes, End, Failed}

-- a source that never fails: what is still to come, the most that a read gives, how many reads were an end
pub record Steady : Type 0 where
  pub left : List ℕ
  pub piece : ℕ
  pub ends : ℕ

-- the same source with the numbers of the reads that are to fail, counted from 0
pub record Planned : Type 0 where
  pub source : Steady
  pub failing : List ℕ
  pub calls : ℕ
  pub faults : ℕ

-- what was written, for how much there is room without more memory, and which writes are to fail
pub record Writing : Type 0 where
  pub written : List ℕ
  pub room : ℕ
  pub failing : List ℕ
  pub calls : ℕ
  pub faults : ℕ

-- the first octets that a sink was given, as many as there is room for
pub record FirstOctets : Type 0 where
  pub octets : List ℕ
  pub room : ℕ

abbrev pub is_listed : ℕ → List ℕ → Bool
is_listed call failing = list_any (λ n. n == call) failing

-- what a read of a source with this left answers, where there is so much room and a read gives so much at most
abbrev pub next_answer : List ℕ → ℕ → ℕ → Got
next_answer [] piece room = End
next_answer (x ∷ xs) piece room = Bytes (min (min (length (x ∷ xs)) piece) room)

abbrev pub planned_answer : Planned → ℕ → Got
planned_answer s room = if is_listed s.calls s.failing then Failed else next_answer s.source.left s.source.piece room

-- how many reads of a reader failed, and how many were an end
pub record ReaderCounts : Type 0 where
  pub faults : ℕ
  pub ends : ℕ
