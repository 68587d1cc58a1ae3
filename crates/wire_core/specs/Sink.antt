-- What a write to a sink tells.
use Rattle.std.specs.Prelude.{◌≡◌, ℕ, List, take, Option, ⊤}
use Rattle.std.specs.Io.KnownBytes.{append_known}
use Rattle.wire_core.specs.declared.outside.Put.{Put}
use Rattle.wire_core.specs.declared.outside.Put.TheVariants.{Done, Failed}

-- What is written now is what was, and then this text. A sink that doesn't tell it never does.
pub record Appends (before now : Option (List ℕ)) (text : List ℕ) : Type 0 where
  pub after : now ≡ append_known before text

-- the same of the first so many octets of the text
pub record AppendsPrefix (before now : Option (List ℕ)) (text : List ℕ) : Type 0 where
  pub count : ℕ
  pub appends : Appends before now (take count text)

abbrev pub PutFailed : Put → Type 0
PutFailed Done = ⊥
PutFailed Failed = ⊤

-- `Done` wrote the piece, `Failed` a prefix of it
abbrev pub PutWrites : Put → Option (List ℕ) → Option (List ℕ) → List ℕ → Type 0
PutWrites Done before now piece = Appends before now piece
PutWrites Failed before now piece = AppendsPrefix before now piece
