-- Internal: a block that is made.
use Rattle.std.specs.Prelude.{◌≡◌, ℕ, List, ◌∷◌, Option, Some, None}
use Rattle.std.specs.Borrow.{Bor}
use Rattle.text_commands.specs.Tasks.{ended_text}
use Rattle.journal.specs.Journal.{given_lines, said_line, seal_of, sealed_block}
use Rattle.journal.specs.declared.block.Block.{Block}

-- the lines of a block: one of the input, but at its end, and those that went out
abbrev pub lines_with : Option (Bor (List ℕ)) → List ℕ → List (List ℕ)
lines_with (Some line) given = said_line line.now ∷ given_lines given
lines_with None given = given_lines given

-- the block has these lines and then its seal
pub record IsSealed (block : Block) (key before : List ℕ) (lines : List (List ℕ)) : Type 0 where
  pub text : block.text.items ≡ ended_text (sealed_block key before lines)
  pub seal : block.seal ≡ seal_of key before lines
