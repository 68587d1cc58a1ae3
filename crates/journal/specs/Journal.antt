-- A journal: each line of an input with what went out for it, sealed (profile).
use Rattle.std.specs.Prelude.{ℕ, List, [], ◌∷◌, ◌++◌, length, drop, map, replicate, codes, Option, Some, None}
use Rattle.hex.specs.Hex.{encode_lower}
use Rattle.hmac_md5.specs.Hmac.{hmac_of}
use Rattle.text_lines.specs.Stops.{Bad}
use Rattle.text_lines.specs.Words.{lines_of}
use Rattle.text_commands.specs.Tasks.{Task, ended_text}

-- ---- the lines of a journal

abbrev pub title : List ℕ
title = codes "journal 1"

-- a line of the input
abbrev pub said_line : List ℕ → List ℕ
said_line line = codes "< " ++ line

-- a line that went out
abbrev pub given_line : List ℕ → List ℕ
given_line line = codes "> " ++ line

abbrev pub given_lines : List ℕ → List (List ℕ)
given_lines text = map given_line (lines_of text)

abbrev pub seal_line : List ℕ → List ℕ
seal_line seal = codes "= " ++ encode_lower seal

-- ---- seals

-- the seal before the first block
abbrev pub no_seal : List ℕ
no_seal = replicate 16 0

-- the HMAC (RFC 2104) of the seal before it and of a block's lines
abbrev pub seal_of : List ℕ → List ℕ → List (List ℕ) → List ℕ
seal_of key before block = hmac_of key (before ++ ended_text block)

-- a block and its seal
abbrev pub sealed_block : List ℕ → List ℕ → List (List ℕ) → List (List ℕ)
sealed_block key before block = block ++ seal_line (seal_of key before block) ∷ []

-- blocks one after another, each with its seal
abbrev pub sealed : List ℕ → List ℕ → List (List (List ℕ)) → List (List ℕ)
sealed key before [] = []
sealed key before (block ∷ blocks) = sealed_block key before block ++ sealed key (seal_of key before block) blocks

-- the seal of the last one
abbrev pub seal_after : List ℕ → List ℕ → List (List (List ℕ)) → List ℕ
seal_after key before [] = before
seal_after key before (block ∷ blocks) = seal_after key (seal_of key before block) blocks

-- ---- blocks

-- what goes out for a line behind these
abbrev pub added : Task → List (List ℕ) → List ℕ → List ℕ
added task lines line = drop (length (task.text lines)) (task.text (lines ++ line ∷ []))

-- the block of a line behind these
abbrev pub block_of : Task → List (List ℕ) → List ℕ → List (List ℕ)
block_of task lines line = said_line line ∷ given_lines (added task lines line)

-- the last block: what goes out at the end
abbrev pub end_block : Task → List (List ℕ) → List (List ℕ)
end_block task lines = given_lines (task.close lines)

-- a bad line has no block, and none follows
abbrev pub blocks_on : Option Bad → List (List ℕ) → List (List (List ℕ)) → List (List (List ℕ))
blocks_on (Some bad) block others = []
blocks_on None block others = block ∷ others

-- the blocks of lines behind these
abbrev pub blocks_from : Task → List (List ℕ) → List (List ℕ) → List (List (List ℕ))
blocks_from task before [] = []
blocks_from task before (line ∷ lines) =
    blocks_on (task.stop (before ++ line ∷ [])) (block_of task before line) (blocks_from task (before ++ line ∷ []) lines)

abbrev pub blocks_of : Task → List (List ℕ) → List (List (List ℕ))
blocks_of task lines = blocks_from task [] lines

-- ---- the journal of an input of these lines

-- without its last block
abbrev pub journal_part : Task → List ℕ → List (List ℕ) → List (List ℕ)
journal_part task key lines = title ∷ sealed key no_seal (blocks_of task lines)

-- the last seal of that
abbrev pub last_seal : Task → List ℕ → List (List ℕ) → List ℕ
last_seal task key lines = seal_after key no_seal (blocks_of task lines)

abbrev pub journal_lines : Task → List ℕ → List (List ℕ) → List (List ℕ)
journal_lines task key lines = journal_part task key lines ++ sealed_block key (last_seal task key lines) (end_block task lines)

abbrev pub journal_text : Task → List ℕ → List (List ℕ) → List ℕ
journal_text task key lines = ended_text (journal_lines task key lines)
