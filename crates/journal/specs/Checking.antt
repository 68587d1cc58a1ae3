-- Internal: a journal's lines as they are checked, one after another.
use Rattle.std.specs.Prelude.{ℕ, Bool, ◌==◌, nat_lt, ◌||◌, not, List, [], ◌∷◌, ◌++◌, length, drop, codes, Option, Some, None, Result, Ok, Err, if◌then◌else◌}
use Rattle.std.specs.List.{starts_with}
use Rattle.std.specs.Str.{bytes_eq}
use Rattle.wire_core.specs.Counts.{one_more}
use Rattle.text_lines.specs.Stops.{Bad}
use Rattle.text_commands.specs.Tasks.{Task}
use Rattle.journal.specs.Verdicts.{verdict_text}
use Rattle.journal.specs.declared.verdict.Verdict.{Verdict}
use Rattle.journal.specs.declared.verdict.Verdict.TheVariants.{Yes, No}
use Rattle.journal.specs.Journal.{added, block_of, end_block, given_lines, no_seal, seal_line, seal_of, title}

-- what the lines so far are
pub data Seen : Type 0 where
  -- none
  Nothing : Seen
  -- the title and the blocks of these lines, the last one with this seal
  Blocks : List (List ℕ) → List ℕ → Seen
  -- the same, but for these lines of the last block
  Within : List (List ℕ) → List ℕ → List ℕ → List (List ℕ) → Seen
  -- the same and of the block at the end all but these
  Ending : List (List ℕ) → List ℕ → List (List ℕ) → Seen
  -- a journal
  Whole : List (List ℕ) → Seen

abbrev pub within : List (List ℕ) → List ℕ → List (List ℕ) → Seen
within lines seal [] = Blocks lines seal
within lines seal (due ∷ more) = Within lines seal due more

abbrev pub ending : List (List ℕ) → List (List ℕ) → Seen
ending lines [] = Whole lines
ending lines (due ∷ more) = Ending lines due more

-- ---- marks

abbrev pub begins_with : List ℕ → List ℕ → Bool
begins_with mark line = starts_with (λ x y. x == y) line mark

abbrev pub is_said : List ℕ → Bool
is_said line = begins_with (codes "< ") line

abbrev pub is_given : List ℕ → Bool
is_given line = begins_with (codes "> ") line

abbrev pub is_marked : List ℕ → Bool
is_marked line = is_said line || is_given line || begins_with (codes "= ") line

-- why a line isn't the one that is due
abbrev pub reason_of : List ℕ → List ℕ → ℕ
reason_of due line =
    if nat_lt 140100 (length line) || not (is_marked line) then 1 else if is_given line || is_given due then 2 else 3

-- ---- one line

-- what follows where the line is the one that is due
abbrev pub due_step : Seen → List ℕ → List ℕ → Result Seen ℕ
due_step next due line = if bytes_eq line due then Ok next else Err (reason_of due line)

-- the lines of a block and its seal are due behind its first line
abbrev pub said_step : Task → List ℕ → List (List ℕ) → List ℕ → List ℕ → Option Bad → Result Seen ℕ
said_step task key lines seal said (Some bad) = Err 1
said_step task key lines seal said None =
    let next = seal_of key seal (block_of task lines said) in
    Ok (within (lines ++ said ∷ []) next (given_lines (added task lines said) ++ seal_line next ∷ []))

-- the last block and its seal are due
abbrev pub end_step : List (List ℕ) → List (List ℕ) → List ℕ → Result Seen ℕ
end_step lines [] line = Err 3
end_step lines (due ∷ more) line = due_step (ending lines more) due line

abbrev pub end_lines : Task → List ℕ → List (List ℕ) → List ℕ → List (List ℕ)
end_lines task key lines seal = end_block task lines ++ seal_line (seal_of key seal (end_block task lines)) ∷ []

abbrev pub block_step : Task → List ℕ → List (List ℕ) → List ℕ → List ℕ → Result Seen ℕ
block_step task key lines seal line =
    if is_said line then said_step task key lines seal (drop 2 line) (task.stop (lines ++ drop 2 line ∷ []))
    else end_step lines (end_lines task key lines seal) line

abbrev pub step : Task → List ℕ → Seen → List ℕ → Result Seen ℕ
step task key Nothing line = if bytes_eq line title then Ok (Blocks [] no_seal) else Err 1
step task key (Blocks lines seal) line = block_step task key lines seal line
step task key (Within lines seal due more) line = due_step (within lines seal more) due line
step task key (Ending lines due more) line = due_step (ending lines more) due line
step task key (Whole lines) line = Err 1

-- ---- all lines

-- what the lines are, up to the first that isn't the journal's
pub record Checked : Type 0 where
  pub seen : Seen
  pub stop : Option Bad

abbrev pub checked_on : ℕ → Seen → Result Seen ℕ → (Seen → Checked) → Checked
checked_on before seen (Err reason) others = record { seen = seen; stop = Some (record { line = one_more before; reason = reason }) }
checked_on before seen (Ok next) others = others next

-- so many lines came before
abbrev pub checked_from : Task → List ℕ → ℕ → Seen → List (List ℕ) → Checked
checked_from task key before seen [] = record { seen = seen; stop = None }
checked_from task key before seen (line ∷ lines) =
    checked_on before seen (step task key seen line) (λ next. checked_from task key (one_more before) next lines)

abbrev pub checked : Task → List ℕ → List (List ℕ) → Checked
checked task key lines = checked_from task key 0 Nothing lines

-- how many lines there are. A count stands still at its end.
abbrev pub count_after : ℕ → List (List ℕ) → ℕ
count_after before [] = before
count_after before (line ∷ lines) = count_after (one_more before) lines

-- the verdict where no line follows, and the next one would have this number
abbrev pub verdict_at : ℕ → Seen → Verdict
verdict_at number (Whole lines) = Yes (count_after 0 lines)
verdict_at number seen = No number 4

-- a check prints nothing but its verdict
abbrev pub check_task : Task → List ℕ → Task
check_task task key = record {
  longest = 140100;
  stop = λ lines. (checked task key lines).stop;
  text = λ lines. [];
  close = λ lines. verdict_text (verdict_at (one_more (count_after 0 lines)) (checked task key lines).seen);
}
