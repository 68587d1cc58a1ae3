-- What is shown of the lines of an input.
use Rattle.std.specs.Prelude.{◌≡◌, ℕ, List, [], ◌∷◌, ◌++◌, Option, Some, None, Result, Ok, Err}
use Rattle.wire_core.specs.Counts.{one_more}
use Rattle.text_lines.specs.Stops.{Bad}
use Rattle.printed_lines.specs.Show.{show_line}
use Rattle.text_commands.specs.declared.showing.ShowWork.{ShowWork}
use Rattle.agent_status.specs.declared.status.Status.{Status}
use Rattle.agent_status.specs.declared.status.Status.TheVariants.{BadTranscript, OutOfMemory}
use Rattle.text_commands.specs.Tasks.{Task}

-- the texts of lines, up to the first bad one
pub record Shown : Type 0 where
  pub text : List ℕ
  pub stop : Option Bad

abbrev pub shown_on : ℕ → Result (List ℕ) ℕ → (ℕ → Shown) → Shown
shown_on before (Err reason) others = record { text = []; stop = Some (record { line = one_more before; reason = reason }) }
shown_on before (Ok text) others =
    record { text = text ++ (others (one_more before)).text; stop = (others (one_more before)).stop }

-- so many lines came before
abbrev pub shown_from : ℕ → List (List ℕ) → Shown
shown_from before [] = record { text = []; stop = None }
shown_from before (line ∷ lines) = shown_on before (show_line line) (λ next. shown_from next lines)

-- nothing stands after the lines
abbrev pub show_task : Task
show_task = record {
  longest = 140000;
  stop = λ lines. (shown_from 0 lines).stop;
  text = λ lines. (shown_from 0 lines).text;
  close = λ lines. [];
}

-- how many lines there are, with those that came before
abbrev pub count_after : ℕ → List (List ℕ) → ℕ
count_after before [] = before
count_after before (line ∷ lines) = count_after (one_more before) lines

-- these lines were shown, and none of them is bad
pub record Shows (work : ShowWork) (lines : List (List ℕ)) : Type 0 where
  pub sound : (shown_from 0 lines).stop ≡ None
  pub count : work.lines ≡ count_after 0 lines

-- why nothing is shown of the line of this number: it is bad, or memory is wanting
abbrev pub ShowsNot : Status → ℕ → Result (List ℕ) ℕ → Type 0
ShowsNot (BadTranscript line reason) number said = (line ≡ number) × (said ≡ Err reason)
ShowsNot OutOfMemory number said = Unit {0}
ShowsNot status number said = ⊥
