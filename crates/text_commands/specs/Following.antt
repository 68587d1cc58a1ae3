-- What a command knows of the lines of a transcript so far.
use Rattle.std.specs.Prelude.{◌≡◌, ℕ, List, [], ◌∷◌, None, Ok, Err}
use Rattle.transcript.specs.Reading.{At, Step, beginning, read_from, read_line}
use Rattle.transcript.specs.Positions.{IsReading}
use Rattle.transcript.specs.Told.{Agrees, told_by}
use Rattle.transcript.specs.declared.line.Line.{Line}
use Rattle.text_commands.specs.declared.following.TranscriptWork.{TranscriptWork}
use Rattle.text_commands.specs.Transcripts.{Rule}

-- where the next line stands, none of these being bad
abbrev pub step_place : At → Step → At
step_place at (Ok step) = step.1
step_place at (Err reason) = at

abbrev pub place_after : At → List (List ℕ) → At
place_after at [] = at
place_after at (octets ∷ lines) = place_after (step_place at (read_line at octets)) lines

module _ {F : Type 0} (rule : Rule) (followed : F → List Line → Type 0) where
  -- it has taken these lines, and none of them is bad
  pub record Takes (work : TranscriptWork F) (lines : List (List ℕ)) : Type 0 where
    pub sound : (read_from (beginning rule.controls) lines).stop ≡ None
    pub reads : IsReading work.reader (place_after (beginning rule.controls) lines)
    pub has_followed : followed work.follower (read_from (beginning rule.controls) lines).lines
    pub agrees : Agrees (place_after (beginning rule.controls) lines) (told_by (read_from (beginning rule.controls) lines).lines)
