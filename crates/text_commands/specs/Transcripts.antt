-- What a command makes of a transcript, by what it makes of the lines that were read.
use Rattle.std.specs.Prelude.{◌≡◌, ℕ, Bool, List, [], ◌∷◌, ◌++◌, Option, Result, Ok, Err, ⊤}
use Rattle.wire_core.specs.Sink.{Appends, AppendsPrefix}
use Rattle.transcript.specs.Reading.{beginning, read_from}
use Rattle.transcript.specs.declared.line.Line.{Line}
use Rattle.agent_status.specs.declared.status.Status.{Status}
use Rattle.agent_status.specs.declared.status.Status.TheVariants.{WriteFault, OutOfMemory}
use Rattle.text_commands.specs.Tasks.{Task}

-- whether control lines may stand in a transcript, what its lines print, and what stands after all of them
pub record Rule : Type 0 where
  pub controls : Bool
  pub text : List Line → List ℕ
  pub close : List Line → List ℕ

-- what a command by this rule makes of the lines of its input
abbrev pub transcript_task : Rule → Task
transcript_task rule = record {
  longest = 140000;
  stop = λ lines. (read_from (beginning rule.controls) lines).stop;
  text = λ lines. rule.text (read_from (beginning rule.controls) lines).lines;
  close = λ lines. rule.close (read_from (beginning rule.controls) lines).lines;
}

-- one more line adds this text
abbrev pub LineAdds : Rule → List Line → Line → List ℕ → Type 0
LineAdds rule lines line added = rule.text (lines ++ line ∷ []) ≡ rule.text lines ++ added

-- why a line wasn't followed
abbrev pub IsFailure : Status → Type 0
IsFailure WriteFault = ⊤
IsFailure OutOfMemory = ⊤
IsFailure status = ⊥

-- what following a line after these does: its text was written, or a prefix of it
abbrev pub FollowsLine : Rule → (List Line → Type 0) → Result Unit Status → List Line → Line → Option (List ℕ) → Option (List ℕ) → Type 0
FollowsLine rule followed (Ok done) lines line before now =
    followed (lines ++ line ∷ []) × ((text : List ℕ) × LineAdds rule lines line text × Appends before now text)
FollowsLine rule followed (Err status) lines line before now =
    IsFailure status × ((text : List ℕ) × LineAdds rule lines line text × AppendsPrefix before now text)
