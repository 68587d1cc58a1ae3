-- Internal: what a checker knows of the lines so far.
use Rattle.std.specs.Prelude.{◌≡◌, ◌≢◌, ℕ, ◌<◌, ◌≤◌, true, false, ◌==◌, List, [], ◌∷◌, ◌++◌, length, None, Result, Ok, Err, ⊤, if◌then◌else◌}
use Rattle.std.specs.List.{AllByRecursion}
use Rattle.std.specs.Str.{bytes_eq}
use Rattle.text_lines.specs.Streams.{IsUnended}
use Rattle.text_commands.specs.Tasks.{Task, ended_text}
use Rattle.journal.specs.Checking.{Blocks, Ending, Nothing, Seen, Whole, Within, checked, count_after, reason_of}
use Rattle.journal.specs.Due.{AreShort}
use Rattle.journal.specs.Journal.{no_seal}
use Rattle.journal.specs.Limits.{IsShortTask}
use Rattle.journal.specs.declared.checker.Checker.{Checker}
use Rattle.journal.specs.declared.checker.LinePlace.{LinePlace}
use Rattle.journal.specs.declared.checker.LinePlace.TheVariants as place
use Rattle.journal.specs.declared.checker.StepFault.{StepFault}
use Rattle.journal.specs.declared.checker.StepFault.TheVariants as fault

-- ---- by what was seen

abbrev pub place_of : Seen → LinePlace
place_of Nothing = place.Title
place_of (Blocks lines seal) = place.Block
place_of (Within lines seal due more) = place.Within
place_of (Ending lines due more) = place.Ending
place_of (Whole lines) = place.Behind

abbrev pub said_of : Seen → List (List ℕ)
said_of Nothing = []
said_of (Blocks lines seal) = lines
said_of (Within lines seal due more) = lines
said_of (Ending lines due more) = lines
said_of (Whole lines) = lines

abbrev pub due_of : Seen → List (List ℕ)
due_of (Within lines seal due more) = due ∷ more
due_of (Ending lines due more) = due ∷ more
due_of seen = []

module _ {W : Type 0} (task : W → Task) (took : W → List (List ℕ) → Type 0) where
  -- before the last block the command has taken the lines, and the seal is the last one's
  abbrev pub IsAtWork : Checker W → Seen → Type 0
  IsAtWork c Nothing = took c.work [] × (c.seal ≡ no_seal)
  IsAtWork c (Blocks lines seal) = took c.work lines × (c.seal ≡ seal)
  IsAtWork c (Within lines seal due more) = took c.work lines × (c.seal ≡ seal)
  IsAtWork c (Ending lines due more) = ⊤
  IsAtWork c (Whole lines) = ⊤

  pub record IsAt (c : Checker W) (seen : Seen) : Type 0 where
    pub place : c.place ≡ place_of seen
    pub said : c.said ≡ count_after 0 (said_of seen)
    pub due : c.due ≡ ended_text (due_of seen)
    pub unended : AllByRecursion IsUnended (due_of seen)
    pub short : AreShort (due_of seen)
    pub works : IsAtWork c seen

  -- what stays the same
  pub record IsSame (old new : Checker W) : Type 0 where
    pub same_task : task new.work ≡ task old.work
    pub same_key : new.key ≡ old.key
    pub same_lines : new.lines ≡ old.lines

  abbrev pub StepsTo : Result Unit StepFault → Result Seen ℕ → Checker W → Checker W → Type 0
  StepsTo (Ok done) (Ok next) old new = IsAt new next × IsSame old new
  StepsTo (Ok done) (Err reason) old new = ⊥
  StepsTo (Err fault.NoMemory) step old new = IsSame old new
  StepsTo (Err (fault.Bad number)) (Ok next) old new = ⊥
  StepsTo (Err (fault.Bad number)) (Err reason) old new = (number ≡ reason) × IsSame old new

  -- these lines were checked, and each is a journal's
  pub record HasChecked (c : Checker W) (lines : List (List ℕ)) : Type 0 where
    pub sound : (checked (task c.work) c.key lines).stop ≡ None
    pub at : IsAt c (checked (task c.work) c.key lines).seen
    pub counted : c.lines ≡ count_after 0 lines
    pub is_short : IsShortTask (task c.work)

-- the line is the one that is due, and the next one stands here or there, or it isn't, for this reason
abbrev pub GoesOn : {W : Type 0} → Result Unit StepFault → List ℕ → List ℕ → List (List ℕ) → LinePlace → LinePlace → Checker W → Checker W → Type 0
GoesOn (Ok done) due line more here over old new =
    (bytes_eq line due ≡ true) × (new ≡ record old { due = ended_text more; place = if length (ended_text more) == 0 then over else here })
GoesOn (Err fault.NoMemory) due line more here over old new = ⊥
GoesOn (Err (fault.Bad reason)) due line more here over old new = (bytes_eq line due ≡ false) × (reason ≡ reason_of due line) × (new ≡ old)
