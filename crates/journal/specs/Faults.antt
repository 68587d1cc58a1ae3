-- Where a text stops to be a journal, and why (profile).
use Rattle.std.specs.Prelude.{◌≡◌, ◌≢◌, ℕ, ◌+◌, ◌-◌, ◌^◌, ◌<◌, ◌⊎◌, List, [], ◌∷◌, ◌++◌, length, min, codes, None}
use Rattle.std.specs.List.{AllByRecursion}
use Rattle.text_lines.specs.Streams.{IsUnended}
use Rattle.text_lines.specs.Words.{lines_of}
use Rattle.text_commands.specs.Tasks.{Task, ended_text}
use Rattle.journal.specs.Journal.{given_line, journal_lines, journal_part, said_line, title}

module _ (task : Task) (key : List ℕ) where
  -- the journal of an input without a bad line begins with these lines
  pub record Begins (lines : List (List ℕ)) : Type 0 where
    pub text : List ℕ
    pub sound : task.stop (lines_of text) ≡ None
    pub rest : List (List ℕ)
    pub journal : journal_lines task key (lines_of text) ≡ lines ++ rest

  -- and has no others
  pub record IsWhole (lines : List (List ℕ)) : Type 0 where
    pub text : List ℕ
    pub sound : task.stop (lines_of text) ≡ None
    pub journal : journal_lines task key (lines_of text) ≡ lines

  -- ---- reasons

  -- the line begins with one of the three marks
  abbrev pub IsMarked : List ℕ → Type 0
  IsMarked line = (rest : List ℕ) × ((line ≡ said_line rest) ⊎ (line ≡ given_line rest) ⊎ (line ≡ codes "= " ++ rest))

  -- a block is to begin, and the input can't go on so
  pub record SaysBad (before : List (List ℕ)) (line : List ℕ) : Type 0 where
    pub text : List ℕ
    pub sound : task.stop (lines_of text) ≡ None
    pub at_block : before ≡ journal_part task key (lines_of text)
    pub said : List ℕ
    pub is_said : line ≡ said_line said
    pub is_bad : task.stop (lines_of text ++ said ∷ []) ≢ None

  -- 1: it is too long, isn't the title where that is due, has none of the marks elsewhere, stands after the last block, or says
  -- what can't follow
  abbrev pub IsMalformed : List (List ℕ) → List ℕ → Type 0
  IsMalformed before line = (140100 < length line) ⊎ ((before ≡ []) × (line ≢ title)) ⊎ ((before ≢ []) × ¬ IsMarked line) ⊎ IsWhole before
      ⊎ SaysBad before line

  -- 2: a line that went out was due, or one stands that wasn't due
  abbrev pub IsMisgiven : List (List ℕ) → List ℕ → Type 0
  IsMisgiven before line = ((rest : List ℕ) × (line ≡ given_line rest)) ⊎ ((due : List ℕ) × Begins (before ++ given_line due ∷ []))

  -- 3: any other
  abbrev pub HasReason : List (List ℕ) → List ℕ → ℕ → Type 0
  HasReason before line reason = ((reason ≡ 1) × IsMalformed before line)
      ⊎ ((reason ≡ 2) × ¬ IsMalformed before line × IsMisgiven before line)
      ⊎ ((reason ≡ 3) × ¬ IsMalformed before line × ¬ IsMisgiven before line)

  -- ---- the first fault

  -- these octets stand behind the lines of a journal's beginning: none, though the journal isn't whole (reason 4), a line
  -- without its 0a (reason 1), or one that isn't the journal's
  abbrev pub IsFault : List (List ℕ) → List ℕ → ℕ → Type 0
  IsFault before behind reason = ((behind ≡ []) × ¬ IsWhole before × (reason ≡ 4))
      ⊎ ((behind ≢ []) × IsUnended behind × (reason ≡ 1))
      ⊎ ((line : List ℕ) × ((more : List ℕ) × IsUnended line × (behind ≡ line ++ 10 ∷ more) × ¬ Begins (before ++ line ∷ [])
      × HasReason before line reason))

  -- The text is no journal: the line of this number is the first fault, for this reason. A number stands still at its end.
  pub record IsNoJournal (text : List ℕ) (number reason : ℕ) : Type 0 where
    pub before : List (List ℕ)
    pub each : AllByRecursion IsUnended before
    pub begins : Begins before
    pub behind : List ℕ
    pub octets : text ≡ ended_text before ++ behind
    pub counted : number ≡ min (length before + 1) (2 ^ 64 - 1)
    pub fault : IsFault before behind reason
