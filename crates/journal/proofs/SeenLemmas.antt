-- What a check saw is a journal's beginning, and what it refuses isn't.
use Rattle.std.proofs.Common.{◌≡◌, ℕ, Bool, true, false, ◌==◌, ◌||◌, List, [], ◌∷◌, ◌++◌, length, drop, codes, Option, Some, None, Result, Ok, Err, if◌then◌else◌, refl, sym, ap, ◌∙◌, subst, append_assoc}
use Rattle.std.specs.List.{AllByRecursion, list_any}
use Rattle.std.specs.Str.{bytes_eq}
use Rattle.std.proofs.lemmas.List.{append-nil}
use Rattle.std.proofs.lemmas.Bool.Decides.{Decides-eqb}
use Rattle.std.proofs.lemmas.Slice.Eq.{starts_is}
use Rattle.wire_core.specs.Counts.{one_more}
use Rattle.text_lines.specs.Stops.{Bad}
use Rattle.text_lines.specs.Streams.{IsUnended}
use Rattle.text_lines.specs.Words.{lines_of}
use Rattle.text_commands.specs.Tasks.{IsTask, Task, ended_text}
use Rattle.text_commands.proofs.TaskLemmas.{each-push, lines_of-ended}
use Rattle.journal.specs.Checking.{Blocks, Checked, Ending, Nothing, Seen, Whole, Within, begins_with, checked, checked_from, checked_on, count_after, due_step, end_lines, end_step, ending, is_said, reason_of, said_step, step, within}
use Rattle.journal.specs.Faults.{Begins, IsWhole, SaysBad}
use Rattle.journal.specs.Journal.{added, block_of, blocks_of, end_block, given_lines, journal_lines, journal_part, last_seal, no_seal, said_line, seal_after, seal_line, seal_of, sealed, sealed_block, title}
use Rattle.journal.proofs.BlockLemmas.{blocks-push, seal_after-push, sealed-push}
use Rattle.journal.proofs.PassLemmas.{checked-behind, passed-front, passes-journal, passes-part, same-octets}

-- ---- marks

pub begins : (mark line : List ℕ) → begins_with mark line ≡ true → line ≡ mark ++ drop (length mark) line
begins mark line e = (starts_is Decides-eqb line mark (begins_with mark line) refl).0 e

pub begins-not : (mark line rest : List ℕ) → begins_with mark line ≡ false → line ≡ mark ++ rest → ⊥
begins-not mark line rest e is = cc (sym e ∙ (starts_is Decides-eqb line mark (begins_with mark line) refl).1 rest is)

unended-behind : (x : ℕ) (xs : List ℕ) → IsUnended (x ∷ xs) → IsUnended xs
unended-behind x xs unended = by (x == 10) refl
  where
    by : (b : Bool) → (x == 10) ≡ b → IsUnended xs
    by true e = cc (sym (ap (λ b. b || list_any (λ y. y == 10) xs) e) ∙ unended)
    by false e = sym (ap (λ b. b || list_any (λ y. y == 10) xs) e) ∙ unended

-- behind a mark
unended-marked : (xs : List ℕ) → IsUnended xs → IsUnended (drop 2 xs)
unended-marked [] unended = unended
unended-marked (x ∷ []) unended = refl
unended-marked (x ∷ y ∷ xs) unended = unended-behind y xs (unended-behind x (y ∷ xs) unended)

module _ (task : Task) (law : IsTask task) (key : List ℕ) where
  -- ---- what was seen

  abbrev Sound : List (List ℕ) → Type 0
  Sound lines = (task.stop lines ≡ None) × AllByRecursion IsUnended lines

  -- the lines of a journal so far
  abbrev pub Are : Seen → List (List ℕ) → Type 0
  Are Nothing ls = ls ≡ []
  Are (Blocks lines seal) ls = (ls ≡ journal_part task key lines) × (seal ≡ last_seal task key lines) × Sound lines
  Are (Within lines seal due more) ls = (ls ++ due ∷ more ≡ journal_part task key lines) × (seal ≡ last_seal task key lines) × Sound lines
  Are (Ending lines due more) ls = (ls ++ due ∷ more ≡ journal_lines task key lines) × Sound lines
  Are (Whole lines) ls = (ls ≡ journal_lines task key lines) × Sound lines

  are-within : (lines : List (List ℕ)) (seal : List ℕ) (due ls : List (List ℕ)) → ls ++ due ≡ journal_part task key lines → seal ≡ last_seal task key lines
      → Sound lines → Are (within lines seal due) ls
  are-within lines seal [] ls is is_last sound = (sym (append-nil ls) ∙ is, is_last, sound)
  are-within lines seal (d ∷ due) ls is is_last sound = (is, is_last, sound)

  are-ending : (lines due ls : List (List ℕ)) → ls ++ due ≡ journal_lines task key lines → Sound lines → Are (ending lines due) ls
  are-ending lines [] ls is sound = (sym (append-nil ls) ∙ is, sound)
  are-ending lines (d ∷ due) ls is sound = (is, sound)

  pub one-line : (ls : List (List ℕ)) (x : List ℕ) (more : List (List ℕ)) → (ls ++ x ∷ []) ++ more ≡ ls ++ x ∷ more
  one-line ls x more = append_assoc ls (x ∷ []) more

  -- a line of the input and its block
  part-push : (lines : List (List ℕ)) (said : List ℕ) → task.stop (lines ++ said ∷ []) ≡ None
      → journal_part task key (lines ++ said ∷ []) ≡ journal_part task key lines ++ sealed_block key (last_seal task key lines) (block_of task lines said)
  part-push lines said sound =
      ap (λ blocks. title ∷ sealed key no_seal blocks) (blocks-push task law lines said sound)
      ∙ ap (λ r. title ∷ r) (sealed-push key no_seal (blocks_of task lines) (block_of task lines said))

  seal-push : (lines : List (List ℕ)) (said : List ℕ) → task.stop (lines ++ said ∷ []) ≡ None
      → last_seal task key (lines ++ said ∷ []) ≡ seal_of key (last_seal task key lines) (block_of task lines said)
  seal-push lines said sound =
      ap (λ blocks. seal_after key no_seal blocks) (blocks-push task law lines said sound) ∙ seal_after-push key no_seal (blocks_of task lines) (block_of task lines said)

  -- the line is the one that is due
  is-due : (next at : Seen) (due line : List ℕ) → due_step next due line ≡ Ok at → (line ≡ due) × (next ≡ at)
  is-due next at due line e = by (bytes_eq line due) refl
    where
      by : (b : Bool) → bytes_eq line due ≡ b → (line ≡ due) × (next ≡ at)
      by true same = (same-octets line due same, cc (sym (ap (λ b. if b then Ok next else Err (reason_of due line)) same) ∙ e))
      by false other = cc (sym (ap (λ b. if b then Ok next else Err (reason_of due line)) other) ∙ e)

  are-step : (seen next : Seen) (ls : List (List ℕ)) (line : List ℕ) → Are seen ls → IsUnended line → step task key seen line ≡ Ok next → Are next (ls ++ line ∷ [])
  are-step Nothing next ls line are unended e = by (bytes_eq line title) refl
    where
      by : (b : Bool) → bytes_eq line title ≡ b → Are next (ls ++ line ∷ [])
      by true same =
          let at : Blocks [] no_seal ≡ next = cc (sym (ap (λ b. if b then Ok (Blocks [] no_seal) else Err 1) same) ∙ e) in
          subst (λ next. Are next (ls ++ line ∷ [])) at
          (ap (λ ls. ls ++ line ∷ []) are ∙ ap (λ l. l ∷ []) (same-octets line title same), refl, (law.none, tt))
      by false other = cc (sym (ap (λ b. if b then Ok (Blocks [] no_seal) else Err 1) other) ∙ e)
  are-step (Blocks lines seal) next ls line (is, is_last, sound) unended e = by (is_said line) refl
    where
      said : List ℕ
      said = drop 2 line

      chosen : Bool → Result Seen ℕ
      chosen b = if b then said_step task key lines seal said (task.stop (lines ++ said ∷ [])) else end_step lines (end_lines task key lines seal) line

      saying : (o : Option Bad) → task.stop (lines ++ said ∷ []) ≡ o → line ≡ said_line said → said_step task key lines seal said o ≡ Ok next → Are next (ls ++ line ∷ [])
      saying (Some bad) stop is_line e = cc e
      saying None stop is_line e =
          let seal' = seal_of key seal (block_of task lines said) in
          let due = given_lines (added task lines said) ++ seal_line seal' ∷ [] in
          let at : within (lines ++ said ∷ []) seal' due ≡ next = cc e in
          let last : seal' ≡ seal_of key (last_seal task key lines) (block_of task lines said) = ap (λ s. seal_of key s (block_of task lines said)) is_last in
          subst (λ next. Are next (ls ++ line ∷ [])) at
          (are-within (lines ++ said ∷ []) seal' due (ls ++ line ∷ [])
          (one-line ls line due ∙ ap (λ l. ls ++ l ∷ due) is_line ∙ ap (λ ls. ls ++ sealed_block key seal (block_of task lines said)) is
          ∙ ap (λ s. journal_part task key lines ++ sealed_block key s (block_of task lines said)) is_last ∙ sym (part-push lines said stop))
          (last ∙ sym (seal-push lines said stop))
          (stop, each-push IsUnended lines said sound.1 (unended-marked line unended)))

      ends : (due : List (List ℕ)) → end_lines task key lines seal ≡ due → end_step lines due line ≡ Ok next → Are next (ls ++ line ∷ [])
      ends [] all e = cc e
      ends (d ∷ more) all e =
          let (same, at) = is-due (ending lines more) next d line e in
          subst (λ next. Are next (ls ++ line ∷ [])) at
          (are-ending lines more (ls ++ line ∷ [])
          (one-line ls line more ∙ ap (λ l. ls ++ l ∷ more) same ∙ ap (λ due. ls ++ due) (sym all)
          ∙ ap (λ s. ls ++ sealed_block key s (end_block task lines)) is_last
          ∙ ap (λ ls. ls ++ sealed_block key (last_seal task key lines) (end_block task lines)) is) sound)

      by : (b : Bool) → is_said line ≡ b → Are next (ls ++ line ∷ [])
      by true is_it = saying (task.stop (lines ++ said ∷ [])) refl (begins (codes "< ") line is_it) (sym (ap chosen is_it) ∙ e)
      by false other = ends (end_lines task key lines seal) refl (sym (ap chosen other) ∙ e)
  are-step (Within lines seal due more) next ls line (is, is_last, sound) unended e =
      let (same, at) = is-due (within lines seal more) next due line e in
      subst (λ next. Are next (ls ++ line ∷ [])) at
      (are-within lines seal more (ls ++ line ∷ []) (one-line ls line more ∙ ap (λ l. ls ++ l ∷ more) same ∙ is) is_last sound)
  are-step (Ending lines due more) next ls line (is, sound) unended e =
      let (same, at) = is-due (ending lines more) next due line e in
      subst (λ next. Are next (ls ++ line ∷ [])) at
      (are-ending lines more (ls ++ line ∷ []) (one-line ls line more ∙ ap (λ l. ls ++ l ∷ more) same ∙ is) sound)
  are-step (Whole lines) next ls line are unended e = cc e

  are-from : (n : ℕ) (seen at : Seen) (before ls : List (List ℕ)) → Are seen before → AllByRecursion IsUnended ls
      → checked_from task key n seen ls ≡ record { seen = at; stop = None } → Are at (before ++ ls)
  are-from n seen at before [] are each passed =
      subst (λ ls. Are at ls) (sym (append-nil before)) (subst (λ at. Are at before) (ap (λ (c : Checked). c.seen) passed) are)
  are-from n seen at before (x ∷ ls) are each passed =
      by (step task key seen x) refl (λ next are passed. are-from (one_more n) next at (before ++ x ∷ []) ls are each.1 passed)
    where
      by : (r : Result Seen ℕ) → step task key seen x ≡ r
          → ((next : Seen) → Are next (before ++ x ∷ []) → checked_from task key (one_more n) next ls ≡ record { seen = at; stop = None } → Are at ((before ++ x ∷ []) ++ ls))
          → Are at (before ++ x ∷ ls)
      by (Ok next) e others =
          subst (λ ls. Are at ls) (one-line before x ls)
          (others next (are-step seen next before x are each.0 e)
          (sym (ap (λ r. checked_on n seen r (λ next. checked_from task key (one_more n) next ls)) e) ∙ passed))
      by (Err reason) e others =
          cc (sym (ap (λ (r : Result Seen ℕ). (checked_on n seen r (λ next. checked_from task key (one_more n) next ls)).stop) e) ∙ ap (λ (c : Checked). c.stop) passed)

  -- lines that passed are what was seen
  pub are-all : (at : Seen) (ls : List (List ℕ)) → AllByRecursion IsUnended ls → checked task key ls ≡ record { seen = at; stop = None } → Are at ls
  are-all at ls each passed = are-from 0 Nothing at [] ls refl each passed

  -- ---- a journal begins with them

  pub text-of : (lines : List (List ℕ)) → AllByRecursion IsUnended lines → lines_of (ended_text lines) ≡ lines
  text-of lines each = ap lines_of (sym (append-nil (ended_text lines))) ∙ lines_of-ended lines [] each ∙ append-nil lines

  pub begins-here : (lines ls rest : List (List ℕ)) → Sound lines → journal_lines task key lines ≡ ls ++ rest → Begins task key ls
  begins-here lines ls rest sound journal = record {
    text = ended_text lines;
    sound = ap task.stop (text-of lines sound.1) ∙ sound.0;
    rest = rest;
    journal = ap (journal_lines task key) (text-of lines sound.1) ∙ journal;
  }

  pub begins-of : (seen : Seen) (ls : List (List ℕ)) → Are seen ls → Begins task key ls
  begins-of Nothing ls are = begins-here [] ls (journal_lines task key []) (law.none, tt) (ap (λ ls. ls ++ journal_lines task key []) (sym are))
  begins-of (Blocks lines seal) ls (is, is_last, sound) =
      let last = sealed_block key (last_seal task key lines) (end_block task lines) in
      begins-here lines ls last sound (ap (λ ls. ls ++ last) (sym is))
  begins-of (Within lines seal due more) ls (is, is_last, sound) =
      let last = sealed_block key (last_seal task key lines) (end_block task lines) in
      begins-here lines ls (due ∷ more ++ last) sound (ap (λ ls. ls ++ last) (sym is) ∙ append_assoc ls (due ∷ more) last)
  begins-of (Ending lines due more) ls (is, sound) = begins-here lines ls (due ∷ more) sound (sym is)
  begins-of (Whole lines) ls (is, sound) = begins-here lines ls [] sound (sym is ∙ sym (append-nil ls))

  -- what a journal begins with passes
  begins-passes : (ls : List (List ℕ)) → Begins task key ls → (checked task key ls).stop ≡ None
  begins-passes ls b =
      passed-front task key 0 Nothing ls b.rest
      (ap (λ ls. (checked task key ls).stop) (sym b.journal) ∙ ap (λ (c : Checked). c.stop) (passes-journal task key law (lines_of b.text) b.sound 0))

  -- a line that doesn't pass goes on no journal
  pub misfit : (seen : Seen) (ls : List (List ℕ)) (line : List ℕ) (reason : ℕ) → checked task key ls ≡ record { seen = seen; stop = None }
      → step task key seen line ≡ Err reason → Begins task key (ls ++ line ∷ []) → ⊥
  misfit seen ls line reason passed e b =
      let stopped = ap (λ (c : Checked). c.stop) (checked-behind task key 0 Nothing seen ls (line ∷ []) passed)
      ∙ ap (λ (r : Result Seen ℕ). (checked_on (count_after 0 ls) seen r (λ next. checked_from task key (one_more (count_after 0 ls)) next [])).stop) e in
      cc (sym stopped ∙ begins-passes (ls ++ line ∷ []) b)

  -- a whole journal is seen as one
  whole-seen : (seen : Seen) (ls : List (List ℕ)) → checked task key ls ≡ record { seen = seen; stop = None } → (w : IsWhole task key ls) → seen ≡ Whole (lines_of w.text)
  whole-seen seen ls passed w =
      ap (λ (c : Checked). c.seen) (sym passed ∙ ap (checked task key) (sym w.journal) ∙ passes-journal task key law (lines_of w.text) w.sound 0)

  -- and one that is to go on isn't
  pub part-seen : (seen : Seen) (ls : List (List ℕ)) (line : List ℕ) → checked task key ls ≡ record { seen = seen; stop = None } → (s : SaysBad task key ls line)
      → seen ≡ Blocks (lines_of s.text) (last_seal task key (lines_of s.text))
  part-seen seen ls line passed s =
      ap (λ (c : Checked). c.seen) (sym passed ∙ ap (checked task key) s.at_block ∙ passes-part task key law (lines_of s.text) s.sound 0)

  pub not-whole : (seen : Seen) (ls : List (List ℕ)) → checked task key ls ≡ record { seen = seen; stop = None } → ((lines : List (List ℕ)) → seen ≡ Whole lines → ⊥) → IsWhole task key ls → ⊥
  not-whole seen ls passed other w = other (lines_of w.text) (whole-seen seen ls passed w)

  pub whole-of : (lines ls : List (List ℕ)) → Are (Whole lines) ls → IsWhole task key ls
  whole-of lines ls (is, sound) = record {
    text = ended_text lines;
    sound = ap task.stop (text-of lines sound.1) ∙ sound.0;
    journal = ap (journal_lines task key) (text-of lines sound.1) ∙ sym is;
  }
