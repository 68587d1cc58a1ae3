-- A check passes every line of a journal, and goes on from line to line.
use Rattle.std.proofs.Common.{◌≡◌, ℕ, true, false, List, [], ◌∷◌, ◌++◌, drop, map, None, Result, Ok, Err, if◌then◌else◌, refl, sym, ap, ◌∙◌, subst}
use Rattle.std.specs.Str.{bytes_eq}
use Rattle.std.proofs.lemmas.List.{append-nil}
use Rattle.std.proofs.lemmas.Slice.Eq.{bytes_eq-Decides}
use Rattle.wire_core.specs.Counts.{one_more}
use Rattle.text_lines.specs.Words.{lines_of}
use Rattle.text_commands.specs.Tasks.{IsTask, Task}
use Rattle.journal.specs.Checking.{Blocks, Checked, Ending, Nothing, Seen, Whole, Within, checked_from, checked_on, count_after, end_lines, end_step, ending, is_said, reason_of, said_step, step, within}
use Rattle.journal.specs.Journal.{added, block_of, blocks_from, blocks_of, end_block, given_line, given_lines, journal_lines, journal_part, last_seal, no_seal, said_line, seal_after, seal_line, seal_of, sealed, sealed_block, title}
use Rattle.journal.proofs.BlockLemmas.{one-more, sound-one, first-block}

pub same-octets : (xs ys : List ℕ) → bytes_eq xs ys ≡ true → xs ≡ ys
same-octets xs ys e = (bytes_eq-Decides xs ys).0 e

pub octets-same : (xs : List ℕ) → bytes_eq xs xs ≡ true
octets-same xs = (bytes_eq-Decides xs xs).1 refl

module _ (task : Task) (key : List ℕ) where
  -- ---- one line more

  -- where lines passed, what follows is checked behind them
  pub checked-behind : (n : ℕ) (seen at : Seen) (xs ys : List (List ℕ)) → checked_from task key n seen xs ≡ record { seen = at; stop = None }
      → checked_from task key n seen (xs ++ ys) ≡ checked_from task key (count_after n xs) at ys
  checked-behind n seen at [] ys passed = ap (λ (c : Checked). checked_from task key n c.seen ys) passed
  checked-behind n seen at (x ∷ xs) ys passed = by (step task key seen x) refl (λ next passed. checked-behind (one_more n) next at xs ys passed)
    where
      by : (r : Result Seen ℕ) → step task key seen x ≡ r
          → ((next : Seen) → checked_from task key (one_more n) next xs ≡ record { seen = at; stop = None }
          → checked_from task key (one_more n) next (xs ++ ys) ≡ checked_from task key (count_after (one_more n) xs) at ys)
          → checked_from task key n seen (x ∷ xs ++ ys) ≡ checked_from task key (count_after n (x ∷ xs)) at ys
      by (Ok next) e others =
          ap (λ r. checked_on n seen r (λ next. checked_from task key (one_more n) next (xs ++ ys))) e
          ∙ others next (sym (ap (λ r. checked_on n seen r (λ next. checked_from task key (one_more n) next xs)) e) ∙ passed)
      by (Err reason) e others =
          cc (sym (ap (λ (r : Result Seen ℕ). (checked_on n seen r (λ next. checked_from task key (one_more n) next xs)).stop) e) ∙ ap (λ (c : Checked). c.stop) passed)

  -- of lines that passed the first did
  pub passed-front : (n : ℕ) (seen : Seen) (xs ys : List (List ℕ)) → (checked_from task key n seen (xs ++ ys)).stop ≡ None
      → (checked_from task key n seen xs).stop ≡ None
  passed-front n seen [] ys passed = refl
  passed-front n seen (x ∷ xs) ys passed = by (step task key seen x) refl (λ next passed. passed-front (one_more n) next xs ys passed)
    where
      by : (r : Result Seen ℕ) → step task key seen x ≡ r
          → ((next : Seen) → (checked_from task key (one_more n) next (xs ++ ys)).stop ≡ None → (checked_from task key (one_more n) next xs).stop ≡ None)
          → (checked_from task key n seen (x ∷ xs)).stop ≡ None
      by (Ok next) e others =
          ap (λ (r : Result Seen ℕ). (checked_on n seen r (λ next. checked_from task key (one_more n) next xs)).stop) e
          ∙ others next (sym (ap (λ (r : Result Seen ℕ). (checked_on n seen r (λ next. checked_from task key (one_more n) next (xs ++ ys))).stop) e) ∙ passed)
      by (Err reason) e others =
          cc (sym (ap (λ (r : Result Seen ℕ). (checked_on n seen r (λ next. checked_from task key (one_more n) next (xs ++ ys))).stop) e) ∙ passed)

  -- ---- lines that pass

  -- these lines pass, and this was seen behind them
  abbrev pub Passes : Seen → List (List ℕ) → Seen → Type 0
  Passes seen lines next = (n : ℕ) → checked_from task key n seen lines ≡ record { seen = next; stop = None }

  passes-line : (seen next last : Seen) (x : List ℕ) (xs : List (List ℕ)) → step task key seen x ≡ Ok next → Passes next xs last → Passes seen (x ∷ xs) last
  passes-line seen next last x xs e passes n = ap (λ r. checked_on n seen r (λ next. checked_from task key (one_more n) next xs)) e ∙ passes (one_more n)

  passes-append : (seen next last : Seen) (xs ys : List (List ℕ)) → Passes seen xs next → Passes next ys last → Passes seen (xs ++ ys) last
  passes-append seen next last xs ys first second n = checked-behind n seen next xs ys (first n) ∙ second (count_after n xs)

  passes-due : (lines : List (List ℕ)) (seal : List ℕ) (due : List (List ℕ)) → Passes (within lines seal due) due (Blocks lines seal)
  passes-due lines seal [] = λ n. refl
  passes-due lines seal (d ∷ due) =
      passes-line (Within lines seal d due) (within lines seal due) (Blocks lines seal) d due
      (ap (λ b. if b then Ok (within lines seal due) else Err (reason_of d d)) (octets-same d)) (passes-due lines seal due)

  passes-ending : (lines due : List (List ℕ)) → Passes (ending lines due) due (Whole lines)
  passes-ending lines [] = λ n. refl
  passes-ending lines (d ∷ due) =
      passes-line (Ending lines d due) (ending lines due) (Whole lines) d due
      (ap (λ b. if b then Ok (ending lines due) else Err (reason_of d d)) (octets-same d)) (passes-ending lines due)

  -- ---- blocks

  passes-block : (lines : List (List ℕ)) (seal said : List ℕ) → task.stop (lines ++ said ∷ []) ≡ None
      → Passes (Blocks lines seal) (sealed_block key seal (block_of task lines said)) (Blocks (lines ++ said ∷ []) (seal_of key seal (block_of task lines said)))
  passes-block lines seal said sound =
      let next = seal_of key seal (block_of task lines said) in
      let due = given_lines (added task lines said) ++ seal_line next ∷ [] in
      passes-line (Blocks lines seal) (within (lines ++ said ∷ []) next due) (Blocks (lines ++ said ∷ []) next) (said_line said) due
      (ap (λ stop. said_step task key lines seal said stop) sound) (passes-due (lines ++ said ∷ []) next due)

  passes-blocks : (law : IsTask task) (before lines : List (List ℕ)) (seal : List ℕ) → task.stop (before ++ lines) ≡ None
      → Passes (Blocks before seal) (sealed key seal (blocks_from task before lines)) (Blocks (before ++ lines) (seal_after key seal (blocks_from task before lines)))
  passes-blocks law before [] seal sound = λ n. ap (λ b. record { seen = Blocks b seal; stop = None }) (sym (append-nil before))
  passes-blocks law before (x ∷ lines) seal sound =
      let first = sound-one task law before x lines sound in
      let block = block_of task before x in
      let next = seal_of key seal block in
      let others = blocks_from task (before ++ x ∷ []) lines in
      let behind = passes-blocks law (before ++ x ∷ []) lines next (ap task.stop (one-more task law before x lines) ∙ sound) in
      let whole : Passes (Blocks before seal) (sealed key seal (block ∷ others)) (Blocks (before ++ x ∷ lines) (seal_after key seal (block ∷ others))) =
      subst (λ b. Passes (Blocks before seal) (sealed key seal (block ∷ others)) (Blocks b (seal_after key seal (block ∷ others)))) (one-more task law before x lines)
      (passes-append (Blocks before seal) (Blocks (before ++ x ∷ []) next) (Blocks ((before ++ x ∷ []) ++ lines) (seal_after key next others))
      (sealed_block key seal block) (sealed key next others) (passes-block before seal x first) behind) in
      subst (λ blocks. Passes (Blocks before seal) (sealed key seal blocks) (Blocks (before ++ x ∷ lines) (seal_after key seal blocks))) (sym (first-block task law before x lines first)) whole

  passes-end : (lines : List (List ℕ)) (seal : List ℕ) → Passes (Blocks lines seal) (end_lines task key lines seal) (Whole lines)
  passes-end lines seal = by (lines_of (task.close lines)) refl
    where
      last : List ℕ
      last = seal_line (seal_of key seal (end_block task lines))

      first : (d : List ℕ) (more : List (List ℕ)) → end_lines task key lines seal ≡ d ∷ more → is_said d ≡ false
          → Passes (Blocks lines seal) (end_lines task key lines seal) (Whole lines)
      first d more e other =
          subst (λ due. Passes (Blocks lines seal) due (Whole lines)) (sym e)
          (passes-line (Blocks lines seal) (ending lines more) (Whole lines) d more
          (ap (λ b. if b then said_step task key lines seal (drop 2 d) (task.stop (lines ++ drop 2 d ∷ [])) else end_step lines (end_lines task key lines seal) d) other
          ∙ ap (λ due. end_step lines due d) e ∙ ap (λ b. if b then Ok (ending lines more) else Err (reason_of d d)) (octets-same d))
          (passes-ending lines more))

      by : (given : List (List ℕ)) → lines_of (task.close lines) ≡ given → Passes (Blocks lines seal) (end_lines task key lines seal) (Whole lines)
      by [] e = first last [] (ap (λ g. map given_line g ++ last ∷ []) e) refl
      by (g ∷ given) e = first (given_line g) (map given_line given ++ last ∷ []) (ap (λ g. map given_line g ++ last ∷ []) e) refl

  -- ---- the whole journal

  pub passes-part : (law : IsTask task) (lines : List (List ℕ)) → task.stop lines ≡ None → Passes Nothing (journal_part task key lines) (Blocks lines (last_seal task key lines))
  passes-part law lines sound =
      passes-line Nothing (Blocks [] no_seal) (Blocks lines (last_seal task key lines)) title (sealed key no_seal (blocks_of task lines))
      (ap (λ b. if b then Ok (Blocks [] no_seal) else Err 1) (octets-same title)) (passes-blocks law [] lines no_seal sound)

  pub passes-journal : (law : IsTask task) (lines : List (List ℕ)) → task.stop lines ≡ None → Passes Nothing (journal_lines task key lines) (Whole lines)
  passes-journal law lines sound =
      passes-append Nothing (Blocks lines (last_seal task key lines)) (Whole lines) (journal_part task key lines) (end_lines task key lines (last_seal task key lines))
      (passes-part law lines sound) (passes-end lines (last_seal task key lines))
