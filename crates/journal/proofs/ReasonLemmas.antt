-- Why a text is no journal.
use Rattle.std.proofs.Common.{◌≡◌, ◌≢◌, ℕ, ◌+◌, ◌-◌, ◌^◌, ◌<◌, ◌≤◌, ◌⊎◌, inl, inr, Bool, true, false, ◌||◌, not, nat_lt, min, List, [], ◌∷◌, ◌++◌, length, drop, codes, Option, Some, None, Result, Ok, Err, if◌then◌else◌, rules, refl, sym, ap, ◌∙◌, subst, append_assoc, ltb-true, arith}
use Rattle.std.specs.List.{AllByRecursion}
use Rattle.std.specs.Str.{bytes_eq}
use Rattle.std.proofs.lemmas.List.{append-nil}
use Rattle.wire_core.specs.Counts.{one_more}
use Rattle.text_lines.specs.Stops.{Bad}
use Rattle.text_lines.specs.Streams.{IsUnended}
use Rattle.text_commands.specs.Tasks.{FindsBad, IsTask, Task, ended_text}
use Rattle.journal.specs.Checking.{Blocks, Checked, Ending, Nothing, Seen, Whole, Within, begins_with, check_task, checked, checked_from, checked_on, count_after, due_step, end_lines, end_step, ending, is_given, is_marked, is_said, reason_of, said_step, step, within}
use Rattle.journal.specs.Faults.{Begins, HasReason, IsFault, IsMalformed, IsMarked, IsMisgiven, IsNoJournal, IsWhole, SaysBad}
use Rattle.journal.specs.Journal.{end_block, given_line, journal_part, last_seal, no_seal, said_line, sealed_block, title}
use Rattle.journal.proofs.PassLemmas.{checked-behind, octets-same, same-octets}
use Rattle.journal.proofs.SeenLemmas.{Are, are-all, begins, begins-here, begins-not, begins-of, misfit, not-whole, one-line, part-seen, text-of, whole-of}

Some-is : {X : Type 0} {x y : X} → Some x ≡ Some y → x ≡ y
Some-is e = cc e

marked-of : (line : List ℕ) → is_marked line ≡ true → (rest : List ℕ) × ((line ≡ said_line rest) ⊎ (line ≡ given_line rest) ⊎ (line ≡ codes "= " ++ rest))
marked-of line e = by (is_said line) (is_given line) (begins_with (codes "= ") line) refl refl refl
  where
    by : (a b c : Bool) → is_said line ≡ a → is_given line ≡ b → begins_with (codes "= ") line ≡ c
        → (rest : List ℕ) × ((line ≡ said_line rest) ⊎ (line ≡ given_line rest) ⊎ (line ≡ codes "= " ++ rest))
    by true b c said given seal = (drop 2 line, inl (begins (codes "< ") line said))
    by false true c said given seal = (drop 2 line, inr (inl (begins (codes "> ") line given)))
    by false false true said given seal = (drop 2 line, inr (inr (begins (codes "= ") line seal)))
    by false false false said given seal = cc (sym (ap (λ a. a || is_given line || begins_with (codes "= ") line) said ∙ ap (λ b. b || begins_with (codes "= ") line) given ∙ seal) ∙ e)

unmarked : (line rest : List ℕ) → is_marked line ≡ false → (line ≡ said_line rest) ⊎ (line ≡ given_line rest) ⊎ (line ≡ codes "= " ++ rest) → ⊥
unmarked line rest e marked = by (is_said line) (is_given line) (begins_with (codes "= ") line) refl refl refl marked
  where
    none : (a b c : Bool) → is_said line ≡ a → is_given line ≡ b → begins_with (codes "= ") line ≡ c → (a || b || c) ≡ false
    none a b c said given seal =
        sym (ap (λ a. a || is_given line || begins_with (codes "= ") line) said ∙ ap (λ b'. a || b' || begins_with (codes "= ") line) given ∙ ap (λ c. a || b || c) seal) ∙ e

    by : (a b c : Bool) → is_said line ≡ a → is_given line ≡ b → begins_with (codes "= ") line ≡ c
        → (line ≡ said_line rest) ⊎ (line ≡ given_line rest) ⊎ (line ≡ codes "= " ++ rest) → ⊥
    by true b c said given seal marked = cc (none true b c said given seal)
    by false true c said given seal marked = cc (none false true c said given seal)
    by false false true said given seal marked = cc (none false false true said given seal)
    by false false false said given seal (inl is) = begins-not (codes "< ") line rest said is
    by false false false said given seal (inr (inl is)) = begins-not (codes "> ") line rest given is
    by false false false said given seal (inr (inr is)) = begins-not (codes "= ") line rest seal is

module _ (task : Task) (law : IsTask task) (key : List ℕ) where
  -- ---- a line that isn't the one that is due

  -- what is known where a line is due
  record Awaits (ls : List (List ℕ)) (line due : List ℕ) : Type 0 where
    some : ls ≢ []
    not_whole : IsWhole task key ls → ⊥
    not_said : SaysBad task key ls line → ⊥
    begins : Begins task key (ls ++ due ∷ [])
    only : (x : List ℕ) → Begins task key (ls ++ given_line x ∷ []) → given_line x ≡ due

  not-malformed : (ls : List (List ℕ)) (line due : List ℕ) → Awaits ls line due → (140100 < length line → ⊥) → IsMarked task key line → IsMalformed task key ls line → ⊥
  not-malformed ls line due a short marked (inl long) = short long
  not-malformed ls line due a short marked (inr (inl (none, other))) = a.some none
  not-malformed ls line due a short marked (inr (inr (inl (some, other)))) = other marked
  not-malformed ls line due a short marked (inr (inr (inr (inl whole)))) = a.not_whole whole
  not-malformed ls line due a short marked (inr (inr (inr (inr says)))) = a.not_said says

  due-reason : (ls : List (List ℕ)) (line due : List ℕ) → Awaits ls line due → HasReason task key ls line (reason_of due line)
  due-reason ls line due a = by (nat_lt 140100 (length line)) (is_marked line) refl refl
    where
      after : Bool → ℕ
      after b = if b then 1 else if is_given line || is_given due then 2 else 3

      given : Bool → ℕ
      given b = if b then 2 else 3

      -- it has one of the marks, and isn't too long
      marked : (140100 < length line → ⊥) → is_marked line ≡ true → HasReason task key ls line (given (is_given line || is_given due))
      marked short mark = by (is_given line) (is_given due) refl refl
        where
          formed : IsMalformed task key ls line → ⊥
          formed = not-malformed ls line due a short (marked-of line mark)

          by : (x y : Bool) → is_given line ≡ x → is_given due ≡ y → HasReason task key ls line (given (is_given line || is_given due))
          by true y is is_due = subst (λ b. HasReason task key ls line (given (b || is_given due))) (sym is) (inr (inl (refl, formed, inl (drop 2 line, begins (codes "> ") line is))))
          by false true is is_due =
              subst (λ b. HasReason task key ls line (given (b || is_given due))) (sym is)
              (subst (λ b. HasReason task key ls line (given b)) (sym is_due)
              (inr (inl (refl, formed, inr (drop 2 due, subst (λ d. Begins task key (ls ++ d ∷ [])) (begins (codes "> ") due is_due) a.begins)))))
          by false false is is_due =
              subst (λ b. HasReason task key ls line (given (b || is_given due))) (sym is)
              (subst (λ b. HasReason task key ls line (given b)) (sym is_due) (inr (inr (refl, formed, misgiven))))
            where
              misgiven : IsMisgiven task key ls line → ⊥
              misgiven (inl (rest, it)) = begins-not (codes "> ") line rest is it
              misgiven (inr (x, b)) = begins-not (codes "> ") due x is_due (sym (a.only x b))

      by : (long mark : Bool) → nat_lt 140100 (length line) ≡ long → is_marked line ≡ mark → HasReason task key ls line (reason_of due line)
      by true mark is_long is_mark =
          subst (λ b. HasReason task key ls line (after (b || not (is_marked line)))) (sym is_long) (inl (refl, inl (ltb-true 140100 (length line) is_long)))
      by false false is_long is_mark =
          subst (λ b. HasReason task key ls line (after (b || not (is_marked line)))) (sym is_long)
          (subst (λ b. HasReason task key ls line (after (not b))) (sym is_mark)
          (inl (refl, inr (inr (inl (a.some, λ found. unmarked line found.0 is_mark found.1))))))
      by false true is_long is_mark =
          subst (λ b. HasReason task key ls line (after (b || not (is_marked line)))) (sym is_long)
          (subst (λ b. HasReason task key ls line (after (not b))) (sym is_mark)
          (marked (λ long. let over : nat_lt 140100 (length line) ≡ true = search (rules, long) in cc (is_long, over)) is_mark))

  -- the reason, where the line isn't the one that is due
  refused-due : (ls : List (List ℕ)) (next : Seen) (line due : List ℕ) (reason : ℕ) → Awaits ls line due → due_step next due line ≡ Err reason
      → HasReason task key ls line reason
  refused-due ls next line due reason a e = by (bytes_eq line due) refl
    where
      by : (b : Bool) → bytes_eq line due ≡ b → HasReason task key ls line reason
      by true same = cc (sym (ap (λ b. if b then Ok next else Err (reason_of due line)) same) ∙ e)
      by false other =
          let is : reason_of due line ≡ reason = cc (sym (ap (λ b. if b then Ok next else Err (reason_of due line)) other) ∙ e) in
          subst (λ r. HasReason task key ls line r) is (due-reason ls line due a)

  -- only the line that is due passes
  only-due : (seen next : Seen) (ls : List (List ℕ)) (line due : List ℕ) → checked task key ls ≡ record { seen = seen; stop = None }
      → step task key seen line ≡ due_step next due line → Begins task key (ls ++ line ∷ []) → line ≡ due
  only-due seen next ls line due passed steps b = by (bytes_eq line due) refl
    where
      by : (same : Bool) → bytes_eq line due ≡ same → line ≡ due
      by true same = same-octets line due same
      by false other =
          absurd (misfit task law key seen ls line (reason_of due line) passed
          (steps ∙ ap (λ b. if b then Ok next else Err (reason_of due line)) other) b)

  not-empty : (seen : Seen) (ls : List (List ℕ)) → checked task key ls ≡ record { seen = seen; stop = None } → (seen ≡ Nothing → ⊥) → ls ≡ [] → ⊥
  not-empty seen ls passed other none = other (sym (ap (λ (c : Checked). c.seen) passed) ∙ ap (λ ls. (checked task key ls).seen) none)

  push-some : (xs : List (List ℕ)) (y : List ℕ) → xs ++ y ∷ [] ≡ [] → ⊥
  push-some [] y e = cc e
  push-some (x ∷ xs) y e = cc e

  pub has-reason : (seen : Seen) (ls : List (List ℕ)) (line : List ℕ) (reason : ℕ) → checked task key ls ≡ record { seen = seen; stop = None } → Are task law key seen ls
      → step task key seen line ≡ Err reason → HasReason task key ls line reason
  has-reason Nothing ls line reason passed are e = by (bytes_eq line title) refl
    where
      by : (b : Bool) → bytes_eq line title ≡ b → HasReason task key ls line reason
      by true same = cc (sym (ap (λ b. if b then Ok (Blocks [] no_seal) else Err 1) same) ∙ e)
      by false other =
          let is : 1 ≡ reason = cc (sym (ap (λ b. if b then Ok (Blocks [] no_seal) else Err 1) other) ∙ e) in
          subst (λ r. HasReason task key ls line r) is (inl (refl, inr (inl (are, λ same. cc (sym other ∙ ap (λ l. bytes_eq l title) same ∙ octets-same title)))))
  has-reason (Whole lines) ls line reason passed are e =
      let is : 1 ≡ reason = cc e in
      subst (λ r. HasReason task key ls line r) is (inl (refl, inr (inr (inr (inl (whole-of task law key lines ls are))))))
  has-reason (Within lines seal due more) ls line reason passed are e =
      let last = sealed_block key (last_seal task key lines) (end_block task lines) in
      refused-due ls (within lines seal more) line due reason (record {
        some = not-empty (Within lines seal due more) ls passed (λ is. cc is);
        not_whole = not-whole task law key (Within lines seal due more) ls passed (λ lines is. cc is);
        not_said = λ s. cc (part-seen task law key (Within lines seal due more) ls line passed s);
        begins =
            begins-here task law key lines (ls ++ due ∷ []) (more ++ last) are.2
            (ap (λ part. part ++ last) (sym are.0) ∙ append_assoc ls (due ∷ more) last ∙ sym (one-line task law key ls due (more ++ last)));
        only = λ x b. only-due (Within lines seal due more) (within lines seal more) ls (given_line x) due passed refl b;
      }) e
  has-reason (Ending lines due more) ls line reason passed are e =
      refused-due ls (ending lines more) line due reason (record {
        some = not-empty (Ending lines due more) ls passed (λ is. cc is);
        not_whole = not-whole task law key (Ending lines due more) ls passed (λ lines is. cc is);
        not_said = λ s. cc (part-seen task law key (Ending lines due more) ls line passed s);
        begins = begins-here task law key lines (ls ++ due ∷ []) more are.1 (sym are.0 ∙ sym (one-line task law key ls due more));
        only = λ x b. only-due (Ending lines due more) (ending lines more) ls (given_line x) due passed refl b;
      }) e
  has-reason (Blocks lines seal) ls line reason passed (is, is_last, sound) e = by (is_said line) refl
    where
      said : List ℕ
      said = drop 2 line

      chosen : Bool → Result Seen ℕ
      chosen b = if b then said_step task key lines seal said (task.stop (lines ++ said ∷ [])) else end_step lines (end_lines task key lines seal) line

      saying : (o : Option Bad) → task.stop (lines ++ said ∷ []) ≡ o → line ≡ said_line said → said_step task key lines seal said o ≡ Err reason
          → HasReason task key ls line reason
      saying None stop is_line e = cc e
      saying (Some bad) stop is_line e =
          let one : 1 ≡ reason = cc e in
          let same = text-of task law key lines sound.1 in
          subst (λ r. HasReason task key ls line r) one (inl (
            refl,
            inr (inr (inr (inr (record {
              text = ended_text lines;
              sound = ap task.stop same ∙ sound.0;
              at_block = is ∙ ap (journal_part task key) (sym same);
              said = said;
              is_said = is_line;
              is_bad = λ none. cc (sym (ap (λ lines. task.stop (lines ++ said ∷ [])) same ∙ stop) ∙ none);
            })))),
          ))

      ends : (due : List (List ℕ)) → end_lines task key lines seal ≡ due → is_said line ≡ false → end_step lines due line ≡ Err reason
          → HasReason task key ls line reason
      ends [] all other e = absurd (push-some (end_block task lines) _ all)
      ends (d ∷ more) all other e =
          refused-due ls (ending lines more) line d reason (record {
            some = not-empty (Blocks lines seal) ls passed (λ is. cc is);
            not_whole = not-whole task law key (Blocks lines seal) ls passed (λ lines is. cc is);
            not_said = λ s. begins-not (codes "< ") line s.said other s.is_said;
            begins =
                begins-here task law key lines (ls ++ d ∷ []) more sound
                (ap (λ part. part ++ sealed_block key (last_seal task key lines) (end_block task lines)) (sym is)
                ∙ ap (λ s. ls ++ sealed_block key s (end_block task lines)) (sym is_last) ∙ ap (λ due. ls ++ due) all ∙ sym (one-line task law key ls d more));
            only = λ x b. only-due (Blocks lines seal) (ending lines more) ls (given_line x) d passed (ap (λ due. end_step lines due (given_line x)) all) b;
          }) e

      by : (b : Bool) → is_said line ≡ b → HasReason task key ls line reason
      by true is_it = saying (task.stop (lines ++ said ∷ [])) refl (begins (codes "< ") line is_it) (sym (ap chosen is_it) ∙ e)
      by false other = ends (end_lines task key lines seal) refl other (sym (ap chosen other) ∙ e)

  -- ---- a line that is too long

  long-due : (next : Seen) (due line : List ℕ) (reason : ℕ) → 140100 < length line → due_step next due line ≡ Err reason → reason ≡ 1
  long-due next due line reason long e = by (bytes_eq line due) refl
    where
      over : nat_lt 140100 (length line) ≡ true
      over = search (rules, long)

      by : (b : Bool) → bytes_eq line due ≡ b → reason ≡ 1
      by true same = cc (sym (ap (λ b. if b then Ok next else Err (reason_of due line)) same) ∙ e)
      by false other =
          let is : reason_of due line ≡ reason = cc (sym (ap (λ b. if b then Ok next else Err (reason_of due line)) other) ∙ e) in
          sym is ∙ ap (λ (b : Bool). if b || not (is_marked line) then 1 else if is_given line || is_given due then 2 else 3) over

  long-step : (seen : Seen) (line : List ℕ) (reason : ℕ) → 140100 < length line → step task key seen line ≡ Err reason → reason ≡ 1
  long-step Nothing line reason long e = by (bytes_eq line title) refl
    where
      by : (b : Bool) → bytes_eq line title ≡ b → reason ≡ 1
      by true same = cc (sym (ap (λ b. if b then Ok (Blocks [] no_seal) else Err 1) same) ∙ e)
      by false other = cc (sym (ap (λ b. if b then Ok (Blocks [] no_seal) else Err 1) other) ∙ e)
  long-step (Whole lines) line reason long e = cc e
  long-step (Within lines seal due more) line reason long e = long-due (within lines seal more) due line reason long e
  long-step (Ending lines due more) line reason long e = long-due (ending lines more) due line reason long e
  long-step (Blocks lines seal) line reason long e = by (is_said line) refl
    where
      said : List ℕ
      said = drop 2 line

      chosen : Bool → Result Seen ℕ
      chosen b = if b then said_step task key lines seal said (task.stop (lines ++ said ∷ [])) else end_step lines (end_lines task key lines seal) line

      saying : (o : Option Bad) → said_step task key lines seal said o ≡ Err reason → reason ≡ 1
      saying None e = cc e
      saying (Some bad) e = cc e

      ends : (due : List (List ℕ)) → end_lines task key lines seal ≡ due → end_step lines due line ≡ Err reason → reason ≡ 1
      ends [] all e = absurd (push-some (end_block task lines) _ all)
      ends (d ∷ more) all e = long-due (ending lines more) d line reason long e

      by : (b : Bool) → is_said line ≡ b → reason ≡ 1
      by true is_it = saying (task.stop (lines ++ said ∷ [])) (sym (ap chosen is_it) ∙ e)
      by false other = ends (end_lines task key lines seal) refl (sym (ap chosen other) ∙ e)

  -- ---- a text that is no journal

  pub count-capped : (n : ℕ) (ls : List (List ℕ)) → n ≤ 18446744073709551615 → count_after n ls ≡ min (n + length ls) 18446744073709551615
  count-capped n [] within = omega (arith, within)
  count-capped n (x ∷ ls) within = count-capped (one_more n) ls (omega (arith, within)) ∙ omega (arith, within)

  counted : (ls : List (List ℕ)) → one_more (count_after 0 ls) ≡ min (length ls + 1) (2 ^ 64 - 1)
  counted ls = ap one_more (count-capped 0 ls (omega arith)) ∙ omega arith

  abbrev Passed : List (List ℕ) → Type 0
  Passed ls = checked task key ls ≡ record { seen = (checked task key ls).seen; stop = None }

  passed-of : (ls : List (List ℕ)) → (checked task key ls).stop ≡ None → Passed ls
  passed-of ls sound = ap (λ stop. record { seen = (checked task key ls).seen; stop = stop }) sound

  -- the line behind these is refused
  refused-line : (ls : List (List ℕ)) (line : List ℕ) (number reason : ℕ) → (checked task key ls).stop ≡ None
      → (checked task key (ls ++ line ∷ [])).stop ≡ Some (record { line = number; reason = reason })
      → (number ≡ one_more (count_after 0 ls)) × (step task key (checked task key ls).seen line ≡ Err reason)
  refused-line ls line number reason sound bad = by (step task key (checked task key ls).seen line) refl
    where
      seen : Seen
      seen = (checked task key ls).seen

      stopped : (r : Result Seen ℕ) → step task key seen line ≡ r
          → (checked_on (count_after 0 ls) seen r (λ next. checked_from task key (one_more (count_after 0 ls)) next [])).stop ≡ Some (record { line = number; reason = reason })
      stopped r e =
          sym (ap (λ (c : Checked). c.stop) (checked-behind task key 0 Nothing seen ls (line ∷ []) (passed-of ls sound))
          ∙ ap (λ (r : Result Seen ℕ). (checked_on (count_after 0 ls) seen r (λ next. checked_from task key (one_more (count_after 0 ls)) next [])).stop) e) ∙ bad

      by : (r : Result Seen ℕ) → step task key seen line ≡ r → (number ≡ one_more (count_after 0 ls)) × (step task key seen line ≡ Err reason)
      by (Ok next) e = cc (stopped (Ok next) e)
      by (Err other) e =
          let same = Some-is (stopped (Err other) e) in
          (sym (ap (λ (b : Bad). b.line) same), e ∙ ap (λ r. Err r) (ap (λ (b : Bad). b.reason) same))

  pub no-journal-bad : (number reason : ℕ) (X : List ℕ) → FindsBad (check_task task key) (record { line = number; reason = reason }) X
      → IsNoJournal task key X number reason
  no-journal-bad number reason X f = record {
    before = f.lines;
    each = f.each;
    begins = begins-of task law key seen f.lines are;
    behind = f.line ++ f.behind;
    octets = f.octets;
    counted = is.0 ∙ counted f.lines;
    fault = by f.ends;
  }
    where
      seen : Seen
      seen = (checked task key f.lines).seen

      passed : Passed f.lines
      passed = passed-of f.lines f.sound

      are : Are task law key seen f.lines
      are = are-all task law key seen f.lines f.each passed

      is : (number ≡ one_more (count_after 0 f.lines)) × (step task key seen f.line ≡ Err reason)
      is = refused-line f.lines f.line number reason f.sound f.is_bad

      by : ((rest : List ℕ) × (f.behind ≡ 10 ∷ rest)) ⊎ ((f.behind ≡ []) × (140100 < length f.line)) → IsFault task key f.lines (f.line ++ f.behind) reason
      by (inl (rest, ended)) =
          inr (inr (
            f.line,
            (
              rest,
              f.unended,
              ap (λ behind. f.line ++ behind) ended,
              misfit task law key seen f.lines f.line reason passed is.1,
              has-reason seen f.lines f.line reason passed are is.1,
            ),
          ))
      by (inr (none, long)) =
          let all : f.line ++ f.behind ≡ f.line = ap (λ behind. f.line ++ behind) none ∙ append-nil f.line in
          inr (inl (
            λ empty. omega (arith, long, ap length (sym all ∙ empty)),
            subst IsUnended (sym all) f.unended,
            long-step seen f.line reason long is.1,
          ))

  -- octets stand behind its last line
  pub no-journal-last : (ls : List (List ℕ)) (line X : List ℕ) → AllByRecursion IsUnended ls → (checked task key ls).stop ≡ None → X ≡ ended_text ls ++ line
      → IsUnended line → 0 < length line → IsNoJournal task key X (one_more (count_after 0 ls)) 1
  no-journal-last ls line X each sound octets unended some = record {
    before = ls;
    each = each;
    begins = begins-of task law key (checked task key ls).seen ls (are-all task law key (checked task key ls).seen ls each (passed-of ls sound));
    behind = line;
    octets = octets;
    counted = counted ls;
    fault = inr (inl (λ empty. omega (arith, some, ap length empty), unended, refl));
  }

  -- it isn't whole
  pub no-journal-end : (ls : List (List ℕ)) (X : List ℕ) → AllByRecursion IsUnended ls → (checked task key ls).stop ≡ None → X ≡ ended_text ls ++ []
      → ((lines : List (List ℕ)) → (checked task key ls).seen ≡ Whole lines → ⊥) → IsNoJournal task key X (one_more (count_after 0 ls)) 4
  no-journal-end ls X each sound octets part = record {
    before = ls;
    each = each;
    begins = begins-of task law key (checked task key ls).seen ls (are-all task law key (checked task key ls).seen ls each (passed-of ls sound));
    behind = [];
    octets = octets;
    counted = counted ls;
    fault = inl (refl, not-whole task law key (checked task key ls).seen ls (passed-of ls sound) part, refl);
  }
