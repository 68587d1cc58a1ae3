-- What a check makes of lines, one after another.
use Rattle.std.proofs.Common.{◌≡◌, ℕ, ◌<◌, ◌≤◌, Bool, true, false, nat_lt, ◌||◌, not, List, [], ◌∷◌, ◌++◌, length, drop, Option, Some, None, Result, Ok, Err, if◌then◌else◌, rules, refl, sym, ap, ◌∙◌, arith}
use Rattle.std.specs.Str.{bytes_eq}
use Rattle.std.proofs.lemmas.List.{length-drop}
use Rattle.wire_core.specs.Counts.{one_more}
use Rattle.text_lines.specs.Stops.{Bad}
use Rattle.text_commands.specs.Tasks.{IsTask, Task, ended_text}
use Rattle.journal.specs.Checking.{Blocks, Ending, Nothing, Seen, Whole, Within, check_task, checked, checked_from, checked_on, count_after, due_step, end_lines, end_step, ending, is_given, is_marked, is_said, reason_of, said_step, step, within}
use Rattle.journal.specs.Due.{AreShort}
use Rattle.journal.specs.Journal.{end_block, no_seal, seal_line, seal_of, sealed, title}
use Rattle.journal.specs.Limits.{IsShortTask}
use Rattle.journal.specs.Stands.{due_of}
use Rattle.journal.specs.Writing.{write_task}
use Rattle.journal.proofs.BlockLemmas.{blocks-bad, blocks-over}
use Rattle.journal.proofs.PassLemmas.{checked-behind, same-octets}

-- ---- writing

pub write-is-task : (task : Task) (key : List ℕ) → IsTask task → IsTask (write_task task key)
write-is-task task key law = record {
  none = law.none;
  empty = refl;
  quiet = λ lines line bad sound stop. ap (λ blocks. ended_text (sealed key no_seal blocks)) (blocks-bad task law lines line bad sound stop);
  stop = λ lines more bad stop. law.stop lines more bad stop;
  text = λ lines more bad stop. ap (λ blocks. ended_text (sealed key no_seal blocks)) (blocks-over task law lines more bad stop);
}

module _ (task : Task) (key : List ℕ) where
  -- ---- checking

  stays : (n : ℕ) (seen : Seen) (lines more : List (List ℕ)) (bad : Bad) → (checked_from task key n seen lines).stop ≡ Some bad
      → (checked_from task key n seen (lines ++ more)).stop ≡ Some bad
  stays n seen [] more bad stop = cc stop
  stays n seen (x ∷ lines) more bad stop = by (step task key seen x) refl (λ next stop. stays (one_more n) next lines more bad stop)
    where
      by : (r : Result Seen ℕ) → step task key seen x ≡ r
          → ((next : Seen) → (checked_from task key (one_more n) next lines).stop ≡ Some bad → (checked_from task key (one_more n) next (lines ++ more)).stop ≡ Some bad)
          → (checked_from task key n seen (x ∷ lines ++ more)).stop ≡ Some bad
      by (Ok next) e others =
          ap (λ (r : Result Seen ℕ). (checked_on n seen r (λ next. checked_from task key (one_more n) next (lines ++ more))).stop) e
          ∙ others next (sym (ap (λ (r : Result Seen ℕ). (checked_on n seen r (λ next. checked_from task key (one_more n) next lines)).stop) e) ∙ stop)
      by (Err reason) e others =
          ap (λ (r : Result Seen ℕ). (checked_on n seen r (λ next. checked_from task key (one_more n) next (lines ++ more))).stop) e
          ∙ sym (ap (λ (r : Result Seen ℕ). (checked_on n seen r (λ next. checked_from task key (one_more n) next lines)).stop) e) ∙ stop

  pub check-is-task : IsTask (check_task task key)
  check-is-task = record {
    none = refl;
    empty = refl;
    quiet = λ lines line bad sound stop. refl;
    stop = λ lines more bad stop. stays 0 Nothing lines more bad stop;
    text = λ lines more bad stop. refl;
  }

  -- one line more
  pub next-line : (ls : List (List ℕ)) (line : List ℕ) (r : Result Seen ℕ) → (checked task key ls).stop ≡ None → step task key (checked task key ls).seen line ≡ r
      → checked task key (ls ++ line ∷ []) ≡ checked_on (count_after 0 ls) (checked task key ls).seen r (λ next. record { seen = next; stop = None })
  next-line ls line r sound e =
      checked-behind task key 0 Nothing (checked task key ls).seen ls (line ∷ []) (ap (λ stop. record { seen = (checked task key ls).seen; stop = stop }) sound)
      ∙ ap (λ r. checked_on (count_after 0 ls) (checked task key ls).seen r (λ next. record { seen = next; stop = None })) e

  -- ---- a line that is longer than one of a journal may be

  long-due : (next : Seen) (due line : List ℕ) → length due ≤ 140100 → 140100 < length line → due_step next due line ≡ Err 1
  long-due next due line short long = by (bytes_eq line due) refl
    where
      over : nat_lt 140100 (length line) ≡ true
      over = search (rules, long)

      by : (b : Bool) → bytes_eq line due ≡ b → due_step next due line ≡ Err 1
      by true same = absurd (omega (arith, short, long, ap length (same-octets line due same)))
      by false other =
          ap (λ b. if b then Ok next else Err (reason_of due line)) other
          ∙ ap (λ (b : Bool). Err (if b || not (is_marked line) then 1 else if is_given line || is_given due then 2 else 3)) over

  pub long-step : (seen : Seen) (line : List ℕ) → IsShortTask task → AreShort (due_of seen) → 140100 < length line → step task key seen line ≡ Err 1
  long-step Nothing line short due long = by (bytes_eq line title) refl
    where
      titled : Bool → Result Seen ℕ
      titled b = if b then Ok (Blocks [] no_seal) else Err 1

      by : (b : Bool) → bytes_eq line title ≡ b → step task key Nothing line ≡ Err 1
      by true same = absurd (omega (arith, long, ap length (same-octets line title same)))
      by false other = ap titled other
  long-step (Whole lines) line short due long = refl
  long-step (Within lines seal first more) line short due long = long-due (within lines seal more) first line due.0 long
  long-step (Ending lines first more) line short due long = long-due (ending lines more) first line due.0 long
  long-step (Blocks lines seal) line short due long = by (is_said line) refl
    where
      said : List ℕ
      said = drop 2 line

      chosen : Bool → Result Seen ℕ
      chosen b = if b then said_step task key lines seal said (task.stop (lines ++ said ∷ [])) else end_step lines (end_lines task key lines seal) line

      saying : (o : Option Bad) → task.stop (lines ++ said ∷ []) ≡ o → said_step task key lines seal said o ≡ Err 1
      saying None stop = absurd (short.long_is_bad lines said (omega (arith, long, length-drop 2 line)) stop)
      saying (Some bad) stop = refl

      by : (b : Bool) → is_said line ≡ b → step task key (Blocks lines seal) line ≡ Err 1
      by true is_it = ap chosen is_it ∙ ap (λ o. said_step task key lines seal said o) refl ∙ saying (task.stop (lines ++ said ∷ [])) refl
      by false other =
          let (first, (more, is, few)) = short.short_end lines in
          ap chosen other
          ∙ ap (λ block. end_step lines (block ++ seal_line (seal_of key seal (end_block task lines)) ∷ []) line) is
          ∙ long-due (ending lines (more ++ seal_line (seal_of key seal (end_block task lines)) ∷ [])) first line few long
