-- What a checker knows behind one line more.
use Rattle.std.proofs.Common.{◌≡◌, ℕ, ◌+◌, false, ◌==◌, List, [], ◌∷◌, ◌++◌, length, drop, Some, None, Result, Ok, Err, if◌then◌else◌, refl, sym, ap, ◌∙◌, subst, ne_eqb, arith}
use Rattle.std.specs.List.{AllByRecursion}
use Rattle.std.proofs.lemmas.List.{length-append}
use Rattle.std.proofs.lemmas.List.Concat.{flat_map-cons}
use Rattle.wire_core.specs.Counts.{one_more}
use Rattle.text_lines.specs.Streams.{IsUnended}
use Rattle.text_commands.specs.Tasks.{Adds, Task, ended_text}
use Rattle.journal.specs.Checking.{Blocks, Checked, Ending, Nothing, Seen, Whole, Within, check_task, checked, count_after, due_step, end_lines, end_step, ending, reason_of, said_step, step, within}
use Rattle.journal.specs.Due.{AreShort}
use Rattle.journal.specs.Journal.{added, block_of, given_lines, said_line, seal_line, seal_of}
use Rattle.journal.specs.Limits.{IsShortTask}
use Rattle.journal.specs.Stands.{GoesOn, HasChecked, IsAt, IsAtWork, IsSame, StepsTo}
use Rattle.journal.specs.declared.checker.Checker.{Checker}
use Rattle.journal.specs.declared.checker.LinePlace.{LinePlace}
use Rattle.journal.specs.declared.checker.LinePlace.TheVariants as place
use Rattle.journal.specs.declared.checker.StepFault.{StepFault}
use Rattle.journal.specs.declared.checker.StepFault.TheVariants as fault
use Rattle.journal.proofs.BlockLemmas.{added-is, block-is, drop-front}
use Rattle.journal.proofs.LineLemmas.{unended-due}
use Rattle.journal.proofs.TaskLemmas.{next-line}

pub count-push : (n : ℕ) (lines : List (List ℕ)) (line : List ℕ) → count_after n (lines ++ line ∷ []) ≡ one_more (count_after n lines)
count-push n [] line = refl
count-push n (x ∷ lines) line = count-push (one_more n) lines line

-- behind the first line of a block
pub behind-first : (first : List ℕ) (more : List (List ℕ)) → drop (length first + 1) (ended_text (first ∷ more)) ≡ ended_text more
behind-first first more =
    ap (λ n. drop n (ended_text (first ∷ more))) (sym (length-append first (10 ∷ [])))
    ∙ ap (λ xs. drop (length (first ++ 10 ∷ [])) xs) (flat_map-cons (λ line. line ++ 10 ∷ []) first more)
    ∙ drop-front (first ++ 10 ∷ []) (ended_text more)

pub behind-said : (said : List ℕ) (more : List (List ℕ)) → drop (length said + 3) (ended_text (said_line said ∷ more)) ≡ ended_text more
behind-said said more =
    let count : length said + 3 ≡ length (said_line said) + 1 = omega arith in
    ap (λ n. drop n (ended_text (said_line said ∷ more))) count ∙ behind-first (said_line said) more

module _ {W : Type 0} (task : W → Task) (took : W → List (List ℕ) → Type 0) where
  -- the next line of a block is due
  at-within : (c : Checker W) (lines : List (List ℕ)) (seal : List ℕ) (given : List (List ℕ)) (last : List ℕ) → c.place ≡ place.Within
      → c.said ≡ count_after 0 lines → c.due ≡ ended_text (given ++ last ∷ []) → AllByRecursion IsUnended (given ++ last ∷ []) → AreShort (given ++ last ∷ [])
      → took c.work lines → c.seal ≡ seal → IsAt task took c (within lines seal (given ++ last ∷ []))
  at-within c lines seal [] last here said due unended short taken sealed =
      record { place = here; said = said; due = due; unended = unended; short = short; works = (taken, sealed) }
  at-within c lines seal (g ∷ given) last here said due unended short taken sealed =
      record { place = here; said = said; due = due; unended = unended; short = short; works = (taken, sealed) }

  pub said-steps : (old new : Checker W) (lines : List (List ℕ)) (seal said given : List ℕ) → IsAt task took old (Blocks lines seal)
      → took new.work (lines ++ said ∷ []) → Adds (task old.work) lines said given → new.place ≡ place.Within
      → new.seal ≡ seal_of old.key old.seal (said_line said ∷ given_lines given)
      → new.due ≡ ended_text (given_lines given ++ seal_line (seal_of old.key old.seal (said_line said ∷ given_lines given)) ∷ [])
      → AreShort (given_lines given ++ seal_line (seal_of old.key old.seal (said_line said ∷ given_lines given)) ∷ [])
      → new.said ≡ one_more old.said → IsSame task took old new
      → StepsTo task took (Ok tt) (said_step (task old.work) old.key lines seal said ((task old.work).stop (lines ++ said ∷ []))) old new
  said-steps old new lines seal said given at taken adds here sealed due short count same =
      subst (λ stop. StepsTo task took (Ok tt) (said_step (task old.work) old.key lines seal said stop) old new) (sym adds.sound) (
        subst (λ d. IsAt task took new (within (lines ++ said ∷ []) next d)) dues
            (at-within new (lines ++ said ∷ []) next (given_lines given) (seal_line last) here
            (count ∙ ap one_more at.said ∙ sym (count-push 0 lines said)) due (unended-due given last) short taken (sealed ∙ is_next)),
        same,
      )
    where
      last : List ℕ
      last = seal_of old.key old.seal (said_line said ∷ given_lines given)

      next : List ℕ
      next = seal_of old.key seal (block_of (task old.work) lines said)

      is_next : last ≡ next
      is_next = ap (λ s. seal_of old.key s (said_line said ∷ given_lines given)) at.works.1 ∙ ap (λ b. seal_of old.key seal b) (block-is (task old.work) lines said given adds)

      dues : given_lines given ++ seal_line last ∷ [] ≡ given_lines (added (task old.work) lines said) ++ seal_line next ∷ []
      dues = ap (λ g. given_lines g ++ seal_line last ∷ []) (sym (added-is (task old.work) lines said given adds)) ∙ ap (λ s. given_lines (added (task old.work) lines said) ++ seal_line s ∷ []) is_next

  -- ---- a line that is due

  first-some : (first : List ℕ) (more : List (List ℕ)) → (length (ended_text (first ∷ more)) == 0) ≡ false
  first-some first more =
      ne_eqb (length (ended_text (first ∷ more))) 0 (λ none.
      omega (arith, none, ap length (flat_map-cons (λ line. line ++ 10 ∷ []) first more), length-append (first ++ 10 ∷ []) (ended_text more), length-append first (10 ∷ [])))

  at-ending : (old new : Checker W) (lines more : List (List ℕ)) → new ≡ record old { due = ended_text more; place = if length (ended_text more) == 0 then place.Behind else place.Ending }
      → old.said ≡ count_after 0 lines → AllByRecursion IsUnended more → AreShort more → IsAt task took new (ending lines more)
  at-ending old new lines [] is said unended short = record {
    place = ap (λ (c : Checker W). c.place) is;
    said = ap (λ (c : Checker W). c.said) is ∙ said;
    due = ap (λ (c : Checker W). c.due) is;
    unended = unended;
    short = short;
    works = tt;
  }
  at-ending old new lines (m ∷ more) is said unended short = record {
    place = ap (λ (c : Checker W). c.place) is ∙ ap (λ b. if b then place.Behind else place.Ending) (first-some m more);
    said = ap (λ (c : Checker W). c.said) is ∙ said;
    due = ap (λ (c : Checker W). c.due) is;
    unended = unended;
    short = short;
    works = tt;
  }

  at-block : (old new : Checker W) (lines : List (List ℕ)) (seal : List ℕ) (more : List (List ℕ))
      → new ≡ record old { due = ended_text more; place = if length (ended_text more) == 0 then place.Block else place.Within }
      → old.said ≡ count_after 0 lines → AllByRecursion IsUnended more → AreShort more → took old.work lines → old.seal ≡ seal → IsAt task took new (within lines seal more)
  at-block old new lines seal [] is said unended short taken sealed = record {
    place = ap (λ (c : Checker W). c.place) is;
    said = ap (λ (c : Checker W). c.said) is ∙ said;
    due = ap (λ (c : Checker W). c.due) is;
    unended = unended;
    short = short;
    works = (subst (λ (w : W). took w lines) (sym (ap (λ (c : Checker W). c.work) is)) taken, ap (λ (c : Checker W). c.seal) is ∙ sealed);
  }
  at-block old new lines seal (m ∷ more) is said unended short taken sealed = record {
    place = ap (λ (c : Checker W). c.place) is ∙ ap (λ b. if b then place.Block else place.Within) (first-some m more);
    said = ap (λ (c : Checker W). c.said) is ∙ said;
    due = ap (λ (c : Checker W). c.due) is;
    unended = unended;
    short = short;
    works = (subst (λ (w : W). took w lines) (sym (ap (λ (c : Checker W). c.work) is)) taken, ap (λ (c : Checker W). c.seal) is ∙ sealed);
  }

  same-by : (old mid new : Checker W) → IsSame task took old mid → mid.work ≡ new.work → mid.key ≡ new.key → mid.lines ≡ new.lines → IsSame task took old new
  same-by old mid new same work key lines = record {
    same_task = ap task (sym work) ∙ same.same_task;
    same_key = sym key ∙ same.same_key;
    same_lines = sym lines ∙ same.same_lines;
  }

  -- the line is the one that is due, or isn't
  goes-on : (r : Result Unit StepFault) (old mid new : Checker W) (here over : LinePlace) (due line : List ℕ) (more : List (List ℕ)) (next : Seen)
      → GoesOn r due line more here over mid new → IsSame task took old mid
      → (new ≡ record mid { due = ended_text more; place = if length (ended_text more) == 0 then over else here } → IsAt task took new next)
      → StepsTo task took r (due_step next due line) old new
  goes-on (Ok done) old mid new here over due line more next (equal, is) same at =
      subst (λ b. StepsTo task took (Ok done) (if b then Ok next else Err (reason_of due line)) old new) (sym equal) (
        at is,
        same-by old mid new same (sym (ap (λ (c : Checker W). c.work) is)) (sym (ap (λ (c : Checker W). c.key) is)) (sym (ap (λ (c : Checker W). c.lines) is)),
      )
  goes-on (Err (fault.Bad reason)) old mid new here over due line more next (other, why, is) same at =
      subst (λ b. StepsTo task took (Err (fault.Bad reason)) (if b then Ok next else Err (reason_of due line)) old new) (sym other) (
        why,
        same-by old mid new same (sym (ap (λ (c : Checker W). c.work) is)) (sym (ap (λ (c : Checker W). c.key) is)) (sym (ap (λ (c : Checker W). c.lines) is)),
      )
  goes-on (Err fault.NoMemory) old mid new here over due line more next goes same at = absurd goes

  same-due : (old : Checker W) (due : List ℕ) → IsSame task took old (record old { due = due })
  same-due old due = record { same_task = refl; same_key = refl; same_lines = refl }

  pub within-steps : (r : Result Unit StepFault) (old new : Checker W) (lines : List (List ℕ)) (seal due line : List ℕ) (more : List (List ℕ))
      → IsAt task took old (Within lines seal due more) → GoesOn r due line more place.Within place.Block old new
      → StepsTo task took r (due_step (within lines seal more) due line) old new
  within-steps r old new lines seal due line more at goes =
      goes-on r old old new place.Within place.Block due line more (within lines seal more) goes (record { same_task = refl; same_key = refl; same_lines = refl })
      (λ is. at-block old new lines seal more is at.said at.unended.1 at.short.1 at.works.0 at.works.1)

  pub ending-steps : (r : Result Unit StepFault) (old new : Checker W) (lines : List (List ℕ)) (due line : List ℕ) (more : List (List ℕ))
      → IsAt task took old (Ending lines due more) → GoesOn r due line more place.Ending place.Behind old new
      → StepsTo task took r (due_step (ending lines more) due line) old new
  ending-steps r old new lines due line more at goes =
      goes-on r old old new place.Ending place.Behind due line more (ending lines more) goes (record { same_task = refl; same_key = refl; same_lines = refl })
      (λ is. at-ending old new lines more is at.said at.unended.1 at.short.1)

  -- the last block
  pub end-steps : (r : Result Unit StepFault) (old mid new : Checker W) (lines : List (List ℕ)) (seal given line : List ℕ) → IsAt task took old (Blocks lines seal)
      → given ≡ (task old.work).close lines → AreShort (given_lines given ++ seal_line (seal_of old.key old.seal (given_lines given)) ∷ [])
      → mid ≡ record old { due = ended_text (given_lines given ++ seal_line (seal_of old.key old.seal (given_lines given)) ∷ []) }
      → ((due : List ℕ) (more : List (List ℕ)) → IsUnended due → mid.due ≡ ended_text (due ∷ more) → GoesOn r due line more place.Ending place.Behind mid new)
      → StepsTo task took r (end_step lines (end_lines (task old.work) old.key lines seal) line) old new
  end-steps r old mid new lines seal given line at printed short is goes =
      subst (λ due. StepsTo task took r (end_step lines due line) old new) dues
      (by (given_lines given) (unended-due given last) short (ap (λ (c : Checker W). c.due) is))
    where
      last : List ℕ
      last = seal_of old.key old.seal (given_lines given)

      dues : given_lines given ++ seal_line last ∷ [] ≡ end_lines (task old.work) old.key lines seal
      dues =
          ap (λ s. given_lines given ++ seal_line (seal_of old.key s (given_lines given)) ∷ []) at.works.1
          ∙ ap (λ g. given_lines g ++ seal_line (seal_of old.key seal (given_lines g)) ∷ []) printed

      same : IsSame task took old mid
      same = record {
        same_task = ap (λ (c : Checker W). task c.work) is;
        same_key = ap (λ (c : Checker W). c.key) is;
        same_lines = ap (λ (c : Checker W). c.lines) is;
      }

      said : mid.said ≡ count_after 0 lines
      said = ap (λ (c : Checker W). c.said) is ∙ at.said

      by : (g : List (List ℕ)) → AllByRecursion IsUnended (g ++ seal_line last ∷ []) → AreShort (g ++ seal_line last ∷ []) → mid.due ≡ ended_text (g ++ seal_line last ∷ [])
          → StepsTo task took r (end_step lines (g ++ seal_line last ∷ []) line) old new
      by [] unended short due =
          goes-on r old mid new place.Ending place.Behind (seal_line last) line [] (ending lines []) (goes (seal_line last) [] unended.0 due) same
          (λ is. at-ending mid new lines [] is said tt tt)
      by (d ∷ g) unended short due =
          goes-on r old mid new place.Ending place.Behind d line (g ++ seal_line last ∷ []) (ending lines (g ++ seal_line last ∷ [])) (goes d (g ++ seal_line last ∷ []) unended.0 due) same
          (λ is. at-ending mid new lines (g ++ seal_line last ∷ []) is said unended.1 short.1)

  -- ---- one line more

  pub at-blocks : (c : Checker W) (seen : Seen) → IsAt task took c seen → c.place ≡ place.Block → (lines : List (List ℕ)) × ((seal : List ℕ) × IsAt task took c (Blocks lines seal))
  at-blocks c (Blocks lines seal) at here = (lines, (seal, at))
  at-blocks c Nothing at here = cc (at.place, here)
  at-blocks c (Within lines seal due more) at here = cc (at.place, here)
  at-blocks c (Ending lines due more) at here = cc (at.place, here)
  at-blocks c (Whole lines) at here = cc (at.place, here)

  works-same : (c : Checker W) (n : ℕ) (seen : Seen) → IsAtWork task took c seen → IsAtWork task took (record c { lines = n }) seen
  works-same c n Nothing works = works
  works-same c n (Blocks lines seal) works = works
  works-same c n (Within lines seal due more) works = works
  works-same c n (Ending lines due more) works = works
  works-same c n (Whole lines) works = works

  pub has-next : (old new : Checker W) (lines : List (List ℕ)) (line : List ℕ) (n : ℕ) → HasChecked task took old lines
      → StepsTo task took (Ok tt) (step (task old.work) old.key (checked (task old.work) old.key lines).seen line) old new → n ≡ one_more old.lines
      → HasChecked task took (record new { lines = n }) (lines ++ line ∷ []) × Adds (check_task (task old.work) old.key) lines line []
  has-next old new lines line n has steps count = by (step (task old.work) old.key (checked (task old.work) old.key lines).seen line) refl steps
    where
      by : (r : Result Seen ℕ) → step (task old.work) old.key (checked (task old.work) old.key lines).seen line ≡ r → StepsTo task took (Ok tt) r old new
          → HasChecked task took (record new { lines = n }) (lines ++ line ∷ []) × Adds (check_task (task old.work) old.key) lines line []
      by (Err reason) e steps = absurd steps
      by (Ok next) e (at, same) =
          let one = next-line (task old.work) old.key lines line (Ok next) has.sound e in
          let moved : checked (task new.work) new.key (lines ++ line ∷ []) ≡ record { seen = next; stop = None } =
          ap (λ t. checked t new.key (lines ++ line ∷ [])) same.same_task ∙ ap (λ k. checked (task old.work) k (lines ++ line ∷ [])) same.same_key ∙ one in (
            record {
              sound = ap (λ (c : Checked). c.stop) moved;
              at = subst (λ seen. IsAt task took (record new { lines = n }) seen) (sym (ap (λ (c : Checked). c.seen) moved)) (record {
                place = at.place;
                said = at.said;
                due = at.due;
                unended = at.unended;
                short = at.short;
                works = works-same new n next at.works;
              });
              counted = count ∙ ap one_more has.counted ∙ sym (count-push 0 lines line);
              is_short = subst IsShortTask (sym same.same_task) has.is_short;
            },
            record { sound = ap (λ (c : Checked). c.stop) one; text = refl },
          )

  pub has-bad : (old new : Checker W) (lines : List (List ℕ)) (line : List ℕ) (n reason : ℕ) → HasChecked task took old lines
      → StepsTo task took (Err (fault.Bad reason)) (step (task old.work) old.key (checked (task old.work) old.key lines).seen line) old new → n ≡ one_more old.lines
      → (checked (task old.work) old.key (lines ++ line ∷ [])).stop ≡ Some (record { line = n; reason = reason })
  has-bad old new lines line n reason has steps count = by (step (task old.work) old.key (checked (task old.work) old.key lines).seen line) refl steps
    where
      by : (r : Result Seen ℕ) → step (task old.work) old.key (checked (task old.work) old.key lines).seen line ≡ r → StepsTo task took (Err (fault.Bad reason)) r old new
          → (checked (task old.work) old.key (lines ++ line ∷ [])).stop ≡ Some (record { line = n; reason = reason })
      by (Ok next) e steps = absurd steps
      by (Err other) e (why, same) =
          ap (λ (c : Checked). c.stop) (next-line (task old.work) old.key lines line (Err other) has.sound e)
          ∙ ap (λ l. Some (record { line = l; reason = other })) (sym (count ∙ ap one_more has.counted)) ∙ ap (λ r. Some (record { line = n; reason = r })) (sym why)
