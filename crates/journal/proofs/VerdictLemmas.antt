-- The verdict on a text.
use Rattle.std.proofs.Common.{◌≡◌, ℕ, ◌-◌, ◌^◌, ◌<◌, ◌≤◌, ◌⊎◌, inl, inr, true, false, min, decimal, List, [], ◌∷◌, ◌++◌, length, Option, Some, None, Result, Ok, Err, refl, sym, ap, ◌∙◌, subst, append_assoc, arith}
use Rattle.std.specs.List.{AllByRecursion}
use Rattle.std.proofs.lemmas.Fmt.{decimal_injective}
use Rattle.std.proofs.lemmas.List.{append-nil, length-append}
use Rattle.wire_core.specs.Counts.{Rose, one_more}
use Rattle.wire_core.specs.Source.{Consumes, IsAtEnd}
use Rattle.wire_core.proofs.SourceLaws.{Consumes-told}
use Rattle.text_lines.specs.Stops.{Bad}
use Rattle.text_lines.proofs.LineLemmas.{lines-cut, lines-last}
use Rattle.text_lines.specs.Streams.{IsUnended, most_octets}
use Rattle.text_lines.specs.Words.{lines_of}
use Rattle.agent_status.specs.declared.status.Status.{Status}
use Rattle.agent_status.specs.declared.status.Status.TheVariants.{Done, Usage, BadConfig, BadTranscript, ReadFault, WriteFault, OutOfMemory, TooLong, LinkFault, PeerRefused, NoThread, DatagramFault, LinkEnded}
use Rattle.text_commands.specs.Tasks.{IsTask, TakesCounts, TakesEach, TakesLines, Task, ended_text}
use Rattle.journal.specs.Checking.{Blocks, Ending, Nothing, Seen, Whole, Within, check_task, checked, count_after, verdict_at}
use Rattle.journal.specs.Faults.{IsFault, IsNoJournal}
use Rattle.journal.specs.Journal.{added, block_of, blocks_from, blocks_on, end_block, journal_lines, journal_part, journal_text, last_seal, no_seal, seal_line, seal_of, sealed, sealed_block}
use Rattle.journal.specs.Verdicts.{CheckCounts, ChecksBy, IsVerdict, JudgesBy, JudgesNot, TakesFew, verdict_by, verdict_text}
use Rattle.journal.specs.declared.verdict.Verdict.{Verdict}
use Rattle.journal.specs.declared.verdict.Verdict.TheVariants.{Yes, No}
use Rattle.text_commands.proofs.TaskLemmas.{each-push, lines_of-ended}
use Rattle.journal.proofs.BlockLemmas.{ended-append}
use Rattle.journal.proofs.LineLemmas.{ended-first, unended-front, unended-given, unended-lines, unended-seal}
use Rattle.journal.proofs.ReasonLemmas.{count-capped, no-journal-bad, no-journal-end, no-journal-last}
use Rattle.journal.proofs.SeenLemmas.{are-all, text-of}

module _ (task : Task) (law : IsTask task) (key : List ℕ) where
  -- what was taken is all
  takes-all : (taken X : List ℕ) (left : Option (List ℕ)) → Consumes (Some X) left taken → IsAtEnd left → X ≡ taken
  takes-all taken X left takes ended =
      let (ys, told, cut) = Consumes-told takes X refl in
      cut ∙ ap (λ ys. taken ++ ys) (ended ys told) ∙ append-nil taken

  -- octets stand behind all lines that end
  pub judges-more : {took : List (List ℕ) → Type 0} {input : Option (List ℕ)} (left before now : Option (List ℕ)) (X line : List ℕ) (n : ℕ) → input ≡ Some X
      → TakesLines (check_task task key) took (Ok true) input left line before now → ((lines : List (List ℕ)) → took lines → n ≡ one_more (count_after 0 lines))
      → IsNoJournal task key X n 1 × TakesFew X left
  judges-more {took} left before now X line n told (each, unended, some) number =
      let t = subst (λ input. TakesEach (check_task task key) took input left before now line) told each in (
        subst (λ n. IsNoJournal task key X n 1) (sym (number t.lines t.taken))
            (no-journal-last task law key t.lines line X t.each t.sound (takes-all (ended_text t.lines ++ line) X left t.octets t.ended) unended some),
        (ended_text t.lines ++ line, t.octets, t.few),
      )

  -- the text is all lines that end
  verdict-of : (seen : Seen) (ls : List (List ℕ)) (X : List ℕ) → AllByRecursion IsUnended ls → checked task key ls ≡ record { seen = seen; stop = None } → X ≡ ended_text ls ++ []
      → IsVerdict task key X (verdict_at (one_more (count_after 0 ls)) seen)
  verdict-of (Whole lines) ls X each passed octets =
      let (is, sound) = are-all task law key (Whole lines) ls each passed in
      let same = text-of task law key lines sound.1 in
      let capped : count_after 0 lines ≡ min (length lines) (2 ^ 64 - 1) = omega (arith, count-capped task law key 0 lines (omega arith)) in
      record {
        input = ended_text lines;
        sound = ap task.stop same ∙ sound.0;
        is = octets ∙ append-nil (ended_text ls) ∙ ap ended_text is ∙ ap (journal_text task key) (sym same);
        counted = capped ∙ ap (λ ls. min (length ls) (2 ^ 64 - 1)) (sym same);
      }
  verdict-of Nothing ls X each passed octets = no-journal-end task law key ls X each (ap (λ c. c.stop) passed) octets (λ lines is. cc (ap (λ c. c.seen) passed, is))
  verdict-of (Blocks lines seal) ls X each passed octets = no-journal-end task law key ls X each (ap (λ c. c.stop) passed) octets (λ lines is. cc (ap (λ c. c.seen) passed, is))
  verdict-of (Within lines seal due more) ls X each passed octets = no-journal-end task law key ls X each (ap (λ c. c.stop) passed) octets (λ lines is. cc (ap (λ c. c.seen) passed, is))
  verdict-of (Ending lines due more) ls X each passed octets = no-journal-end task law key ls X each (ap (λ c. c.stop) passed) octets (λ lines is. cc (ap (λ c. c.seen) passed, is))

  pub judges-all : {took : List (List ℕ) → Type 0} {input : Option (List ℕ)} (left before now : Option (List ℕ)) (X line : List ℕ) (verdict : Verdict) → input ≡ Some X
      → TakesLines (check_task task key) took (Ok false) input left line before now
      → ((lines : List (List ℕ)) → took lines → verdict ≡ verdict_at (one_more (count_after 0 lines)) (checked task key lines).seen)
      → IsVerdict task key X verdict × TakesFew X left
  judges-all {took} left before now X line verdict told each is =
      let t = subst (λ input. TakesEach (check_task task key) took input left before now []) told each in (
        subst (λ v. IsVerdict task key X v) (sym (is t.lines t.taken))
            (verdict-of (checked task key t.lines).seen t.lines X t.each (ap (λ stop. record { seen = (checked task key t.lines).seen; stop = stop }) t.sound)
            (takes-all (ended_text t.lines ++ []) X left t.octets t.ended)),
        (ended_text t.lines ++ [], t.octets, t.few),
      )

  -- a line is at fault, or there is no verdict. The sink of a check can't fail.
  pub judges-not : (took : List (List ℕ) → Type 0) {input : Option (List ℕ)} (left before now : Option (List ℕ)) (X line : List ℕ) (status : Status) (a a' b b' : ℕ) → input ≡ Some X
      → TakesLines (check_task task key) took (Err status) input left line before now → TakesCounts (Err status) a a' b b' 0 0 → JudgesBy task key (verdict_by status) X left
  judges-not took left before now X line (BadTranscript number reason) a a' b b' told takes counts =
      let (stops, bad) = takes X told in (no-journal-bad task law key number reason X bad, (stops.taken, stops.is_taken, stops.few))
  judges-not took left before now X line ReadFault a a' b b' told takes counts = let ends = takes X told in (_, ends.taken)
  judges-not took left before now X line WriteFault a a' b b' told takes counts = absurd (omega (arith, counts))
  judges-not took left before now X line OutOfMemory a a' b b' told takes counts = let ends = takes X told in (_, ends.taken)
  judges-not took left before now X line TooLong a a' b b' told takes counts = let ends = takes X told in (_, (ends.more, ends.taken, ends.full))
  judges-not took left before now X line Done a a' b b' told takes counts = absurd takes
  judges-not took left before now X line Usage a a' b b' told takes counts = absurd takes
  judges-not took left before now X line LinkFault a a' b b' told takes counts = absurd (takes X told)
  judges-not took left before now X line (PeerRefused code) a a' b b' told takes counts = absurd (takes X told)
  judges-not took left before now X line NoThread a a' b b' told takes counts = absurd (takes X told)
  judges-not took left before now X line DatagramFault a a' b b' told takes counts = absurd (takes X told)
  judges-not took left before now X line (LinkEnded cause) a a' b b' told takes counts = absurd (takes X told)
  judges-not took left before now X line (BadConfig fault) a a' b b' told takes counts = absurd (takes X told)

pub counts-not : (status : Status) (a a' b b' : ℕ) → TakesCounts (Err status) a a' b b' 0 0 → CheckCounts (verdict_by status) a a' b b' 0 0
counts-not (BadTranscript number reason) a a' b b' counts = tt
counts-not ReadFault a a' b b' counts = counts
counts-not WriteFault a a' b b' counts = counts
counts-not OutOfMemory a a' b b' counts = counts
counts-not TooLong a a' b b' counts = counts
counts-not Done a a' b b' counts = counts
counts-not Usage a a' b b' counts = counts
counts-not LinkFault a a' b b' counts = counts
counts-not (PeerRefused code) a a' b b' counts = counts
counts-not NoThread a a' b b' counts = counts
counts-not DatagramFault a a' b b' counts = counts
counts-not (LinkEnded cause) a a' b b' counts = counts
counts-not (BadConfig fault) a a' b b' counts = counts

-- ---- the same verdict

cons-is : {a b : ℕ} {xs ys : List ℕ} → a ∷ xs ≡ b ∷ ys → (a ≡ b) × (xs ≡ ys)
cons-is e = (cc e, cc e)

push-same : (xs ys : List ℕ) (x y : ℕ) → xs ++ x ∷ [] ≡ ys ++ y ∷ [] → xs ≡ ys
push-same [] [] x y e = refl
push-same (a ∷ xs) (b ∷ ys) x y e = let (head, tail) = cons-is e in cc (head, push-same xs ys x y tail)
push-same [] (b ∷ []) x y e = cc e
push-same [] (b ∷ c ∷ ys) x y e = cc e
push-same (a ∷ []) [] x y e = cc e
push-same (a ∷ b ∷ xs) [] x y e = cc e

behind-four : {a b c d : ℕ} {xs ys : List ℕ} → a ∷ b ∷ c ∷ d ∷ xs ≡ a ∷ b ∷ c ∷ d ∷ ys → xs ≡ ys
behind-four e = cc e

-- a verdict where no line follows
abbrev EndsAt : ℕ → Verdict → Type 0
EndsAt number (Yes count) = count < 2 ^ 64
EndsAt number (No line reason) = (line ≡ number) × (reason ≡ 4)

yes-no : ◌≡◌ {A = ℕ} 121 110 → ⊥
yes-no e = omega (arith, e)

-- its text tells it
told-by-text : (number : ℕ) (v w : Verdict) → EndsAt number v → EndsAt number w → verdict_text v ≡ verdict_text w → v ≡ w
told-by-text number (Yes m) (Yes n) small few e = ap Yes (decimal_injective m n small few (push-same (decimal m) (decimal n) 10 10 (behind-four e)))
told-by-text number (No l r) (No k s) (is, why) (same, so) e = ap (λ l. No l r) (is ∙ sym same) ∙ ap (λ r. No k r) (why ∙ sym so)
told-by-text number (Yes m) (No k s) small same e = absurd (yes-no (cons-is e).0)
told-by-text number (No l r) (Yes n) same small e = absurd (yes-no (sym (cons-is e).0))

module _ (task : Task) (law : IsTask task) (key : List ℕ) where
  ends-at : (number : ℕ) (seen : Seen) → EndsAt number (verdict_at number seen)
  ends-at number (Whole lines) = omega (arith, count-capped task law key 0 lines (omega arith))
  ends-at number Nothing = (refl, refl)
  ends-at number (Blocks lines seal) = (refl, refl)
  ends-at number (Within lines seal due more) = (refl, refl)
  ends-at number (Ending lines due more) = (refl, refl)

  -- a check of the same task gives the same verdict
  pub same-verdict : (other : Task) (key' : List ℕ) (lines : List (List ℕ)) → check_task other key' ≡ check_task task key
      → verdict_at (one_more (count_after 0 lines)) (checked other key' lines).seen ≡ verdict_at (one_more (count_after 0 lines)) (checked task key lines).seen
  same-verdict other key' lines same =
      let number = one_more (count_after 0 lines) in
      told-by-text number (verdict_at number (checked other key' lines).seen) (verdict_at number (checked task key lines).seen)
      (ends-at number (checked other key' lines).seen) (ends-at number (checked task key lines).seen) (ap (λ (t : Task). t.close lines) same)

-- without a verdict nothing is written
pub checks-not : (task : Task) (key X : List ℕ) (left written : Option (List ℕ)) (status : Status) → JudgesNot status X left → ChecksBy task key (Err status) X left written written
checks-not task key X left written ReadFault judges = (judges, refl)
checks-not task key X left written OutOfMemory judges = (judges, refl)
checks-not task key X left written TooLong judges = (judges, refl)
checks-not task key X left written WriteFault judges = absurd judges
checks-not task key X left written (BadTranscript number reason) judges = absurd judges
checks-not task key X left written Done judges = absurd judges
checks-not task key X left written Usage judges = absurd judges
checks-not task key X left written LinkFault judges = absurd judges
checks-not task key X left written (PeerRefused code) judges = absurd judges
checks-not task key X left written NoThread judges = absurd judges
checks-not task key X left written DatagramFault judges = absurd judges
checks-not task key X left written (LinkEnded cause) judges = absurd judges
checks-not task key X left written (BadConfig fault) judges = absurd judges

-- ---- a journal isn't refused

module _ (task : Task) (law : IsTask task) (key : List ℕ) where
  each-append : (xs ys : List (List ℕ)) → AllByRecursion IsUnended xs → AllByRecursion IsUnended ys → AllByRecursion IsUnended (xs ++ ys)
  each-append [] ys first second = second
  each-append (x ∷ xs) ys first second = (first.0, each-append xs ys first.1 second)

  sealed-each : (before : List ℕ) (block : List (List ℕ)) → AllByRecursion IsUnended block → AllByRecursion IsUnended (sealed_block key before block)
  sealed-each before block each = each-push IsUnended block (seal_line (seal_of key before block)) each (unended-seal (seal_of key before block))

  block-each : (before : List (List ℕ)) (line : List ℕ) → IsUnended line → AllByRecursion IsUnended (block_of task before line)
  block-each before line unended = (unended-front 60 (32 ∷ line) refl (unended-front 32 line refl unended), unended-given (added task before line))

  blocks-each : (before lines : List (List ℕ)) (seal : List ℕ) → AllByRecursion IsUnended lines → AllByRecursion IsUnended (sealed key seal (blocks_from task before lines))
  blocks-each before [] seal each = tt
  blocks-each before (x ∷ lines) seal each =
      by (task.stop (before ++ x ∷ [])) (blocks-each (before ++ x ∷ []) lines (seal_of key seal (block_of task before x)) each.1)
    where
      by : (o : Option Bad) → AllByRecursion IsUnended (sealed key (seal_of key seal (block_of task before x)) (blocks_from task (before ++ x ∷ []) lines))
          → AllByRecursion IsUnended (sealed key seal (blocks_on o (block_of task before x) (blocks_from task (before ++ x ∷ []) lines)))
      by (Some bad) others = tt
      by None others = each-append (sealed_block key seal (block_of task before x)) _ (sealed-each seal (block_of task before x) (block-each before x each.0)) others

  journal-each : (lines : List (List ℕ)) → AllByRecursion IsUnended lines → AllByRecursion IsUnended (journal_lines task key lines)
  journal-each lines each =
      each-append (journal_part task key lines) (sealed_block key (last_seal task key lines) (end_block task lines)) (refl, blocks-each [] lines no_seal each)
      (sealed-each (last_seal task key lines) (end_block task lines) (unended-given (task.close lines)))

  -- the lines of a text that begins with these
  lines-behind : (before : List (List ℕ)) (behind : List ℕ) → AllByRecursion IsUnended before → lines_of (ended_text before ++ behind) ≡ before ++ lines_of behind
  lines-behind before behind each = lines_of-ended before behind each

  pub is-journal : (text X : List ℕ) (number reason : ℕ) → task.stop (lines_of text) ≡ None → X ≡ journal_text task key (lines_of text) → IsNoJournal task key X number reason → ⊥
  is-journal text X number reason sound is f = by f.fault
    where
      journal : List (List ℕ)
      journal = journal_lines task key (lines_of text)

      cut : journal ≡ f.before ++ lines_of f.behind
      cut =
          sym (text-of task law key journal (journal-each (lines_of text) (unended-lines text))) ∙ ap lines_of (sym is ∙ f.octets)
          ∙ lines-behind f.before f.behind f.each

      -- a line without its 0a
      open-end : (behind : List ℕ) → behind ≡ f.behind → (behind ≡ [] → ⊥) → IsUnended behind → ⊥
      open-end [] same some unended = some refl
      open-end (x ∷ xs) same some unended =
          let one : lines_of f.behind ≡ (x ∷ xs) ∷ [] = ap lines_of (sym same) ∙ lines-last x xs unended in
          let whole : ended_text journal ≡ ended_text f.before ++ ((x ∷ xs) ++ 10 ∷ []) =
          ap ended_text (cut ∙ ap (λ ls. f.before ++ ls) one) ∙ ended-append f.before ((x ∷ xs) ∷ []) ∙ ap (λ r. ended_text f.before ++ r) (ended-first (x ∷ xs) []) in
          let octets : ended_text journal ≡ ended_text f.before ++ (x ∷ xs) = sym is ∙ f.octets ∙ ap (λ r. ended_text f.before ++ r) (sym same) in
          omega (
            arith,
            ap length (sym whole ∙ octets),
            length-append (ended_text f.before) ((x ∷ xs) ++ 10 ∷ []),
            length-append (ended_text f.before) (x ∷ xs),
            length-append (x ∷ xs) (10 ∷ []),
          )

      by : IsFault task key f.before f.behind reason → ⊥
      by (inl (none, part, why)) =
          part (record { text = text; sound = sound; journal = cut ∙ ap (λ behind. f.before ++ lines_of behind) none ∙ append-nil f.before })
      by (inr (inl (some, unended, why))) = open-end f.behind refl some unended
      by (inr (inr (line, (more, unended, behind, other, why)))) =
          other (record {
            text = text;
            sound = sound;
            rest = lines_of more;
            journal =
                cut ∙ ap (λ behind. f.before ++ lines_of behind) behind ∙ ap (λ ls. f.before ++ ls) (lines-cut line more unended)
                ∙ sym (append_assoc f.before (line ∷ []) (lines_of more));
          })

  -- a check of a journal comes to its end, where nothing fails
  pub check-completes : (result : Result Verdict Status) (text X : List ℕ) (left before now : Option (List ℕ)) (a a' b b' d d' : ℕ) → task.stop (lines_of text) ≡ None
      → X ≡ journal_text task key (lines_of text) → length X ≤ most_octets → ChecksBy task key result X left before now → CheckCounts result a a' b b' d d'
      → (Rose b b' → ⊥) → (Rose d d' → ⊥) → ((count : ℕ) × (result ≡ Ok (Yes count))) ⊎ (result ≡ Err OutOfMemory)
  check-completes (Ok (Yes count)) text X left before now a a' b b' d d' sound is short checks counts reads writes = inl (count, refl)
  check-completes (Ok (No number reason)) text X left before now a a' b b' d d' sound is short checks counts reads writes = absurd (is-journal text X number reason sound is checks.0)
  check-completes (Err OutOfMemory) text X left before now a a' b b' d d' sound is short checks counts reads writes = inr refl
  check-completes (Err ReadFault) text X left before now a a' b b' d d' sound is short checks counts reads writes = absurd (reads counts)
  check-completes (Err WriteFault) text X left before now a a' b b' d d' sound is short checks counts reads writes = absurd (writes counts)
  check-completes (Err TooLong) text X left before now a a' b b' d d' sound is short ((taken, (more, takes, full)), same) counts reads writes =
      let (ys, told, cut) = Consumes-told takes X refl in
      absurd (omega (arith, short, full, ap length cut, length-append (taken ++ more ∷ []) ys, length-append taken (more ∷ [])))
  check-completes (Err (BadTranscript number reason)) text X left before now a a' b b' d d' sound is short checks counts reads writes = absurd checks.0
  check-completes (Err Done) text X left before now a a' b b' d d' sound is short checks counts reads writes = absurd checks.0
  check-completes (Err Usage) text X left before now a a' b b' d d' sound is short checks counts reads writes = absurd checks.0
  check-completes (Err LinkFault) text X left before now a a' b b' d d' sound is short checks counts reads writes = absurd checks.0
  check-completes (Err (PeerRefused code)) text X left before now a a' b b' d d' sound is short checks counts reads writes = absurd checks.0
  check-completes (Err NoThread) text X left before now a a' b b' d d' sound is short checks counts reads writes = absurd checks.0
  check-completes (Err DatagramFault) text X left before now a a' b b' d d' sound is short checks counts reads writes = absurd checks.0
  check-completes (Err (LinkEnded cause)) text X left before now a a' b b' d d' sound is short checks counts reads writes = absurd checks.0
  check-completes (Err (BadConfig fault)) text X left before now a a' b b' d d' sound is short checks counts reads writes = absurd checks.0
