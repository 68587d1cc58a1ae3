-- What a replay makes of lines that are long, and at its end.
use Rattle.std.proofs.Common.{◌≡◌, ℕ, ◌<◌, ◌≤◌, Bool, true, false, ◌==◌, nat_lt, decimal, List, [], ◌∷◌, ◌++◌, length, map, codes, None, Ok, Err, if◌then◌else◌, rules, refl, sym, ap, ◌∙◌, arith}
use Rattle.std.proofs.lemmas.Fmt.{length-decimal-le}
use Rattle.std.proofs.lemmas.List.{length-append}
use Rattle.text_lines.specs.Words.{in_front, lines_of, words_of}
use Rattle.printed_lines.specs.Text.{is_drop, is_reply, is_send}
use Rattle.transcript.specs.Kinds.{kind_of}
use Rattle.transcript.specs.Reading.{At, Step, beginning, read_from, read_line, said_on, words_step}
use Rattle.replay_command.specs.Replay.{replay_task}
use Rattle.transcript_runs.specs.Runs.{Stage, first_stage, places_in, stage_after}
use Rattle.replay_command.specs.Run.{end_text, outputs_of}
use Rattle.journal.specs.Journal.{given_line}
use Rattle.journal.specs.Limits.{IsShortTask}

-- ---- a line that is longer than a transcript's may be

long-from : (at : At) (lines : List (List ℕ)) (line : List ℕ) → 140000 < length line → (read_from at (lines ++ line ∷ [])).stop ≡ None → ⊥
long-from at [] line long sound =
    let over : nat_lt 140000 (length line) ≡ true = search (rules, long) in
    cc (sym (ap (λ (b : Bool). (said_on at (if b then Err 1 else words_step at (kind_of (words_of line)) (words_of line)) (λ next. read_from next [])).stop) over) ∙ sound)
long-from at (x ∷ lines) line long sound = by (read_line at x) refl (λ next sound. long-from next lines line long sound)
  where
    by : (r : Step) → read_line at x ≡ r → ((next : At) → (read_from next (lines ++ line ∷ [])).stop ≡ None → ⊥) → ⊥
    by (Ok step) e others = others step.1 (sym (ap (λ r. (said_on at r (λ next. read_from next (lines ++ line ∷ []))).stop) e) ∙ sound)
    by (Err reason) e others = cc (sym (ap (λ r. (said_on at r (λ next. read_from next (lines ++ line ∷ []))).stop) e) ∙ sound)

-- ---- the first line of a text that ends

first-line : (xs : List ℕ) → (one : List ℕ) × ((more : List (List ℕ)) × (lines_of (xs ++ 10 ∷ []) ≡ one ∷ more) × (length one ≤ length xs))
first-line [] = ([], ([], refl, omega arith))
first-line (x ∷ xs) = by (x == 10) refl (first-line xs)
  where
    by : (b : Bool) → (x == 10) ≡ b → (one : List ℕ) × ((more : List (List ℕ)) × (lines_of (xs ++ 10 ∷ []) ≡ one ∷ more) × (length one ≤ length xs))
        → (one : List ℕ) × ((more : List (List ℕ)) × (lines_of (x ∷ xs ++ 10 ∷ []) ≡ one ∷ more) × (length one ≤ length (x ∷ xs)))
    by true e (one, (more, is, few)) = ([], (lines_of (xs ++ 10 ∷ []), ap (λ b. in_front b x (lines_of (xs ++ 10 ∷ []))) e, omega arith))
    by false e (one, (more, is, few)) =
        (x ∷ one, (more, ap (λ b. in_front b x (lines_of (xs ++ 10 ∷ []))) e ∙ ap (λ lines. in_front false x lines) is, omega (arith, few)))

few : (n : ℕ) → n ≤ 18446744073709551615 → length (decimal n) ≤ 20
few n small = length-decimal-le 20 n (omega arith) (omega (arith, small)) (omega (arith, small))

pub replay-is-short : IsShortTask replay_task
replay-is-short = record {
  long_is_bad = λ lines line long sound. long-from (beginning false) lines line long sound;
  short_end = λ lines. short (stage_after first_stage (read_from (beginning false) lines).lines);
}
  where
    short : (stage : Stage) → (one : List ℕ) × ((more : List (List ℕ)) × (map given_line (lines_of (end_text stage)) ≡ one ∷ more) × (length one ≤ 140100))
    short stage =
        let r = decimal (outputs_of is_reply (places_in stage)) in
        let s = decimal (outputs_of is_send (places_in stage)) in
        let d = decimal (outputs_of is_drop (places_in stage)) in
        let (one, (more, is, size)) = first-line (codes "end" ++ 32 ∷ (r ++ 32 ∷ (s ++ 32 ∷ d))) in (
          given_line one,
          (
            map given_line more,
            ap (λ lines. map given_line lines) is,
            omega (
              arith,
              size,
              few (outputs_of is_reply (places_in stage)) (omega arith),
              few (outputs_of is_send (places_in stage)) (omega arith),
              few (outputs_of is_drop (places_in stage)) (omega arith),
              length-append (codes "end") (32 ∷ (r ++ 32 ∷ (s ++ 32 ∷ d))),
              length-append r (32 ∷ (s ++ 32 ∷ d)),
              length-append s (32 ∷ d),
            ),
          ),
        )
