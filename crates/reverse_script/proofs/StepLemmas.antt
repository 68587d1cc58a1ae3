-- What is printed of one more line.
use Rattle.std.proofs.Common.{◌≡◌, ℕ, ◌<◌, inl, inr, Bool, true, false, nat_lt, if◌then◌else◌, List, [], ◌∷◌, ◌++◌, length, append_assoc, Option, Some, None, Result, Ok, Err, refl, sym, ap, subst, ◌∙◌, rules}
use Rattle.std.specs.Prelude.{is_some}
use Rattle.std.proofs.lemmas.List.{append-nil}
use Rattle.wire_core.specs.Counts.{one_more}
use Rattle.wire_core.specs.Sink.{Appends, AppendsPrefix}
use Rattle.text_lines.specs.Stops.{Bad}
use Rattle.printed_lines.specs.Text.{end_line}
use Rattle.text_lines.specs.Words.{words_of}
use Rattle.agent_status.specs.declared.status.Status.{Status}
use Rattle.agent_status.specs.declared.status.Status.TheVariants.{Done, Usage, BadConfig, BadTranscript, ReadFault, WriteFault, OutOfMemory, TooLong, LinkFault, PeerRefused, NoThread, DatagramFault, LinkEnded}
use Rattle.text_commands.specs.Tasks.{Adds, IsTask, WorksNot}
use Rattle.text_commands.specs.Transcripts.{IsFailure}
use Rattle.reverse_core.specs.Standing.{ReverseState}
use Rattle.reverse_script.specs.declared.counts.Counts.{Counts}
use Rattle.reverse_script.specs.declared.line.ScriptFault.{ScriptFault}
use Rattle.reverse_script.specs.declared.line.ScriptFault.TheVariants as faults
use Rattle.reverse_script.specs.declared.work.ReverseWork.{ReverseWork}
use Rattle.reverse_script.specs.Script.{Said, kind_of, read_line, read_words}
use Rattle.reverse_script.specs.Printed.{At, Nothing, Printed, Running, Stage, end_text, is_begun, on, printed_from, printed_on, reverse_task, stage_on, start, text_on}
use Rattle.reverse_script.specs.Running.{IsStage, Refuses, Took, bad_line_status}

-- ---- lines behind lines

abbrev joined : Printed → Printed → Printed
joined p q = record { text = p.text ++ q.text; stop = q.stop; at = q.at }

-- what a line says behind those before it
abbrev said_at : At → List ℕ → Result Said ℕ
said_at at line = read_line (is_begun at.stage) line

-- none of the lines being bad, they go on with what follows them
printed-append : (at : At) (lines more : List (List ℕ)) → (printed_from at lines).stop ≡ None
    → printed_from at (lines ++ more) ≡ joined (printed_from at lines) (printed_from (printed_from at lines).at more)
printed-append at [] more none = refl
printed-append at (line ∷ lines) more none = by (said_at at line) none (λ said. printed-append (on at said) lines more)
  where
    by : (r : Result Said ℕ) → (printed_on at r (λ next. printed_from next lines)).stop ≡ None
        → ((said : Said) → (printed_from (on at said) lines).stop ≡ None
        → printed_from (on at said) (lines ++ more) ≡ joined (printed_from (on at said) lines) (printed_from (printed_from (on at said) lines).at more))
        → printed_on at r (λ next. printed_from next (lines ++ more))
        ≡ joined (printed_on at r (λ next. printed_from next lines)) (printed_from (printed_on at r (λ next. printed_from next lines)).at more)
    by (Err reason) none later = cc
    by (Ok said) none later =
        let t : List ℕ = text_on (one_more at.lines) at.stage said in
        let p : Printed = printed_from (on at said) lines in
        let q : Printed = printed_from p.at more in
        let with_text : List ℕ → Printed = λ x. record { text = x; stop = q.stop; at = q.at } in
        ap (λ (s : Printed). record { text = t ++ s.text; stop = s.stop; at = s.at }) (later said none)
        ∙ ap with_text (sym (append_assoc t p.text q.text))

-- a bad one stays the first
stays : (at : At) (lines more : List (List ℕ)) (bad : Bad) → (printed_from at lines).stop ≡ Some bad → printed_from at (lines ++ more) ≡ printed_from at lines
stays at [] more bad is = cc
stays at (line ∷ lines) more bad is = by (said_at at line) is (λ said. stays (on at said) lines more bad)
  where
    by : (r : Result Said ℕ) → (printed_on at r (λ next. printed_from next lines)).stop ≡ Some bad
        → ((said : Said) → (printed_from (on at said) lines).stop ≡ Some bad → printed_from (on at said) (lines ++ more) ≡ printed_from (on at said) lines)
        → printed_on at r (λ next. printed_from next (lines ++ more)) ≡ printed_on at r (λ next. printed_from next lines)
    by (Err reason) is later = refl
    by (Ok said) is later =
        ap (λ (s : Printed). record { text = text_on (one_more at.lines) at.stage said ++ s.text; stop = s.stop; at = s.at }) (later said is)

-- what the lines so far make
abbrev pub so_far : List (List ℕ) → Printed
so_far lines = printed_from start lines

abbrev one : At → Result Said ℕ → Printed
one at r = printed_on at r (λ next. printed_from next [])

one-more : (lines : List (List ℕ)) (line : List ℕ) → (so_far lines).stop ≡ None
    → so_far (lines ++ line ∷ []) ≡ joined (so_far lines) (one (so_far lines).at (said_at (so_far lines).at line))
one-more lines line none = printed-append start lines (line ∷ []) none

abbrev added : List (List ℕ) → Said → List ℕ
added lines said = text_on (one_more (so_far lines).at.lines) (so_far lines).at.stage said

-- a line that isn't bad
adds : (lines : List (List ℕ)) (line : List ℕ) (said : Said) → (so_far lines).stop ≡ None → said_at (so_far lines).at line ≡ Ok said
    → Adds reverse_task lines line (added lines said)
adds lines line said none is =
    let more = one-more lines line none in
    let ok = ap (one (so_far lines).at) is in
    record {
      sound = ap (λ (s : Printed). s.stop) more ∙ ap (λ (s : Printed). s.stop) ok;
      text = ap (λ (s : Printed). s.text) more ∙ ap (λ (s : Printed). (so_far lines).text ++ s.text) ok
          ∙ ap (λ t. (so_far lines).text ++ t) (append-nil (added lines said));
    }

at-next : (lines : List (List ℕ)) (line : List ℕ) (said : Said) → (so_far lines).stop ≡ None → said_at (so_far lines).at line ≡ Ok said
    → (so_far (lines ++ line ∷ [])).at ≡ on (so_far lines).at said
at-next lines line said none is =
    ap (λ (s : Printed). s.at) (one-more lines line none) ∙ ap (λ r. (one (so_far lines).at r).at) is

-- a line that is bad
bad-line : (lines : List (List ℕ)) (line : List ℕ) (reason : ℕ) → (so_far lines).stop ≡ None → said_at (so_far lines).at line ≡ Err reason
    → reverse_task.stop (lines ++ line ∷ []) ≡ Some (record { line = one_more (so_far lines).at.lines; reason = reason })
bad-line lines line reason none is =
    ap (λ (s : Printed). s.stop) (one-more lines line none) ∙ ap (λ r. (one (so_far lines).at r).stop) is

-- ---- what the command knows

-- the settings were told where there is a core
begun-is : (core : Option ReverseState) (counts : Counts) (stage : Stage) → IsStage core counts stage → is_some core ≡ is_begun stage
begun-is None counts Nothing at = refl
begun-is None counts (Running own ps) at = absurd at
begun-is (Some core) counts Nothing at = absurd at
begun-is (Some core) counts (Running own ps) at = refl

read-at : (work : ReverseWork) (lines : List (List ℕ)) (line : List ℕ) (r : Result Said ℕ) → Took work lines → read_line (is_some work.core) line ≡ r
    → said_at (so_far lines).at line ≡ r
read-at work lines line r took is = ap (λ b. read_line b line) (sym (begun-is work.core work.counts (so_far lines).at.stage took.at.stage)) ∙ is

number-is : (work : ReverseWork) (lines : List (List ℕ)) (number : ℕ) → Took work lines → number ≡ one_more work.lines → number ≡ one_more (so_far lines).at.lines
number-is work lines number took is = is ∙ ap one_more took.at.lines

-- what taking a line does that isn't bad
pub takes : (work new : ReverseWork) (lines : List (List ℕ)) (line : List ℕ) (said : Said) (number : ℕ) (before now : Option (List ℕ)) → Took work lines
    → read_line (is_some work.core) line ≡ Ok said → number ≡ one_more work.lines → new.lines ≡ number
    → ((stage : Stage) → IsStage work.core work.counts stage → IsStage new.core new.counts (stage_on stage said))
    → ((stage : Stage) → IsStage work.core work.counts stage → Appends before now (text_on number stage said))
    → Took new (lines ++ line ∷ []) × ((text : List ℕ) × Adds reverse_task lines line text × Appends before now text)
takes work new lines line said number before now took read is counted follows wrote =
    let said_is = read-at work lines line (Ok said) took read in
    let line_is = adds lines line said took.sound said_is in
    let next = at-next lines line said took.sound said_is in
    let same = number-is work lines number took is in (
      record {
        sound = line_is.sound;
        at = record {
          lines = counted ∙ same ∙ ap (λ (at : At). at.lines) (sym next);
          stage = subst (λ (at : At). IsStage new.core new.counts at.stage) (sym next) (follows (so_far lines).at.stage took.at.stage);
        };
      },
      (
        added lines said,
        line_is,
        subst (λ n. Appends before now (text_on n (so_far lines).at.stage said)) same (wrote (so_far lines).at.stage took.at.stage),
      ),
    )

-- of the line's text a prefix was written
pub takes-part : (status : Status) (work : ReverseWork) (lines : List (List ℕ)) (line : List ℕ) (said : Said) (number : ℕ) (before now : Option (List ℕ)) → Took work lines
    → read_line (is_some work.core) line ≡ Ok said → number ≡ one_more work.lines → IsFailure status
    → ((stage : Stage) → IsStage work.core work.counts stage → AppendsPrefix before now (text_on number stage said))
    → WorksNot reverse_task status lines line before now
takes-part status work lines line said number before now took read is failure wrote =
    let said_is = read-at work lines line (Ok said) took read in
    let line_is = adds lines line said took.sound said_is in
    let same = number-is work lines number took is in
    let part = subst (λ n. AppendsPrefix before now (text_on n (so_far lines).at.stage said)) same (wrote (so_far lines).at.stage took.at.stage) in
    by status failure (added lines said, line_is, part)
  where
    by : (s : Status) → IsFailure s → ((text : List ℕ) × Adds reverse_task lines line text × AppendsPrefix before now text) → WorksNot reverse_task s lines line before now
    by WriteFault failure wrote = wrote
    by OutOfMemory failure wrote = inr wrote
    by Done failure wrote = absurd failure
    by Usage failure wrote = absurd failure
    by LinkFault failure wrote = absurd failure
    by (PeerRefused code) failure wrote = absurd failure
    by NoThread failure wrote = absurd failure
    by DatagramFault failure wrote = absurd failure
    by (LinkEnded cause) failure wrote = absurd failure
    by (BadConfig fault) failure wrote = absurd failure
    by (BadTranscript number reason) failure wrote = absurd failure
    by ReadFault failure wrote = absurd failure
    by TooLong failure wrote = absurd failure

-- a line that can't be read
pub refused : (fault : ScriptFault) (work : ReverseWork) (lines : List (List ℕ)) (line : List ℕ) (number : ℕ) (now : Option (List ℕ)) → Took work lines
    → number ≡ one_more work.lines → Refuses fault (read_line (is_some work.core) line) → WorksNot reverse_task (bad_line_status number fault) lines line now now
refused (faults.Bad reason) work lines line number now took is said =
    let same = number-is work lines number took is in (
      bad-line lines line reason took.sound (read-at work lines line (Err reason) took said) ∙ ap (λ n. Some (record { line = n; reason = reason })) (sym same),
      refl,
    )
refused faults.NoMemory work lines line number now took is said = inl refl

-- a line of more octets than a line may have
pub long-line : (work : ReverseWork) (lines : List (List ℕ)) (octets : List ℕ) (number : ℕ) → Took work lines → number ≡ one_more work.lines
    → 140000 < length octets → reverse_task.stop (lines ++ octets ∷ []) ≡ Some (record { line = number; reason = 1 })
long-line work lines octets number took is long =
    let begun : Bool = is_begun (so_far lines).at.stage in
    let over : nat_lt 140000 (length octets) ≡ true = search (rules, long) in
    let said : said_at (so_far lines).at octets ≡ Err 1 = ap (λ (b : Bool). if b then Err 1 else read_words begun (kind_of (words_of octets)) (words_of octets)) over in
    bad-line lines octets 1 took.sound said ∙ ap (λ n. Some (record { line = n; reason = 1 })) (sym (number-is work lines number took is))

-- the end line counts what went out
pub ends : (core : Option ReverseState) (counts : Counts) (stage : Stage) → IsStage core counts stage → end_line counts.sends counts.answers counts.drops ≡ end_text stage
ends None counts Nothing at = ap (λ (c : Counts). end_line c.sends c.answers c.drops) at
ends None counts (Running own ps) at = absurd at
ends (Some core) counts Nothing at = absurd at
ends (Some core) counts (Running own ps) at = ap (λ (c : Counts). end_line c.sends c.answers c.drops) at.counted

-- ---- the task

quiet-line : (lines : List (List ℕ)) (line : List ℕ) (bad : Bad) (r : Result Said ℕ) → said_at (so_far lines).at line ≡ r → (so_far lines).stop ≡ None
    → (so_far (lines ++ line ∷ [])).stop ≡ Some bad → reverse_task.text (lines ++ line ∷ []) ≡ reverse_task.text lines
quiet-line lines line bad (Ok said) is none stop =
    let line_is = adds lines line said none is in
    cc (line_is.sound, stop)
quiet-line lines line bad (Err reason) is none stop =
    ap (λ (s : Printed). s.text) (one-more lines line none)
    ∙ ap (λ r. (so_far lines).text ++ (one (so_far lines).at r).text) is
    ∙ append-nil (so_far lines).text

pub is-task : IsTask reverse_task
is-task = record {
  none = refl;
  empty = refl;
  quiet = λ lines line bad none stop. quiet-line lines line bad (said_at (so_far lines).at line) refl none stop;
  stop = λ lines more bad is. ap (λ (s : Printed). s.stop) (stays start lines more bad is) ∙ is;
  text = λ lines more bad is. ap (λ (s : Printed). s.text) (stays start lines more bad is);
}
