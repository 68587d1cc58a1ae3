-- What is shown of one more line.
use Rattle.std.proofs.Common.{◌≡◌, ℕ, ◌<◌, inl, Bool, true, nat_lt, if◌then◌else◌, List, [], ◌∷◌, ◌++◌, length, append_assoc, Option, Some, None, Result, Ok, Err, refl, sym, ap, ◌∙◌, rules}
use Rattle.std.proofs.lemmas.List.{append-nil}
use Rattle.wire_core.specs.Counts.{one_more}
use Rattle.wire_core.specs.Sink.{AppendsPrefix}
use Rattle.text_lines.specs.Stops.{Bad}
use Rattle.printed_lines.specs.Show.{show_line, show_words}
use Rattle.text_lines.specs.Words.{words_of}
use Rattle.text_commands.specs.declared.showing.ShowWork.{ShowWork}
use Rattle.agent_status.specs.declared.status.Status.{Status}
use Rattle.agent_status.specs.declared.status.Status.TheVariants.{Done, Usage, BadConfig, BadTranscript, ReadFault, WriteFault, OutOfMemory, TooLong, LinkFault, PeerRefused, NoThread, DatagramFault, LinkEnded}
use Rattle.text_commands.specs.Shown.{Shown, Shows, ShowsNot, count_after, show_task, shown_from, shown_on}
use Rattle.text_commands.specs.Tasks.{Adds, IsTask, WorksNot}

-- none of the lines being bad, they go on with what follows them
shown-append : (n : ℕ) (lines more : List (List ℕ)) → (shown_from n lines).stop ≡ None
    → shown_from n (lines ++ more)
    ≡ record {
      text = (shown_from n lines).text ++ (shown_from (count_after n lines) more).text;
      stop = (shown_from (count_after n lines) more).stop;
    }
shown-append n [] more none = refl
shown-append n (line ∷ lines) more none = by (show_line line) none (shown-append (one_more n) lines more)
  where
    by : (r : Result (List ℕ) ℕ) → (shown_on n r (λ next. shown_from next lines)).stop ≡ None
        → ((shown_from (one_more n) lines).stop ≡ None → shown_from (one_more n) (lines ++ more)
        ≡ record {
          text = (shown_from (one_more n) lines).text ++ (shown_from (count_after (one_more n) lines) more).text;
          stop = (shown_from (count_after (one_more n) lines) more).stop;
        })
        → shown_on n r (λ next. shown_from next (lines ++ more))
        ≡ record {
          text = (shown_on n r (λ next. shown_from next lines)).text ++ (shown_from (count_after (one_more n) lines) more).text;
          stop = (shown_from (count_after (one_more n) lines) more).stop;
        }
    by (Err reason) none later = cc
    by (Ok text) none later =
        let with_stop : List ℕ → Shown = λ t. record { text = t; stop = (shown_from (count_after (one_more n) lines) more).stop } in
        ap (λ (s : Shown). record { text = text ++ s.text; stop = s.stop }) (later none)
        ∙ ap with_stop (sym (append_assoc text (shown_from (one_more n) lines).text (shown_from (count_after (one_more n) lines) more).text))

-- a bad one stays the first
stays : (n : ℕ) (lines more : List (List ℕ)) (bad : Bad) → (shown_from n lines).stop ≡ Some bad → shown_from n (lines ++ more) ≡ shown_from n lines
stays n [] more bad is = cc
stays n (line ∷ lines) more bad is = by (show_line line) is (stays (one_more n) lines more bad)
  where
    by : (r : Result (List ℕ) ℕ) → (shown_on n r (λ next. shown_from next lines)).stop ≡ Some bad
        → ((shown_from (one_more n) lines).stop ≡ Some bad → shown_from (one_more n) (lines ++ more) ≡ shown_from (one_more n) lines)
        → shown_on n r (λ next. shown_from next (lines ++ more)) ≡ shown_on n r (λ next. shown_from next lines)
    by (Err reason) is later = refl
    by (Ok text) is later = ap (λ (s : Shown). record { text = text ++ s.text; stop = s.stop }) (later is)

count-append : (n : ℕ) (lines more : List (List ℕ)) → count_after n (lines ++ more) ≡ count_after (count_after n lines) more
count-append n [] more = refl
count-append n (line ∷ lines) more = count-append (one_more n) lines more

abbrev one : ℕ → Result (List ℕ) ℕ → Shown
one n r = shown_on n r (λ next. shown_from next [])

one-more : (lines : List (List ℕ)) (line : List ℕ) → (shown_from 0 lines).stop ≡ None
    → shown_from 0 (lines ++ line ∷ [])
    ≡ record {
      text = (shown_from 0 lines).text ++ (one (count_after 0 lines) (show_line line)).text;
      stop = (one (count_after 0 lines) (show_line line)).stop;
    }
one-more lines line none = shown-append 0 lines (line ∷ []) none

-- a line that is shown
pub adds : (lines : List (List ℕ)) (line text : List ℕ) → (shown_from 0 lines).stop ≡ None → show_line line ≡ Ok text → Adds show_task lines line text
adds lines line text none is =
    let more = one-more lines line none in
    let ok = ap (one (count_after 0 lines)) is in
    record {
      sound = ap (λ (s : Shown). s.stop) more ∙ ap (λ (s : Shown). s.stop) ok;
      text = ap (λ (s : Shown). s.text) more ∙ ap (λ (s : Shown). (shown_from 0 lines).text ++ s.text) ok ∙ ap (λ t. (shown_from 0 lines).text ++ t) (append-nil text);
    }

pub shows-on : (lines : List (List ℕ)) (line text : List ℕ) (work : ShowWork) (before : ℕ) → (shown_from 0 lines).stop ≡ None → show_line line ≡ Ok text
    → before ≡ count_after 0 lines → work.lines ≡ one_more before → Shows work (lines ++ line ∷ [])
shows-on lines line text work before none is counts next =
    let line_is = adds lines line text none is in
    record {
      sound = line_is.sound;
      count = next ∙ ap one_more counts ∙ sym (count-append 0 lines (line ∷ []));
    }

-- a line that is bad
pub bad-line : (lines : List (List ℕ)) (line : List ℕ) (reason number before : ℕ) → (shown_from 0 lines).stop ≡ None → show_line line ≡ Err reason
    → before ≡ count_after 0 lines → number ≡ one_more before
    → show_task.stop (lines ++ line ∷ []) ≡ Some (record { line = number; reason = reason })
bad-line lines line reason number before none is counts next =
    ap (λ (s : Shown). s.stop) (one-more lines line none) ∙ ap (λ r. (one (count_after 0 lines) r).stop) is
    ∙ ap (λ n. Some (record { line = n; reason = reason })) (sym (next ∙ ap one_more counts))

pub refused : (status : Status) (lines : List (List ℕ)) (line : List ℕ) (number : ℕ) (work : ShowWork) (now : Option (List ℕ)) → Shows work lines
    → number ≡ one_more work.lines → ShowsNot status number (show_line line) → WorksNot show_task status lines line now now
refused (BadTranscript number reason) lines line n work now shows next (same, is) =
    (bad-line lines line reason number work.lines shows.sound is shows.count (same ∙ next), refl)
refused OutOfMemory lines line n work now shows next said = inl refl
refused Done lines line n work now shows next said = absurd said
refused Usage lines line n work now shows next said = absurd said
refused LinkFault lines line n work now shows next said = absurd said
refused (PeerRefused code) lines line n work now shows next said = absurd said
refused NoThread lines line n work now shows next said = absurd said
refused DatagramFault lines line n work now shows next said = absurd said
refused (LinkEnded cause) lines line n work now shows next said = absurd said
refused (BadConfig fault) lines line n work now shows next said = absurd said
refused ReadFault lines line n work now shows next said = absurd said
refused WriteFault lines line n work now shows next said = absurd said
refused TooLong lines line n work now shows next said = absurd said

-- of the line's text a prefix was written
pub unwritten : (status : Status) (lines : List (List ℕ)) (line text : List ℕ) (before now : Option (List ℕ)) → (shown_from 0 lines).stop ≡ None
    → show_line line ≡ Ok text → (status ≡ WriteFault) × AppendsPrefix before now text → WorksNot show_task status lines line before now
unwritten WriteFault lines line text before now none is (same, wrote) = (text, adds lines line text none is, wrote)
unwritten (BadTranscript number reason) lines line text before now none is (same, wrote) = cc
unwritten OutOfMemory lines line text before now none is (same, wrote) = cc
unwritten Done lines line text before now none is (same, wrote) = cc
unwritten Usage lines line text before now none is (same, wrote) = cc
unwritten LinkFault lines line text before now none is (same, wrote) = cc
unwritten (PeerRefused code) lines line text before now none is (same, wrote) = cc
unwritten NoThread lines line text before now none is (same, wrote) = cc
unwritten DatagramFault lines line text before now none is (same, wrote) = cc
unwritten (LinkEnded cause) lines line text before now none is (same, wrote) = cc
unwritten (BadConfig fault) lines line text before now none is (same, wrote) = cc
unwritten ReadFault lines line text before now none is (same, wrote) = cc
unwritten TooLong lines line text before now none is (same, wrote) = cc

-- a line of more octets than a line may have
pub long-line : (lines : List (List ℕ)) (octets : List ℕ) (number : ℕ) (work : ShowWork) → Shows work lines → number ≡ one_more work.lines
    → 140000 < length octets → show_task.stop (lines ++ octets ∷ []) ≡ Some (record { line = number; reason = 1 })
long-line lines octets number work shows next long =
    let over : nat_lt 140000 (length octets) ≡ true = search (rules, long) in
    let said : show_line octets ≡ Err 1 = ap (λ (b : Bool). if b then Err 1 else show_words (words_of octets)) over in
    bad-line lines octets 1 number work.lines shows.sound said shows.count next

-- ---- the task

quiet-line : (lines : List (List ℕ)) (line : List ℕ) (bad : Bad) (r : Result (List ℕ) ℕ) → show_line line ≡ r → (shown_from 0 lines).stop ≡ None
    → (shown_from 0 (lines ++ line ∷ [])).stop ≡ Some bad → show_task.text (lines ++ line ∷ []) ≡ show_task.text lines
quiet-line lines line bad (Ok text) is none stop =
    let line_is = adds lines line text none is in
    cc (line_is.sound, stop)
quiet-line lines line bad (Err reason) is none stop =
    ap (λ (s : Shown). s.text) (one-more lines line none)
    ∙ ap (λ r. (shown_from 0 lines).text ++ (one (count_after 0 lines) r).text) is
    ∙ append-nil (shown_from 0 lines).text

pub is-task : IsTask show_task
is-task = record {
  none = refl;
  empty = refl;
  quiet = λ lines line bad none stop. quiet-line lines line bad (show_line line) refl none stop;
  stop = λ lines more bad is. ap (λ (s : Shown). s.stop) (stays 0 lines more bad is) ∙ is;
  text = λ lines more bad is. ap (λ (s : Shown). s.text) (stays 0 lines more bad is);
}
