-- What taking one more line of a transcript does.
use Rattle.std.proofs.Common.{◌≡◌, ℕ, inl, inr, List, [], ◌∷◌, ◌++◌, Option, Some, None, Result, Ok, Err, refl, sym, ap, ◌∙◌, subst}
use Rattle.std.proofs.lemmas.List.{append-nil}
use Rattle.wire_core.specs.Counts.{one_more}
use Rattle.wire_core.specs.Sink.{AppendsPrefix}
use Rattle.transcript.specs.Positions.{IsReading, StandsAt, TakesBad, TakesLine, TakesStep}
use Rattle.text_lines.specs.Stops.{Bad}
use Rattle.transcript.specs.Reading.{At, Said, Step, beginning, read_from, read_line, said_on}
use Rattle.transcript.specs.Told.{Agrees, CanFollow, LinesCanFollow, Settings, told_by, told_on}
use Rattle.transcript.specs.declared.line.Line.{Line}
use Rattle.transcript.specs.declared.line_fault.LineFault.{LineFault}
use Rattle.transcript.specs.declared.line_fault.LineFault.TheVariants as fault
use Rattle.transcript.specs.declared.position.Position.{Position}
use Rattle.transcript.specs.declared.reader.LineReader.{LineReader}
use Rattle.agent_status.specs.declared.status.Status.{Status}
use Rattle.agent_status.specs.declared.status.Status.TheVariants.{Done, Usage, BadConfig, BadTranscript, ReadFault, WriteFault, OutOfMemory, TooLong, LinkFault, PeerRefused, NoThread, DatagramFault, LinkEnded}
use Rattle.text_commands.specs.declared.following.TranscriptWork.{TranscriptWork}
use Rattle.text_commands.specs.Following.{Takes, place_after, step_place}
use Rattle.text_commands.specs.Status.{fault_status}
use Rattle.text_commands.specs.Tasks.{Adds, IsBad, IsTask, Works, WorksNot}
use Rattle.text_commands.specs.Transcripts.{FollowsLine, IsFailure, LineAdds, Rule, transcript_task}
use Rattle.transcript.proofs.Reading.FollowLemmas.{after-append}

-- ---- reading one more line

abbrev one : At → Step → Said
one at step = said_on at step (λ next. read_from next [])

-- none of the lines being bad, they go on with what follows them
pub read-append : (at : At) (lines more : List (List ℕ)) → (read_from at lines).stop ≡ None
    → read_from at (lines ++ more)
    ≡ record {
      lines = (read_from at lines).lines ++ (read_from (place_after at lines) more).lines;
      stop = (read_from (place_after at lines) more).stop;
    }
read-append at [] more none = refl
read-append at (octets ∷ lines) more none = by (read_line at octets) none (λ next. read-append next lines more)
  where
    by : (step : Step) → (said_on at step (λ next. read_from next lines)).stop ≡ None
        → ((next : At) → (read_from next lines).stop ≡ None → read_from next (lines ++ more)
        ≡ record {
          lines = (read_from next lines).lines ++ (read_from (place_after next lines) more).lines;
          stop = (read_from (place_after next lines) more).stop;
        })
        → said_on at step (λ next. read_from next (lines ++ more))
        ≡ record {
          lines = (said_on at step (λ next. read_from next lines)).lines ++ (read_from (place_after (step_place at step) lines) more).lines;
          stop = (read_from (place_after (step_place at step) lines) more).stop;
        }
    by (Err reason) none later = cc
    by (Ok step) none later =
        let then = later step.1 none in
        ap (λ (s : Said). record { lines = step.0 ∷ s.lines; stop = s.stop }) then

-- a bad one stays the first
stays : (at : At) (lines more : List (List ℕ)) (bad : Bad) → (read_from at lines).stop ≡ Some bad → read_from at (lines ++ more) ≡ read_from at lines
stays at [] more bad is = cc
stays at (octets ∷ lines) more bad is = by (read_line at octets) is (λ next. stays next lines more bad)
  where
    by : (step : Step) → (said_on at step (λ next. read_from next lines)).stop ≡ Some bad
        → ((next : At) → (read_from next lines).stop ≡ Some bad → read_from next (lines ++ more) ≡ read_from next lines)
        → said_on at step (λ next. read_from next (lines ++ more)) ≡ said_on at step (λ next. read_from next lines)
    by (Err reason) is later = refl
    by (Ok step) is later = ap (λ (s : Said). record { lines = step.0 ∷ s.lines; stop = s.stop }) (later step.1 is)

place-append : (at : At) (lines more : List (List ℕ)) → place_after at (lines ++ more) ≡ place_after (place_after at lines) more
place-append at [] more = refl
place-append at (octets ∷ lines) more = place-append (step_place at (read_line at octets)) lines more

-- ---- what a reader's answer says

took-step : (said : Line) (at : At) (step : Step) (new : Position) → TakesStep (Ok said) at step new
    → (next : At) × (step ≡ Ok (said, next)) × StandsAt new next
took-step said at (Ok step) new takes = (step.1, ap (λ l. Ok (l, step.1)) (sym takes.0), takes.1)
took-step said at (Err reason) new takes = absurd takes

refused-bad : (number reason : ℕ) (at : At) (step : Step) (new : Position) → TakesStep (Err (fault.Bad number reason)) at step new
    → TakesBad (fault.Bad number reason) at step
refused-bad number reason at (Ok step) new takes = absurd takes
refused-bad number reason at (Err why) new takes = takes

-- ---- one more line, after these

module _ (rule : Rule) where
  abbrev origin : At
  origin = beginning rule.controls

  abbrev said_in : List (List ℕ) → List Line
  said_in lines = (read_from origin lines).lines

  abbrev pub at_line : List (List ℕ) → At
  at_line lines = place_after origin lines

  one-more : (lines : List (List ℕ)) (octets : List ℕ) → (read_from origin lines).stop ≡ None
      → read_from origin (lines ++ octets ∷ [])
      ≡ record {
        lines = said_in lines ++ (one (at_line lines) (read_line (at_line lines) octets)).lines;
        stop = (one (at_line lines) (read_line (at_line lines) octets)).stop;
      }
  one-more lines octets none = read-append origin lines (octets ∷ []) none

  -- a line that says something
  pub record LineSays (lines : List (List ℕ)) (octets : List ℕ) (said : Line) (next : At) : Type 0 where
    pub sound : (read_from origin (lines ++ octets ∷ [])).stop ≡ None
    pub said_is : said_in (lines ++ octets ∷ []) ≡ said_in lines ++ said ∷ []
    pub next_is : at_line (lines ++ octets ∷ []) ≡ next

  pub line-says : (lines : List (List ℕ)) (octets : List ℕ) (said : Line) (next : At) → (read_from origin lines).stop ≡ None
      → read_line (at_line lines) octets ≡ Ok (said, next) → LineSays lines octets said next
  line-says lines octets said next none says =
      let more = one-more lines octets none in
      let ok = ap (one (at_line lines)) says in
      record {
        sound = ap (λ (s : Said). s.stop) more ∙ ap (λ (s : Said). s.stop) ok;
        said_is = ap (λ (s : Said). s.lines) more ∙ ap (λ (s : Said). said_in lines ++ s.lines) ok;
        next_is = place-append origin lines (octets ∷ []) ∙ ap (step_place (at_line lines)) says;
      }

  -- a line that is bad
  line-bad : (lines : List (List ℕ)) (octets : List ℕ) (reason : ℕ) → (read_from origin lines).stop ≡ None
      → read_line (at_line lines) octets ≡ Err reason
      → (read_from origin (lines ++ octets ∷ [])).stop ≡ Some (record { line = one_more (at_line lines).lines; reason = reason })
  line-bad lines octets reason none bad =
      ap (λ (s : Said). s.stop) (one-more lines octets none) ∙ ap (λ step. (one (at_line lines) step).stop) bad

  -- ---- the task

  quiet-step : (lines : List (List ℕ)) (octets : List ℕ) (bad : Bad) (step : Step) → read_line (at_line lines) octets ≡ step
      → (read_from origin lines).stop ≡ None → (read_from origin (lines ++ octets ∷ [])).stop ≡ Some bad
      → (transcript_task rule).text (lines ++ octets ∷ []) ≡ (transcript_task rule).text lines
  quiet-step lines octets bad (Ok step) is none stop =
      let says = line-says lines octets step.0 step.1 none is in
      cc (says.sound, stop)
  quiet-step lines octets bad (Err reason) is none stop =
      let more = one-more lines octets none in
      ap (λ (s : Said). rule.text s.lines) more
      ∙ ap (λ step. rule.text (said_in lines ++ (one (at_line lines) step).lines)) is
      ∙ ap rule.text (append-nil (said_in lines))

  pub is-task : rule.text [] ≡ [] → IsTask (transcript_task rule)
  is-task nothing = record {
    none = refl;
    empty = nothing;
    quiet = λ lines line bad none stop. quiet-step lines line bad (read_line (at_line lines) line) refl none stop;
    stop = λ lines more bad is. ap (λ (s : Said). s.stop) (stays origin lines more bad is) ∙ is;
    text = λ lines more bad is. ap (λ (s : Said). rule.text s.lines) (stays origin lines more bad is);
  }

  -- ---- a line that wasn't read

  bad-by : (lines : List (List ℕ)) (octets : List ℕ) (number reason : ℕ) (step : Step) → (read_from origin lines).stop ≡ None
      → read_line (at_line lines) octets ≡ step → TakesBad (fault.Bad number reason) (at_line lines) step
      → (transcript_task rule).stop (lines ++ octets ∷ []) ≡ Some (record { line = number; reason = reason })
  bad-by lines octets number reason (Ok step) none is bad = absurd bad
  bad-by lines octets number reason (Err why) none is (n, r) =
      line-bad lines octets why none is ∙ ap (λ m. Some (record { line = m; reason = why })) (sym n) ∙ ap (λ m. Some (record { line = number; reason = m })) (sym r)

  pub bad-line : (f : LineFault) (lines : List (List ℕ)) (octets : List ℕ) → (read_from origin lines).stop ≡ None
      → TakesBad f (at_line lines) (read_line (at_line lines) octets) → IsBad (transcript_task rule) (fault_status f) (lines ++ octets ∷ [])
  bad-line (fault.Bad number reason) lines octets none bad = bad-by lines octets number reason (read_line (at_line lines) octets) none refl bad
  bad-line fault.Read lines octets none bad = absurd bad
  bad-line fault.Long lines octets none bad = absurd bad
  bad-line fault.NoMemory lines octets none bad = absurd bad

  pub refused : (f : LineFault) (lines : List (List ℕ)) (octets : List ℕ) (reader : LineReader) (before now : Option (List ℕ))
      → (read_from origin lines).stop ≡ None → TakesLine (Err f) (at_line lines) (read_line (at_line lines) octets) reader → now ≡ before
      → WorksNot (transcript_task rule) (fault_status f) lines octets before now
  refused (fault.Bad number reason) lines octets reader before now none takes same =
      (bad-by lines octets number reason (read_line (at_line lines) octets) none refl (refused-bad number reason (at_line lines) (read_line (at_line lines) octets) reader.position takes.0), same)
  refused fault.NoMemory lines octets reader before now none takes same = inl same
  refused fault.Read lines octets reader before now none takes same = absurd takes.0
  refused fault.Long lines octets reader before now none takes same = absurd takes.0

  -- ---- a line that was read

  adds-text : (lines : List (List ℕ)) (octets : List ℕ) (said : Line) (next : At) (text : List ℕ) → LineSays lines octets said next
      → LineAdds rule (said_in lines) said text → Adds (transcript_task rule) lines octets text
  adds-text lines octets said next text says adds = record { sound = says.sound; text = ap rule.text says.said_is ∙ adds }

  failed : (status : Status) (lines : List (List ℕ)) (octets : List ℕ) (text : List ℕ) (before now : Option (List ℕ)) → IsFailure status
      → Adds (transcript_task rule) lines octets text → AppendsPrefix before now text → WorksNot (transcript_task rule) status lines octets before now
  failed WriteFault lines octets text before now is adds part = (text, adds, part)
  failed OutOfMemory lines octets text before now is adds part = inr (text, adds, part)
  failed Done lines octets text before now is adds part = absurd is
  failed Usage lines octets text before now is adds part = absurd is
  failed LinkFault lines octets text before now is adds part = absurd is
  failed (PeerRefused code) lines octets text before now is adds part = absurd is
  failed NoThread lines octets text before now is adds part = absurd is
  failed DatagramFault lines octets text before now is adds part = absurd is
  failed (LinkEnded cause) lines octets text before now is adds part = absurd is
  failed (BadConfig fault) lines octets text before now is adds part = absurd is
  failed (BadTranscript number reason) lines octets text before now is adds part = absurd is
  failed ReadFault lines octets text before now is adds part = absurd is
  failed TooLong lines octets text before now is adds part = absurd is

module _ {F : Type 0} (rule : Rule) (followed : F → List Line → Type 0) where
  -- it can be followed, and then the next one stands where it stands
  pub record Goes (lines : List (List ℕ)) (octets : List ℕ) (said : Line) (reader : LineReader) : Type 0 where
    pub next : At
    pub says : LineSays rule lines octets said next
    pub reads : IsReading reader next
    pub can : CanFollow (told_by (read_from (beginning rule.controls) lines).lines) said
    pub agrees : Agrees next (told_on (told_by (read_from (beginning rule.controls) lines).lines) said)

  pub goes : LinesCanFollow → (work : TranscriptWork F) (lines : List (List ℕ)) (octets : List ℕ) (said : Line) (reader : LineReader)
      → Takes rule followed work lines → TakesLine (Ok said) (at_line rule lines) (read_line (at_line rule lines) octets) reader
      → Goes lines octets said reader
  goes law work lines octets said reader t takes =
      let (next, is, stands) = took-step said (at_line rule lines) (read_line (at_line rule lines) octets) reader.position takes.0 in
      let (can, agrees) = law (at_line rule lines) (told_by (read_from (beginning rule.controls) lines).lines) octets said next t.agrees is in
      record {
        next = next;
        says = line-says rule lines octets said next t.sound is;
        reads = record { position = stands; open_to = takes.1 };
        can = can;
        agrees = agrees;
      }

  takes-on : (lines : List (List ℕ)) (octets : List ℕ) (said : Line) (work : TranscriptWork F) → (g : Goes lines octets said work.reader)
      → followed work.follower ((read_from (beginning rule.controls) lines).lines ++ said ∷ []) → Takes rule followed work (lines ++ octets ∷ [])
  takes-on lines octets said work g has =
      let told : told_by (read_from (beginning rule.controls) (lines ++ octets ∷ [])).lines
      ≡ told_on (told_by (read_from (beginning rule.controls) lines).lines) said =
      ap told_by g.says.said_is ∙ after-append told_on (Settings None) (read_from (beginning rule.controls) lines).lines (said ∷ []) in
      record {
        sound = g.says.sound;
        reads = subst (IsReading work.reader) (sym g.says.next_is) g.reads;
        has_followed = subst (followed work.follower) (sym g.says.said_is) has;
        agrees = rw (g.says.next_is, told) g.agrees;
      }

  -- what taking a line does that was read
  pub works : (r : Result Unit Status) (lines : List (List ℕ)) (octets : List ℕ) (said : Line) (new : TranscriptWork F) (before now : Option (List ℕ))
      → (g : Goes lines octets said new.reader)
      → FollowsLine rule (λ ls. followed new.follower ls) r (read_from (beginning rule.controls) lines).lines said before now
      → Works (transcript_task rule) (λ ls. Takes rule followed new ls) r lines octets before now
  works (Ok done) lines octets said new before now g (has, (text, adds, wrote)) =
      (takes-on lines octets said new g has, (text, adds-text rule lines octets said g.next text g.says adds, wrote))
  works (Err status) lines octets said new before now g (failure, (text, adds, part)) =
      failed rule status lines octets text before now failure (adds-text rule lines octets said g.next text g.says adds) part

  -- the same where the rule is the follower's, and stays
  pub works-as : (rules : F → Rule) (r : Result Unit Status) (lines : List (List ℕ)) (octets : List ℕ) (said : Line) (new : TranscriptWork F) (before now : Option (List ℕ))
      → (g : Goes lines octets said new.reader) → rules new.follower ≡ rule
      → FollowsLine rule (λ ls. followed new.follower ls) r (read_from (beginning rule.controls) lines).lines said before now
      → Works (transcript_task rule) (λ ls. Takes (rules new.follower) followed new ls) r lines octets before now
  works-as rules r lines octets said new before now g same follows =
      let P : Rule → Type 0 = λ by. Works (transcript_task rule) (λ ls. Takes by followed new ls) r lines octets before now in
      subst P (sym same) (works r lines octets said new before now g follows)
