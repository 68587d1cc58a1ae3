-- What the octets that were taken say of the next line.
use Rattle.std.proofs.Common.{◌≡◌, ℕ, ◌+◌, ◌<◌, Bool, true, false, List, [], ◌∷◌, ◌++◌, length, Option, Some, None, Result, Ok, Err, refl, sym, ap, ◌∙◌, append_assoc, subst, arith}
use Rattle.std.proofs.lemmas.List.{append-nil, length-append}
use Rattle.wire_core.specs.Counts.{Counts}
use Rattle.wire_core.specs.Source.{Consumes}
use Rattle.wire_core.proofs.SourceLaws.{Consumes-append, Consumes-end, Consumes-told}
use Rattle.text_lines.specs.Streams.{Cutting, IsUnended, TakesNone, rest_of}
use Rattle.text_lines.specs.Words.{lines_of}
use Rattle.text_lines.specs.declared.raw_lines.RawFault.{RawFault}
use Rattle.text_lines.specs.declared.raw_lines.RawFault.TheVariants as raw
use Rattle.text_lines.proofs.LineLemmas.{lines-cut, lines-front, lines-last}
use Rattle.text_lines.proofs.StreamLemmas.{Consumes-held}
use Rattle.transcript.specs.Positions.{TakesBad, TakesSome, TakesStep, TooLong}
use Rattle.transcript.specs.Reading.{At, Step, read_line}
use Rattle.transcript.specs.Taking.{ReadsNext, IsEnding, IsOfLine, ReadsNone}
use Rattle.transcript.specs.declared.line.Line.{Line}
use Rattle.transcript.specs.declared.line_fault.LineFault.{LineFault}
use Rattle.transcript.specs.declared.line_fault.LineFault.TheVariants as fault
use Rattle.transcript.specs.declared.position.Position.{Position}
use Rattle.transcript.specs.declared.reader.LineReader.{LineReader}

-- the line that was taken is the first of what was to come
line-opens : (ended : Bool) {before now : Option (List ℕ)} (octets ending : List ℕ)
    → IsUnended octets → IsEnding ended now octets ending → Consumes before now (octets ++ ending) → (xs : List ℕ) → before ≡ Some xs
    → (more : List (List ℕ)) × (lines_of xs ≡ octets ∷ more)
line-opens false octets ending unended is taken xs told =
    let (ys, still, cut) = Consumes-told taken xs told in
    (lines_of ys, ap lines_of (cut ∙ ap (λ end. (octets ++ end) ++ ys) is ∙ append_assoc octets (10 ∷ []) ys) ∙ lines-cut octets ys unended)
line-opens true [] ending unended is taken xs told = absurd (omega (arith, is.2))
line-opens true (x ∷ octets) ending unended is taken xs told =
    let (all, still) = Consumes-end taken is.1 xs told in
    ([], ap lines_of (all ∙ ap (λ end. (x ∷ octets) ++ end) is.0 ∙ append-nil (x ∷ octets)) ∙ lines-last x octets unended)

bad-step : (number reason : ℕ) (at : At) (step : Step) (new : Position) → TakesStep (Err (fault.Bad number reason)) at step new
    → TakesBad (fault.Bad number reason) at step
bad-step number reason at (Ok step) new takes = absurd takes
bad-step number reason at (Err why) new takes = takes

-- a line whose octets were taken
pub line-answers : (answer : Result (Option Line) LineFault) (at : At) (before left : Option (List ℕ)) (old new : Cutting) (reader : LineReader) (ended : Bool) (ending : List ℕ)
    → TakesSome answer at (read_line at new.line) reader → IsUnended new.line → IsEnding ended (rest_of new left) new.line ending
    → Consumes before (rest_of new left) (new.line ++ ending) → new.held.passed ≡ old.held.passed + length (new.line ++ ending)
    → ReadsNext answer at before (rest_of new left) left old new reader ended
line-answers (Ok (Some said)) at before left old new reader ended ending takes unended is taken passed = record {
  octets = new.line;
  ending = ending;
  unended = unended;
  is_ending = is;
  taken = taken;
  says = takes;
  passed = passed;
}
line-answers (Ok None) at before left old new reader ended ending takes unended is taken passed = absurd takes
line-answers (Err (fault.Bad number reason)) at before left old new reader ended ending takes unended is taken passed = λ xs told.
    let (more, lines) = line-opens ended new.line ending unended is taken xs told in
    record { octets = new.line; more = more; lines = lines; bad = bad-step number reason at (read_line at new.line) reader.position takes.0 }
line-answers (Err fault.NoMemory) at before left old new reader ended ending takes unended is taken passed =
    ((new.line ++ ending) ++ new.held.octets, Consumes-append taken (Consumes-held new left))
line-answers (Err fault.Read) at before left old new reader ended ending takes unended is taken passed = absurd takes.0
line-answers (Err fault.Long) at before left old new reader ended ending takes unended is taken passed = absurd takes.0

-- a line whose octets were taken isn't one at which the source failed
pub line-counts : (answer : Result (Option Line) LineFault) (at : At) (step : Step) (reader : LineReader) (before now : ℕ)
    → TakesSome answer at step reader → now ≡ before → Counts (answer ≡ Err fault.Read) before now
line-counts answer at step reader before now takes same = record {
  rises = λ is. absurd (read answer is takes);
  stays = λ not. same;
  never_falls = omega (arith, same);
}
  where
    read : (answer : Result (Option Line) LineFault) → answer ≡ Err fault.Read → TakesSome answer at step reader → ⊥
    read (Err fault.Read) is takes = takes.0
    read (Ok said) is takes = cc
    read (Err (fault.Bad number reason)) is takes = cc
    read (Err fault.NoMemory) is takes = cc
    read (Err fault.Long) is takes = cc

-- ---- a line that can't be taken of the source

long-bad : (why : LineFault) (at : At) (before left : Option (List ℕ)) (old : Cutting) (xs more : List ℕ) → IsUnended xs → Consumes before left (xs ++ more)
    → 140000 < length xs → TooLong why at → ReadsNone why at before left old
long-bad (fault.Bad number reason) at before left old [] more unended taken long bad = absurd (omega (arith, long))
long-bad (fault.Bad number reason) at before left old (x ∷ xs) more unended taken long bad = λ ys told.
    let (zs, still, cut) = Consumes-told taken ys told in
    let (behind, (lines, is)) = lines-front x xs (more ++ zs) unended in
    record {
      octets = x ∷ xs ++ behind;
      more = lines;
      lines = ap lines_of (cut ∙ append_assoc (x ∷ xs) more zs) ∙ is;
      bad = bad (x ∷ xs ++ behind) (omega (arith, long, length-append (x ∷ xs) behind));
    }
long-bad fault.Read at before left old xs more unended taken long bad = absurd (bad xs long)
long-bad fault.Long at before left old xs more unended taken long bad = absurd (bad xs long)
long-bad fault.NoMemory at before left old xs more unended taken long bad = absurd (bad xs long)

pub raw-none : (f : RawFault) (why : LineFault) (at : At) (before left : Option (List ℕ)) (old new : Cutting)
    → old.longest ≡ 140000 → TakesNone f before left old new → IsOfLine f at why → ReadsNone why at before left old
raw-none raw.Read why at before left old new limit (xs, unended, takes, short) is =
    subst (λ w. ReadsNone w at before left old) (sym is) (xs, unended, takes, omega (arith, limit, short))
raw-none raw.TooMuch why at before left old new limit (xs, (x, unended, takes, short, full)) is =
    subst (λ w. ReadsNone w at before left old) (sym is) (xs, (x, unended, takes, omega (arith, limit, short), full))
raw-none raw.NoMemory why at before left old new limit takes is = subst (λ w. ReadsNone w at before left old) (sym is) takes
raw-none raw.LongLine why at before left old new limit (xs, (more, unended, taken, long, within)) is =
    long-bad why at before left old xs more unended taken (omega (arith, limit, long)) is

long-read : (why : LineFault) (at : At) (octets : List ℕ) → 140000 < length octets → TooLong why at → why ≡ fault.Read → ⊥
long-read fault.Read at octets long bad is = bad octets long
long-read (fault.Bad number reason) at octets long bad is = cc
long-read fault.Long at octets long bad is = cc
long-read fault.NoMemory at octets long bad is = cc

abbrev Answered : Type 0
Answered = Result (Option Line) LineFault

raw-read : (f : RawFault) (why : LineFault) (at : At) (before left : Option (List ℕ)) (old new : Cutting) → old.longest ≡ 140000 → TakesNone f before left old new
    → IsOfLine f at why → why ≡ fault.Read → f ≡ raw.Read
raw-read raw.Read why at before left old new limit takes is read = refl
raw-read raw.TooMuch why at before left old new limit takes is read = cc (is, read)
raw-read raw.NoMemory why at before left old new limit takes is read = cc (is, read)
raw-read raw.LongLine why at before left old new limit (xs, (more, unended, taken, long, within)) is read =
    absurd (long-read why at xs (omega (arith, limit, long)) is read)

read-raw : (f : RawFault) (why : LineFault) (at : At) → IsOfLine f at why → f ≡ raw.Read → why ≡ fault.Read
read-raw raw.Read why at is read = is
read-raw raw.TooMuch why at is read = cc
read-raw raw.NoMemory why at is read = cc
read-raw raw.LongLine why at is read = cc

pub raw-counts : (f : RawFault) (why : LineFault) (at : At) (before left : Option (List ℕ)) (old new : Cutting) (then now : ℕ)
    → old.longest ≡ 140000 → TakesNone f before left old new → IsOfLine f at why → Counts (f ≡ raw.Read) then now → (let answer : Answered = Err why in Counts (answer ≡ Err fault.Read) then now)
raw-counts f why at before left old new then now limit takes is counts = record {
  rises = λ e. counts.rises (raw-read f why at before left old new limit takes is cc);
  stays = λ not. counts.stays (λ read. not (ap (λ w. Err w) (read-raw f why at is read)));
  never_falls = counts.never_falls;
}
