-- How a run goes on from line to line, and how it ends.
use Rattle.std.proofs.Common.{◌≡◌, ℕ, ◌+◌, ◌<◌, ◌≤◌, Bool, true, false, ◌==◌, ◌||◌, eqb, eqb-true, ◌⊎◌, inl, inr, List, [], ◌∷◌, ◌++◌, length, Option, Some, None, Ok, Err, refl, sym, ap, ◌∙◌, subst, append_assoc, arith}
use Rattle.std.specs.Io.KnownBytes.{prepend_known}
use Rattle.std.specs.List.{AllByRecursion, list_any}
use Rattle.std.proofs.lemmas.List.{append-nil, length-append}
use Rattle.std.proofs.lemmas.Grind.{flat_map-append}
use Rattle.std.proofs.lemmas.List.Concat.{flat_map-cons}
use Rattle.wire_core.specs.Counts.{Rose}
use Rattle.wire_core.specs.Source.{Consumes, IsAtEnd}
use Rattle.wire_core.proofs.SourceLaws.{Consumes-append, Consumes-end, Consumes-none, Consumes-told}
use Rattle.wire_core.specs.Sink.{Appends, AppendsPrefix}
use Rattle.wire_core.proofs.SinkLaws.{Appends-append, Appends-none, AppendsPrefix-append, AppendsPrefix-front, AppendsPrefix-none, AppendsPrefix-whole}
use Rattle.text_lines.specs.Stops.{Bad}
use Rattle.text_lines.specs.Streams.{Cutting, IsUnended, TakesRawLine, TakesNone, most_octets, rest_of}
use Rattle.text_lines.specs.Words.{lines_of}
use Rattle.text_lines.specs.declared.raw_lines.RawFault.{RawFault}
use Rattle.text_lines.specs.declared.raw_lines.RawFault.TheVariants as raw
use Rattle.text_lines.specs.declared.raw_lines.RawLine.TheVariants.{Line, LastLine, End}
use Rattle.text_lines.proofs.LineLemmas.{lines-cut, lines-front, lines-last}
use Rattle.agent_status.specs.declared.status.Status.{Status}
use Rattle.agent_status.specs.declared.status.Status.TheVariants.{Done, Usage, BadConfig, BadTranscript, ReadFault, WriteFault, OutOfMemory, TooLong, LinkFault, PeerRefused, NoThread, DatagramFault, LinkEnded}
use Rattle.text_commands.specs.Tasks.{Adds, AreLines, Closes, EndsBy, EndsCounts, Finishes, IsBad, IsLinesEnd, IsTask, FindsBad, StatusOf, TakesEach, TakesLines, Task, WorksNot, WritesPart, ended_text}

pub each-push : {X : Type 0} (P : X → Type 0) (xs : List X) (y : X) → AllByRecursion P xs → P y → AllByRecursion P (xs ++ y ∷ [])
each-push P [] y each is = (is, tt)
each-push P (x ∷ xs) y each is = (each.0, each-push P xs y each.1 is)

-- ---- lines and their octets

abbrev with_end : List ℕ → List ℕ
with_end line = line ++ 10 ∷ []

ended-push : (lines : List (List ℕ)) (l : List ℕ) → ended_text (lines ++ l ∷ []) ≡ ended_text lines ++ with_end l
ended-push lines l =
    flat_map-append with_end lines (l ∷ []) ∙ ap (λ r. ended_text lines ++ r) (flat_map-cons with_end l [] ∙ append-nil (with_end l))

pub lines_of-ended : (lines : List (List ℕ)) (more : List ℕ) → AllByRecursion IsUnended lines
    → lines_of (ended_text lines ++ more) ≡ lines ++ lines_of more
lines_of-ended [] more each = refl
lines_of-ended (l ∷ lines) more each =
    ap (λ r. lines_of (r ++ more)) (flat_map-cons with_end l lines)
    ∙ ap lines_of (append_assoc (with_end l) (ended_text lines) more ∙ append_assoc l (10 ∷ []) (ended_text lines ++ more))
    ∙ lines-cut l (ended_text lines ++ more) each.0
    ∙ ap (λ r. l ∷ r) (lines_of-ended lines more each.1)

-- behind a line: the octet that ends it, or nothing
abbrev IsCut : List ℕ → Type 0
IsCut behind = ((rest : List ℕ) × (behind ≡ 10 ∷ rest)) ⊎ (behind ≡ [])

-- the octets before the first one that ends a line, and those behind them
first-cut : (xs : List ℕ) → (piece : List ℕ) × ((behind : List ℕ) × (xs ≡ piece ++ behind) × IsUnended piece × IsCut behind)
first-cut [] = ([], ([], refl, refl, inr refl))
first-cut (x ∷ xs) = by (eqb x 10) refl (first-cut xs)
  where
    by : (b : Bool) → eqb x 10 ≡ b → (piece : List ℕ) × ((behind : List ℕ) × (xs ≡ piece ++ behind) × IsUnended piece × IsCut behind)
        → (piece : List ℕ) × ((behind : List ℕ) × (x ∷ xs ≡ piece ++ behind) × IsUnended piece × IsCut behind)
    by true e further = ([], (x ∷ xs, refl, refl, inl (xs, ap (λ y. y ∷ xs) (eqb-true x 10 e))))
    by false e (piece, (behind, rest, unended, ends)) =
        (x ∷ piece, (behind, ap (λ r. x ∷ r) rest, ap (λ b. b || list_any (λ y. y == 10) piece) e ∙ unended, ends))

unended-append : (xs ys : List ℕ) → IsUnended xs → IsUnended ys → IsUnended (xs ++ ys)
unended-append [] ys first second = second
unended-append (x ∷ xs) ys first second = by (eqb x 10) refl (λ first. unended-append xs ys first second)
  where
    by : (b : Bool) → eqb x 10 ≡ b → (IsUnended xs → IsUnended (xs ++ ys)) → IsUnended (x ∷ xs ++ ys)
    by true e further = cc (sym (ap (λ b. b || list_any (λ y. y == 10) xs) e) ∙ first)
    by false e further =
        ap (λ b. b || list_any (λ y. y == 10) (xs ++ ys)) e ∙ further (sym (ap (λ b. b || list_any (λ y. y == 10) xs) e) ∙ first)

Held-last : (c : Cutting) (left : Option (List ℕ)) → Consumes (rest_of c left) left c.held.octets
Held-last c left = record { front = refl }

none-left : (xs ys : List ℕ) → [] ≡ xs ++ ys → (xs ≡ []) × (ys ≡ [])
none-left [] ys e = (refl, sym e)
none-left (x ∷ xs) ys e = cc

-- where nothing is to come, the source is at its end
at-end : (c : Cutting) (left : Option (List ℕ)) → rest_of c left ≡ Some [] → left ≡ Some []
at-end c left e =
    let (ys, still, cut) = Consumes-told (Held-last c left) [] e in
    still ∙ ap Some (none-left c.held.octets ys cut).1

-- ---- the status of a fault

pub status-begun : (task : Task) (took : List (List ℕ) → Type 0) (fault : RawFault) (status : Status) (lines : List (List ℕ)) (before left : Option (List ℕ)) (old new : Cutting)
    → old.longest ≡ task.longest → took lines → TakesNone fault before left old new → StatusOf fault took task status → status ≡ Usage → ⊥
status-begun task took raw.Read status lines before left old new limit taken takes is usage = cc (is, usage)
status-begun task took raw.TooMuch status lines before left old new limit taken takes is usage = cc (is, usage)
status-begun task took raw.NoMemory status lines before left old new limit taken takes is usage = cc (is, usage)
status-begun task took raw.LongLine status lines before left old new limit taken (xs, (more, unended, further, long, within)) is usage =
    subst (λ s. IsBad task s (lines ++ xs ∷ [])) usage (is lines xs taken (omega (arith, long, limit)))

status-done : (task : Task) (took : List (List ℕ) → Type 0) (fault : RawFault) (status : Status) (lines : List (List ℕ)) (before left : Option (List ℕ)) (old new : Cutting)
    → old.longest ≡ task.longest → took lines → TakesNone fault before left old new → StatusOf fault took task status → status ≡ Done → ⊥
status-done task took raw.Read status lines before left old new limit taken takes is done = cc (is, done)
status-done task took raw.TooMuch status lines before left old new limit taken takes is done = cc (is, done)
status-done task took raw.NoMemory status lines before left old new limit taken takes is done = cc (is, done)
status-done task took raw.LongLine status lines before left old new limit taken (xs, (more, unended, further, long, within)) is done =
    subst (λ s. IsBad task s (lines ++ xs ∷ [])) done (is lines xs taken (omega (arith, long, limit)))

bad-counts : (task : Task) (status : Status) (lines : List (List ℕ)) (a a' b b' d d' : ℕ) → IsBad task status lines → EndsCounts status a a' b b' d d'
bad-counts task (BadTranscript number reason) lines a a' b b' d d' bad = tt
bad-counts task Done lines a a' b b' d d' bad = absurd bad
bad-counts task Usage lines a a' b b' d d' bad = absurd bad
bad-counts task LinkFault lines a a' b b' d d' bad = absurd bad
bad-counts task (PeerRefused code) lines a a' b b' d d' bad = absurd bad
bad-counts task NoThread lines a a' b b' d d' bad = absurd bad
bad-counts task DatagramFault lines a a' b b' d d' bad = absurd bad
bad-counts task (LinkEnded cause) lines a a' b b' d d' bad = absurd bad
bad-counts task (BadConfig fault) lines a a' b b' d d' bad = absurd bad
bad-counts task ReadFault lines a a' b b' d d' bad = absurd bad
bad-counts task WriteFault lines a a' b b' d d' bad = absurd bad
bad-counts task OutOfMemory lines a a' b b' d d' bad = absurd bad
bad-counts task TooLong lines a a' b b' d d' bad = absurd bad

pub status-counts : (task : Task) (took : List (List ℕ) → Type 0) (fault : RawFault) (status : Status) (lines : List (List ℕ)) (before left : Option (List ℕ)) (old new : Cutting)
    → old.longest ≡ task.longest → took lines → TakesNone fault before left old new → StatusOf fault took task status → (a a' b b' d d' : ℕ) → (fault ≡ raw.Read → Rose b b')
    → EndsCounts status a a' b b' d d'
status-counts task took raw.Read status lines before left old new limit taken takes is a a' b b' d d' rose =
    subst (λ s. EndsCounts s a a' b b' d d') (sym is) (rose refl)
status-counts task took raw.TooMuch status lines before left old new limit taken takes is a a' b b' d d' rose =
    subst (λ s. EndsCounts s a a' b b' d d') (sym is) tt
status-counts task took raw.NoMemory status lines before left old new limit taken takes is a a' b b' d d' rose =
    subst (λ s. EndsCounts s a a' b b' d d') (sym is) tt
status-counts task took raw.LongLine status lines before left old new limit taken (xs, (more, unended, further, long, within)) is a a' b b' d d' rose =
    bad-counts task status (lines ++ xs ∷ []) a a' b b' d d' (is lines xs taken (omega (arith, long, limit)))

-- ---- the statuses with which a command over lines may end

pub closes-known : (task : Task) (status : Status) (lines : List (List ℕ)) (before now : Option (List ℕ)) → Closes task status lines before now → IsLinesEnd status
closes-known task Done lines before now closes = tt
closes-known task Usage lines before now closes = absurd closes
closes-known task (BadConfig fault) lines before now closes = absurd closes
closes-known task (BadTranscript number reason) lines before now closes = tt
closes-known task ReadFault lines before now closes = tt
closes-known task WriteFault lines before now closes = tt
closes-known task OutOfMemory lines before now closes = tt
closes-known task TooLong lines before now closes = tt
closes-known task LinkFault lines before now closes = absurd closes
closes-known task (PeerRefused code) lines before now closes = absurd closes
closes-known task NoThread lines before now closes = absurd closes
closes-known task DatagramFault lines before now closes = absurd closes
closes-known task (LinkEnded cause) lines before now closes = absurd closes

pub works-known : (task : Task) (status : Status) (lines : List (List ℕ)) (line : List ℕ) (before now : Option (List ℕ)) → WorksNot task status lines line before now → IsLinesEnd status
works-known task Done lines line before now works = tt
works-known task Usage lines line before now works = absurd works
works-known task (BadConfig fault) lines line before now works = absurd works
works-known task (BadTranscript number reason) lines line before now works = tt
works-known task ReadFault lines line before now works = tt
works-known task WriteFault lines line before now works = tt
works-known task OutOfMemory lines line before now works = tt
works-known task TooLong lines line before now works = tt
works-known task LinkFault lines line before now works = absurd works
works-known task (PeerRefused code) lines line before now works = absurd works
works-known task NoThread lines line before now works = absurd works
works-known task DatagramFault lines line before now works = absurd works
works-known task (LinkEnded cause) lines line before now works = absurd works

bad-known : (task : Task) (status : Status) (lines : List (List ℕ)) → IsBad task status lines → IsLinesEnd status
bad-known task Done lines bad = tt
bad-known task Usage lines bad = absurd bad
bad-known task (BadConfig fault) lines bad = absurd bad
bad-known task (BadTranscript number reason) lines bad = tt
bad-known task ReadFault lines bad = tt
bad-known task WriteFault lines bad = tt
bad-known task OutOfMemory lines bad = tt
bad-known task TooLong lines bad = tt
bad-known task LinkFault lines bad = absurd bad
bad-known task (PeerRefused code) lines bad = absurd bad
bad-known task NoThread lines bad = absurd bad
bad-known task DatagramFault lines bad = absurd bad
bad-known task (LinkEnded cause) lines bad = absurd bad

pub status-known : (task : Task) (took : List (List ℕ) → Type 0) (fault : RawFault) (status : Status) (lines : List (List ℕ)) (before left : Option (List ℕ)) (old new : Cutting)
    → old.longest ≡ task.longest → took lines → TakesNone fault before left old new → StatusOf fault took task status → IsLinesEnd status
status-known task took raw.Read status lines before left old new limit taken takes is = subst IsLinesEnd (sym is) tt
status-known task took raw.TooMuch status lines before left old new limit taken takes is = subst IsLinesEnd (sym is) tt
status-known task took raw.NoMemory status lines before left old new limit taken takes is = subst IsLinesEnd (sym is) tt
status-known task took raw.LongLine status lines before left old new limit taken (xs, (more, unended, further, long, within)) is =
    bad-known task status (lines ++ xs ∷ []) (is lines xs taken (omega (arith, long, limit)))

-- ---- a sound input is taken whole

pub completes : (task : Task) (status : Status) (X : List ℕ) (left before now : Option (List ℕ)) (a a' b b' d d' : ℕ) → (status ≡ Usage → ⊥)
    → EndsBy task status X left before now → EndsCounts status a a' b b' d d' → task.stop (lines_of X) ≡ None → length X ≤ most_octets
    → (Rose b b' → ⊥) → (Rose d d' → ⊥) → (status ≡ Done) ⊎ (status ≡ OutOfMemory)
completes task Done X left before now a a' b b' d d' begun ends counts sound short reads writes = inl refl
completes task OutOfMemory X left before now a a' b b' d d' begun ends counts sound short reads writes = inr refl
completes task Usage X left before now a a' b b' d d' begun ends counts sound short reads writes = absurd (begun refl)
completes task LinkFault X left before now a a' b b' d d' begun ends counts sound short reads writes = absurd ends
completes task (PeerRefused code) X left before now a a' b b' d d' begun ends counts sound short reads writes = absurd ends
completes task NoThread X left before now a a' b b' d d' begun ends counts sound short reads writes = absurd ends
completes task DatagramFault X left before now a a' b b' d d' begun ends counts sound short reads writes = absurd ends
completes task (LinkEnded cause) X left before now a a' b b' d d' begun ends counts sound short reads writes = absurd ends
completes task (BadConfig fault) X left before now a a' b b' d d' begun ends counts sound short reads writes = absurd ends
completes task (BadTranscript number reason) X left before now a a' b b' d d' begun ends counts sound short reads writes = absurd cc (sym sound ∙ ends.first)
completes task ReadFault X left before now a a' b b' d d' begun ends counts sound short reads writes = absurd (reads counts)
completes task WriteFault X left before now a a' b b' d d' begun ends counts sound short reads writes = absurd (writes counts)
completes task TooLong X left before now a a' b b' d d' begun ends counts sound short reads writes =
    let (ys, still, cut) = Consumes-told ends.taken X refl in
    absurd (omega (arith, short, ends.full, ap length cut, length-append ((ended_text ends.lines ++ ends.part) ++ ends.more ∷ []) ys, length-append (ended_text ends.lines ++ ends.part) (ends.more ∷ [])))

-- ---- the last line and what stands after it

pub finish-ok : (task : Task) (status : Status) (lines : List (List ℕ)) (line text : List ℕ) (before then after : Option (List ℕ)) → Adds task lines line text
    → Appends before then text → Closes task status (lines ++ line ∷ []) then after → Finishes task status lines line before after
finish-ok task Done lines line text before then after adds wrote closes = (text, adds, Appends-append wrote closes)
finish-ok task WriteFault lines line text before then after adds wrote closes = (text, adds, AppendsPrefix-append wrote closes)
finish-ok task OutOfMemory lines line text before then after adds wrote closes =
    inr (text, adds, subst (λ w. AppendsPrefix before w text) (sym closes) (AppendsPrefix-whole wrote))
finish-ok task Usage lines line text before then after adds wrote closes = absurd closes
finish-ok task LinkFault lines line text before then after adds wrote closes = absurd closes
finish-ok task (PeerRefused code) lines line text before then after adds wrote closes = absurd closes
finish-ok task NoThread lines line text before then after adds wrote closes = absurd closes
finish-ok task DatagramFault lines line text before then after adds wrote closes = absurd closes
finish-ok task (LinkEnded cause) lines line text before then after adds wrote closes = absurd closes
finish-ok task (BadConfig fault) lines line text before then after adds wrote closes = absurd closes
finish-ok task (BadTranscript number reason) lines line text before then after adds wrote closes = absurd closes
finish-ok task ReadFault lines line text before then after adds wrote closes = absurd closes
finish-ok task TooLong lines line text before then after adds wrote closes = absurd closes

pub finish-err : (task : Task) (status : Status) (lines : List (List ℕ)) (line : List ℕ) (before after : Option (List ℕ)) → WorksNot task status lines line before after
    → Finishes task status lines line before after
finish-err task WriteFault lines line before after (text, adds, wrote) = (text, adds, AppendsPrefix-front (task.close (lines ++ line ∷ [])) wrote)
finish-err task OutOfMemory lines line before after works = works
finish-err task (BadTranscript number reason) lines line before after works = works
finish-err task Done lines line before after works = absurd works
finish-err task Usage lines line before after works = absurd works
finish-err task LinkFault lines line before after works = absurd works
finish-err task (PeerRefused code) lines line before after works = absurd works
finish-err task NoThread lines line before after works = absurd works
finish-err task DatagramFault lines line before after works = absurd works
finish-err task (LinkEnded cause) lines line before after works = absurd works
finish-err task (BadConfig fault) lines line before after works = absurd works
finish-err task ReadFault lines line before after works = absurd works
finish-err task TooLong lines line before after works = absurd works

-- ---- a run that goes on

-- these lines were taken, none of them bad, and what they print was written
pub record Goes (task : Task) (took : List (List ℕ) → Type 0) (input : Option (List ℕ)) (c : Cutting) (left before now : Option (List ℕ)) : Type 0 where
  pub lines : List (List ℕ)
  pub taken : took lines
  pub each : AllByRecursion IsUnended lines
  pub sound : task.stop lines ≡ None
  pub wrote : Appends before now (task.text lines)
  pub passed : c.held.passed ≡ length (ended_text lines)
  pub limit : c.longest ≡ task.longest
  pub octets : Consumes input (rest_of c left) (ended_text lines)

module _ (task : Task) (took : List (List ℕ) → Type 0) (law : IsTask task) where
  pub goes-first : (c : Cutting) (left written : Option (List ℕ)) → took [] → c.held.octets ≡ [] → c.held.passed ≡ 0 → c.longest ≡ task.longest
      → Goes task took left c left written written
  goes-first c left written taken none zero limit = record {
    lines = [];
    taken = taken;
    each = tt;
    sound = law.none;
    wrote = subst (Appends written written) (sym law.empty) (Appends-none written);
    passed = zero;
    limit = limit;
    octets =
        let held : prepend_known [] left ≡ rest_of c left = ap (λ xs. prepend_known xs left) (sym none) in
        subst (λ then. Consumes left then []) ((Consumes-none left).front ∙ held) (Consumes-none left);
  }

  pub goes-on : {input before now : Option (List ℕ)} {took' : List (List ℕ) → Type 0} (old new : Cutting) (left then : Option (List ℕ)) → (g : Goes task took input old left before now)
      → TakesRawLine Line (rest_of old left) (rest_of new then) old new → IsUnended new.line → new.longest ≡ old.longest
      → took' (g.lines ++ new.line ∷ []) → (text : List ℕ) → Adds task g.lines new.line text → (after : Option (List ℕ)) → Appends now after text
      → Goes task took' input new then before after
  goes-on {input = input} {before = before} old new left then g takes unended limit taken text adds after wrote = record {
    lines = g.lines ++ new.line ∷ [];
    taken = taken;
    each = each-push IsUnended g.lines new.line g.each unended;
    sound = adds.sound;
    wrote = subst (Appends before after) (sym adds.text) (Appends-append g.wrote wrote);
    passed = omega (arith, g.passed, takes.1, ap length (ended-push g.lines new.line), length-append (ended_text g.lines) (with_end new.line), length-append new.line (10 ∷ []));
    limit = limit ∙ g.limit;
    octets = subst (λ xs. Consumes input (rest_of new then) xs) (sym (ended-push g.lines new.line)) (Consumes-append g.octets takes.0);
  }

  -- ---- a bad line

  found-bad : (lines more : List (List ℕ)) (l : List ℕ) (bad : Bad) → task.stop lines ≡ None → task.stop (lines ++ l ∷ []) ≡ Some bad
      → (task.stop (lines ++ l ∷ more) ≡ Some bad) × (task.text (lines ++ l ∷ more) ≡ task.text lines)
  found-bad lines more l bad sound stop =
      let one : (lines ++ l ∷ []) ++ more ≡ lines ++ l ∷ more = append_assoc lines (l ∷ []) more in (
        subst (λ ls. task.stop ls ≡ Some bad) one (law.stop (lines ++ l ∷ []) more bad stop),
        subst (λ ls. task.text ls ≡ task.text lines) one (law.text (lines ++ l ∷ []) more bad stop ∙ law.quiet lines l bad sound stop),
      )

  -- what is to come of the input, and its lines
  lines-are : {before now : Option (List ℕ)} (X : List ℕ) (c : Cutting) (left : Option (List ℕ)) → (g : Goes task took (Some X) c left before now)
      → (ys : List ℕ) → rest_of c left ≡ Some ys → lines_of X ≡ g.lines ++ lines_of ys
  lines-are X c left g ys told =
      let (zs, still, cut) = Consumes-told g.octets X refl in
      let same : zs ≡ ys = cc (still, told) in
      ap lines_of (cut ∙ ap (λ r. ended_text g.lines ++ r) same) ∙ lines_of-ended g.lines ys g.each

  told-by : {before now : Option (List ℕ)} (X : List ℕ) (c : Cutting) (left : Option (List ℕ)) → (g : Goes task took (Some X) c left before now)
      → (ys : List ℕ) × (rest_of c left ≡ Some ys) × (X ≡ ended_text g.lines ++ ys)
  told-by X c left g = Consumes-told g.octets X refl

  -- the lines so far are the first ones of the input
  pub lines-so-far : {before now : Option (List ℕ)} (X : List ℕ) (c : Cutting) (left : Option (List ℕ)) → (g : Goes task took (Some X) c left before now)
      → (others : List (List ℕ)) × (lines_of X ≡ g.lines ++ others)
  lines-so-far X c left g = let (ys, told, cut) = told-by X c left g in (lines_of ys, lines-are X c left g ys told)

  -- a line that was taken is the next one
  pub line-taken : {before now : Option (List ℕ)} (X : List ℕ) (old new : Cutting) (left then : Option (List ℕ)) → (g : Goes task took (Some X) old left before now)
      → TakesRawLine Line (rest_of old left) (rest_of new then) old new → IsUnended new.line
      → (others : List (List ℕ)) × (lines_of X ≡ g.lines ++ new.line ∷ others)
  line-taken X old new left then g takes unended =
      let (ys, told, cut) = told-by X old left g in
      let (zs, still, front) = Consumes-told takes.0 ys told in (
        lines_of zs,
        lines-are X old left g ys told ∙ ap (λ r. g.lines ++ lines_of r) (front ∙ append_assoc new.line (10 ∷ []) zs)
            ∙ ap (λ r. g.lines ++ r) (lines-cut new.line zs unended),
      )

  last-lines : (l : List ℕ) → IsUnended l → 0 < length l → lines_of l ≡ l ∷ []
  last-lines [] unended some = absurd (omega (arith, some))
  last-lines (x ∷ xs) unended some = lines-last x xs unended

  -- one that ends with the input is the last one
  pub last-taken : {before now : Option (List ℕ)} (X : List ℕ) (old new : Cutting) (left then : Option (List ℕ)) → (g : Goes task took (Some X) old left before now)
      → TakesRawLine LastLine (rest_of old left) (rest_of new then) old new → IsUnended new.line
      → lines_of X ≡ g.lines ++ new.line ∷ []
  last-taken X old new left then g (takes, end, some, passed) unended =
      let (ys, told, cut) = told-by X old left g in
      let (line, still) = Consumes-end takes end ys told in
      lines-are X old left g ys told ∙ ap (λ r. g.lines ++ lines_of r) line ∙ ap (λ r. g.lines ++ r) (last-lines new.line unended some)

  -- of what the lines so far print a prefix was written
  part : {before now : Option (List ℕ)} (X : List ℕ) (c : Cutting) (left then : Option (List ℕ)) → (g : Goes task took (Some X) c left before now)
      → (more : List ℕ) → Consumes (rest_of c left) then more → WritesPart task X then before now
  part X c left then g more further = record {
    lines = g.lines;
    each = g.each;
    sound = g.sound;
    octets = ended_text g.lines;
    are_lines = inl refl;
    more = more;
    taken = Consumes-append g.octets further;
    written = AppendsPrefix-whole g.wrote;
  }

  -- ---- the end of the input

  pub ends-close : {before now : Option (List ℕ)} (status : Status) (X : List ℕ) (old new : Cutting) (left then after : Option (List ℕ))
      → (g : Goes task took (Some X) old left before now) → TakesRawLine End (rest_of old left) (rest_of new then) old new
      → new.held.passed + length new.held.octets ≤ most_octets → Closes task status g.lines now after
      → EndsBy task status X then before after
  ends-close {before} {now} status X old new left then after g takes within closes =
      let (ys, told, cut) = told-by X old left g in
      let none : ys ≡ [] = takes.1 ys told in
      let all = lines-are X old left g ys told ∙ ap (λ r. g.lines ++ lines_of r) none ∙ append-nil g.lines in
      let ended = at-end new then (takes.0 ∙ told ∙ ap Some none) in
      by status closes (λ t. subst t (sym all)) ended
      (omega (arith, ap length cut, length-append (ended_text g.lines) ys, ap length none, g.passed, takes.2, within))
      (sym (takes.0))
    where
      by : (status : Status) → Closes task status g.lines now after → ((P : List (List ℕ) → Type 0) → P g.lines → P (lines_of X)) → then ≡ Some []
          → length X ≤ most_octets → rest_of old left ≡ rest_of new then → EndsBy task status X then before after
      by Done wrote all ended short same = record {
        ended = ended;
        sound = all (λ ls. task.stop ls ≡ None) g.sound;
        short = short;
        written = all (λ ls. Appends before after (task.text ls ++ task.close ls)) (Appends-append g.wrote wrote);
      }
      by WriteFault wrote all ended short same =
          inr (record {
            ended = ended;
            sound = all (λ ls. task.stop ls ≡ None) g.sound;
            written = all (λ ls. AppendsPrefix before after (task.text ls ++ task.close ls)) (AppendsPrefix-append g.wrote wrote);
          })
      by OutOfMemory same_written all ended short same =
          subst (WritesPart task X then before) (sym same_written)
          (part X old left then g new.held.octets (subst (λ r. Consumes r then new.held.octets) (sym same) (Held-last new then)))
      by Usage closes all ended short same = absurd closes
      by LinkFault closes all ended short same = absurd closes
      by (PeerRefused code) closes all ended short same = absurd closes
      by NoThread closes all ended short same = absurd closes
      by DatagramFault closes all ended short same = absurd closes
      by (LinkEnded cause) closes all ended short same = absurd closes
      by (BadConfig fault) closes all ended short same = absurd closes
      by (BadTranscript line reason) closes all ended short same = absurd closes
      by ReadFault closes all ended short same = absurd closes
      by TooLong closes all ended short same = absurd closes

  -- ---- a line that wasn't taken

  -- of what the lines so far and this one print a prefix was written
  part-more : {before now after : Option (List ℕ)} (X : List ℕ) (c : Cutting) (left then : Option (List ℕ)) → (g : Goes task took (Some X) c left before now)
      → (l ending text more : List ℕ) → IsUnended l → AreLines (ended_text g.lines ++ (l ++ ending)) (g.lines ++ l ∷ []) → Consumes (rest_of c left) then ((l ++ ending) ++ more)
      → Adds task g.lines l text → AppendsPrefix now after text → WritesPart task X then before after
  part-more {before} {now} {after} X c left then g l ending text more unended are further adds wrote = record {
    lines = g.lines ++ l ∷ [];
    each = each-push IsUnended g.lines l g.each unended;
    sound = adds.sound;
    octets = ended_text g.lines ++ (l ++ ending);
    are_lines = are;
    more = more;
    taken = subst (λ xs. Consumes (Some X) then xs) (sym (append_assoc (ended_text g.lines) (l ++ ending) more)) (Consumes-append g.octets further);
    written = subst (AppendsPrefix before after) (sym adds.text) (AppendsPrefix-append g.wrote wrote);
  }

  line-ended : (lines : List (List ℕ)) (l : List ℕ) → AreLines (ended_text lines ++ with_end l) (lines ++ l ∷ [])
  line-ended lines l = inl (sym (ended-push lines l))

  line-last : (lines : List (List ℕ)) (l : List ℕ) → AreLines (ended_text lines ++ (l ++ [])) (lines ++ l ∷ [])
  line-last lines l =
      inr (ap (λ r. (ended_text lines ++ r) ++ 10 ∷ []) (append-nil l) ∙ append_assoc (ended_text lines) l (10 ∷ []) ∙ sym (ended-push lines l))

  -- a line whose octets were taken, with their ending
  not-taken : {before now : Option (List ℕ)} (status : Status) (X : List ℕ) (old new : Cutting) (left then after : Option (List ℕ))
      → (g : Goes task took (Some X) old left before now) → (ending : List ℕ) (more : List (List ℕ))
      → IsUnended new.line → Consumes (rest_of old left) (rest_of new then) (new.line ++ ending) → lines_of X ≡ g.lines ++ new.line ∷ more
      → AreLines (ended_text g.lines ++ (new.line ++ ending)) (g.lines ++ new.line ∷ [])
      → new.held.passed ≡ old.held.passed + length (new.line ++ ending) → new.held.passed + length new.held.octets ≤ most_octets
      → WorksNot task status g.lines new.line now after → EndsBy task status X then before after
  not-taken {before} {now} (BadTranscript number reason) X old new left then after g ending more unended takes all are passed within works =
      let bad : Bad = record { line = number; reason = reason } in
      let found = found-bad g.lines more new.line bad g.sound works.0 in
      let whole = Consumes-append (Consumes-append g.octets takes) (Held-last new then) in
      record {
        first = ap task.stop all ∙ found.0;
        taken = (ended_text g.lines ++ (new.line ++ ending)) ++ new.held.octets;
        is_taken = whole;
        few = omega (arith, g.passed, passed, within, length-append (ended_text g.lines ++ (new.line ++ ending)) new.held.octets, length-append (ended_text g.lines) (new.line ++ ending));
        written = subst (λ w. Appends before w (task.text (lines_of X))) (sym works.1) (subst (Appends before now) (sym (ap task.text all ∙ found.1)) g.wrote);
      }
  not-taken WriteFault X old new left then after g ending more unended takes all are passed within (text, adds, wrote) =
      inl (part-more X old left then g new.line ending text new.held.octets unended are (Consumes-append takes (Held-last new then)) adds wrote)
  not-taken {before} OutOfMemory X old new left then after g ending more unended takes all are passed within (inl same) =
      subst (WritesPart task X then before) (sym same) (part X old left then g ((new.line ++ ending) ++ new.held.octets) (Consumes-append takes (Held-last new then)))
  not-taken OutOfMemory X old new left then after g ending more unended takes all are passed within (inr (text, adds, wrote)) =
      part-more X old left then g new.line ending text new.held.octets unended are (Consumes-append takes (Held-last new then)) adds wrote
  not-taken Done X old new left then after g ending more unended takes all are passed within works = absurd works
  not-taken Usage X old new left then after g ending more unended takes all are passed within works = absurd works
  not-taken LinkFault X old new left then after g ending more unended takes all are passed within works = absurd works
  not-taken (PeerRefused code) X old new left then after g ending more unended takes all are passed within works = absurd works
  not-taken NoThread X old new left then after g ending more unended takes all are passed within works = absurd works
  not-taken DatagramFault X old new left then after g ending more unended takes all are passed within works = absurd works
  not-taken (LinkEnded cause) X old new left then after g ending more unended takes all are passed within works = absurd works
  not-taken (BadConfig fault) X old new left then after g ending more unended takes all are passed within works = absurd works
  not-taken ReadFault X old new left then after g ending more unended takes all are passed within works = absurd works
  not-taken TooLong X old new left then after g ending more unended takes all are passed within works = absurd works

  pub ends-line : {before now : Option (List ℕ)} (status : Status) (X : List ℕ) (old new : Cutting) (left then after : Option (List ℕ))
      → (g : Goes task took (Some X) old left before now) → TakesRawLine Line (rest_of old left) (rest_of new then) old new → IsUnended new.line
      → new.held.passed + length new.held.octets ≤ most_octets → WorksNot task status g.lines new.line now after
      → EndsBy task status X then before after
  ends-line status X old new left then after g takes unended within works =
      let (others, all) = line-taken X old new left then g takes unended in
      not-taken status X old new left then after g (10 ∷ []) others unended takes.0 all (line-ended g.lines new.line)
      (omega (arith, takes.1, length-append new.line (10 ∷ []))) within works

  -- ---- the last line

  pub ends-last : {before now : Option (List ℕ)} (status : Status) (X : List ℕ) (old new : Cutting) (left then after : Option (List ℕ))
      → (g : Goes task took (Some X) old left before now) → TakesRawLine LastLine (rest_of old left) (rest_of new then) old new → IsUnended new.line
      → new.held.passed + length new.held.octets ≤ most_octets → Finishes task status g.lines new.line now after
      → EndsBy task status X then before after
  ends-last {before} {now} status X old new left then after g (takes, end, some, passed) unended within finishes =
      let (ys, told, cut) = told-by X old left g in
      let (line, still) = Consumes-end takes end ys told in
      let all = last-taken X old new left then g (takes, end, some, passed) unended in
      let ended = at-end new then still in
      let short : length X ≤ most_octets = omega (arith, ap length cut, length-append (ended_text g.lines) ys, ap length line, g.passed, passed, within) in
      let whole = subst (λ xs. Consumes (rest_of old left) (rest_of new then) xs) (sym (append-nil new.line)) takes in
      by status finishes all ended short (λ works.
      not-taken status X old new left then after g [] [] unended whole all (line-last g.lines new.line)
      (omega (arith, passed, ap length (append-nil new.line))) within works)
    where
      written : (text : List ℕ) → Adds task g.lines new.line text → lines_of X ≡ g.lines ++ new.line ∷ []
          → task.text g.lines ++ (text ++ task.close (g.lines ++ new.line ∷ [])) ≡ task.text (lines_of X) ++ task.close (lines_of X)
      written text adds all =
          sym (append_assoc (task.text g.lines) text (task.close (g.lines ++ new.line ∷ [])))
          ∙ ap (λ r. r ++ task.close (g.lines ++ new.line ∷ [])) (sym adds.text)
          ∙ ap (λ ls. task.text ls ++ task.close ls) (sym all)

      by : (status : Status) → Finishes task status g.lines new.line now after → lines_of X ≡ g.lines ++ new.line ∷ [] → then ≡ Some []
          → length X ≤ most_octets → (WorksNot task status g.lines new.line now after → EndsBy task status X then before after)
          → EndsBy task status X then before after
      by Done (text, adds, wrote) all ended short not = record {
        ended = ended;
        sound = ap task.stop all ∙ adds.sound;
        short = short;
        written = subst (Appends before after) (written text adds all) (Appends-append g.wrote wrote);
      }
      by WriteFault (text, adds, wrote) all ended short not =
          inr (record {
            ended = ended;
            sound = ap task.stop all ∙ adds.sound;
            written = subst (AppendsPrefix before after) (written text adds all) (AppendsPrefix-append g.wrote wrote);
          })
      by (BadTranscript number reason) works all ended short not = not works
      by OutOfMemory works all ended short not = not works
      by Usage works all ended short not = not works
      by LinkFault works all ended short not = not works
      by (PeerRefused code) works all ended short not = not works
      by NoThread works all ended short not = not works
      by DatagramFault works all ended short not = not works
      by (LinkEnded cause) works all ended short not = not works
      by (BadConfig fault) works all ended short not = not works
      by ReadFault works all ended short not = not works
      by TooLong works all ended short not = not works

  -- ---- a line that can't be taken of the source

  pub ends-fault : {before now : Option (List ℕ)} (fault : RawFault) (status : Status) (X : List ℕ) (old new : Cutting) (left then : Option (List ℕ))
      → (g : Goes task took (Some X) old left before now) → TakesNone fault (rest_of old left) then old new
      → StatusOf fault took task status → EndsBy task status X then before now
  ends-fault {before} {now} raw.Read status X old new left then g (part, unended, takes, short) is =
      subst (λ s. EndsBy task s X then before now) (sym is) (record {
        lines = g.lines;
        each = g.each;
        sound = g.sound;
        part = part;
        unended = unended;
        short = omega (arith, short, g.limit);
        taken = Consumes-append g.octets takes;
        written = g.wrote;
      })
  ends-fault {before} {now} raw.TooMuch status X old new left then g (part, (x, unended, takes, short, full)) is =
      subst (λ s. EndsBy task s X then before now) (sym is) (record {
        lines = g.lines;
        each = g.each;
        sound = g.sound;
        part = part;
        unended = unended;
        short = omega (arith, short, g.limit);
        full = omega (arith, full, g.passed, length-append (ended_text g.lines) part);
        more = x;
        taken = subst (λ xs. Consumes (Some X) then xs) (sym (append_assoc (ended_text g.lines) part (x ∷ []))) (Consumes-append g.octets takes);
        written = g.wrote;
      })
  ends-fault {before} {now} raw.NoMemory status X old new left then g (more, takes) is =
      subst (λ s. EndsBy task s X then before now) (sym is) (part X old left then g more takes)
  ends-fault raw.LongLine status X old new left then g ([], (more, unended, takes, long, within)) is = absurd (omega (arith, long))
  ends-fault {before} {now} raw.LongLine status X old new left then g (x ∷ xs, (more, unended, takes, long, within)) is =
      let (ys, told, cut) = told-by X old left g in
      let (zs, still, front) = Consumes-told takes ys told in
      let (behind, (others, first)) = lines-front x xs (more ++ zs) unended in
      let all = lines-are X old left g ys told ∙ ap (λ r. g.lines ++ lines_of r) (front ∙ append_assoc (x ∷ xs) more zs) ∙ ap (λ r. g.lines ++ r) first in
      by status (x ∷ xs ++ behind) (is g.lines (x ∷ xs ++ behind) g.taken (omega (arith, long, g.limit, length-append (x ∷ xs) behind))) others all
      (omega (arith, within, g.passed, length-append (ended_text g.lines) (x ∷ xs ++ more))) (Consumes-append g.octets takes)
    where
      by : (status : Status) (l : List ℕ) → IsBad task status (g.lines ++ l ∷ []) → (others : List (List ℕ)) → lines_of X ≡ g.lines ++ l ∷ others
          → length (ended_text g.lines ++ (x ∷ xs ++ more)) ≤ most_octets → Consumes (Some X) then (ended_text g.lines ++ (x ∷ xs ++ more))
          → EndsBy task status X then before now
      by (BadTranscript number reason) l bad others all few taken =
          let found = found-bad g.lines others l (record { line = number; reason = reason }) g.sound bad in
          record {
            first = ap task.stop all ∙ found.0;
            taken = ended_text g.lines ++ (x ∷ xs ++ more);
            is_taken = taken;
            few = few;
            written = subst (Appends before now) (sym (ap task.text all ∙ found.1)) g.wrote;
          }
      by Done l bad others all few taken = absurd bad
      by Usage l bad others all few taken = absurd bad
      by LinkFault l bad others all few taken = absurd bad
      by (PeerRefused code) l bad others all few taken = absurd bad
      by NoThread l bad others all few taken = absurd bad
      by DatagramFault l bad others all few taken = absurd bad
      by (LinkEnded cause) l bad others all few taken = absurd bad
      by (BadConfig fault) l bad others all few taken = absurd bad
      by ReadFault l bad others all few taken = absurd bad
      by WriteFault l bad others all few taken = absurd bad
      by OutOfMemory l bad others all few taken = absurd bad
      by TooLong l bad others all few taken = absurd bad

  -- nothing was read or written
  pub nothing-done : (left written : Option (List ℕ)) (X : List ℕ) → left ≡ Some X → WritesPart task X left written written
  nothing-done left written X told = record {
    lines = [];
    each = tt;
    sound = law.none;
    octets = [];
    are_lines = inl refl;
    more = [];
    taken = subst (λ l. Consumes l left []) told (Consumes-none left);
    written = AppendsPrefix-none written (task.text []);
  }

  -- ---- behind all lines that end

  -- the first bad line, where the status says that there is one
  abbrev Found : Status → List ℕ → Type 0
  Found (BadTranscript number reason) X = FindsBad task (record { line = number; reason = reason }) X
  Found status X = Unit {0}

  stops : {input : Option (List ℕ)} (left before now : Option (List ℕ)) (line : List ℕ) (status : Status) → (status ≡ Done → ⊥) → (status ≡ Usage → ⊥)
      → ((X : List ℕ) → input ≡ Some X → EndsBy task status X left before now × Found status X) → TakesLines task took (Err status) input left line before now
  stops left before now line Done done begun ends = absurd (done refl)
  stops left before now line Usage done begun ends = absurd (begun refl)
  stops left before now line (BadTranscript number reason) done begun ends = ends
  stops left before now line ReadFault done begun ends = λ X told. (ends X told).0
  stops left before now line WriteFault done begun ends = λ X told. (ends X told).0
  stops left before now line OutOfMemory done begun ends = λ X told. (ends X told).0
  stops left before now line TooLong done begun ends = λ X told. (ends X told).0
  stops left before now line LinkFault done begun ends = λ X told. (ends X told).0
  stops left before now line (PeerRefused code) done begun ends = λ X told. (ends X told).0
  stops left before now line NoThread done begun ends = λ X told. (ends X told).0
  stops left before now line DatagramFault done begun ends = λ X told. (ends X told).0
  stops left before now line (LinkEnded cause) done begun ends = λ X told. (ends X told).0
  stops left before now line (BadConfig fault) done begun ends = λ X told. (ends X told).0

  -- the line that wasn't taken is bad
  found-line : {before now : Option (List ℕ)} (after : Option (List ℕ)) (status : Status) (X : List ℕ) (old new : Cutting) (left then : Option (List ℕ))
      → (g : Goes task took (Some X) old left before now) → TakesRawLine Line (rest_of old left) (rest_of new then) old new → IsUnended new.line
      → WorksNot task status g.lines new.line now after → Found status X
  found-line after (BadTranscript number reason) X old new left then g takes unended works =
      let (ys, told, cut) = told-by X old left g in
      let (zs, still, front) = Consumes-told takes.0 ys told in
      record {
        lines = g.lines;
        each = g.each;
        sound = g.sound;
        line = new.line;
        unended = unended;
        is_bad = works.0;
        behind = 10 ∷ zs;
        octets = cut ∙ ap (λ r. ended_text g.lines ++ r) (front ∙ append_assoc new.line (10 ∷ []) zs);
        ends = inl (zs, refl);
      }
  found-line after Done X old new left then g takes unended works = tt
  found-line after Usage X old new left then g takes unended works = tt
  found-line after ReadFault X old new left then g takes unended works = tt
  found-line after WriteFault X old new left then g takes unended works = tt
  found-line after OutOfMemory X old new left then g takes unended works = tt
  found-line after TooLong X old new left then g takes unended works = tt
  found-line after LinkFault X old new left then g takes unended works = tt
  found-line after (PeerRefused code) X old new left then g takes unended works = tt
  found-line after NoThread X old new left then g takes unended works = tt
  found-line after DatagramFault X old new left then g takes unended works = tt
  found-line after (LinkEnded cause) X old new left then g takes unended works = tt
  found-line after (BadConfig fault) X old new left then g takes unended works = tt

  -- the line that couldn't be taken of the source is bad, where it has too many octets
  found-fault : {before now : Option (List ℕ)} (fault : RawFault) (status : Status) (X : List ℕ) (old new : Cutting) (left then : Option (List ℕ))
      → (g : Goes task took (Some X) old left before now) → TakesNone fault (rest_of old left) then old new → StatusOf fault took task status → Found status X
  found-fault raw.Read status X old new left then g takes is = subst (λ s. Found s X) (sym is) tt
  found-fault raw.TooMuch status X old new left then g takes is = subst (λ s. Found s X) (sym is) tt
  found-fault raw.NoMemory status X old new left then g takes is = subst (λ s. Found s X) (sym is) tt
  found-fault raw.LongLine status X old new left then g (xs, (more, unended, takes, long, within)) is =
      let (ys, told, cut) = told-by X old left g in
      let (zs, still, front) = Consumes-told takes ys told in
      let (piece, (behind, rest, is_piece, ends)) = first-cut (more ++ zs) in
      by status piece behind (is g.lines (xs ++ piece) g.taken (omega (arith, long, g.limit, length-append xs piece)))
      (cut ∙ ap (λ r. ended_text g.lines ++ r) (front ∙ append_assoc xs more zs ∙ ap (λ r. xs ++ r) rest ∙ sym (append_assoc xs piece behind)))
      (unended-append xs piece unended is_piece) ends
    where
      by : (status : Status) (piece behind : List ℕ) → IsBad task status (g.lines ++ (xs ++ piece) ∷ []) → X ≡ ended_text g.lines ++ ((xs ++ piece) ++ behind)
          → IsUnended (xs ++ piece) → IsCut behind → Found status X
      by (BadTranscript number reason) piece behind bad octets unended ends = record {
        lines = g.lines;
        each = g.each;
        sound = g.sound;
        line = xs ++ piece;
        unended = unended;
        is_bad = bad;
        behind = behind;
        octets = octets;
        ends = found ends;
      }
        where
          found : IsCut behind → ((rest : List ℕ) × (behind ≡ 10 ∷ rest)) ⊎ ((behind ≡ []) × (task.longest < length (xs ++ piece)))
          found (inl ended) = inl ended
          found (inr none) = inr (none, omega (arith, long, g.limit, length-append xs piece))
      by Done piece behind bad octets unended ends = tt
      by Usage piece behind bad octets unended ends = tt
      by ReadFault piece behind bad octets unended ends = tt
      by WriteFault piece behind bad octets unended ends = tt
      by OutOfMemory piece behind bad octets unended ends = tt
      by TooLong piece behind bad octets unended ends = tt
      by LinkFault piece behind bad octets unended ends = tt
      by (PeerRefused code) piece behind bad octets unended ends = tt
      by NoThread piece behind bad octets unended ends = tt
      by DatagramFault piece behind bad octets unended ends = tt
      by (LinkEnded cause) piece behind bad octets unended ends = tt
      by (BadConfig fault) piece behind bad octets unended ends = tt

  -- a line wasn't taken
  pub stops-line : {input before now : Option (List ℕ)} (after : Option (List ℕ)) (present : List ℕ) (status : Status) (old new : Cutting) (left then : Option (List ℕ))
      → Goes task took input old left before now → TakesRawLine Line (rest_of old left) (rest_of new then) old new → IsUnended new.line
      → new.held.passed + length new.held.octets ≤ most_octets → ((lines : List (List ℕ)) → took lines → WorksNot task status lines new.line now after)
      → TakesLines task took (Err status) input then present before after
  stops-line {before = before} {now = now} after present status old new left then g takes unended within works =
      stops then before after present status (none Done (λ not. not)) (none Usage (λ not. not)) (λ X told.
      let h = subst (λ input. Goes task took input old left before now) told g in (
        ends-line status X old new left then after h takes unended within (works h.lines h.taken),
        found-line after status X old new left then h takes unended (works h.lines h.taken),
      ))
    where
      none : (other : Status) → (WorksNot task other g.lines new.line now after → ⊥) → status ≡ other → ⊥
      none other not is = not (subst (λ s. WorksNot task s g.lines new.line now after) is (works g.lines g.taken))

  -- or couldn't be taken of the source
  pub stops-fault : {input before now : Option (List ℕ)} (present : List ℕ) (fault : RawFault) (status : Status) (old new : Cutting) (left then : Option (List ℕ))
      → (g : Goes task took input old left before now) → TakesNone fault (rest_of old left) then old new → StatusOf fault took task status
      → TakesLines task took (Err status) input then present before now
  stops-fault {before = before} {now = now} present fault status old new left then g takes is =
      stops then before now present status (status-done task took fault status g.lines (rest_of old left) then old new g.limit g.taken takes is)
      (status-begun task took fault status g.lines (rest_of old left) then old new g.limit g.taken takes is)
      (λ X told.
      let h = subst (λ input. Goes task took input old left before now) told g in (
        ends-fault fault status X old new left then h takes is,
        found-fault fault status X old new left then h takes is,
      ))

  -- where nothing is to come, nothing is held
  rest-at-end : (c : Cutting) (left : Option (List ℕ)) → IsAtEnd (rest_of c left) → (rest_of c left ≡ left) × IsAtEnd left
  rest-at-end c None end = (refl, λ xs told. cc)
  rest-at-end c (Some ys) end =
      let (held, left) = none-left c.held.octets ys (sym (end (c.held.octets ++ ys) refl)) in
      (ap (λ h. Some (h ++ ys)) held, λ xs told. cc (told, left))

  pub behind-last : {input before now : Option (List ℕ)} (old new : Cutting) (left then : Option (List ℕ)) → (g : Goes task took input old left before now)
      → TakesRawLine LastLine (rest_of old left) (rest_of new then) old new → new.held.passed + length new.held.octets ≤ most_octets
      → TakesEach task took input then before now new.line
  behind-last {input = input} old new left then g (takes, end, some, passed) within =
      let (rest, ended) = rest-at-end new then end in
      record {
        lines = g.lines;
        taken = g.taken;
        each = g.each;
        sound = g.sound;
        octets = subst (λ rest. Consumes input rest (ended_text g.lines ++ new.line)) rest (Consumes-append g.octets takes);
        few = omega (arith, g.passed, passed, within, length-append (ended_text g.lines) new.line);
        ended = ended;
        written = g.wrote;
      }

  pub behind-end : {input before now : Option (List ℕ)} (old new : Cutting) (left then : Option (List ℕ)) → (g : Goes task took input old left before now)
      → TakesRawLine End (rest_of old left) (rest_of new then) old new → new.held.passed + length new.held.octets ≤ most_octets
      → TakesEach task took input then before now []
  behind-end {input = input} old new left then g (same, end, passed) within =
      let (rest, ended) = rest-at-end new then (subst IsAtEnd (sym same) end) in
      record {
        lines = g.lines;
        taken = g.taken;
        each = g.each;
        sound = g.sound;
        octets =
            subst (λ xs. Consumes input then xs) (sym (append-nil (ended_text g.lines)))
            (subst (λ rest. Consumes input rest (ended_text g.lines)) (sym same ∙ rest) g.octets);
        few = omega (arith, g.passed, passed, within, ap length (append-nil (ended_text g.lines)));
        ended = ended;
        written = g.wrote;
      }

  prepend-none : (left : Option (List ℕ)) → prepend_known [] left ≡ left
  prepend-none None = refl
  prepend-none (Some xs) = refl

  prepend-append : (xs ys : List ℕ) (left : Option (List ℕ)) → prepend_known (xs ++ ys) left ≡ prepend_known xs (prepend_known ys left)
  prepend-append xs ys None = refl
  prepend-append xs ys (Some zs) = ap Some (append_assoc xs ys zs)

  -- these octets are held behind all lines
  abbrev holding : List ℕ → List ℕ → ℕ → Cutting
  holding line octets passed = record { line = line; held = record { octets = octets; passed = passed }; longest = task.longest }

  goes-behind : {input left before now : Option (List ℕ)} (behind : List ℕ) → (t : TakesEach task took input left before now behind)
      → Goes task took input (holding behind behind (length (ended_text t.lines))) left before now
  goes-behind {left = left} behind t = record {
    lines = t.lines;
    taken = t.taken;
    each = t.each;
    sound = t.sound;
    wrote = t.written;
    passed = refl;
    limit = refl;
    octets = record { front = t.octets.front ∙ prepend-append (ended_text t.lines) behind left };
  }

  -- the run ends behind them
  ends-behind-last : {left before now : Option (List ℕ)} (after : Option (List ℕ)) (status : Status) (X line : List ℕ) → (t : TakesEach task took (Some X) left before now line)
      → IsUnended line → 0 < length line → Finishes task status t.lines line now after → EndsBy task status X left before after
  unfolding goes-behind
  ends-behind-last {left = left} after status X line t unended some finishes =
      let n = length (ended_text t.lines) in
      ends-last status X (holding line line n) (holding line [] (n + length line)) left left after (goes-behind line t)
      (record { front = ap (λ rest. prepend_known line rest) (sym (prepend-none left)) }, λ xs told. t.ended xs (sym (prepend-none left) ∙ told), some, refl)
      unended (omega (arith, t.few, length-append (ended_text t.lines) line)) finishes

  ends-behind-end : {left before now : Option (List ℕ)} (after : Option (List ℕ)) (status : Status) (X : List ℕ) → (t : TakesEach task took (Some X) left before now [])
      → Closes task status t.lines now after → EndsBy task status X left before after
  unfolding goes-behind
  ends-behind-end {left = left} after status X t closes =
      let n = length (ended_text t.lines) in
      ends-close status X (holding [] [] n) (holding [] [] n) left left after (goes-behind [] t)
      (refl, λ xs told. t.ended xs (sym (prepend-none left) ∙ told), refl)
      (omega (arith, t.few, ap length (append-nil (ended_text t.lines)))) closes

  pub ends-more : {input left before now : Option (List ℕ)} (after : Option (List ℕ)) (status : Status) (X line : List ℕ) → input ≡ Some X
      → TakesLines task took (Ok true) input left line before now → ((lines : List (List ℕ)) → took lines → Finishes task status lines line now after)
      → EndsBy task status X left before after
  ends-more {left = left} {before = before} {now = now} after status X line told (each, unended, some) finishes =
      let t = subst (λ input. TakesEach task took input left before now line) told each in
      ends-behind-last after status X line t unended some (finishes t.lines t.taken)

  pub ends-all : {input left before now : Option (List ℕ)} (after : Option (List ℕ)) (status : Status) (X line : List ℕ) → input ≡ Some X
      → TakesLines task took (Ok false) input left line before now → ((lines : List (List ℕ)) → took lines → Closes task status lines now after)
      → EndsBy task status X left before after
  ends-all {left = left} {before = before} {now = now} after status X line told each closes =
      let t = subst (λ input. TakesEach task took input left before now []) told each in
      ends-behind-end after status X t (closes t.lines t.taken)
