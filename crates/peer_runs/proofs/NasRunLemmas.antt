-- How a run of clients goes on from line to line, and how it ends.
use Rattle.std.proofs.Common.{◌≡◌, ℕ, ◌+◌, ◌<◌, ◌≤◌, ◌⊎◌, inl, inr, List, [], ◌∷◌, ◌++◌, length, Option, Some, None, Ok, Err, refl, sym, ap, ◌∙◌, subst, arith}
use Rattle.std.specs.Prelude.{IsOk}
use Rattle.std.specs.List.{AllByRecursion}
use Rattle.std.proofs.lemmas.Grind.{flat_map-append}
use Rattle.std.proofs.lemmas.List.{append-nil, length-append}
use Rattle.wire_core.specs.Counts.{Rose, one_more}
use Rattle.wire_core.specs.Sink.{Appends}
use Rattle.wire_core.proofs.SinkLaws.{Appends-none}
use Rattle.wire_core.proofs.SourceLaws.{Consumes-told}
use Rattle.wire_devices.specs.Sockets.{Socket}
use Rattle.wire_devices.specs.Telling.{Adds}
use Rattle.wire_devices.proofs.TellingLaws.{Adds-append, Adds-none}
use Rattle.text_lines.specs.Stops.{Bad}
use Rattle.text_lines.specs.Streams.{Cutting, IsUnended, TakesRawLine, TakesNone, most_octets, rest_of}
use Rattle.text_lines.specs.Words.{lines_of}
use Rattle.text_lines.specs.declared.raw_lines.RawFault.{RawFault}
use Rattle.text_lines.specs.declared.raw_lines.RawFault.TheVariants as raw
use Rattle.text_lines.specs.declared.raw_lines.RawLine.{RawLine}
use Rattle.text_lines.specs.declared.raw_lines.RawLine.TheVariants.{Line, LastLine, End}
use Rattle.agent_status.specs.declared.status.Status.{Status}
use Rattle.agent_status.specs.declared.status.Status.TheVariants.{Done, Usage, BadConfig, BadTranscript, ReadFault, WriteFault, OutOfMemory, TooLong, LinkFault, PeerRefused, NoThread, DatagramFault, LinkEnded}
use Rattle.test_peers.specs.PacketLines.{packet_in}
use Rattle.text_commands.specs.Shown.{count_after}
use Rattle.text_commands.specs.Tasks.{EndsBy, EndsCounts, StatusOf, WorksNot, ended_text}
use Rattle.text_commands.proofs.TaskLemmas.{Goes, ends-close, ends-fault, ends-last, ends-line, finish-err, goes-first, goes-on, last-taken, line-taken, lines-so-far, nothing-done}
use Rattle.peer_runs.specs.declared.asking.Target.{Target}
use Rattle.peer_runs.specs.Asking.{Asked, Asks, IsAnswered, moments, received, sent}
use Rattle.test_peers.specs.Nas.{fresh}
use Rattle.peer_runs.specs.NasRuns.{AreFor, AsksFor, AsksLine, AsksNot, IsBrokenOff, NasBy, NasEnds, NasTold, line_by, nas_task, status_at}
use Rattle.peer_runs.proofs.AskingLemmas.{between}
use Rattle.peer_runs.proofs.NasLemmas.{AreAll, AreAll-push, adds, are-for, are-for-more, bad-line, is-task, longer-stop, longer-text, no-bad, text-so-far, too-long}

-- ---- what the devices told

asks-none : (place : Target) (patience : ℕ) (known : Option (List ℕ)) (s : Socket) → Asks place patience [] (between known known s s)
asks-none place patience known s = record { readings = Adds-none known; received = Adds-none s.received; handed = Adds-none s.handed }

asks-append : {before then now : Option (List ℕ)} {s t u : Socket} (place : Target) (patience : ℕ) (xs ys : List Asked) → Asks place patience xs (between before then s t)
    → Asks place patience ys (between then now t u) → Asks place patience (xs ++ ys) (between before now s u)
asks-append {before} {then} {now} {s} {t} {u} place patience xs ys first more = record {
  readings = subst (Adds before now) (sym (flat_map-append (λ (a : Asked). moments a.steps) xs ys)) (Adds-append first.readings more.readings);
  received = subst (Adds s.received u.received) (sym (flat_map-append (λ (a : Asked). received a.steps) xs ys)) (Adds-append first.received more.received);
  handed =
      subst (Adds s.handed u.handed) (sym (flat_map-append (λ (a : Asked). sent place (fresh a.packet patience) a.steps) xs ys))
      (Adds-append first.handed more.handed);
}

All-push : {A : Type 0} (P : A → Type 0) (xs : List A) (x : A) → AllByRecursion P xs → P x → AllByRecursion P (xs ++ x ∷ [])
All-push P [] x all here = (here, tt)
All-push P (y ∷ ys) x all here = (all.0, All-push P ys x all.1 here)

-- ---- the lines so far

-- there is a client for each of these lines, and so many are counted
pub record Took (clients : List Asked) (count : ℕ) (lines : List (List ℕ)) : Type 0 where
  pub all : AreAll clients lines
  pub counted : count ≡ count_after 0 lines

-- the clients so far, and what was taken, written and told
pub record RunsOn (place : Target) (patience count : ℕ) (input : Option (List ℕ)) (c : Cutting) (left output output' clock clock' : Option (List ℕ)) (s t : Socket) : Type 0 where
  pub clients : List Asked
  pub answered : AllByRecursion (IsAnswered patience) clients
  pub told : Asks place patience clients (between clock clock' s t)
  pub goes : Goes (nas_task patience clients) (Took clients count) input c left output output'

pub runs-first : (place : Target) (patience : ℕ) (c : Cutting) (left output clock : Option (List ℕ)) (s : Socket) → c.held.octets ≡ [] → c.held.passed ≡ 0 → c.longest ≡ 140000
    → RunsOn place patience 0 left c left output output clock clock s s
runs-first place patience c left output clock s none zero limit = record {
  clients = [];
  answered = tt;
  told = asks-none place patience clock s;
  goes = goes-first (nas_task patience []) (Took [] 0) (is-task patience []) c left output (record { all = tt; counted = refl }) none zero limit;
}

-- the same with one client more, which has no line yet
abbrev with_one : (patience count : ℕ) (clients : List Asked) (client : Asked) {input left before now : Option (List ℕ)} {c : Cutting}
    → Goes (nas_task patience clients) (Took clients count) input c left before now
    → Goes (nas_task patience (clients ++ client ∷ [])) (Took clients count) input c left before now
with_one patience count clients client {input} {left} {before} {now} {c} g = record {
  lines = g.lines;
  taken = g.taken;
  each = g.each;
  sound = longer-stop patience clients (client ∷ []) g.lines g.taken.all;
  wrote = subst (Appends before now) (sym (longer-text patience clients (client ∷ []) g.lines g.taken.all)) g.wrote;
  passed = g.passed;
  limit = g.limit;
  octets = g.octets;
}

count-push : (n : ℕ) (lines : List (List ℕ)) (line : List ℕ) → count_after n (lines ++ line ∷ []) ≡ one_more (count_after n lines)
count-push n [] line = refl
count-push n (first ∷ lines) line = count-push (one_more n) lines line

took-one : (clients : List Asked) (client : Asked) (count : ℕ) (lines : List (List ℕ)) (line : List ℕ) → Took clients count lines → packet_in line ≡ Ok client.packet
    → Took (clients ++ client ∷ []) (one_more count) (lines ++ line ∷ [])
took-one clients client count lines line took is = record {
  all = AreAll-push clients client lines line took.all is;
  counted = ap one_more took.counted ∙ sym (count-push 0 lines line);
}

module _ {place : Target} {patience count : ℕ} {input left output output' clock clock' : Option (List ℕ)} {old : Cutting} {s t : Socket}
    (r : RunsOn place patience count input old left output output' clock clock' s t) where
  pub runs-line : (count' : ℕ) (new : Cutting) (then output'' clock'' : Option (List ℕ)) (u : Socket) → TakesRawLine Line (rest_of old left) (rest_of new then) old new → IsUnended new.line
      → new.longest ≡ old.longest → AsksLine (Ok tt) place patience (one_more count) new.line output' output'' (between clock' clock'' t u) → count' ≡ one_more count
      → RunsOn place patience count' input new then output output'' clock clock'' s u
  runs-line count' new then output'' clock'' u takes unended limit (client, wrote, asks) counts =
      subst (λ n. RunsOn place patience n input new then output output'' clock clock'' s u) (sym counts) (record {
        clients = r.clients ++ client ∷ [];
        answered = All-push (IsAnswered patience) r.clients client r.answered asks.answered;
        told = asks-append place patience r.clients (client ∷ []) r.told asks.told;
        goes =
            goes-on (nas_task patience (r.clients ++ client ∷ [])) (Took r.clients count) (is-task patience (r.clients ++ client ∷ [])) {took' = Took (r.clients ++ client ∷ []) (one_more count)} old new left then
            (with_one patience count r.clients client r.goes) takes unended limit
            (took-one r.clients client count r.goes.lines new.line r.goes.taken asks.packet)
            (line_by patience client) (adds patience r.clients client r.goes.lines new.line r.goes.taken.all asks.packet) output'' wrote;
      })

  -- ---- where the input is told

  known : (X : List ℕ) → input ≡ Some X → Goes (nas_task patience r.clients) (Took r.clients count) (Some X) old left output output'
  known X is = subst (λ i. Goes (nas_task patience r.clients) (Took r.clients count) i old left output output') is r.goes

  so-far : (X : List ℕ) → input ≡ Some X → AreFor (r.clients ++ []) (lines_of X)
  so-far X is =
      let g = known X is in
      let (others, all) = lines-so-far (nas_task patience r.clients) (Took r.clients count) (is-task patience r.clients) X old left g in
      subst (λ cs. AreFor cs (lines_of X)) (sym (append-nil r.clients)) (subst (AreFor r.clients) (sym all) (are-for r.clients g.lines others g.taken.all))

  next-taken : (next : RawLine) (new : Cutting) (then : Option (List ℕ)) → TakesRawLine next (rest_of old left) (rest_of new then) old new → (next ≡ End → ⊥) → IsUnended new.line
      → (X : List ℕ) (is : input ≡ Some X) → (others : List (List ℕ)) × (lines_of X ≡ (known X is).lines ++ new.line ∷ others)
  next-taken Line new then takes some unended X is =
      line-taken (nas_task patience r.clients) (Took r.clients count) (is-task patience r.clients) X old new left then (known X is) takes unended
  next-taken LastLine new then takes some unended X is =
      ([], last-taken (nas_task patience r.clients) (Took r.clients count) (is-task patience r.clients) X old new left then (known X is) takes unended)
  next-taken End new then takes some unended X is = absurd (some refl)

  with-next : (next : RawLine) (new : Cutting) (then : Option (List ℕ)) → TakesRawLine next (rest_of old left) (rest_of new then) old new → (next ≡ End → ⊥) → IsUnended new.line
      → (client : Asked) → packet_in new.line ≡ Ok client.packet → (X : List ℕ) → input ≡ Some X → AreFor (r.clients ++ client ∷ []) (lines_of X)
  with-next next new then takes some unended client read X is =
      let (others, all) = next-taken next new then takes some unended X is in
      let g = known X is in
      subst (AreFor (r.clients ++ client ∷ [])) (sym all) (are-for-more r.clients client g.lines new.line others g.taken.all read)

-- a line that has no text
not-done : {took : List (List ℕ) → Type 0} {before now : Option (List ℕ)} (patience : ℕ) (clients : List Asked) (next : RawLine) (status : Status) (X : List ℕ) (old new : Cutting) (left then after : Option (List ℕ))
    → (g : Goes (nas_task patience clients) took (Some X) old left before now) → TakesRawLine next (rest_of old left) (rest_of new then) old new → (next ≡ End → ⊥) → IsUnended new.line
    → new.held.passed + length new.held.octets ≤ most_octets → WorksNot (nas_task patience clients) status g.lines new.line now after
    → EndsBy (nas_task patience clients) status X then before after
not-done {took} {before} {now} patience clients Line status X old new left then after g takes some unended within works =
    ends-line (nas_task patience clients) took (is-task patience clients) status X old new left then after g takes unended within works
not-done {took} {before} {now} patience clients LastLine status X old new left then after g takes some unended within works =
    ends-last (nas_task patience clients) took (is-task patience clients) status X old new left then after g takes unended within
    (finish-err (nas_task patience clients) status g.lines new.line now after works)
not-done patience clients End status X old new left then after g takes some unended within works = absurd (some refl)

-- ---- the end of a run

-- nothing was done
pub ends-none : (place : Target) (patience : ℕ) (left output clock : Option (List ℕ)) (s : Socket)
    → NasEnds OutOfMemory place patience (record { input = left; input' = left; output = output; output' = output; clock = clock; clock' = clock; socket = s; socket' = s })
ends-none place patience left output clock s = record {
  clients = [];
  last = None;
  answered = tt;
  broken_off = tt;
  told = asks-none place patience clock s;
  lines = λ X is. tt;
  ends = λ X is. nothing-done (nas_task patience []) (Took [] 0) (is-task patience []) left output X is;
}

module _ {place : Target} {patience count : ℕ} {input left output output' clock clock' : Option (List ℕ)} {old : Cutting} {s t : Socket}
    (r : RunsOn place patience count input old left output output' clock clock' s t) where
  -- the run, where these are told after it
  abbrev to : (then output'' clock'' : Option (List ℕ)) (u : Socket) → NasTold
  to then output'' clock'' u = record { input = input; input' = then; output = output; output' = output''; clock = clock; clock' = clock''; socket = s; socket' = u }

  -- after all lines so far
  ends-so-far : (status : Status) (then : Option (List ℕ)) → IsBrokenOff status patience None
      → ((X : List ℕ) → input ≡ Some X → NasBy status patience r.clients X then output output')
      → NasEnds status place patience (to then output' clock' t)
  ends-so-far status then whole ends = record {
    clients = r.clients;
    last = None;
    answered = r.answered;
    broken_off = whole;
    told = asks-append place patience r.clients [] r.told (asks-none place patience clock' t);
    lines = so-far r;
    ends = ends;
  }

  pub ends-end : (new : Cutting) (then : Option (List ℕ)) → TakesRawLine End (rest_of old left) (rest_of new then) old new
      → new.held.passed + length new.held.octets ≤ most_octets → NasEnds Done place patience (to then output' clock' t)
  ends-end new then takes within =
      ends-so-far Done then tt (λ X is.
      ends-close (nas_task patience r.clients) (Took r.clients count) (is-task patience r.clients) Done X old new left then output' (known r X is) takes within (Appends-none output'))

  -- ---- where the next line can't be taken

  pub ends-untaken : (fault : RawFault) (status : Status) (new : Cutting) (then : Option (List ℕ)) → TakesNone fault (rest_of old left) then old new
      → status ≡ status_at (one_more count) fault → NasEnds status place patience (to then output' clock' t)
  ends-untaken fault status new then takes is =
      subst (λ status. NasEnds status place patience (to then output' clock' t)) (sym is) (by fault takes)
    where
      long : (lines : List (List ℕ)) (octets : List ℕ) → Took r.clients count lines → 140000 < length octets
          → (nas_task patience r.clients).stop (lines ++ octets ∷ []) ≡ Some (record { line = one_more count; reason = 1 })
      long lines octets took over =
          bad-line patience r.clients lines octets 1 took.all (too-long octets (omega (arith, over)))
          ∙ ap (λ n. Some (record { line = one_more n; reason = 1 })) (sym took.counted)

      taken : (fault : RawFault) (status : Status) → TakesNone fault (rest_of old left) then old new → StatusOf fault (Took r.clients count) (nas_task patience r.clients) status
          → (X : List ℕ) → input ≡ Some X → EndsBy (nas_task patience r.clients) status X then output output'
      taken fault status takes of X is =
          ends-fault (nas_task patience r.clients) (Took r.clients count) (is-task patience r.clients) fault status X old new left then (known r X is) takes of

      by : (fault : RawFault) → TakesNone fault (rest_of old left) then old new
          → NasEnds (status_at (one_more count) fault) place patience (to then output' clock' t)
      by raw.Read takes = ends-so-far ReadFault then tt (taken raw.Read ReadFault takes refl)
      by raw.TooMuch takes = ends-so-far TooLong then tt (taken raw.TooMuch TooLong takes refl)
      by raw.LongLine takes = ends-so-far (BadTranscript (one_more count) 1) then tt (taken raw.LongLine (BadTranscript (one_more count) 1) takes long)
      by raw.NoMemory takes = ends-so-far OutOfMemory then tt (taken raw.NoMemory OutOfMemory takes refl)

  -- ---- after the last line

  pub ends-last-line : (new : Cutting) (then output'' clock'' : Option (List ℕ)) (u : Socket) → TakesRawLine LastLine (rest_of old left) (rest_of new then) old new → IsUnended new.line
      → new.held.passed + length new.held.octets ≤ most_octets → AsksLine (Ok tt) place patience (one_more count) new.line output' output'' (between clock' clock'' t u)
      → NasEnds Done place patience (to then output'' clock'' u)
  ends-last-line new then output'' clock'' u takes unended within (client, wrote, asks) =
      let more = r.clients ++ client ∷ [] in
      record {
        clients = more;
        last = None;
        answered = All-push (IsAnswered patience) r.clients client r.answered asks.answered;
        broken_off = tt;
        told = asks-append place patience more [] (asks-append place patience r.clients (client ∷ []) r.told asks.told) (asks-none place patience clock'' u);
        lines = λ X is. subst (λ cs. AreFor cs (lines_of X)) (sym (append-nil more)) (with-next r LastLine new then takes (λ e. cc) unended client asks.packet X is);
        ends = λ X is.
            let g = known r X is in
            let line = line_by patience client in
            ends-last (nas_task patience more) (Took r.clients count) (is-task patience more) Done X old new left then output'' (with_one patience count r.clients client g) takes unended within
            (line, adds patience r.clients client g.lines new.line g.taken.all asks.packet, subst (Appends output' output'') (sym (append-nil line)) wrote);
      }

  -- ---- where a line wasn't done

  module _ (next : RawLine) (new : Cutting) (then clock'' : Option (List ℕ)) (u : Socket) (takes : TakesRawLine next (rest_of old left) (rest_of new then) old new)
      (some : next ≡ End → ⊥) (unended : IsUnended new.line) (within : new.held.passed + length new.held.octets ≤ most_octets) where
    -- no client asked for it
    ends-unasked : (status : Status) → IsBrokenOff status patience None → Asks place patience [] (between clock' clock'' t u)
        → ((X : List ℕ) → input ≡ Some X → NasBy status patience r.clients X then output output')
        → NasEnds status place patience (to then output' clock'' u)
    ends-unasked status whole told ends = record {
      clients = r.clients;
      last = None;
      answered = r.answered;
      broken_off = whole;
      told = asks-append place patience r.clients [] r.told told;
      lines = so-far r;
      ends = ends;
    }

    -- its client came to its end
    ends-asked : (status : Status) (output'' : Option (List ℕ)) (client : Asked) → IsBrokenOff status patience None → AsksFor place patience new.line client (between clock' clock'' t u)
        → ((X : List ℕ) → input ≡ Some X → NasBy status patience (r.clients ++ client ∷ []) X then output output'')
        → NasEnds status place patience (to then output'' clock'' u)
    ends-asked status output'' client whole asks ends =
        let more = r.clients ++ client ∷ [] in
        record {
          clients = more;
          last = None;
          answered = All-push (IsAnswered patience) r.clients client r.answered asks.answered;
          broken_off = whole;
          told = asks-append place patience more [] (asks-append place patience r.clients (client ∷ []) r.told asks.told) (asks-none place patience clock'' u);
          lines = λ X is. subst (λ cs. AreFor cs (lines_of X)) (sym (append-nil more)) (with-next r next new then takes some unended client asks.packet X is);
          ends = ends;
        }

    without : (status : Status) (X : List ℕ) (is : input ≡ Some X) → WorksNot (nas_task patience r.clients) status (known r X is).lines new.line output' output'
        → EndsBy (nas_task patience r.clients) status X then output output'
    without status X is works = not-done patience r.clients next status X old new left then output' (known r X is) takes some unended within works

    with : (status : Status) (output'' : Option (List ℕ)) (client : Asked) (X : List ℕ) (is : input ≡ Some X)
        → WorksNot (nas_task patience (r.clients ++ client ∷ [])) status (known r X is).lines new.line output' output''
        → EndsBy (nas_task patience (r.clients ++ client ∷ [])) status X then output output''
    with status output'' client X is works =
        not-done patience (r.clients ++ client ∷ []) next status X old new left then output'' (with_one patience count r.clients client (known r X is)) takes some unended within works

    bad : (status : Status) → AsksNot status place patience (one_more count) new.line (between clock' clock'' t u) → NasEnds status place patience (to then output' clock'' u)
    bad (BadTranscript number reason) (same, read, told) =
        ends-unasked (BadTranscript number reason) tt told (λ X is.
        let took = (known r X is).taken in
        without (BadTranscript number reason) X is (
          bad-line patience r.clients (known r X is).lines new.line reason took.all read
              ∙ ap (λ n. Some (record { line = n; reason = reason })) (sym (same ∙ ap one_more took.counted)),
          refl,
        ))
    bad OutOfMemory (inl told) = ends-unasked OutOfMemory tt told (λ X is. without OutOfMemory X is (inl refl))
    bad OutOfMemory (inr (client, asks)) = ends-asked OutOfMemory output' client tt asks (λ X is. with OutOfMemory output' client X is (inl refl))
    bad DatagramFault (client, off) = record {
      clients = r.clients;
      last = Some client;
      answered = r.answered;
      broken_off = off.unanswered;
      told = asks-append place patience r.clients (client ∷ []) r.told off.told;
      lines = with-next r next new then takes some unended client off.packet;
      ends = λ X is. (
        without OutOfMemory X is (inl refl),
        subst (Appends output output') (text-so-far patience r.clients r.goes.lines r.goes.taken.all) r.goes.wrote,
      );
    }
    bad Done not = absurd not
    bad Usage not = absurd not
    bad (BadConfig fault) not = absurd not
    bad ReadFault not = absurd not
    bad WriteFault not = absurd not
    bad LinkFault not = absurd not
    bad (PeerRefused code) not = absurd not
    bad NoThread not = absurd not
    bad (LinkEnded cause) not = absurd not
    bad TooLong not = absurd not

    unwritten : (output'' : Option (List ℕ)) (status : Status) → (output'' ≡ output') × AsksNot status place patience (one_more count) new.line (between clock' clock'' t u)
        → NasEnds status place patience (to then output'' clock'' u)
    unwritten output'' status (same, not) = subst (λ o. NasEnds status place patience (to then o clock'' u)) (sym same) (bad status not)

    pub ends-undone : (output'' : Option (List ℕ)) (status : Status) → AsksLine (Err status) place patience (one_more count) new.line output' output'' (between clock' clock'' t u)
        → NasEnds status place patience (to then output'' clock'' u)
    ends-undone output'' WriteFault (client, wrote, asks) =
        ends-asked WriteFault output'' client tt asks (λ X is.
        let g = known r X is in
        with WriteFault output'' client X is (line_by patience client, adds patience r.clients client g.lines new.line g.taken.all asks.packet, wrote))
    ends-undone output'' (BadTranscript number reason) line = unwritten output'' (BadTranscript number reason) line
    ends-undone output'' OutOfMemory line = unwritten output'' OutOfMemory line
    ends-undone output'' DatagramFault line = unwritten output'' DatagramFault line
    ends-undone output'' Done line = unwritten output'' Done line
    ends-undone output'' Usage line = unwritten output'' Usage line
    ends-undone output'' (BadConfig fault) line = unwritten output'' (BadConfig fault) line
    ends-undone output'' ReadFault line = unwritten output'' ReadFault line
    ends-undone output'' LinkFault line = unwritten output'' LinkFault line
    ends-undone output'' (PeerRefused code) line = unwritten output'' (PeerRefused code) line
    ends-undone output'' NoThread line = unwritten output'' NoThread line
    ends-undone output'' (LinkEnded cause) line = unwritten output'' (LinkEnded cause) line
    ends-undone output'' TooLong line = unwritten output'' TooLong line

-- ---- a sound input is asked for whole

pub completes : {place : Target} {patience : ℕ} {run : NasTold} (status : Status) (X : List ℕ) (a a' b b' d d' : ℕ)
    → NasEnds status place patience run → run.input ≡ Some X
    → (status ≡ Usage → ⊥) → ((line reason : ℕ) → status ≡ BadTranscript line reason → 0 < line) → EndsCounts status a a' b b' d d'
    → (status ≡ DatagramFault → Rose run.socket.faults run.socket'.faults)
    → AllByRecursion (λ line. IsOk (packet_in line)) (lines_of X) → length X ≤ most_octets → (Rose b b' → ⊥) → (Rose d d' → ⊥) → (Rose run.socket.faults run.socket'.faults → ⊥)
    → (status ≡ Done) ⊎ (status ≡ OutOfMemory)
completes Done X a a' b b' d d' e is begun numbered counts rose sound short reads writes faults = inl refl
completes OutOfMemory X a a' b b' d d' e is begun numbered counts rose sound short reads writes faults = inr refl
completes Usage X a a' b b' d d' e is begun numbered counts rose sound short reads writes faults = absurd (begun refl)
completes ReadFault X a a' b b' d d' e is begun numbered counts rose sound short reads writes faults = absurd (reads counts)
completes WriteFault X a a' b b' d d' e is begun numbered counts rose sound short reads writes faults = absurd (writes counts)
completes DatagramFault X a a' b b' d d' e is begun numbered counts rose sound short reads writes faults = absurd (faults (rose refl))
completes {patience = patience} (BadTranscript line reason) X a a' b b' d d' e is begun numbered counts rose sound short reads writes faults =
    let stops = e.ends X is in
    let zero = ap (λ (b : Bad). b.line) (no-bad patience 0 e.clients (lines_of X) (record { line = line; reason = reason }) sound stops.first) in
    absurd (omega (arith, zero, numbered line reason refl))
completes TooLong X a a' b b' d d' e is begun numbered counts rose sound short reads writes faults =
    let o = e.ends X is in
    let (ys, still, cut) = Consumes-told o.taken X refl in
    absurd (omega (arith, short, o.full, ap length cut, length-append ((ended_text o.lines ++ o.part) ++ o.more ∷ []) ys, length-append (ended_text o.lines ++ o.part) (o.more ∷ [])))
completes LinkFault X a a' b b' d d' e is begun numbered counts rose sound short reads writes faults = absurd (e.ends X is)
completes (PeerRefused code) X a a' b b' d d' e is begun numbered counts rose sound short reads writes faults = absurd (e.ends X is)
completes NoThread X a a' b b' d d' e is begun numbered counts rose sound short reads writes faults = absurd (e.ends X is)
completes (LinkEnded cause) X a a' b b' d d' e is begun numbered counts rose sound short reads writes faults = absurd (e.ends X is)
completes (BadConfig fault) X a a' b b' d d' e is begun numbered counts rose sound short reads writes faults = absurd (e.ends X is)
