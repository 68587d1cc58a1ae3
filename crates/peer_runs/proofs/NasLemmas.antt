-- The lines of a run, and the clients that ask for them.
use Rattle.std.proofs.Common.{◌≡◌, ℕ, ◌<◌, Bool, true, nat_lt, if◌then◌else◌, List, [], ◌∷◌, ◌++◌, length, append_assoc, flat_map, Some, None, Result, Ok, Err, refl, sym, ap, ◌∙◌, rules}
use Rattle.std.specs.Prelude.{IsOk}
use Rattle.std.specs.List.{AllByRecursion}
use Rattle.std.proofs.lemmas.Grind.{flat_map-append}
use Rattle.std.proofs.lemmas.List.{append-nil}
use Rattle.std.proofs.lemmas.List.Concat.{flat_map-cons}
use Rattle.wire_core.specs.Counts.{one_more}
use Rattle.text_lines.specs.Stops.{Bad}
use Rattle.test_peers.specs.PacketLines.{one_of, packet_in, packet_word}
use Rattle.test_peers.specs.Lines.{words_of}
use Rattle.text_commands.specs.Shown.{Shown, count_after}
use Rattle.text_commands.specs.Tasks.{Adds, IsTask}
use Rattle.peer_runs.specs.Asking.{Asked}
use Rattle.peer_runs.specs.NasRuns.{AreFor, line_by, nas_from, nas_on, nas_task, unasked}

-- ---- lines after lines

-- the clients that are left after these lines
abbrev left_after : List Asked → List (List ℕ) → List Asked
left_after clients [] = clients
left_after [] (line ∷ lines) = []
left_after (client ∷ clients) (line ∷ lines) = left_after clients lines

-- all these lines being sound and asked for, they go on with what follows them
nas-append : (p n : ℕ) (clients : List Asked) (lines more : List (List ℕ)) → (nas_from p n clients lines).stop ≡ None
    → nas_from p n clients (lines ++ more)
    ≡ record {
      text = (nas_from p n clients lines).text ++ (nas_from p (count_after n lines) (left_after clients lines) more).text;
      stop = (nas_from p (count_after n lines) (left_after clients lines) more).stop;
    }
nas-append p n clients [] more none = refl
nas-append p n clients (line ∷ lines) more none = by (packet_in line) clients none (λ left. nas-append p (one_more n) left lines more)
  where
    by : (r : Result (List ℕ) ℕ) (clients : List Asked) → (nas_on p n r clients (λ left. nas_from p (one_more n) left lines)).stop ≡ None
        → ((left : List Asked) → (nas_from p (one_more n) left lines).stop ≡ None → nas_from p (one_more n) left (lines ++ more)
        ≡ record {
          text = (nas_from p (one_more n) left lines).text ++ (nas_from p (count_after (one_more n) lines) (left_after left lines) more).text;
          stop = (nas_from p (count_after (one_more n) lines) (left_after left lines) more).stop;
        })
        → nas_on p n r clients (λ left. nas_from p (one_more n) left (lines ++ more))
        ≡ record {
          text = (nas_on p n r clients (λ left. nas_from p (one_more n) left lines)).text ++ (nas_from p (count_after (one_more n) lines) (left_after clients (line ∷ lines)) more).text;
          stop = (nas_from p (count_after (one_more n) lines) (left_after clients (line ∷ lines)) more).stop;
        }
    by (Err reason) clients none later = cc
    by (Ok packet) [] none later = cc
    by (Ok packet) (client ∷ clients) none later =
        let after = nas_from p (count_after (one_more n) lines) (left_after clients lines) more in
        let with_stop : List ℕ → Shown = λ t. record { text = t; stop = after.stop } in
        ap (λ (s : Shown). record { text = line_by p client ++ s.text; stop = s.stop }) (later clients none)
        ∙ ap with_stop (sym (append_assoc (line_by p client) (nas_from p (one_more n) clients lines).text after.text))

-- where the lines stop, they stop with what follows them too
stays : (p n : ℕ) (clients : List Asked) (lines more : List (List ℕ)) (bad : Bad) → (nas_from p n clients lines).stop ≡ Some bad
    → nas_from p n clients (lines ++ more) ≡ nas_from p n clients lines
stays p n clients [] more bad is = cc
stays p n clients (line ∷ lines) more bad is = by (packet_in line) clients is (λ left. stays p (one_more n) left lines more bad)
  where
    by : (r : Result (List ℕ) ℕ) (clients : List Asked) → (nas_on p n r clients (λ left. nas_from p (one_more n) left lines)).stop ≡ Some bad
        → ((left : List Asked) → (nas_from p (one_more n) left lines).stop ≡ Some bad → nas_from p (one_more n) left (lines ++ more) ≡ nas_from p (one_more n) left lines)
        → nas_on p n r clients (λ left. nas_from p (one_more n) left (lines ++ more)) ≡ nas_on p n r clients (λ left. nas_from p (one_more n) left lines)
    by (Err reason) clients is later = refl
    by (Ok packet) [] is later = refl
    by (Ok packet) (client ∷ clients) is later =
        ap (λ (s : Shown). record { text = line_by p client ++ s.text; stop = s.stop }) (later clients is)

-- further clients change nothing
longer : (p n : ℕ) (clients more : List Asked) (lines : List (List ℕ)) → (nas_from p n clients lines).stop ≡ None
    → nas_from p n (clients ++ more) lines ≡ nas_from p n clients lines
longer p n clients more [] none = refl
longer p n clients more (line ∷ lines) none = by (packet_in line) clients none (λ left. longer p (one_more n) left more lines)
  where
    by : (r : Result (List ℕ) ℕ) (clients : List Asked) → (nas_on p n r clients (λ left. nas_from p (one_more n) left lines)).stop ≡ None
        → ((left : List Asked) → (nas_from p (one_more n) left lines).stop ≡ None → nas_from p (one_more n) (left ++ more) lines ≡ nas_from p (one_more n) left lines)
        → nas_on p n r (clients ++ more) (λ left. nas_from p (one_more n) left lines) ≡ nas_on p n r clients (λ left. nas_from p (one_more n) left lines)
    by (Err reason) clients none later = cc
    by (Ok packet) [] none later = cc
    by (Ok packet) (client ∷ clients) none later =
        ap (λ (s : Shown). record { text = line_by p client ++ s.text; stop = s.stop }) (later clients none)

-- ---- one client for each line

abbrev pub AreAll : List Asked → List (List ℕ) → Type 0
AreAll [] [] = Unit {0}
AreAll [] (line ∷ lines) = ⊥
AreAll (client ∷ clients) [] = ⊥
AreAll (client ∷ clients) (line ∷ lines) = (packet_in line ≡ Ok client.packet) × AreAll clients lines

pub AreAll-push : (clients : List Asked) (client : Asked) (lines : List (List ℕ)) (line : List ℕ) → AreAll clients lines → packet_in line ≡ Ok client.packet
    → AreAll (clients ++ client ∷ []) (lines ++ line ∷ [])
AreAll-push [] client [] line are is = (is, tt)
AreAll-push [] client (first ∷ lines) line are is = absurd are
AreAll-push (first ∷ clients) client [] line are is = absurd are
AreAll-push (first ∷ clients) client (other ∷ lines) line are is = (are.0, AreAll-push clients client lines line are.1 is)

pub are-for : (clients : List Asked) (lines more : List (List ℕ)) → AreAll clients lines → AreFor clients (lines ++ more)
are-for [] lines more are = tt
are-for (client ∷ clients) [] more are = absurd are
are-for (client ∷ clients) (line ∷ lines) more are = (are.0, are-for clients lines more are.1)

pub are-for-more : (clients : List Asked) (client : Asked) (lines : List (List ℕ)) (line : List ℕ) (more : List (List ℕ)) → AreAll clients lines → packet_in line ≡ Ok client.packet
    → AreFor (clients ++ client ∷ []) (lines ++ line ∷ more)
are-for-more [] client [] line more are is = (is, tt)
are-for-more [] client (first ∷ lines) line more are is = absurd are
are-for-more (first ∷ clients) client [] line more are is = absurd are
are-for-more (first ∷ clients) client (other ∷ lines) line more are is = (are.0, are-for-more clients client lines line more are.1 is)

none-left : (clients : List Asked) (lines : List (List ℕ)) → AreAll clients lines → left_after clients lines ≡ []
none-left [] [] are = refl
none-left [] (line ∷ lines) are = absurd are
none-left (client ∷ clients) [] are = absurd are
none-left (client ∷ clients) (line ∷ lines) are = none-left clients lines are.1

-- they are sound, and print the clients' lines
matched : (p n : ℕ) (clients : List Asked) (lines : List (List ℕ)) → AreAll clients lines
    → nas_from p n clients lines ≡ record { text = flat_map (line_by p) clients; stop = None }
matched p n [] [] are = refl
matched p n [] (line ∷ lines) are = absurd are
matched p n (client ∷ clients) [] are = absurd are
matched p n (client ∷ clients) (line ∷ lines) are =
    ap (λ r. nas_on p n r (client ∷ clients) (λ left. nas_from p (one_more n) left lines)) are.0
    ∙ ap (λ (s : Shown). record { text = line_by p client ++ s.text; stop = s.stop }) (matched p (one_more n) clients lines are.1)
    ∙ ap (λ (t : List ℕ). record { text = t; stop = None }) (sym (flat_map-cons (line_by p) client clients))

-- ---- one line more

pub sound-so-far : (p : ℕ) (clients : List Asked) (lines : List (List ℕ)) → AreAll clients lines → (nas_task p clients).stop lines ≡ None
sound-so-far p clients lines are = ap (λ (s : Shown). s.stop) (matched p 0 clients lines are)

pub text-so-far : (p : ℕ) (clients : List Asked) (lines : List (List ℕ)) → AreAll clients lines → (nas_task p clients).text lines ≡ flat_map (line_by p) clients
text-so-far p clients lines are = ap (λ (s : Shown). s.text) (matched p 0 clients lines are)

-- a further client is for a further line
pub longer-stop : (p : ℕ) (clients more : List Asked) (lines : List (List ℕ)) → AreAll clients lines → (nas_task p (clients ++ more)).stop lines ≡ None
longer-stop p clients more lines are =
    let sound = sound-so-far p clients lines are in ap (λ (s : Shown). s.stop) (longer p 0 clients more lines sound) ∙ sound

pub longer-text : (p : ℕ) (clients more : List Asked) (lines : List (List ℕ)) → AreAll clients lines
    → (nas_task p (clients ++ more)).text lines ≡ (nas_task p clients).text lines
longer-text p clients more lines are = ap (λ (s : Shown). s.text) (longer p 0 clients more lines (sound-so-far p clients lines are))

-- a line that a client asks for
pub adds : (p : ℕ) (clients : List Asked) (client : Asked) (lines : List (List ℕ)) (line : List ℕ) → AreAll clients lines → packet_in line ≡ Ok client.packet
    → Adds (nas_task p (clients ++ client ∷ [])) lines line (line_by p client)
adds p clients client lines line are is =
    let all = AreAll-push clients client lines line are is in
    let whole = flat_map (line_by p) clients in
    let one = flat_map-cons (line_by p) client [] ∙ append-nil (line_by p client) in
    record {
      sound = sound-so-far p (clients ++ client ∷ []) (lines ++ line ∷ []) all;
      text =
          text-so-far p (clients ++ client ∷ []) (lines ++ line ∷ []) all ∙ flat_map-append (line_by p) clients (client ∷ []) ∙ ap (λ t. whole ++ t) one
          ∙ ap (λ t. t ++ line_by p client) (sym (longer-text p clients (client ∷ []) lines are ∙ text-so-far p clients lines are));
    }

-- a bad line
pub bad-line : (p : ℕ) (clients : List Asked) (lines : List (List ℕ)) (line : List ℕ) (reason : ℕ) → AreAll clients lines → packet_in line ≡ Err reason
    → (nas_task p clients).stop (lines ++ line ∷ []) ≡ Some (record { line = one_more (count_after 0 lines); reason = reason })
bad-line p clients lines line reason are is =
    let n = count_after 0 lines in
    let left = left_after clients lines in
    ap (λ (s : Shown). s.stop) (nas-append p 0 clients lines (line ∷ []) (sound-so-far p clients lines are))
    ∙ ap (λ r. (nas_on p n r left (λ others. nas_from p (one_more n) others [])).stop) is

-- a line of more octets than a line may have
pub too-long : (octets : List ℕ) → 140000 < length octets → packet_in octets ≡ Err 1
too-long octets long =
    let over : nat_lt 140000 (length octets) ≡ true = search (rules, long) in
    ap (λ (b : Bool). if b then Err 1 else packet_word (one_of (words_of octets))) over

-- ---- the task

quiet-line : (p n : ℕ) (left : List Asked) (line : List ℕ) (bad : Bad) → (nas_from p n left (line ∷ [])).stop ≡ Some bad → (nas_from p n left (line ∷ [])).text ≡ []
quiet-line p n left line bad stop = by (packet_in line) left stop
  where
    by : (r : Result (List ℕ) ℕ) (left : List Asked) → (nas_on p n r left (λ others. nas_from p (one_more n) others [])).stop ≡ Some bad
        → (nas_on p n r left (λ others. nas_from p (one_more n) others [])).text ≡ []
    by (Err reason) left stop = refl
    by (Ok packet) [] stop = refl
    by (Ok packet) (client ∷ left) stop = cc

pub is-task : (p : ℕ) (clients : List Asked) → IsTask (nas_task p clients)
is-task p clients = record {
  none = refl;
  empty = refl;
  quiet = λ lines line bad none stop.
      let whole = nas-append p 0 clients lines (line ∷ []) none in
      let n = count_after 0 lines in
      let last = quiet-line p n (left_after clients lines) line bad (sym (ap (λ (s : Shown). s.stop) whole) ∙ stop) in
      ap (λ (s : Shown). s.text) whole ∙ ap (λ t. (nas_from p 0 clients lines).text ++ t) last ∙ append-nil (nas_from p 0 clients lines).text;
  stop = λ lines more bad is. ap (λ (s : Shown). s.stop) (stays p 0 clients lines more bad is) ∙ is;
  text = λ lines more bad is. ap (λ (s : Shown). s.text) (stays p 0 clients lines more bad is);
}

-- where no line is bad, they stop at most where no client is left
pub no-bad : (p n : ℕ) (clients : List Asked) (lines : List (List ℕ)) (bad : Bad) → AllByRecursion (λ line. IsOk (packet_in line)) lines
    → (nas_from p n clients lines).stop ≡ Some bad → bad ≡ unasked
no-bad p n clients [] bad sound stop = cc
no-bad p n clients (line ∷ lines) bad sound stop = by (packet_in line) clients sound.0 stop (λ left. no-bad p (one_more n) left lines bad sound.1)
  where
    by : (r : Result (List ℕ) ℕ) (clients : List Asked) → IsOk r → (nas_on p n r clients (λ left. nas_from p (one_more n) left lines)).stop ≡ Some bad
        → ((left : List Asked) → (nas_from p (one_more n) left lines).stop ≡ Some bad → bad ≡ unasked) → bad ≡ unasked
    by (Err reason) clients ok stop later = cc
    by (Ok packet) [] ok stop later = cc
    by (Ok packet) (client ∷ clients) ok stop later = later clients stop
