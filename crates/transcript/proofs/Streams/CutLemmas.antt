-- A `link` line in one piece, and in two of the same moment, for whatever follows the lines.
use Rattle.std.proofs.Common.{◌≡◌, ◌≢◌, ℕ, ◌+◌, ◌<◌, ◌≤◌, Bool, true, false, cond, eqb, List, [], ◌∷◌, ◌++◌, length, codes, Option, Some, None, Ok, Err, refl, sym, ap, ◌∙◌, subst, append_assoc, arith}
use Rattle.std.specs.Prelude.{nat_lt}
use Rattle.std.specs.List.{list_any}
use Rattle.std.proofs.lemmas.List.{length-append}
use Rattle.wire_core.specs.Counts.{one_more}
use Rattle.agent_settings.specs.declared.client.Client.{Client}
use Rattle.agent_settings.specs.declared.config.Config.{Config}
use Rattle.agent_events.specs.declared.events.Input.{Input}
use Rattle.text_lines.specs.Words.{words_of}
use Rattle.printed_lines.specs.EventText.{link_line}
use Rattle.transcript.specs.Grammar.{IsHex, IsNumber, SaysWords}
use Rattle.transcript.specs.Inputs.{inputs_of, link_inputs}
use Rattle.transcript.specs.Kinds.{kind_of}
use Rattle.transcript.specs.Lines.{client_of, control_of, event_of, settings_of}
use Rattle.transcript.specs.Reading.{At, Said, Step, agent_step, client_step, control_step, event_step, kind_step, may_stand, read_from, read_line, said_on, words_step}
use Rattle.transcript.specs.Told.{after_lines, given_by}
use Rattle.transcript.specs.declared.control.Control.{Control}
use Rattle.transcript.specs.declared.happening.Happening.{Happening}
use Rattle.transcript.specs.declared.happening.Happening.TheVariants as happening
use Rattle.transcript.specs.declared.kind.Kind.{Kind}
use Rattle.transcript.specs.declared.kind.Kind.TheVariants as kind
use Rattle.transcript.specs.declared.line.Line.{Line}
use Rattle.transcript.specs.declared.line.Line.TheVariants as line
use Rattle.transcript.specs.declared.position.Section.TheVariants.{Start, Events}
use Rattle.transcript.proofs.Streams.CutStreams.{link-cut}
use Rattle.transcript.proofs.Grammar.GrammarJoinLemmas.{line-read}
use Rattle.transcript.proofs.Grammar.GrammarLemmas.{line-says}
use Rattle.transcript.proofs.Grammar.GrammarWordLemmas.{hex-joined}
use Rattle.transcript.proofs.Reading.ReadingLemmas.{event-is-line, event-reads, event_next, hex-behind}

-- ---- places that differ in how many lines came before

abbrev at_lines : At → ℕ → At
at_lines at n = record at { lines = n }

abbrev IsLike : At → At → Type 0
IsLike at other = (n : ℕ) × (other ≡ at_lines at n)

-- ---- what follows the lines

module _ {S X : Type 0} (follow : S → Line → S) (gives : S → Line → List X) where
  -- what is said is the same but for the line's number
  pub record SaysLike (l other : Line) : Type 0 where
    pub follows : (stage : S) → follow stage other ≡ follow stage l
    pub outputs : (stage : S) → gives stage other ≡ gives stage l

  -- the numbers of lines change nothing
  pub record IsNumberless : Type 0 where
    pub agent : (n k : ℕ) (config : Config) → SaysLike (line.Agent n config) (line.Agent k config)
    pub client : (n k : ℕ) (client : Client) → SaysLike (line.Client n client) (line.Client k client)
    pub event : (n k moment : ℕ) (inputs : List Input) → SaysLike (line.Event n moment inputs) (line.Event k moment inputs)
    pub control : (n k moment address port : ℕ) (octets : List ℕ)
        → SaysLike (line.Control n moment address port octets) (line.Control k moment address port octets)

  -- one line of all the inputs, and two lines, whatever their numbers
  pub record InTwo (stage : S) (whole one two : Line) : Type 0 where
    pub follows : follow (follow stage one) two ≡ follow stage whole
    pub outputs : gives stage one ++ gives (follow stage one) two ≡ gives stage whole

module _ {S X : Type 0} (follow : S → Line → S) (gives : S → Line → List X) (numberless : IsNumberless follow gives)
    (in-two : (stage : S) (n k l moment : ℕ) (xs ys : List Input)
    → InTwo follow gives stage (line.Event n moment (xs ++ ys)) (line.Event k moment xs) (line.Event l moment ys)) where
  abbrev StepsLike : Step → Step → Type 0
  StepsLike (Ok step) (Ok other) = SaysLike follow gives step.0 other.0 × IsLike step.1 other.1
  StepsLike (Ok step) (Err reason) = ⊥
  StepsLike (Err reason) (Ok step) = ⊥
  StepsLike (Err reason) (Err other) = Unit {0}

  choice-like : (b : Bool) (one two one' two' : Step) → StepsLike one one' → StepsLike two two'
      → StepsLike (cond b one two) (cond b one' two')
  choice-like true one two one' two' left right = left
  choice-like false one two one' two' left right = right

  kind-like : (at : At) (n : ℕ) (found : Kind) (words : List (List ℕ))
      → StepsLike (kind_step at found words) (kind_step (at_lines at n) found words)
  kind-like at n kind.Agent words = by (settings_of words)
    where
      by : (read : Option Config) → StepsLike (agent_step at read) (agent_step (at_lines at n) read)
      by None = tt
      by (Some config) = (numberless.agent (one_more at.lines) (one_more n) config, (one_more n, refl))
  kind-like at n kind.Client words = by (client_of words)
    where
      by : (read : Option Client) → StepsLike (client_step at read) (client_step (at_lines at n) read)
      by None = tt
      by (Some client) =
          choice-like (list_any (λ a. eqb a client.address) at.addresses) _ _ _ _ tt
          (numberless.client (one_more at.lines) (one_more n) client, (one_more n, refl))
  kind-like at n (kind.Event named) words = by (event_of named words)
    where
      by : (read : Option (ℕ × Happening)) → StepsLike (event_step at read) (event_step (at_lines at n) read)
      by None = tt
      by (Some told) = (numberless.event (one_more at.lines) (one_more n) told.0 _, (one_more n, refl))
  kind-like at n kind.Control words = by (control_of words)
    where
      by : (read : Option Control) → StepsLike (control_step at read) (control_step (at_lines at n) read)
      by None = tt
      by (Some told) =
          (numberless.control (one_more at.lines) (one_more n) told.moment told.address told.port told.octets, (one_more n, refl))

  words-like : (at : At) (n : ℕ) (found : Option Kind) (words : List (List ℕ))
      → StepsLike (words_step at found words) (words_step (at_lines at n) found words)
  words-like at n None words = tt
  words-like at n (Some found) words =
      choice-like (may_stand at.controls at.section (length at.addresses) found) _ _ _ _ (kind-like at n found words) tt

  line-like : (at : At) (n : ℕ) (octets : List ℕ) → StepsLike (read_line at octets) (read_line (at_lines at n) octets)
  line-like at n octets =
      choice-like (nat_lt 140000 (length octets)) _ _ _ _ tt (words-like at n (kind_of (words_of octets)) (words_of octets))

  -- ---- what two transcripts say

  pub record AllSame (said other : Said) : Type 0 where
    pub sound : other.stop ≡ None
    pub stage : (s : S) → after_lines follow s other.lines ≡ after_lines follow s said.lines
    pub outputs : (s : S) → given_by follow gives s other.lines ≡ given_by follow gives s said.lines

  -- if no line of the one is bad
  abbrev pub IfSound : Said → Said → Type 0
  IfSound said other = said.stop ≡ None → AllSame said other

  said-like : (at place : At) (step other : Step) (f g : At → Said) → StepsLike step other → ((a b : At) → IsLike a b → IfSound (f a) (g b))
      → IfSound (said_on at step f) (said_on place other g)
  said-like at place (Ok step) (Ok other) f g like on sound =
      let same = on step.1 other.1 like.1 sound in
      record {
        sound = same.sound;
        stage = λ s. ap (λ t. after_lines follow t (g other.1).lines) (like.0.follows s) ∙ same.stage (follow s step.0);
        outputs = λ s.
            ap (λ outputs. outputs ++ given_by follow gives (follow s other.0) (g other.1).lines) (like.0.outputs s)
            ∙ ap (λ t. gives s step.0 ++ given_by follow gives t (g other.1).lines) (like.0.follows s)
            ∙ ap (λ outputs. gives s step.0 ++ outputs) (same.outputs (follow s step.0));
      }
  said-like at place (Ok step) (Err reason) f g like on sound = absurd like
  said-like at place (Err reason) (Ok step) f g like on sound = absurd like
  said-like at place (Err reason) (Err other) f g like on sound = cc

  lines-like : (at other : At) (lines : List (List ℕ)) → IsLike at other → IfSound (read_from at lines) (read_from other lines)
  lines-like at other [] like = λ sound. record { sound = refl; stage = λ s. refl; outputs = λ s. refl }
  lines-like at other (octets ∷ lines) (n, is) =
      subst (λ (o : At). IfSound (read_from at (octets ∷ lines)) (read_from o (octets ∷ lines))) (sym is)
      (said-like at (at_lines at n) (read_line at octets) (read_line (at_lines at n) octets) _ _ (line-like at n octets)
      (λ a b like. lines-like a b lines like))

  -- ---- a `link` line

  abbrev link_words : List ℕ → List ℕ → List (List ℕ)
  link_words moment hex = moment ∷ codes "link" ∷ hex ∷ []

  length-link : (moment hex : List ℕ) → length (link_line moment hex) ≡ length moment + 6 + length hex
  length-link moment hex = omega (arith, length-append moment (32 ∷ codes "link" ++ 32 ∷ hex))

  -- the first of some lines, none of them being bad
  first-sound : (at : At) (step : Step) (f : At → Said) → (said_on at step f).stop ≡ None → (p : Line × At) × (step ≡ Ok p)
  first-sound at (Ok p) f sound = (p, refl)
  first-sound at (Err reason) f sound = cc

  -- what it says, and where the next one stands
  abbrev said_there : At → ℕ → List ℕ → Line
  said_there at m octets = line.Event (one_more at.lines) m (inputs_of at.stream (happening.Link octets))

  abbrev next_there : At → List ℕ → At
  next_there at octets = event_next at (happening.Link octets)

  -- and what others say behind it
  abbrev said_with : At → ℕ → List ℕ → (At → Said) → Said
  said_with at m octets others = said_on at (Ok (said_there at m octets, next_there at octets)) others

  -- a place behind these octets
  abbrev at_stream : At → List ℕ → ℕ → At
  at_stream at stream n = record { controls = at.controls; section = Events; addresses = at.addresses; stream = stream; lines = n }

  -- it isn't too long, and the settings are over
  record Stands (at : At) (octets : List ℕ) : Type 0 where
    short : length octets ≤ 140000
    further : at.section ≢ Start

  module _ (moment : List ℕ) (m : ℕ) (numbered : IsNumber 18446744073709551615 moment m) where
    reads : (at : At) (hex octets : List ℕ) → IsHex hex octets → Stands at (link_line moment hex)
        → read_line at (link_line moment hex) ≡ Ok (said_there at m octets, next_there at octets)
    reads at hex octets is stands =
        event-reads at m (happening.Link octets) moment (codes "link" ∷ hex ∷ []) numbered
        (hex-behind (codes "link" ∷ []) hex octets refl is) (hex, refl, is) stands.further stands.short

    further-by : (at : At) (words : List (List ℕ)) (hex : List ℕ) (said : Line) (next : At) → words ≡ link_words moment hex
        → SaysWords at words said next → at.section ≢ Start
    further-by at words hex (line.Agent number config) next same says = absurd cc (sym same ∙ says.is.spelled)
    further-by at words hex (line.Client number client) next same says = absurd cc (sym same ∙ says.is.spelled)
    further-by at words hex (line.Event number moment inputs) next same says = says.further
    further-by at words hex (line.Control number moment address port octets) next same says = says.further

    stands-by : (at : At) (hex octets : List ℕ) (step : Line × At) → IsHex hex octets → read_line at (link_line moment hex) ≡ Ok step
        → Stands at (link_line moment hex)
    stands-by at hex octets step is e =
        let says = line-says at (link_line moment hex) step.0 step.1 e in
        let is_line = event-is-line m moment (codes "link" ∷ hex ∷ []) numbered (hex-behind (codes "link" ∷ []) hex octets refl is) in
        let same : says.words ≡ link_words moment hex = sym (line-read _ says.words says.is_line) ∙ line-read _ _ is_line in
        record { short = says.short; further = further-by at says.words hex step.0 step.1 same says.says }

    -- ---- a `link` line that is cut

    module _ (a b x y : List ℕ) (is-a : IsHex a x) (is-b : IsHex b y) (some-x : 0 < length x) (some-y : 0 < length y) where
      is-both : IsHex (a ++ b) (x ++ y)
      is-both = hex-joined a b x y some-x some-y is-a is-b

      cut-followed : (at : At) (stage : S)
          → InTwo follow gives stage (said_there at m (x ++ y)) (said_there at m x) (said_there (next_there at x) m y)
      cut-followed at stage =
          let n = one_more at.lines in
          let front = link_inputs at.stream (at.stream ++ x) in
          subst (λ (inputs : List Input). InTwo follow gives stage (line.Event n m inputs) (said_there at m x) (said_there (next_there at x) m y))
          (sym (link-cut at.stream x y))
          (in-two stage n n (one_more n) m front (link_inputs (at.stream ++ x) ((at.stream ++ x) ++ y)))

      next-like : (at : At) → IsLike (next_there at (x ++ y)) (next_there (next_there at x) y)
      next-like at =
          let n = one_more (one_more at.lines) in
          (n, ap (λ stream. at_stream at stream n) (append_assoc at.stream x y))

      -- the lines behind them
      lines-behind : (at : At) (after : List (List ℕ)) → (read_from (next_there at (x ++ y)) after).stop ≡ None
          → AllSame (said_with at m (x ++ y) (λ next. read_from next after))
          (said_with at m x (λ next. said_with next m y (λ last. read_from last after)))
      lines-behind at after sound =
          let same = lines-like (next_there at (x ++ y)) (next_there (next_there at x) y) after (next-like at) sound in
          let whole = said_there at m (x ++ y) in
          let one = said_there at m x in
          let two = said_there (next_there at x) m y in
          let then = λ (s : S). follow (follow s one) two in
          let lines = (read_from (next_there (next_there at x) y) after).lines in
          record {
            sound = same.sound;
            stage = λ s. ap (λ t. after_lines follow t lines) (cut-followed at s).follows ∙ same.stage (follow s whole);
            outputs = λ s.
                sym (append_assoc (gives s one) (gives (follow s one) two) (given_by follow gives (then s) lines))
                ∙ ap (λ outputs. outputs ++ given_by follow gives (then s) lines) (cut-followed at s).outputs
                ∙ ap (λ t. gives s whole ++ given_by follow gives t lines) (cut-followed at s).follows
                ∙ ap (λ outputs. gives s whole ++ outputs) (same.outputs (follow s whole));
          }

      cut-here : (at : At) (after : List (List ℕ))
          → IfSound (read_from at (link_line moment (a ++ b) ∷ after)) (read_from at (link_line moment a ∷ link_line moment b ∷ after))
      cut-here at after sound =
          let (step, is) = first-sound at (read_line at (link_line moment (a ++ b))) (λ next. read_from next after) sound in
          let stands = stands-by at (a ++ b) (x ++ y) step is-both is in
          let whole = reads at (a ++ b) (x ++ y) is-both stands in
          let one = reads at a x is-a (record {
            short = omega (arith, stands.short, length-link moment (a ++ b), length-link moment a, length-append a b);
            further = stands.further;
          }) in
          let two = reads (next_there at x) b y is-b (record {
            short = omega (arith, stands.short, length-link moment (a ++ b), length-link moment b, length-append a b);
            further = λ e. cc;
          }) in
          let said : read_from at (link_line moment (a ++ b) ∷ after) ≡ said_with at m (x ++ y) (λ next. read_from next after) =
          ap (λ (s : Step). said_on at s (λ next. read_from next after)) whole in
          let other : read_from at (link_line moment a ∷ link_line moment b ∷ after)
          ≡ said_with at m x (λ next. said_with next m y (λ last. read_from last after)) =
          ap (λ (s : Step). said_on at s (λ next. read_from next (link_line moment b ∷ after))) one
          ∙ ap (λ (s : Step). said_with at m x (λ next. said_on next s (λ last. read_from last after))) two in
          rw (said, other) (lines-behind at after (sym (ap (λ (s : Said). s.stop) said) ∙ sound))

      pub cut-from : (at : At) (before after : List (List ℕ))
          → IfSound (read_from at (before ++ link_line moment (a ++ b) ∷ after))
          (read_from at (before ++ link_line moment a ∷ link_line moment b ∷ after))
      cut-from at [] after = cut-here at after
      cut-from at (octets ∷ before) after = by (read_line at octets) _ _ (λ next. cut-from next before after)
        where
          by : (step : Step) (f g : At → Said) → ((next : At) → IfSound (f next) (g next)) → IfSound (said_on at step f) (said_on at step g)
          by (Err reason) f g on sound = cc
          by (Ok step) f g on sound =
              let same = on step.1 sound in
              record {
                sound = same.sound;
                stage = λ s. same.stage (follow s step.0);
                outputs = λ s. ap (λ outputs. gives s step.0 ++ outputs) (same.outputs (follow s step.0));
              }
