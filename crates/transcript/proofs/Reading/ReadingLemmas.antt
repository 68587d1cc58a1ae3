-- What event lines say where they stand.
use Rattle.std.proofs.Common.{◌≡◌, ◌≢◌, ℕ, ◌≤◌, false, eqb, List, [], ◌∷◌, ◌++◌, length, All, Ok, refl, lit≤, arith}
use Rattle.std.specs.List.{list_any}
use Rattle.std.proofs.lemmas.Bool.{or_parts}
use Rattle.std.proofs.lemmas.List.Elements.{All-cons, All-nil, All-same}
use Rattle.wire_core.specs.Counts.{one_more}
use Rattle.printed_lines.specs.Text.{line_of}
use Rattle.transcript.specs.Grammar.{IsHappening, IsHex, IsLine, IsNumber, Lacks}
use Rattle.transcript.specs.Inputs.{inputs_of, stream_after}
use Rattle.transcript.specs.Reading.{At, read_line}
use Rattle.transcript.specs.declared.happening.Happening.{Happening}
use Rattle.transcript.specs.declared.line.Line.TheVariants as line
use Rattle.transcript.specs.declared.position.Section.TheVariants.{Start, Events}
use Rattle.transcript.proofs.Grammar.GrammarJoinLemmas.{any-lacks, decimal-lacks}
use Rattle.transcript.proofs.Grammar.GrammarLemmas.{says-read}
use Rattle.transcript.proofs.Grammar.GrammarWordLemmas.{hex-lacks}

-- behind an event line, and such a place behind so many lines of a transcript without control lines
abbrev pub StandsBehind : At → Type 0
StandsBehind at = at.section ≡ Events

abbrev pub behind_events : List ℕ → ℕ → At
behind_events addresses lines = record { controls = false; section = Events; addresses = addresses; stream = []; lines = lines }

-- where the next line stands
abbrev pub event_next : At → Happening → At
event_next at told = record at { section = Events; stream = stream_after at.stream told; lines = one_more at.lines }

-- words without a space, and one of hex behind them
pub hex-behind : (words : List (List ℕ)) (hex octets : List ℕ) → list_any (λ word. list_any (λ c. eqb c 32) word) words ≡ false
    → IsHex hex octets → All (Lacks 32) (words ++ hex ∷ [])
hex-behind [] hex octets none is = All-cons (Lacks 32) hex [] (hex-lacks 32 hex octets (λ e. omega (arith, e)) refl is) (All-nil (Lacks 32))
hex-behind (word ∷ words) hex octets none is =
    let (first, others) = or_parts (list_any (λ c. eqb c 32) word) (list_any (λ w. list_any (λ c. eqb c 32) w) words) none in
    All-cons (Lacks 32) word (words ++ hex ∷ []) (any-lacks 32 word first) (hex-behind words hex octets others is)

-- a moment, and words behind it
pub event-is-line : (moment : ℕ) (word : List ℕ) (behind : List (List ℕ)) → IsNumber 18446744073709551615 word moment
    → All (Lacks 32) behind → IsLine (line_of (word ∷ behind)) (word ∷ behind)
event-is-line moment word behind (is, fits) lack = record {
  some = omega arith;
  spaceless = All-cons (Lacks 32) word behind
      (All-same (λ y. y ≢ 32) word _ is (decimal-lacks 32 moment (lit≤ tt) (omega (arith, fits)))) lack;
  spelled = refl;
}

-- an event line of these words
pub event-reads : (at : At) (moment : ℕ) (told : Happening) (word : List ℕ) (behind : List (List ℕ))
    → IsNumber 18446744073709551615 word moment → All (Lacks 32) behind → IsHappening behind told → at.section ≢ Start
    → length (line_of (word ∷ behind)) ≤ 140000
    → read_line at (line_of (word ∷ behind)) ≡ Ok (line.Event (one_more at.lines) moment (inputs_of at.stream told), event_next at told)
event-reads at moment told word behind number lack is further short =
    says-read at (line_of (word ∷ behind)) _ _ (record {
      short = short;
      words = word ∷ behind;
      is_line = event-is-line moment word behind number lack;
      says = record {
        further = further;
        told = told;
        is = record { word = word; behind = behind; spelled = refl; is_moment = number; is_told = is };
        counts = refl;
        gives = refl;
        goes_on = refl;
      };
    })
