-- No line of a generated transcript is bad.
use Rattle.std.proofs.Common.{◌≡◌, ℕ, zero, suc, ◌+◌, ◌<◌, ◌≤◌, true, false, cond, List, [], ◌∷◌, ◌++◌, length, codes, All, None, Ok, refl, sym, ap, ◌∙◌, lit≤, arith}
use Rattle.std.specs.Fmt.{decimal}
use Rattle.std.specs.List.{flat_map, range_with_len}
use Rattle.std.specs.Net.Reader.{read_number, read_octet, read_ipv4}
use Rattle.std.proofs.lemmas.Fmt.{length-decimal-le}
use Rattle.std.proofs.lemmas.List.{length-append}
use Rattle.std.proofs.lemmas.List.Elements.{All-cons, All-nil}
use Rattle.wire_core.specs.Counts.{one_more}
use Rattle.wire_core.specs.Numbers.{number}
use Rattle.hex.specs.Hex.{IsBytes, decode_pairs, encode_lower, lower_digits}
use Rattle.hex.proofs.HexLemmas.{decode_of-encode_lower, length-encode_with}
use Rattle.radius_packet.specs.Packet.{packet_text}
use Rattle.radius_packet.specs.declared.reasons.Via.TheVariants.{Auth}
use Rattle.diameter_message.specs.Message.{header_text, message_text}
use Rattle.agent_settings.specs.Config.{are_settings_in_limits, is_client_in_limits}
use Rattle.agent_events.specs.declared.events.Input.{Input}
use Rattle.agent_events.specs.declared.events.Input.TheVariants as input
use Rattle.generated_logins.specs.Generating.{logins_from}
use Rattle.generated_logins.specs.Generator.{answer_line, answer_octets, drain_line, draw, event_line, generated_lines, has_bit, login_lines, moment, next_draw, opening_lines, repeat_lines, request_line, request_octets}
use Rattle.printed_lines.specs.Text.{line_of}
use Rattle.generated_logins.proofs.GeneratorLemmas.{logins_from-draw}
use Rattle.generated_logins.proofs.OctetLemmas.{few-answer, few-request}
use Rattle.transcript.specs.Grammar.{IsDatagram, IsHappening, IsHex, Lacks}
use Rattle.transcript.specs.Inputs.{inputs_of}
use Rattle.replay_command.specs.GeneratorLaws.{GeneratedLinesAreSound}
use Rattle.transcript.specs.Reading.{At, Step, read_from, read_line, said_on, start}
use Rattle.transcript.specs.declared.line.Line.{Line}
use Rattle.transcript.specs.declared.line.Line.TheVariants as line
use Rattle.transcript.proofs.Grammar.GrammarJoinLemmas.{address-spelled, any-lacks}
use Rattle.transcript.proofs.Grammar.GrammarWordLemmas.{hex-some, number-spelled}
use Rattle.transcript.proofs.Reading.ReadingLemmas.{StandsBehind, behind_events, event-reads, event_next, hex-behind}
use Rattle.transcript.proofs.Records.RecordLemmas.{told_as}

-- ---- event lines

-- the line says something there, and behind it event lines may stand
record IsRead (at : At) (octets : List ℕ) : Type 0 where
  said : Line
  next : At
  reads : read_line at octets ≡ Ok (said, next)
  behind : StandsBehind next

abbrev IsEventLine : List ℕ → Type 0
IsEventLine octets = (at : At) → StandsBehind at → IsRead at octets

abbrev AreEventLines : List (List ℕ) → Type 0
AreEventLines [] = Unit {0}
AreEventLines (octets ∷ lines) = IsEventLine octets × AreEventLines lines

lines-append : (lines more : List (List ℕ)) → AreEventLines lines → AreEventLines more → AreEventLines (lines ++ more)
lines-append [] more first second = second
lines-append (octets ∷ lines) more first second = (first.0, lines-append lines more first.1 second)

lines-sound : (at : At) (lines : List (List ℕ)) → StandsBehind at → AreEventLines lines → (read_from at lines).stop ≡ None
lines-sound at [] events are = refl
lines-sound at (octets ∷ lines) events are =
    let is = are.0 at events in
    ap (λ (s : Step). (said_on at s (λ next. read_from next lines)).stop) is.reads ∙ lines-sound is.next lines is.behind are.1

-- ---- the lines of a login

login-line : (i : ℕ) (word : List ℕ) (words : List (List ℕ)) (x : Input) → i < 1000000 → All (Lacks 32) (word ∷ words)
    → IsHappening (word ∷ words) (told_as x) → length (line_of (word ∷ words)) ≤ 1000 → IsEventLine (event_line i (word ∷ words))
login-line i word words x few lack is short = λ at events.
    let brief : length (decimal (moment i)) ≤ 8 = length-decimal-le 8 (moment i) (omega arith) (omega arith) (omega arith) in
    record {
      said = line.Event (one_more at.lines) (moment i) (inputs_of at.stream (told_as x));
      next = event_next at (told_as x);
      reads =
          event-reads at (moment i) (told_as x) (decimal (moment i)) (word ∷ words) (refl, omega arith) lack is (λ e. cc (sym events ∙ e))
          (omega (arith, brief, short, length-append (decimal (moment i)) (32 ∷ line_of (word ∷ words))));
      behind = refl;
    }

-- octets in hex
hex-written : (octets : List ℕ) → IsBytes octets → 0 < length octets → IsHex (encode_lower octets) octets
hex-written octets are some =
    hex-some (encode_lower octets) octets (λ none. omega (arith, some, none, length-encode_with lower_digits octets))
    (decode_of-encode_lower octets are)

request-told : (hex octets : List ℕ) → IsHex hex octets
    → IsDatagram (codes "auth" ∷ codes "10.0.0.1" ∷ codes "1812" ∷ hex ∷ []) Auth 167772161 1812 octets
unfolding number read_number read_octet read_ipv4
request-told hex octets is = record {
  address_word = codes "10.0.0.1";
  port_word = codes "1812";
  hex = hex;
  spelled = refl;
  is_address = address-spelled (codes "10.0.0.1") 167772161 refl;
  is_port = number-spelled 65535 (codes "1812") 1812 (lit≤ tt) refl;
  is_hex = is;
}

some-request : (i : ℕ) → 0 < length (request_octets i)
unfolding request_octets packet_text
some-request i = omega arith

request-is : (i : ℕ) → i < 1000000 → IsEventLine (request_line i)
request-is i few =
    let octets = few-request i in
    let hex = encode_lower (request_octets i) in
    let is = hex-written (request_octets i) octets.octets (some-request i) in
    login-line i (codes "auth") (codes "10.0.0.1" ∷ codes "1812" ∷ hex ∷ [])
    (input.Datagram Auth 167772161 1812 (request_octets i)) few
    (hex-behind (codes "auth" ∷ codes "10.0.0.1" ∷ codes "1812" ∷ []) hex (request_octets i) refl is)
    (request-told hex (request_octets i) is)
    (omega (arith, octets.few, length-encode_with lower_digits (request_octets i)))

some-answer : (i r : ℕ) → 0 < length (answer_octets i r)
unfolding answer_octets message_text header_text
some-answer i r = omega arith

answer-is : (i r : ℕ) → i < 1000000 → IsEventLine (answer_line i r)
answer-is i r few =
    let octets = few-answer i r (omega arith) in
    let hex = encode_lower (answer_octets i r) in
    let is = hex-written (answer_octets i r) octets.octets (some-answer i r) in
    login-line i (codes "link") (hex ∷ []) (input.Message (answer_octets i r)) few
    (hex-behind (codes "link" ∷ []) hex (answer_octets i r) refl is) (hex, refl, is)
    (omega (arith, octets.few, length-encode_with lower_digits (answer_octets i r)))

drain-is : (i : ℕ) → i < 1000000 → IsEventLine (drain_line i)
drain-is i few =
    login-line i (codes "drain") [] input.Drain few
    (All-cons (Lacks 32) (codes "drain") [] (any-lacks 32 (codes "drain") refl) (All-nil (Lacks 32))) refl (omega arith)

repeats-are : (place i r : ℕ) → i < 1000000 → AreEventLines (repeat_lines place i r)
repeats-are place i r few =
    elim (has_bit place r) as (λ b. AreEventLines (cond b (request_line i ∷ []) [])) [ true ↦ (request-is i few, tt) | false ↦ tt ]

login-are : (i r : ℕ) → i < 1000000 → AreEventLines (login_lines i r)
unfolding login_lines
login-are i r few = (
  request-is i few,
  lines-append (repeat_lines 16 i r ++ answer_line i r ∷ repeat_lines 18 i r) (drain_line i ∷ [])
      (lines-append (repeat_lines 16 i r) (answer_line i r ∷ repeat_lines 18 i r) (repeats-are 16 i r few)
      (answer-is i r few, repeats-are 18 i r few))
      (drain-is i few, tt),
)

logins-are : (count i r : ℕ) → i + count ≤ 1000000 → AreEventLines (logins_from count i r)
logins-are zero i r few = tt
logins-are (suc count) i r few =
    lines-append (login_lines i r) (logins_from count (i + 1) (next_draw r)) (login-are i r (omega arith))
    (logins-are count (i + 1) (next_draw r) (omega arith))

-- ---- the lines before them

-- behind the settings and the one client, at the fourth line
abbrev behind : At
behind = behind_events (167772161 ∷ []) 3

opening-goes : (more : List (List ℕ)) → (read_from start (opening_lines ++ more)).stop ≡ (read_from behind more).stop
unfolding number read_number read_octet read_ipv4 are_settings_in_limits decode_pairs is_client_in_limits
opening-goes more = refl

pub generated-sound : GeneratedLinesAreSound
unfolding generated_lines
generated-sound count seed some few =
    opening-goes (flat_map (λ i. login_lines i (draw seed (i + 1))) (range_with_len 0 count))
    ∙ ap (λ lines. (read_from behind lines).stop) (logins_from-draw count 0 seed)
    ∙ lines-sound behind (logins_from count 0 (draw seed 1)) refl (logins-are count 0 (draw seed 1) (omega arith))
