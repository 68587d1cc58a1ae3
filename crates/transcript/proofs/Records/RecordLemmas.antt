-- Inputs that lines can tell are read again from their lines.
use Rattle.std.proofs.Common.{◌≡◌, ◌≢◌, ℕ, zero, suc, ◌+◌, ◌^◌, ◌<◌, ◌≤◌, Bool, true, false, eqb, ltb, List, [], ◌∷◌, ◌++◌, length, map, take, drop, codes, decimal, All, Option, Some, None, IsSome, is_some, Ok, refl, sym, ap, ap₂, subst, ◌∙◌, append_assoc, append-nil, lit≤, arith}
use Rattle.std.specs.Prelude.{◌/◌, ◌%◌, ◌*◌, slice_index}
use Rattle.std.specs.List.{concat, join_with_byte, list_all, list_any}
use Rattle.std.specs.Net.Text.{dotted_text}
use Rattle.std.proofs.lemmas.Fmt.{length-decimal-le}
use Rattle.std.proofs.lemmas.List.{length-append}
use Rattle.std.proofs.lemmas.Bool.{and_parts, cond-false, ltb-true, ne_eqb}
use Rattle.std.proofs.lemmas.List.Elements.{All-cons, All-head, All-nil, All-tail}
use Rattle.std.proofs.lemmas.List.Folds.{concat-append}
use Rattle.wire_core.specs.Counts.{one_more}
use Rattle.wire_core.specs.Numbers.{AreOctets, number, u32}
use Rattle.wire_core.specs.Words.{is_identity_octet}
use Rattle.wire_core.proofs.NumberLemmas.{number-u32}
use Rattle.hex.specs.Hex.{IsBytes, encode_lower, is_hex_digit, lower_digits}
use Rattle.hex.proofs.HexLemmas.{decode_of-encode_lower, length-encode_with}
use Rattle.radius_packet.specs.declared.reasons.Via.{Via}
use Rattle.radius_packet.specs.declared.reasons.Via.TheVariants.{Auth, Acct}
use Rattle.diameter_message.specs.declared.fault.FrameFault.{FrameFault}
use Rattle.diameter_message.specs.declared.fault.FrameFault.TheVariants as frame
use Rattle.diameter_message.specs.Framing.{messages_of, stream_fault}
use Rattle.diameter_message.specs.Stream.{AreFrames, BeginsNone, IsFrame, Stream, frame_fault}
use Rattle.diameter_message.proofs.StreamLemmas.{Stream-of, Stream-only}
use Rattle.agent_events.specs.declared.events.Input.{Input}
use Rattle.agent_events.specs.declared.events.Input.TheVariants as input
use Rattle.printed_lines.specs.EventText.{event_words, fault_octets, input_words}
use Rattle.printed_lines.specs.Text.{address_text, hex_text, via_name}
use Rattle.transcript.specs.Grammar.{IsAddress, IsHappening, IsHex, IsNumber, Lacks}
use Rattle.transcript.specs.Inputs.{inputs_of, link_inputs, new_fault, stream_after}
use Rattle.transcript.specs.Reading.{At, Said, Step, read_from, read_line, said_on}
use Rattle.transcript.specs.Records.{AreTellable, EventLinesAreRead, IsCut, IsTellable, MayCome, is_broken_after, says_behind, told_lines}
use Rattle.transcript.specs.declared.happening.Happening.{Happening}
use Rattle.transcript.specs.declared.happening.Happening.TheVariants as happening
use Rattle.transcript.specs.declared.line.Line.{Line}
use Rattle.transcript.specs.declared.line.Line.TheVariants as line
use Rattle.transcript.specs.declared.position.Section.TheVariants.{Start, Events}
use Rattle.transcript.proofs.Grammar.GrammarJoinLemmas.{address-lacks, decimal-lacks}
use Rattle.transcript.proofs.Grammar.GrammarWordLemmas.{hex-lacks, hex-some}
use Rattle.transcript.proofs.Reading.ReadingLemmas.{event-reads, event_next}

-- ---- words

hex-more : (x : ℕ) (octets : List ℕ) → hex_text (x ∷ octets) ≡ encode_lower (x ∷ octets)
hex-more x octets = cond-false (eqb (length (x ∷ octets)) 0) _ _ (ne_eqb (length (x ∷ octets)) 0 (λ none. omega (arith, none)))

pub hex-is : (octets : List ℕ) → IsBytes octets → IsHex (hex_text octets) octets
hex-is [] are = refl
hex-is (x ∷ octets) are =
    subst (λ word. IsHex word (x ∷ octets)) (sym (hex-more x octets))
    (hex-some (encode_lower (x ∷ octets)) (x ∷ octets) (λ none. omega (arith, none, length-encode_with lower_digits (x ∷ octets)))
    (decode_of-encode_lower (x ∷ octets) are))

bytes-at : (octets : List ℕ) → AreOctets octets → (i : ℕ) → slice_index octets i < 256
bytes-at [] are i = omega arith
bytes-at (x ∷ octets) are zero = All-head (λ x. x < 256) x octets are
bytes-at (x ∷ octets) are (suc i) = bytes-at octets (All-tail (λ x. x < 256) x octets are) i

pub bytes : (octets : List ℕ) → AreOctets octets → IsBytes octets
bytes octets are = bytes-at octets are

pub length-hex : (octets : List ℕ) → length (hex_text octets) ≤ 2 * length octets + 1
length-hex [] = omega arith
length-hex (x ∷ octets) = omega (arith, ap length (hex-more x octets), length-encode_with lower_digits (x ∷ octets))

pub address-is : (address : ℕ) → address < 2 ^ 32 → IsAddress (address_text address) address
unfolding u32
address-is address small = (
  u32 address,
  record {
    a = address / 16777216 % 256;
    b = address / 65536 % 256;
    c = address / 256 % 256;
    d = address % 256;
    fit = (omega arith, omega arith, omega arith, omega arith);
    value = refl;
    spelled = simp append_assoc;
  },
  sym (number-u32 address small),
)

-- what the input's line says
abbrev pub told_as : Input → Happening
told_as (input.Message octets) = happening.Link octets
told_as (input.Broken fault) = happening.Link (fault_octets fault)
told_as x = happening.Input x

small-octets : (octets : List ℕ) → list_all (λ x. ltb x 256) octets ≡ true → AreOctets octets
small-octets [] pass = All-nil (λ x. x < 256)
small-octets (x ∷ octets) pass =
    let (first, others) = and_parts (ltb x 256) (list_all (λ x. ltb x 256) octets) pass in
    All-cons (λ x. x < 256) x octets (ltb-true x 256 first) (small-octets octets others)

fault-bytes : (fault : FrameFault) → IsBytes (fault_octets fault)
fault-bytes frame.BadVersion = bytes (fault_octets frame.BadVersion) (small-octets (fault_octets frame.BadVersion) refl)
fault-bytes frame.BadLength = bytes (fault_octets frame.BadLength) (small-octets (fault_octets frame.BadLength) refl)
fault-bytes frame.TooLong = bytes (fault_octets frame.TooLong) (small-octets (fault_octets frame.TooLong) refl)

-- its words are what it says,
words-say : (x : Input) → IsTellable x → IsHappening (input_words x) (told_as x)
words-say (input.Datagram via address port octets) (small, low, are, few) = record {
  address_word = address_text address;
  port_word = decimal port;
  hex = hex_text octets;
  spelled = refl;
  is_address = address-is address small;
  is_port = (refl, omega (arith, low));
  is_hex = hex-is octets (bytes octets are);
}
words-say input.Up is = refl
words-say input.Ready is = refl
words-say (input.Message octets) (are, frame) = (hex_text octets, refl, hex-is octets (bytes octets are))
words-say (input.Broken fault) is = (hex_text (fault_octets fault), refl, hex-is (fault_octets fault) (fault-bytes fault))
words-say input.Down is = refl
words-say input.Tick is = refl
words-say input.Drain is = refl
words-say input.Leave is = refl

-- an octet that no word has: a space, or the end of a line
pub record IsNoWord (c : ℕ) : Type 0 where
  pub low : c < 44
  pub name : is_identity_octet c ≡ false
  pub hex : is_hex_digit c ≡ false

pub no-space : IsNoWord 32
no-space = record { low = lit≤ tt; name = refl; hex = refl }

pub no-end : IsNoWord 10
no-end = record { low = lit≤ tt; name = refl; hex = refl }

-- no word has it,
module _ (c : ℕ) (free : IsNoWord c) where
  pub identity-lacks : (octets : List ℕ) → list_all is_identity_octet octets ≡ true → Lacks c octets
  identity-lacks [] pass = All-nil (λ y. y ≢ c)
  identity-lacks (x ∷ octets) pass =
      let (first, others) = and_parts (is_identity_octet x) (list_all is_identity_octet octets) pass in
      let none = free.name in
      All-cons (λ y. y ≢ c) x octets (λ same. cc (ap is_identity_octet same, first, none)) (identity-lacks octets others)

  pub octets-lack : (octets : List ℕ) → IsBytes octets → Lacks c (hex_text octets)
  octets-lack octets are = hex-lacks c (hex_text octets) octets (λ e. omega (arith, e, free.low)) free.hex (hex-is octets are)

  pub place-lacks : (address : ℕ) → address < 2 ^ 32 → Lacks c (address_text address)
  place-lacks address small = address-lacks c (address_text address) address (omega (arith, free.low)) (address-is address small)

  pub number-lacks : (n : ℕ) → n < 2 ^ 64 → Lacks c (decimal n)
  number-lacks n small = decimal-lacks c n (omega (arith, free.low)) small

  one-word : (word : List ℕ) → list_all is_identity_octet word ≡ true → All (Lacks c) (word ∷ [])
  one-word word is = All-cons (Lacks c) word [] (identity-lacks word is) (All-nil (Lacks c))

  hex-word : (octets : List ℕ) → IsBytes octets → All (Lacks c) (codes "link" ∷ hex_text octets ∷ [])
  hex-word octets are =
      All-cons (Lacks c) (codes "link") (hex_text octets ∷ []) (identity-lacks (codes "link") refl)
      (All-cons (Lacks c) (hex_text octets) [] (octets-lack octets are) (All-nil (Lacks c)))

  via-lacks : (via : Via) → Lacks c (via_name via)
  via-lacks Auth = identity-lacks (codes "auth") refl
  via-lacks Acct = identity-lacks (codes "acct") refl

  pub words-lack : (x : Input) → IsTellable x → All (Lacks c) (input_words x)
  words-lack (input.Datagram via address port octets) (small, low, are, few) =
      All-cons (Lacks c) (via_name via) (address_text address ∷ decimal port ∷ hex_text octets ∷ []) (via-lacks via)
      (All-cons (Lacks c) (address_text address) (decimal port ∷ hex_text octets ∷ []) (place-lacks address small)
      (All-cons (Lacks c) (decimal port) (hex_text octets ∷ []) (number-lacks port (omega (arith, low)))
      (All-cons (Lacks c) (hex_text octets) [] (octets-lack octets (bytes octets are)) (All-nil (Lacks c)))))
  words-lack input.Up is = one-word (codes "up") refl
  words-lack input.Ready is = one-word (codes "ready") refl
  words-lack (input.Message octets) (are, frame) = hex-word octets (bytes octets are)
  words-lack (input.Broken fault) is = hex-word (fault_octets fault) (fault-bytes fault)
  words-lack input.Down is = one-word (codes "down") refl
  words-lack input.Tick is = one-word (codes "tick") refl
  words-lack input.Drain is = one-word (codes "drain") refl
  words-lack input.Leave is = one-word (codes "leave") refl

-- and they are few
length-via : (via : Via) → length (via_name via) ≡ 4
length-via Auth = refl
length-via Acct = refl

length-byte : (n : ℕ) → n < 256 → length (decimal n) ≤ 3
length-byte n small = length-decimal-le 3 n (omega arith) (omega arith) (omega arith)

pub length-address : (address : ℕ) → length (address_text address) ≤ 15
unfolding u32
length-address address =
    let a = address / 16777216 % 256 in
    let b = address / 65536 % 256 in
    let c = address / 256 % 256 in
    let d = address % 256 in
    let joined : address_text address ≡ decimal a ++ (46 ∷ (decimal b ++ (46 ∷ (decimal c ++ (46 ∷ decimal d))))) = refl in
    omega (
      arith,
      ap length joined,
      length-byte a (omega arith),
      length-byte b (omega arith),
      length-byte c (omega arith),
      length-byte d (omega arith),
      length-append (decimal a) (46 ∷ (decimal b ++ (46 ∷ (decimal c ++ (46 ∷ decimal d))))),
      length-append (decimal b) (46 ∷ (decimal c ++ (46 ∷ decimal d))),
      length-append (decimal c) (46 ∷ decimal d),
    )

length-fault : (fault : FrameFault) → length (fault_octets fault) ≤ 4
length-fault frame.BadVersion = omega arith
length-fault frame.BadLength = omega arith
length-fault frame.TooLong = omega arith

link-joined : (octets : List ℕ) → join_with_byte 32 (codes "link" ∷ hex_text octets ∷ []) ≡ codes "link" ++ 32 ∷ hex_text octets
link-joined octets = refl

words-short : (x : Input) → IsTellable x → length (join_with_byte 32 (input_words x)) ≤ 139000
words-short (input.Datagram via address port octets) (small, low, are, few) =
    let port_short : length (decimal port) ≤ 5 = length-decimal-le 5 port (omega arith) (omega (arith, low)) (omega (arith, low)) in
    let joined : join_with_byte 32 (input_words (input.Datagram via address port octets))
    ≡ via_name via ++ (32 ∷ (address_text address ++ (32 ∷ (decimal port ++ (32 ∷ hex_text octets))))) = refl in
    omega (
      arith,
      ap length joined,
      few,
      port_short,
      length-via via,
      length-address address,
      length-hex octets,
      length-append (via_name via) (32 ∷ (address_text address ++ (32 ∷ (decimal port ++ (32 ∷ hex_text octets))))),
      length-append (address_text address) (32 ∷ (decimal port ++ (32 ∷ hex_text octets))),
      length-append (decimal port) (32 ∷ hex_text octets),
    )
words-short input.Up is = omega arith
words-short input.Ready is = omega arith
words-short (input.Message octets) (are, frame) =
    omega (arith, ap length (link-joined octets), frame.most, length-hex octets, length-append (codes "link") (32 ∷ hex_text octets))
words-short (input.Broken fault) is =
    omega (arith, ap length (link-joined (fault_octets fault)), length-fault fault, length-hex (fault_octets fault), length-append (codes "link") (32 ∷ hex_text (fault_octets fault)))
words-short input.Down is = omega arith
words-short input.Tick is = omega arith
words-short input.Drain is = omega arith
words-short input.Leave is = omega arith

join-more : (word : List ℕ) (x : Input) → join_with_byte 32 (word ∷ input_words x) ≡ word ++ 32 ∷ join_with_byte 32 (input_words x)
join-more word (input.Datagram via address port octets) = refl
join-more word input.Up = refl
join-more word input.Ready = refl
join-more word (input.Message octets) = refl
join-more word (input.Broken fault) = refl
join-more word input.Down = refl
join-more word input.Tick = refl
join-more word input.Drain = refl
join-more word input.Leave = refl

-- so the line is read
line-told : (at : At) (moment : ℕ) (x : Input) → at.section ≢ Start → moment < 2 ^ 64 → IsTellable x
    → read_line at (join_with_byte 32 (event_words moment x)) ≡ Ok (line.Event (one_more at.lines) moment (inputs_of at.stream (told_as x)), event_next at (told_as x))
line-told at moment x further small is =
    let brief : length (decimal moment) ≤ 20 = length-decimal-le 20 moment (omega arith) (omega (arith, small)) (omega (arith, small)) in
    event-reads at moment (told_as x) (decimal moment) (input_words x) (refl, omega (arith, small)) (words-lack 32 no-space x is) (words-say x is) further
    (omega (arith, brief, words-short x is, ap length (join-more (decimal moment) x), length-append (decimal moment) (32 ∷ join_with_byte 32 (input_words x))))

-- ---- the stream of the link

begins-none : (octets : List ℕ) → length octets ≤ 4 → BeginsNone octets
begins-none octets few = λ message rest is frame. omega (arith, frame.least, few, ap length is, length-append message rest)

-- whole messages, and octets behind them that show this fault or none
stream-is : (messages : List (List ℕ)) (rest : List ℕ) (fault : Option FrameFault) → AreFrames messages → length rest ≤ 4 → fault ≡ frame_fault rest
    → (messages_of (concat messages ++ rest) ≡ messages) × (stream_fault (concat messages ++ rest) ≡ fault)
stream-is messages rest fault are few shows =
    let only =
    Stream-only (concat messages ++ rest) _ messages _ rest _ fault (Stream-of (concat messages ++ rest))
    (record { text = refl; each = are; ends = begins-none rest few; shows = shows }) in
    (only.0, only.2)

no-fault : None ≡ frame_fault []
unfolding frame_fault
no-fault = refl

fault-shows : (fault : FrameFault) → Some fault ≡ frame_fault (fault_octets fault)
unfolding frame_fault number
fault-shows frame.BadVersion = refl
fault-shows frame.BadLength = refl
fault-shows frame.TooLong = refl

whole-is : (messages : List (List ℕ)) → AreFrames messages → (messages_of (concat messages) ≡ messages) × (stream_fault (concat messages) ≡ None)
whole-is messages are =
    subst (λ stream. (messages_of stream ≡ messages) × (stream_fault stream ≡ None)) (append-nil (concat messages))
    (stream-is messages [] None are (omega arith) no-fault)

frames-push : (messages : List (List ℕ)) (message : List ℕ) → AreFrames messages → IsFrame message → AreFrames (messages ++ message ∷ [])
frames-push [] message are is = (is, tt)
frames-push (first ∷ messages) message are is = (are.0, frames-push messages message are.1 is)

concat-push : (messages : List (List ℕ)) (message : List ℕ) → concat messages ++ message ≡ concat (messages ++ message ∷ [])
concat-push messages message = ap (λ xs. concat messages ++ xs) (sym (append-nil message)) ∙ sym (concat-append messages (message ∷ []))

drop-all-but : (messages more : List (List ℕ)) → drop (length messages) (messages ++ more) ≡ more
drop-all-but [] more = refl
drop-all-but (message ∷ messages) more = drop-all-but messages more

-- a message behind whole ones is the input
message-comes : (messages : List (List ℕ)) (octets : List ℕ) → AreFrames messages → IsFrame octets
    → link_inputs (concat messages) (concat messages ++ octets) ≡ input.Message octets ∷ []
message-comes messages octets are is =
    let before = whole-is messages are in
    let after = whole-is (messages ++ octets ∷ []) (frames-push messages octets are is) in
    ap (λ stream. link_inputs (concat messages) stream) (concat-push messages octets)
    ∙ ap₂ (λ old new. map (λ m. input.Message m) (drop (length old) new)
    ++ new_fault (is_some (stream_fault (concat messages))) (stream_fault (concat (messages ++ octets ∷ [])))) before.0 after.0
    ∙ ap₂ (λ old new. map (λ m. input.Message m) (drop (length messages) (messages ++ octets ∷ [])) ++ new_fault (is_some old) new) before.1 after.1
    ∙ ap (λ list. map (λ m. input.Message m) list ++ []) (drop-all-but messages (octets ∷ []))

-- and so is a fault
fault-comes : (messages : List (List ℕ)) (fault : FrameFault) → AreFrames messages
    → link_inputs (concat messages) (concat messages ++ fault_octets fault) ≡ input.Broken fault ∷ []
fault-comes messages fault are =
    let before = whole-is messages are in
    let after = stream-is messages (fault_octets fault) (Some fault) are (length-fault fault) (fault-shows fault) in
    ap₂ (λ old new. map (λ m. input.Message m) (drop (length old) new)
    ++ new_fault (is_some (stream_fault (concat messages))) (stream_fault (concat messages ++ fault_octets fault))) before.0 after.0
    ∙ ap₂ (λ old new. map (λ m. input.Message m) (drop (length messages) messages) ++ new_fault (is_some old) new) before.1 after.1
    ∙ ap (λ list. map (λ m. input.Message m) list ++ input.Broken fault ∷ [])
    (ap (λ list. drop (length messages) list) (sym (append-nil messages)) ∙ drop-all-but messages [])

inputs-are : (broken : Bool) (stream : List ℕ) (x : Input) → IsCut broken stream → IsTellable x → MayCome broken x
    → inputs_of stream (told_as x) ≡ x ∷ []
inputs-are broken stream (input.Datagram via address port octets) cut is may = refl
inputs-are broken stream input.Up cut is may = refl
inputs-are broken stream input.Ready cut is may = refl
inputs-are true stream (input.Message octets) cut is may = absurd may
inputs-are false stream (input.Message octets) (messages, are, same) (octs, frame) may =
    ap (λ s. link_inputs s (s ++ octets)) same ∙ message-comes messages octets are frame
inputs-are true stream (input.Broken fault) cut is may = absurd may
inputs-are false stream (input.Broken fault) (messages, are, same) is may =
    ap (λ s. link_inputs s (s ++ fault_octets fault)) same ∙ fault-comes messages fault are
inputs-are broken stream input.Down cut is may = refl
inputs-are broken stream input.Tick cut is may = refl
inputs-are broken stream input.Drain cut is may = refl
inputs-are broken stream input.Leave cut is may = refl

cut-after : (broken : Bool) (stream : List ℕ) (x : Input) → IsCut broken stream → IsTellable x → MayCome broken x
    → IsCut (is_broken_after broken x) (stream_after stream (told_as x))
cut-after broken stream (input.Datagram via address port octets) cut is may = cut
cut-after broken stream input.Up cut is may = ([], tt, refl)
cut-after broken stream input.Ready cut is may = ([], tt, refl)
cut-after true stream (input.Message octets) cut is may = absurd may
cut-after false stream (input.Message octets) (messages, are, same) (octs, frame) may =
    (messages ++ octets ∷ [], frames-push messages octets are frame, ap (λ s. s ++ octets) same ∙ concat-push messages octets)
cut-after true stream (input.Broken fault) cut is may = absurd may
cut-after false stream (input.Broken fault) (messages, are, same) is may =
    let after = stream-is messages (fault_octets fault) (Some fault) are (length-fault fault) (fault-shows fault) in
    subst IsSome (sym (ap (λ s. stream_fault (s ++ fault_octets fault)) same ∙ after.1)) refl
cut-after broken stream input.Down cut is may = cut
cut-after broken stream input.Tick cut is may = cut
cut-after broken stream input.Drain cut is may = cut
cut-after broken stream input.Leave cut is may = cut

-- ---- all lines

says-more : (first : Line) (said rest : Said) → said ≡ rest
    → (let r : Said = record { lines = first ∷ said.lines; stop = said.stop } in r ≡ record { lines = first ∷ rest.lines; stop = rest.stop })
says-more first said rest is = ap (λ (s : Said). record { lines = first ∷ s.lines; stop = s.stop }) is

pub event-lines-are-read : EventLinesAreRead
event-lines-are-read at broken [] further cut are = refl
event-lines-are-read at broken (e ∷ events) further cut (small, is, may, more) =
    ap (λ (s : Step). said_on at s (λ next. read_from next (told_lines events))) (line-told at e.0 e.1 further small is)
    ∙ ap (λ inputs. let r : Said = record {
      lines = line.Event (one_more at.lines) e.0 inputs ∷ (read_from (event_next at (told_as e.1)) (told_lines events)).lines;
      stop = (read_from (event_next at (told_as e.1)) (told_lines events)).stop;
    } in r) (inputs-are broken at.stream e.1 cut is may)
    ∙ says-more _ _ _ (event-lines-are-read (event_next at (told_as e.1)) (is_broken_after broken e.1) events (λ start. cc) (cut-after broken at.stream e.1 cut is may) more)
