-- Octets that are a message are read as it, and what is read is what the octets are.
use Rattle.std.proofs.Common.{◌≡◌, ℕ, ◌+◌, ◌%◌, ◌^◌, ◌<◌, ◌≤◌, Bool, true, false, cond, not, ◌&&◌, List, [], ◌∷◌, ◌++◌, length, get_or, take, drop, Result, Ok, Err, refl, sym, ap, subst, ◌∙◌, append_assoc, arith}
use Rattle.std.specs.Prelude.{bit_or}
use Rattle.std.specs.Int.{w32, to_be_bytes}
use Rattle.std.proofs.lemmas.Bool.{ltb-false, le-ltb, eqb-true, eq-eqb}
use Rattle.std.proofs.lemmas.List.{length-append, length-take-le, length-drop, take-append-drop, drop-drop, drop_more}
use Rattle.std.proofs.lemmas.List.Elements.{All-get_or}
use Rattle.std.proofs.lemmas.Nat.{or_of_8}
use Rattle.wire_core.specs.Numbers.{number, octets_at, u24, u32, AreOctets}
use Rattle.wire_core.proofs.NumberLemmas.{number-u24, number-u32, to_be_bytes-24}
use Rattle.diameter_avp.specs.Avps.{avps_text}
use Rattle.diameter_avp.proofs.TextLemmas.{u24-at, u32-at}
use Rattle.diameter_message.specs.declared.header.Header.{Header}
use Rattle.diameter_message.specs.declared.fault.MessageFault.{MessageFault}
use Rattle.diameter_message.specs.Message.{MessageParts, header_text, message_text, IsHeader, IsMessage, length_of, parts_of, read_message}
use Rattle.diameter_message.specs.Writer.{MessageWriterParts, KeepsFront}
use Rattle.diameter_message.specs.Retransmission.{retransmission_header}

pub length-header_text : (size : ℕ) (h : Header) → length (header_text size h) ≡ 20
unfolding header_text u24 u32
length-header_text size h = refl

pub length-message_text : (h : Header) (avps : List ℕ) → length (message_text h avps) ≡ 20 + length avps
unfolding message_text
length-message_text h avps = omega (arith, length-append (header_text (20 + length avps) h) avps, length-header_text (20 + length avps) h)

-- ---- what is read is what the octets are

guard_err : (b : Bool) (fault : MessageFault) (r : Result MessageParts MessageFault) (m : MessageParts) → cond b (Err fault) r ≡ Ok m → (b ≡ false) × (r ≡ Ok m)
guard_err true fault r m e = absurd cc
guard_err false fault r m e = (refl, e)

guard_ok : (b : Bool) (r : Result MessageParts MessageFault) (fault : MessageFault) (m : MessageParts) → cond b r (Err fault) ≡ Ok m → (b ≡ true) × (r ≡ Ok m)
guard_ok true r fault m e = (refl, e)
guard_ok false r fault m e = absurd cc

is_true : (b : Bool) → not b ≡ false → b ≡ true
is_true true e = refl
is_true false e = absurd cc

both : (a b : Bool) → (a && b) ≡ true → (a ≡ true) × (b ≡ true)
both true b e = (refl, e)
both false b e = absurd cc

ok_is : (a b : MessageParts) → (let r : Result MessageParts MessageFault = Ok a in let s : Result MessageParts MessageFault = Ok b in r ≡ s) → a ≡ b
ok_is a b e = cc

-- what is known of a message that was read
record Reads (octets : List ℕ) (m : MessageParts) : Type 0 where
  pub long : 20 ≤ length octets
  pub version : get_or octets 0 0 ≡ 1
  pub counts : length_of octets ≡ length octets
  pub words : length_of octets % 4 ≡ 0
  pub parts : parts_of octets ≡ m

Reads-from_ok : (octets : List ℕ) (m : MessageParts) → read_message octets ≡ Ok m → Reads octets m
unfolding read_message
Reads-from_ok octets m e =
    let long = guard_err _ _ _ _ e in
    let version = guard_err _ _ _ _ long.1 in
    let counts = guard_ok _ _ _ _ version.1 in
    let tests = both _ _ counts.0 in
    record {
      long = ltb-false _ _ long.0;
      version = eqb-true _ _ (is_true _ version.0);
      counts = eqb-true _ _ tests.0;
      words = eqb-true _ _ tests.1;
      parts = ok_is _ _ counts.1;
    }

-- a list from a place on begins with the octets there
cut : (octets : List ℕ) (p count q : ℕ) → q ≡ p + count → drop p octets ≡ octets_at octets p count ++ drop q octets
cut octets p count q e = rw (e, ← drop-drop count p octets) (sym (take-append-drop count (drop p octets)))

regroup : (a b c d e f : List ℕ) → a ++ (b ++ (c ++ (d ++ (e ++ f)))) ≡ a ++ b ++ c ++ d ++ e ++ f
regroup a b c d e f = simp append_assoc

-- a list cut at the ends of a header's fields
fields : (octets : List ℕ) (size command application hop end : List ℕ) → 20 ≤ length octets → get_or octets 0 0 ≡ 1 → size ≡ octets_at octets 1 3 → command ≡ octets_at octets 5 3 → application ≡ octets_at octets 8 4 → hop ≡ octets_at octets 12 4 → end ≡ octets_at octets 16 4
    → octets ≡ 1 ∷ size ++ get_or octets 4 0 ∷ command ++ application ++ hop ++ end ++ drop 20 octets
fields octets size command application hop end long version e f g h i =
    let o = octets in
    rw (e, f, g, h, i)
    (drop_more o 0 0 (omega arith)
    ∙ ap (λ (x : ℕ). x ∷ drop 1 o) version
    ∙ ap (λ (t : List ℕ). 1 ∷ t) (cut o 1 3 4 refl
    ∙ ap (λ (t : List ℕ). octets_at o 1 3 ++ t) (drop_more o 4 0 (omega arith)
    ∙ ap (λ (t : List ℕ). get_or o 4 0 ∷ t) (cut o 5 3 8 refl
    ∙ ap (λ (t : List ℕ). octets_at o 5 3 ++ t) (cut o 8 4 12 refl
    ∙ ap (λ (t : List ℕ). octets_at o 8 4 ++ t) (cut o 12 4 16 refl
    ∙ ap (λ (t : List ℕ). octets_at o 12 4 ++ t) (cut o 16 4 20 refl))))))
    ∙ regroup (1 ∷ octets_at o 1 3) (get_or o 4 0 ∷ octets_at o 5 3) (octets_at o 8 4) (octets_at o 12 4) (octets_at o 16 4) (drop 20 o))

pub IsMessage-from_ok : (octets : List ℕ) (m : MessageParts) → AreOctets octets → read_message octets ≡ Ok m → IsMessage octets m.header m.avps
unfolding message_text header_text
IsMessage-from_ok octets m are e =
    let o = octets in
    let r = Reads-from_ok o m e in
    let size = u24-at o 1 are (omega arith) in
    let flags = All-get_or (λ x. x < 256) o 4 0 (omega arith) are in
    let command = u24-at o 5 are (omega arith) in
    let application = u32-at o 8 are (omega arith) in
    let hop = u32-at o 12 are (omega arith) in
    let end = u32-at o 16 are (omega arith) in
    let whole : 20 + length (drop 20 o) ≡ length_of o = omega (arith, length-drop 20 o, r.counts) in
    subst (λ x. IsMessage o x.header x.avps) r.parts
    (record {
      header = record { flags = flags; command = command.1; application = application.1; hop = hop.1; end = end.1 };
      text = fields o _ _ _ _ _ r.long r.version (ap u24 whole ∙ size.0) command.0 application.0 hop.0 end.0;
      words = rw (← r.counts) r.words;
      counted = rw (← r.counts) size.1;
    })

-- ---- a message is read as it

pub read_message-ok : (octets : List ℕ) → 20 ≤ length octets → get_or octets 0 0 ≡ 1 → length_of octets ≡ length octets → length_of octets % 4 ≡ 0 → read_message octets ≡ Ok (parts_of octets)
unfolding read_message
read_message-ok octets long version counts words =
    let long' = le-ltb _ _ long in
    let version' = eq-eqb _ _ version in
    let counts' = eq-eqb _ _ counts in
    let words' = eq-eqb _ _ words in
    rw (long', version', counts', words') refl

abbrev parts : ℕ → ℕ → ℕ → ℕ → ℕ → List ℕ → MessageParts
parts flags command application hop end avps =
    record { header = record { flags = flags; command = command; application = application; hop = hop; end = end }; avps = avps }

-- what is read of a text
record ReadsText (octets : List ℕ) (size : ℕ) (h : Header) (avps : List ℕ) : Type 0 where
  pub version : get_or octets 0 0 ≡ 1
  pub counts : length_of octets ≡ size
  pub all : parts_of octets ≡ record { header = h; avps = avps }

reads-text : (size : ℕ) (h : Header) (avps : List ℕ) → size < 2 ^ 24 → IsHeader h → ReadsText (header_text size h ++ avps) size h avps
unfolding header_text u24 u32
reads-text size h avps counted is =
    let command = number-u24 h.command is.command in
    let application = number-u32 h.application is.application in
    let hop = number-u32 h.hop is.hop in
    let end = number-u32 h.end is.end in
    record {
      version = refl;
      counts = number-u24 size counted;
      all =
          ap (λ (x : ℕ). parts h.flags x (number (u32 h.application)) (number (u32 h.hop)) (number (u32 h.end)) avps) command
          ∙ ap (λ (x : ℕ). parts h.flags h.command x (number (u32 h.hop)) (number (u32 h.end)) avps) application
          ∙ ap (λ (x : ℕ). parts h.flags h.command h.application x (number (u32 h.end)) avps) hop
          ∙ ap (λ (x : ℕ). parts h.flags h.command h.application h.hop x avps) end;
    }

pub read_message-IsMessage : (octets : List ℕ) (h : Header) (avps : List ℕ) → IsMessage octets h avps → read_message octets ≡ Ok (record { header = h; avps = avps })
unfolding message_text
read_message-IsMessage octets h avps is =
    let long : length octets ≡ 20 + length avps = ap length is.text ∙ length-message_text h avps in
    let r : ReadsText octets (20 + length avps) h avps = rw is.text (reads-text (20 + length avps) h avps (omega arith) is.header) in
    read_message-ok octets (omega arith) r.version (r.counts ∙ sym long) (ap (λ n. n % 4) (r.counts ∙ sym long) ∙ is.words)
    ∙ ap (λ (m : MessageParts). Ok m) r.all

-- ---- writing

-- the length is put into the front
pub finished : (h : Header) (front avps size : List ℕ) (n : ℕ) → front ≡ header_text 0 h → n ≡ 20 + length avps → size ≡ u24 n → take 1 (front ++ avps) ++ size ++ drop (1 + length size) (front ++ avps) ≡ message_text h avps
unfolding message_text header_text u24 u32
finished h front avps size n e f g = rw (e, g, f) refl

-- what a writer makes of its octets is the message
pub finished-text : (w : MessageWriterParts) (octets bytes new : List ℕ) (n : ℕ) → KeepsFront w → octets ≡ w.avps.front ++ avps_text w.avps.list → n ≡ length octets → bytes ≡ to_be_bytes w32 n → new ≡ take 1 octets ++ take 3 (drop 1 bytes) ++ drop (1 + length (take 3 (drop 1 bytes))) octets → new ≡ message_text w.header (avps_text w.avps.list)
finished-text w octets bytes new n keeps text counts e is =
    let avps = avps_text w.avps.list in
    let front : length w.avps.front ≡ 20 = ap length keeps ∙ length-header_text 0 w.header in
    let whole : n ≡ 20 + length avps = omega (arith, ap length text, length-append w.avps.front avps) in
    let size : take 3 (drop 1 bytes) ≡ u24 n = ap (λ (o : List ℕ). take 3 (drop 1 o)) e ∙ to_be_bytes-24 n in
    is ∙ rw text (finished w.header w.avps.front avps (take 3 (drop 1 bytes)) n keeps whole size)

pub IsMessage-message_text : (h : Header) (avps : List ℕ) → IsHeader h → length avps % 4 ≡ 0 → 20 + length avps < 2 ^ 24 → IsMessage (message_text h avps) h avps
IsMessage-message_text h avps is words short =
    let long = length-message_text h avps in
    record { header = is; text = refl; words = omega arith; counted = omega arith }

-- ---- sending again

pub length-message : (h : Header) (avps octets : List ℕ) → IsMessage octets h avps → 20 ≤ length octets
length-message h avps octets is = omega (arith, ap length is.text, length-message_text h avps)

pub length-overwritten : (octets once : List ℕ) (flags : ℕ) → 20 ≤ length octets → once ≡ take 4 octets ++ flags ∷ [] ++ drop 5 octets → length once ≡ length octets
length-overwritten octets once flags long e =
    omega (arith, ap length e, length-append (take 4 octets ++ flags ∷ []) (drop 5 octets), length-append (take 4 octets) (flags ∷ []), length-take-le 4 octets (omega arith), length-drop 5 octets)

-- flags and hop are written over
pub sent_again-text : (h : Header) (avps octets once bytes twice : List ℕ) (hop : ℕ) → octets ≡ message_text h avps → once ≡ take 4 octets ++ bit_or (get_or octets 4 0) 16 ∷ [] ++ drop 5 octets → bytes ≡ u32 hop → twice ≡ take 12 once ++ bytes ++ drop (12 + length bytes) once → twice ≡ message_text (retransmission_header h hop) avps
unfolding message_text header_text u24 u32
sent_again-text h avps octets once bytes twice hop text first e second = second ∙ rw (first, text, e) refl

pub IsMessage-sent_again : (h : Header) (avps octets : List ℕ) (hop : ℕ) → hop < 2 ^ 32 → IsMessage octets h avps → IsMessage (message_text (retransmission_header h hop) avps) (retransmission_header h hop) avps
IsMessage-sent_again h avps octets hop small is =
    let before = ap length is.text ∙ length-message_text h avps in
    let after = length-message_text (retransmission_header h hop) avps in
    record {
      header = record { flags = or_of_8 h.flags 16 is.header.flags (omega arith); command = is.header.command; application = is.header.application; hop = small; end = is.header.end };
      text = refl;
      words = ap (λ n. n % 4) (after ∙ sym before) ∙ is.words;
      counted = omega (arith, is.counted);
    }
