-- Octets of a link that come in one piece, or in two.
use Rattle.std.proofs.Common.{◌≡◌, ℕ, List, [], ◌∷◌, ◌++◌, length, drop, Option, Some, None, is_some, refl, sym, ap, ◌∙◌, append_assoc}
use Rattle.std.specs.List.{concat}
use Rattle.std.proofs.lemmas.List.{append-nil, drop_at}
use Rattle.diameter_message.specs.declared.fault.FrameFault.{FrameFault}
use Rattle.diameter_message.specs.declared.next.Next.TheVariants as next
use Rattle.diameter_message.specs.Framing.{messages_of, rest_of, stream_fault}
use Rattle.diameter_message.specs.Stream.{Stream, frame_fault}
use Rattle.diameter_message.proofs.StreamLemmas.{BeginsNone-from, Stream-of, Stream-only, frame_fault-append, given-first, next_in-by_fault}
use Rattle.transcript.specs.Inputs.{link_inputs, new_fault}
use Rattle.transcript.proofs.Streams.InputLemmas.{messages, messages-append}

-- ---- a longer stream

longer : (stream octets : List ℕ) → stream ++ octets ≡ concat (messages_of stream) ++ (rest_of stream ++ octets)
longer stream octets =
    ap (λ (o : List ℕ). o ++ octets) (Stream-of stream).text ∙ append_assoc (concat (messages_of stream)) (rest_of stream) octets

-- its messages begin with those of the shorter one
messages-grow : (stream octets : List ℕ) → (more : List (List ℕ)) × (messages_of (stream ++ octets) ≡ messages_of stream ++ more)
messages-grow stream octets =
    given-first (record { left = rest_of stream ++ octets; shown = None }) (stream ++ octets) (messages_of stream) (record {
      rest = rest_of stream ++ octets;
      text = longer stream octets;
      each = (Stream-of stream).each;
      left = refl;
    })

-- a fault stays, and nothing is given after it
record Stays (stream longer : List ℕ) (fault : FrameFault) : Type 0 where
  given : messages_of longer ≡ messages_of stream
  shown : stream_fault longer ≡ Some fault

fault-stays : (stream octets : List ℕ) (fault : FrameFault) → stream_fault stream ≡ Some fault → Stays stream (stream ++ octets) fault
fault-stays stream octets fault shown =
    let shows : frame_fault (rest_of stream ++ octets) ≡ Some fault = frame_fault-append (rest_of stream) octets fault shown in
    let still : Stream (stream ++ octets) (messages_of stream) (rest_of stream ++ octets) (Some fault) = record {
      text = longer stream octets;
      each = (Stream-of stream).each;
      ends = BeginsNone-from (rest_of stream ++ octets) (next.Fault fault) (next_in-by_fault _ fault shows) (λ m w. cc);
      shows = sym shows;
    } in
    let (same, _, is) = Stream-only (stream ++ octets) _ _ _ _ _ _ (Stream-of (stream ++ octets)) still in
    record { given = same; shown = is }

-- ---- the inputs of octets that come in two pieces

inputs-cut : (was now then : Option FrameFault) (first second : List (List ℕ))
    → ((fault : FrameFault) → was ≡ Some fault → now ≡ Some fault)
    → ((fault : FrameFault) → now ≡ Some fault → (second ≡ []) × (then ≡ Some fault))
    → messages (first ++ second) ++ new_fault (is_some was) then
    ≡ (messages first ++ new_fault (is_some was) now) ++ (messages second ++ new_fault (is_some now) then)
inputs-cut None None then first second before behind = simp (messages-append, append-nil, append_assoc)
inputs-cut None (Some fault) then first second before behind =
    let (none, same) = behind fault refl in
    rw (none, same) (simp append-nil)
inputs-cut (Some fault) None then first second before behind = cc (before fault refl)
inputs-cut (Some fault) (Some other) then first second before behind = simp (messages-append, append-nil)

none-more : (ms more : List (List ℕ)) → ms ++ more ≡ ms → more ≡ []
none-more [] more e = e
none-more (m ∷ ms) more e = none-more ms more cc

pub link-cut : (stream x y : List ℕ)
    → link_inputs stream (stream ++ (x ++ y)) ≡ link_inputs stream (stream ++ x) ++ link_inputs (stream ++ x) ((stream ++ x) ++ y)
link-cut stream x y =
    let (first, one) = messages-grow stream x in
    let (second, two) = messages-grow (stream ++ x) y in
    let all : messages_of ((stream ++ x) ++ y) ≡ messages_of stream ++ (first ++ second) =
    two ∙ ap (λ ms. ms ++ second) one ∙ append_assoc (messages_of stream) first second in
    let n = length (messages_of stream) in
    let whole : drop n (messages_of ((stream ++ x) ++ y)) ≡ first ++ second =
    ap (drop n) all ∙ drop_at (messages_of stream) (first ++ second) n refl in
    let front : drop n (messages_of (stream ++ x)) ≡ first = ap (drop n) one ∙ drop_at (messages_of stream) first n refl in
    let back : drop (length (messages_of (stream ++ x))) (messages_of ((stream ++ x) ++ y)) ≡ second =
    ap (drop (length (messages_of (stream ++ x)))) two ∙ drop_at (messages_of (stream ++ x)) second _ refl in
    ap (link_inputs stream) (sym (append_assoc stream x y))
    ∙ rw (whole, front, back)
    (inputs-cut (stream_fault stream) (stream_fault (stream ++ x)) (stream_fault ((stream ++ x) ++ y)) first second
    (λ fault shown. (fault-stays stream x fault shown).shown)
    (λ fault shown.
    let stays = fault-stays (stream ++ x) y fault shown in
    (none-more (messages_of (stream ++ x)) second (sym two ∙ stays.given), stays.shown)))
