-- How a stream is cut into messages, piece by piece.
use Rattle.std.proofs.Common.{◌≡◌, ℕ, ◌<◌, Bool, List, [], ◌∷◌, ◌++◌, length, map, drop, Option, Some, None, is_some, refl, sym, ap, ◌∙◌, subst, append_assoc, arith}
use Rattle.std.proofs.lemmas.List.{append-nil, drop_at, length-append}
use Rattle.diameter_message.specs.declared.fault.FrameFault.{FrameFault}
use Rattle.diameter_message.specs.declared.next.Next.TheVariants as next
use Rattle.diameter_message.specs.Framing.{FramerParts, IsNext, StandsFor, messages_from, messages_of, next_of, rest_of, stream_fault}
use Rattle.diameter_message.specs.Stream.{Stream, frame_fault}
use Rattle.diameter_message.proofs.StreamLemmas.{Stream-of, next_in-message}
use Rattle.agent_events.specs.declared.events.Input.{Input}
use Rattle.agent_events.specs.declared.events.Input.TheVariants.{Message}
use Rattle.transcript.specs.Inputs.{Gives, HasCut, link_inputs, new_fault}

-- a message that is given makes what is left shorter
pub shorter : (f : FramerParts) (m : List ℕ) → next_of f ≡ next.Message m → length (drop (length m) f.left) < length f.left
shorter f m is = by f.shown f.left is
  where
    by : (shown : Option FrameFault) (left : List ℕ)
        → (let g : FramerParts = record { left = left; shown = shown } in next_of g ≡ next.Message m)
        → length (drop (length m) left) < length left
    by None left e =
        let begins = next_in-message left m e in
        omega (arith, begins.frame.least, ap length begins.text, length-append m (drop (length m) left))
    by (Some fault) left e = cc

abbrev pub messages : List (List ℕ) → List Input
messages ms = map (λ m. Message m) ms

pub messages-append : (xs ys : List (List ℕ)) → messages (xs ++ ys) ≡ messages xs ++ messages ys
messages-append [] ys = refl
messages-append (x ∷ xs) ys = ap (λ r. Message x ∷ r) (messages-append xs ys)

-- the framer has given further messages, and they are inputs
pub record Given (stream : List ℕ) (given : List (List ℕ)) (framer : FramerParts) (before after : List Input) : Type 0 where
  pub more : List (List ℕ)
  pub stands : StandsFor framer stream (given ++ more)
  pub inputs : after ≡ before ++ map (λ m. Message m) more

pub given-none : (stream : List ℕ) (given : List (List ℕ)) (framer : FramerParts) (inputs : List Input)
    → StandsFor framer stream given → Given stream given framer inputs inputs
given-none stream given framer inputs stands = record {
  more = [];
  stands = subst (StandsFor framer stream) (sym (append-nil given)) stands;
  inputs = sym (append-nil inputs);
}

pub given-more : (stream : List ℕ) (given : List (List ℕ)) (old new : FramerParts) (before so_far after : List Input) (m : List ℕ)
    → (g : Given stream given old before so_far) → StandsFor new stream ((given ++ g.more) ++ m ∷ []) → after ≡ so_far ++ Message m ∷ []
    → Given stream given new before after
given-more stream given old new before so_far after m g stands is = record {
  more = g.more ++ m ∷ [];
  stands = subst (StandsFor new stream) (append_assoc given g.more (m ∷ [])) stands;
  inputs =
      is ∙ ap (λ (xs : List Input). xs ++ Message m ∷ []) g.inputs ∙ append_assoc before (messages g.more) (Message m ∷ [])
      ∙ ap (λ r. before ++ r) (sym (messages-append g.more (m ∷ [])));
}

-- where the framer has no more to give, it has given all
pub given-all : (stream : List ℕ) (given : List (List ℕ)) (framer : FramerParts) (before after : List Input) (shows : Option FrameFault)
    → (g : Given stream given framer before after)
    → (messages_of stream ≡ given ++ g.more) × (stream_fault stream ≡ shows) → Gives stream given shows framer before after
given-all stream given framer before after shows g (all, fault) = record {
  more = g.more;
  messages = all;
  stands = g.stands;
  inputs = g.inputs;
  fault = sym fault;
}

-- ---- nothing was fed

pub no-messages : messages_of [] ≡ []
unfolding messages_of messages_from
no-messages = refl

pub no-fault : stream_fault [] ≡ None
unfolding messages_of messages_from frame_fault
no-fault = refl

-- ---- a line's octets are cut

pub cut-inputs : (stream octets : List ℕ) (was_broken : Bool) (old framer : FramerParts) (shows : Option FrameFault) (a b c : List Input)
    → HasCut old was_broken stream → Gives (stream ++ octets) (messages_of stream) shows framer a b → a ≡ [] → c ≡ b ++ new_fault was_broken shows
    → c ≡ link_inputs stream (stream ++ octets)
cut-inputs stream octets was_broken old framer shows a b c cut gives none is =
    let all : drop (length (messages_of stream)) (messages_of (stream ++ octets)) ≡ gives.more =
    ap (drop (length (messages_of stream))) gives.messages ∙ drop_at (messages_of stream) gives.more (length (messages_of stream)) refl in
    is
    ∙ ap (λ r. r ++ new_fault was_broken shows) (gives.inputs ∙ ap (λ r. r ++ messages gives.more) none)
    ∙ ap (λ ms. messages ms ++ new_fault was_broken shows) (sym all)
    ∙ ap (λ b. messages (drop (length (messages_of stream)) (messages_of (stream ++ octets))) ++ new_fault b shows) cut.shown
    ∙ ap (λ f. messages (drop (length (messages_of stream)) (messages_of (stream ++ octets))) ++ new_fault (is_some (stream_fault stream)) f) gives.fault

pub cut-after : (stream : List ℕ) (given : List (List ℕ)) (framer : FramerParts) (shows : Option FrameFault) (a b : List Input)
    → Gives stream given shows framer a b → HasCut framer (is_some shows) stream
cut-after stream given framer shows a b gives = record {
  stands = subst (StandsFor framer stream) (sym gives.messages) gives.stands;
  shown = ap is_some gives.fault;
}

-- the stream's fault, and that all its messages were given
pub is-wait : (stream : List ℕ) (given : List (List ℕ)) → ((messages : List (List ℕ)) (rest : List ℕ) (fault : Option FrameFault) → Stream stream messages rest fault → IsNext next.Wait given messages fault)
    → (messages_of stream ≡ given) × (stream_fault stream ≡ None)
is-wait stream given is = is (messages_of stream) (rest_of stream) (stream_fault stream) (Stream-of stream)

pub is-fault : (stream : List ℕ) (given : List (List ℕ)) (shown : FrameFault) → ((messages : List (List ℕ)) (rest : List ℕ) (fault : Option FrameFault) → Stream stream messages rest fault → IsNext (next.Fault shown) given messages fault)
    → (messages_of stream ≡ given) × (stream_fault stream ≡ Some shown)
is-fault stream given shown is = is (messages_of stream) (rest_of stream) (stream_fault stream) (Stream-of stream)
