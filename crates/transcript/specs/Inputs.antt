-- Which inputs an event line is: one, but for the octets of the link (profile).
use Rattle.std.specs.Prelude.{◌≡◌, ℕ, Bool, true, false, List, [], ◌∷◌, ◌++◌, length, drop, map, Option, Some, None, is_some}
use Rattle.diameter_message.specs.declared.fault.FrameFault.{FrameFault}
use Rattle.diameter_message.specs.Framing.{FramerParts, StandsFor, messages_of, stream_fault}
use Rattle.agent_events.specs.declared.events.Input.{Input}
use Rattle.agent_events.specs.declared.events.Input.TheVariants.{Message, Broken, Up, Ready}
use Rattle.transcript.specs.declared.happening.Happening.{Happening}
use Rattle.transcript.specs.declared.happening.Happening.TheVariants as happening

-- a fault that shows now, and didn't show before
abbrev pub new_fault : Bool → Option FrameFault → List Input
new_fault true fault = []
new_fault false None = []
new_fault false (Some fault) = Broken fault ∷ []

-- what the longer stream of octets holds past the shorter: the messages, in order, and then the fault
abbrev pub link_inputs : List ℕ → List ℕ → List Input
link_inputs before after =
    map (λ m. Message m) (drop (length (messages_of before)) (messages_of after))
    ++ new_fault (is_some (stream_fault before)) (stream_fault after)

-- the octets of the `link` lines since the last `up` or `ready` line, this line's too
abbrev pub stream_after : List ℕ → Happening → List ℕ
stream_after stream (happening.Link octets) = stream ++ octets
stream_after stream (happening.Input Up) = []
stream_after stream (happening.Input Ready) = []
stream_after stream (happening.Input x) = stream

abbrev pub inputs_of : List ℕ → Happening → List Input
inputs_of stream (happening.Link octets) = link_inputs stream (stream ++ octets)
inputs_of stream (happening.Input x) = x ∷ []

-- ---- how it is cut

-- the framer was fed this stream, and has given all that is in it
pub record HasCut (framer : FramerParts) (is_broken : Bool) (stream : List ℕ) : Type 0 where
  pub stands : StandsFor framer stream (messages_of stream)
  pub shown : is_broken ≡ is_some (stream_fault stream)

-- the framer has given the rest of the messages, which are inputs now, and this is the stream's fault
pub record Gives (stream : List ℕ) (given : List (List ℕ)) (shows : Option FrameFault) (framer : FramerParts) (before after : List Input) : Type 0 where
  pub more : List (List ℕ)
  pub messages : messages_of stream ≡ given ++ more
  pub stands : StandsFor framer stream (given ++ more)
  pub inputs : after ≡ before ++ map (λ m. Message m) more
  pub fault : shows ≡ stream_fault stream
