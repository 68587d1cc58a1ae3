-- A framer: what is left of the octets that it was fed, and what it gives next.
use Rattle.std.specs.Prelude.{◌≡◌, ℕ, zero, suc, nat_lt, ◌||◌, if◌then◌else◌, List, [], ◌∷◌, ◌++◌, length, take, drop, Option, Some, None}
use Rattle.std.specs.List.{concat}
use Rattle.diameter_message.specs.declared.fault.FrameFault.{FrameFault}
use Rattle.diameter_message.specs.declared.next.Next.{Next}
use Rattle.diameter_message.specs.declared.next.Next.TheVariants.{Message, Wait, Fault}
use Rattle.diameter_message.specs.Message.{length_of}
use Rattle.diameter_message.specs.Stream.{AreFrames, frame_fault}

-- the octets that were fed and not given yet, and the fault that it has answered
pub record FramerParts : Type 0 where
  pub left : List ℕ
  pub shown : Option FrameFault

-- ---- one call

-- after a fault was answered, pieces are given up
abbrev pub fed_by : Option FrameFault → FramerParts → List ℕ → FramerParts
fed_by None f piece = record f { left = f.left ++ piece }
fed_by (Some fault) f piece = f

abbrev pub fed : FramerParts → List ℕ → FramerParts
fed f piece = fed_by f.shown f piece

-- where there is no fault: the whole message that octets begin with, if its length is there
abbrev pub message_in : List ℕ → Next
message_in octets =
    if nat_lt (length octets) 4 || nat_lt (length octets) (length_of octets)
    then Wait
    else Message (take (length_of octets) octets)

abbrev pub next_by : Option FrameFault → List ℕ → Next
next_by None octets = message_in octets
next_by (Some fault) octets = Fault fault

-- what octets give where a message should begin
unfoldable pub next_in : List ℕ → Next
next_in octets = next_by (frame_fault octets) octets

abbrev pub next_after : Option FrameFault → List ℕ → Next
next_after None octets = next_in octets
next_after (Some fault) octets = Fault fault

abbrev pub next_of : FramerParts → Next
next_of f = next_after f.shown f.left

-- what that leaves
abbrev pub without : Next → FramerParts → FramerParts
without (Message message) f = record f { left = drop (length message) f.left }
without Wait f = f
without (Fault fault) f = record f { shown = Some fault }

-- ---- all calls so far

-- what is left of a stream: until a fault was answered just that, and afterwards octets with this fault
abbrev pub Leaves : Option FrameFault → List ℕ → List ℕ → Type 0
Leaves None left rest = rest ≡ left
Leaves (Some fault) left rest = frame_fault rest ≡ Some fault

-- the framer was fed these octets, in whatever pieces, and has given these messages
pub record StandsFor (f : FramerParts) (octets : List ℕ) (given : List (List ℕ)) : Type 0 where
  pub rest : List ℕ
  pub text : octets ≡ concat given ++ rest
  pub each : AreFrames given
  pub left : Leaves f.shown f.left rest

abbrev pub given_with : Next → List (List ℕ) → List (List ℕ)
given_with (Message message) given = given ++ message ∷ []
given_with Wait given = given
given_with (Fault fault) given = given

-- The next of a stream's messages after those that were given; only where all of them were, that
-- there is none, or the stream's fault.
abbrev pub IsNext : Next → List (List ℕ) → List (List ℕ) → Option FrameFault → Type 0
IsNext (Message message) given messages fault = (more : List (List ℕ)) × (messages ≡ given ++ message ∷ more)
IsNext Wait given messages fault = (messages ≡ given) × (fault ≡ None)
IsNext (Fault shown) given messages fault = (messages ≡ given) × (fault ≡ Some shown)

-- ---- a whole stream at once

abbrev pub then_messages : Next → List (List ℕ) → List (List ℕ)
then_messages (Message message) others = message ∷ others
then_messages Wait others = []
then_messages (Fault fault) others = []

-- at most this many messages
unfoldable pub messages_from : ℕ → List ℕ → List (List ℕ)
messages_from zero octets = []
messages_from (suc count) octets = then_messages (next_in octets) (messages_from count (drop (length_of octets) octets))

-- the messages of a stream, and what comes after them
unfoldable pub messages_of : List ℕ → List (List ℕ)
messages_of octets = messages_from (length octets) octets

abbrev pub rest_of : List ℕ → List ℕ
rest_of octets = drop (length (concat (messages_of octets))) octets

abbrev pub stream_fault : List ℕ → Option FrameFault
stream_fault octets = frame_fault (rest_of octets)
