-- Streams of messages: how octets that come in pieces are cut into messages (RFC 6733, section 3).
-- The greatest length is the profile's.
use Rattle.std.specs.Prelude.{◌≡◌, ℕ, ◌%◌, ◌≤◌, nat_lt, not, ◌==◌, ◌||◌, if◌then◌else◌, List, [], ◌∷◌, ◌++◌, length, slice_index, Option, Some, None}
use Rattle.std.specs.List.{concat}
use Rattle.diameter_message.specs.declared.fault.FrameFault.{FrameFault}
use Rattle.diameter_message.specs.declared.fault.FrameFault.TheVariants.{BadVersion, BadLength, TooLong}
use Rattle.diameter_message.specs.Message.{length_of}

-- these octets are one message of a stream: version 1, and a length that is their own
pub record IsFrame (octets : List ℕ) : Type 0 where
  pub version : slice_index octets 0 ≡ 1
  pub counted : length_of octets ≡ length octets
  pub words : length octets % 4 ≡ 0
  pub least : 20 ≤ length octets
  pub most : length octets ≤ 65536

abbrev pub AreFrames : List (List ℕ) → Type 0
AreFrames [] = Unit {0}
AreFrames (message ∷ messages) = IsFrame message × AreFrames messages

abbrev pub BeginsNone : List ℕ → Type 0
BeginsNone octets = (message rest : List ℕ) → octets ≡ message ++ rest → IsFrame message → ⊥

-- what is wrong with a length
abbrev pub length_fault : ℕ → Option FrameFault
length_fault n =
    if nat_lt n 20 || not (n % 4 == 0)
    then Some BadLength
    else (if nat_lt 65536 n then Some TooLong else None)

-- the fault that octets show where a message should begin
unfoldable pub frame_fault : List ℕ → Option FrameFault
frame_fault octets =
    if length octets == 0
    then None
    else (
    if not (slice_index octets 0 == 1)
    then Some BadVersion
    else (if nat_lt (length octets) 4 then None else length_fault (length_of octets)))

-- These octets are these messages, one after the other, and then a rest that begins no message, with
-- the fault that the rest shows.
pub record Stream (octets : List ℕ) (messages : List (List ℕ)) (rest : List ℕ) (fault : Option FrameFault) : Type 0 where
  pub text : octets ≡ concat messages ++ rest
  pub each : AreFrames messages
  pub ends : BeginsNone rest
  pub shows : fault ≡ frame_fault rest
