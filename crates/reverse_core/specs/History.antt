-- The rule: what goes out for an input, by the whole history before it.
use Rattle.std.specs.Prelude.{ℕ, ◌+◌, ◌%◌, Bool, ◌==◌, nat_le, ◌&&◌, ◌||◌, max, List, [], ◌∷◌, ◌++◌, length, take, drop, find, Option, Some, None, Result, Ok, Err, if◌then◌else◌}
use Rattle.std.specs.List.{list_any, flat_map}
use Rattle.wire_core.specs.Numbers.{octets_at, u32}
use Rattle.radius_packet.specs.Packet.{PacketParts, read_packet}
use Rattle.radius_packet.specs.Checks.{is_reply_right}
use Rattle.radius_packet.specs.declared.fault.PacketFault.{PacketFault}
use Rattle.diameter_message.specs.Message.{MessageParts, read_message}
use Rattle.diameter_message.specs.declared.fault.MessageFault.{MessageFault}
use Rattle.reverse_map.specs.declared.own.Reverse.{Reverse}
use Rattle.reverse_map.specs.declared.fault.ReverseFault.{ReverseFault}
use Rattle.reverse_map.specs.declared.fault.ReverseFault.TheVariants.{Unsupported, Unable, NoMemory}
use Rattle.reverse_map.specs.Asked.{AskedParts, asked_in, direction_of, is_served, request_in}
use Rattle.reverse_map.specs.Answers.{answer_of, is_reply_code, refusal}
use Rattle.reverse_map.specs.Requests.{request_image}
use Rattle.reverse_core.specs.declared.key.Key.{Key}
use Rattle.reverse_core.specs.declared.events.ReverseInput.{ReverseInput}
use Rattle.reverse_core.specs.declared.events.ReverseInput.TheVariants as inputs
use Rattle.reverse_core.specs.declared.events.ReverseOutput.{ReverseOutput}
use Rattle.reverse_core.specs.declared.events.ReverseOutput.TheVariants.{Send, Answer, Dropped}
use Rattle.reverse_core.specs.declared.events.ReverseReason.TheVariants.{NotRequest, NoIdentity, Open, StrangeReply}
use Rattle.reverse_core.specs.declared.requests.Taken.{Taken}
use Rattle.reverse_core.specs.declared.requests.OpenRequest.{OpenRequest}
use Rattle.reverse_core.specs.declared.requests.KeptAnswer.{KeptAnswer}
use Rattle.reverse_core.specs.Keys.{same_key, key_of}
use Rattle.reverse_core.specs.Requests.{Deed, Nothing, Takes, Repeats, Closes, Ticks, is_due, is_last, silence}
use Rattle.reverse_core.specs.Places.{ReverseEvent, ReversePlace, now, count, open_requests, kept_answers}

-- what an input leads to
pub record Outcome : Type 0 where
  pub deed : Deed
  pub outputs : List ReverseOutput

abbrev pub says : ReverseOutput → Outcome
says output = record { deed = Nothing; outputs = output ∷ [] }

-- ---- a request

-- what is known of a key: nothing, an open request, or a kept answer
pub data Known : Type 0 where
  Unknown : Known
  IsOpen : Known
  IsKept : KeptAnswer → Known

abbrev pub known_kept : Option KeptAnswer → Known
known_kept None = Unknown
known_kept (Some k) = IsKept k

abbrev pub known : Key → List OpenRequest → List KeptAnswer → Known
known key os ks =
    if list_any (λ o. same_key o.taken.key key) os then IsOpen else known_kept (find (λ k. same_key k.key key) ks)

-- the answer with this Hop-by-Hop Identifier, in octets 12 to 15 (RFC 6733, section 3)
abbrev pub with_hop : ℕ → List ℕ → List ℕ
with_hop hop answer = take 12 answer ++ u32 hop ++ drop 16 answer

-- an open request whose packet has this identifier
abbrev pub has_identifier : ℕ → OpenRequest → Bool
has_identifier id o = o.taken.number % 256 == id

-- at most 4096 are open or kept at once, and two that are open have different identifiers
abbrev pub is_full : List OpenRequest → List KeptAnswer → ℕ → Bool
is_full os ks n = nat_le 4096 (length os + length ks) || list_any (has_identifier (n % 256)) os

-- the request of this number
abbrev pub taken : ℕ → List ℕ → AskedParts → List ℕ → Taken
taken n octets q sent = record { number = n; key = key_of q; request = octets; sent = sent }

-- DIAMETER_AVP_UNSUPPORTED, DIAMETER_UNABLE_TO_COMPLY (RFC 6733, section 7.1.5)
abbrev pub refused_by : ReverseFault → ℕ
refused_by Unsupported = 5001
refused_by Unable = 5012
refused_by NoMemory = 5012

-- it is taken up where it can be a packet
abbrev pub translated : Reverse → ℕ → List ℕ → AskedParts → Result (List ℕ) ReverseFault → Outcome
translated own n octets q (Ok sent) = record { deed = Takes (taken n octets q sent); outputs = Send sent ∷ [] }
translated own n octets q (Err fault) = says (Answer (refusal own q (refused_by fault)))

-- DIAMETER_TOO_BUSY (RFC 6733, section 7.1.3)
abbrev pub on_unknown : Reverse → List OpenRequest → List KeptAnswer → ℕ → List ℕ → List ℕ → AskedParts → Outcome
on_unknown own os ks n octets random q =
    if is_full os ks n then says (Answer (refusal own q 3004))
    else translated own n octets q (request_image (direction_of q.header) (n % 256) random own.secret q.avps)

abbrev pub on_known : Reverse → List OpenRequest → List KeptAnswer → ℕ → List ℕ → List ℕ → AskedParts → Known → Outcome
on_known own os ks n octets random q Unknown = on_unknown own os ks n octets random q
on_known own os ks n octets random q IsOpen = says (Dropped Open)
on_known own os ks n octets random q (IsKept k) =
    record { deed = Repeats k q.header.hop; outputs = Answer (with_hop q.header.hop k.answer) ∷ [] }

abbrev pub on_asked : Reverse → List OpenRequest → List KeptAnswer → ℕ → List ℕ → List ℕ → Option AskedParts → Outcome
on_asked own os ks n octets random None = says (Dropped NoIdentity)
on_asked own os ks n octets random (Some q) = on_known own os ks n octets random q (known (key_of q) os ks)

abbrev pub on_message :
    Reverse → List OpenRequest → List KeptAnswer → ℕ → List ℕ → List ℕ → Result MessageParts MessageFault → Outcome
on_message own os ks n octets random (Err fault) = says (Dropped NotRequest)
on_message own os ks n octets random (Ok m) =
    if is_served m.header then on_asked own os ks n octets random (asked_in m) else says (Dropped NotRequest)

-- by the open requests, the kept answers, and how many were taken up
abbrev pub on_request : Reverse → List OpenRequest → List KeptAnswer → ℕ → List ℕ → List ℕ → Outcome
on_request own os ks n octets random = on_message own os ks n octets random (read_message octets)

-- ---- a reply of the RADIUS server (RFC 2865, sections 3 and 4; RFC 2866, section 4; RFC 3579, section 3.2)

-- the authenticator of a packet
abbrev pub authenticator_of : List ℕ → List ℕ
authenticator_of packet = octets_at packet 4 16

-- an authentic packet of a code that answers the request
abbrev pub is_authentic_reply : Reverse → Taken → AskedParts → PacketParts → Bool
is_authentic_reply own t q p = is_reply_right own.secret (authenticator_of t.sent) p && is_reply_code q.header p.code

abbrev pub answered : Reverse → Taken → PacketParts → Option AskedParts → Outcome
answered own t p None = says (Dropped StrangeReply)
answered own t p (Some q) =
    if is_authentic_reply own t q p then record { deed = Closes t (answer_of own q p); outputs = Answer (answer_of own q p) ∷ [] }
    else says (Dropped StrangeReply)

-- to the open request with its identifier
abbrev pub matched : Reverse → PacketParts → Option OpenRequest → Outcome
matched own p None = says (Dropped StrangeReply)
matched own p (Some o) = answered own o.taken p (request_in o.taken.request)

abbrev pub on_packet : Reverse → List OpenRequest → Result PacketParts PacketFault → Outcome
on_packet own os (Err fault) = says (Dropped StrangeReply)
on_packet own os (Ok p) = matched own p (find (has_identifier p.id) os)

abbrev pub on_reply : Reverse → List OpenRequest → List ℕ → Outcome
on_reply own os octets = on_packet own os (read_packet octets)

-- ---- a Tick

-- where its answer is overdue, the packet is sent again, or the request is answered
abbrev pub sent_overdue : Reverse → OpenRequest → ReverseOutput
sent_overdue own o = if is_last o.sent then Answer (silence own o.taken) else Send o.taken.sent

abbrev pub overdue : Reverse → ℕ → OpenRequest → List ReverseOutput
overdue own moment o = if is_due moment o.sent then sent_overdue own o ∷ [] else []

abbrev pub on_tick : Reverse → List OpenRequest → ℕ → Outcome
on_tick own os moment = record { deed = Ticks; outputs = flat_map (overdue own moment) os }

-- ---- together

-- by the open requests, the kept answers, and how many were taken up
abbrev pub on_input : Reverse → List OpenRequest → List KeptAnswer → ℕ → ℕ → ReverseInput → Outcome
on_input own os ks n moment (inputs.Request octets random) = on_request own os ks n octets random
on_input own os ks n moment (inputs.Reply octets) = on_reply own os octets
on_input own os ks n moment inputs.Tick = on_tick own os moment

abbrev pub placed : ℕ → ReverseInput → Outcome → ReversePlace
placed moment input o = record { moment = moment; input = input; deed = o.deed; outputs = o.outputs }

abbrev pub at_input : Reverse → List ReversePlace → ℕ → ReverseInput → ReversePlace
at_input own ps moment input =
    placed moment input (on_input own (open_requests ps) (kept_answers own ps moment) (count ps) moment input)

-- the effective moment is the greatest so far
abbrev pub place : Reverse → List ReversePlace → ReverseEvent → ReversePlace
place own ps e = at_input own ps (max (now ps) e.moment) e.input

abbrev pub places : Reverse → List ReversePlace → List ReverseEvent → List ReversePlace
places own ps [] = ps
places own ps (e ∷ es) = places own (place own ps e ∷ ps) es

-- the places of a history, the newest first
abbrev pub past : Reverse → List ReverseEvent → List ReversePlace
past own history = places own [] history

-- what goes out for an event after a history
abbrev pub outputs_after : Reverse → List ReverseEvent → ReverseEvent → List ReverseOutput
outputs_after own history e = (place own (past own history) e).outputs
