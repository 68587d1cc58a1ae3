-- What a request leads to.
use Rattle.std.proofs.Common.{◌≡◌, ℕ, ◌≤◌, Bool, true, false, cond, List, [], ◌∷◌, length, filter, Option, Some, None, Result, Ok, Err, refl, sym, ap, ◌∙◌, subst, arith}
use Rattle.std.specs.Prelude.{is_some, IfOk, IsSome, option_copied}
use Rattle.std.specs.Borrow.{Bor}
use Rattle.radius_packet.specs.Packet.{PacketParts, IsPacket}
use Rattle.radius_packet.proofs.Packets.{length-packet_text}
use Rattle.diameter_message.specs.Message.{MessageParts, read_message}
use Rattle.reverse_map.specs.Asked.{asked_in, asked_of, is_served, request_in}
use Rattle.reverse_core.specs.declared.events.ReverseOutput.{ReverseOutput}
use Rattle.reverse_core.specs.declared.considering.Considered.{Considered}
use Rattle.reverse_core.specs.declared.considering.Considered.TheVariants.{Says}
use Rattle.reverse_core.specs.History.{Outcome, says}
use Rattle.reverse_core.specs.Considering.{Considers}

pub is_some-copied : {X : Type 0} → (o : Option (Bor X)) → is_some o ≡ is_some (option_copied o)
is_some-copied None = refl
is_some-copied (Some x) = refl

pub some-of : {X : Type 0} → (o : Option X) → IsSome o → (x : X) × (o ≡ Some x)
some-of None is = absurd (cc)
some-of (Some x) is = (x, refl)

pub filter-short : {X : Type 0} → (p : X → Bool) (xs : List X) → length (filter p xs) ≤ length xs
filter-short p [] = omega arith
filter-short p (x ∷ xs) =
    elim (p x) as (λ b. length (cond b (x ∷ filter p xs) (filter p xs)) ≤ length (x ∷ xs)) [
      | true ↦ omega (arith, filter-short p xs)
      | false ↦ omega (arith, filter-short p xs)
    ]

-- a packet has a header
pub packet-long : {octets : List ℕ} {p : PacketParts} → IsPacket octets p → 20 ≤ length octets
packet-long {octets} {p} is = omega (arith, ap length is.text, length-packet_text p is.authenticator)

pub considers-says : {E : Type 0} → (r : Result Considered E) (o : Outcome) (output : ReverseOutput) → o ≡ says output → IfOk r (λ c. c ≡ Says output) → IfOk r (Considers o)
considers-says (Ok c) o output is e = subst (λ (x : Outcome). Considers x c) (sym is) (subst (Considers (says output)) (sym e) (refl, tt))
considers-says (Err x) o output is e = tt

-- what the octets of a served message ask
pub request-asked : (octets : List ℕ) (m : MessageParts) → read_message octets ≡ Ok m → is_served m.header ≡ true → request_in octets ≡ asked_in m
request-asked octets m read served = ap asked_of read ∙ ap (λ b. cond b (asked_in m) None) served
