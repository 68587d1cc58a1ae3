-- The first abort that is answered, one open abort after another.
use Rattle.std.proofs.Common.{◌≡◌, ℕ, ◌+◌, ◌<◌, ◌≤◌, Bool, List, ◌∷◌, length, get_or, drop, Option, sym, ap, ◌∙◌, arith}
use Rattle.std.specs.Prelude.{option_map, IsTrue}
use Rattle.std.proofs.lemmas.Bool.{and_parts, leb-true}
use Rattle.agent_settings.specs.Config.{is_name}
use Rattle.std.specs.Option.{option_or}
use Rattle.std.proofs.lemmas.List.{at_drop_more}
use Rattle.radius_packet.specs.Packet.{PacketParts, IsPacket}
use Rattle.radius_packet.proofs.Packets.{length-packet_text}
use Rattle.session_book.specs.declared.aborts.Abort.{Abort}
use Rattle.session_book.specs.declared.aborts.OpenAbort.{OpenAbort}
use Rattle.session_book.specs.History.{first_answered}

pub answered-more : (said : Abort → Option Bool) (os : List OpenAbort) (i : ℕ) (o : OpenAbort) (answer : Option Bool)
    → i < length os → o ≡ get_or os i o → answer ≡ said o.abort
    → first_answered said (drop i os) ≡ option_or (option_map (λ ended. (o.abort, ended)) answer) (first_answered said (drop (i + 1) os))
answered-more said os i o answer below is told =
    at_drop_more (first_answered said) os i o below
    ∙ ap (λ (x : OpenAbort). first_answered said (x ∷ drop (i + 1) os)) (sym is)
    ∙ ap (λ (a : Option Bool). option_or (option_map (λ ended. (o.abort, ended)) a) (first_answered said (drop (i + 1) os))) (sym told)

-- a packet has a header
pub packet-long : {octets : List ℕ} {p : PacketParts} → IsPacket octets p → 20 ≤ length octets
packet-long {octets} {p} is = omega (arith, ap length is.text, length-packet_text p is.authenticator)

-- a name of the settings is short
pub name-short : (xs : List ℕ) → IsTrue (is_name xs) → length xs ≤ 64
name-short xs is = leb-true _ _ (and_parts _ _ is).1
