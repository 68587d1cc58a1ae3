-- A reply to sixteen zeros is the Disconnect-Request.
use Rattle.std.proofs.Common.{◌≡◌, ℕ, ◌≤◌, false, List, [], ◌∷◌, ◌++◌, length, take, replicate, Option, refl, sym, ap, subst, ◌∙◌, append_assoc, arith}
use Rattle.std.specs.Int.{w32, to_be_bytes}
use Rattle.md5.proofs.StandardFacts.{length-md5}
use Rattle.wire_core.specs.Numbers.{u16}
use Rattle.wire_core.proofs.NumberLemmas.{to_be_bytes-32}
use Rattle.radius_packet.specs.Packet.{AttributeParts, PacketParts, attributes_text, packet_text, IsPacket}
use Rattle.radius_packet.specs.Seals.{ReplyParts, reply_text}
use Rattle.radius_packet.proofs.Packets.{length-packet_text, drop-packet_text}
use Rattle.radius_packet.proofs.Signing.{signature_put, sealed_parts}
use Rattle.agent_settings.specs.declared.client.Client.{Client}
use Rattle.disconnect_map.specs.Disconnects.{attribute, user_attributes, session_attributes, disconnect_parts, request_authenticator, disconnect_text}

-- another authenticator in place of a packet's own
authenticator_put : (p : PacketParts) (a : List ℕ) → take 4 (packet_text p) ++ a ++ attributes_text p.attributes ≡ packet_text (record p { authenticator = a })
unfolding packet_text u16
authenticator_put p a = refl

pub reply_text-disconnect : (client : Client) (id : ℕ) (user : Option (List ℕ)) (acct : List ℕ)
    → reply_text client.secret (replicate 16 0) 40 id false (session_attributes client user acct) ≡ disconnect_text client id user acct
unfolding reply_text disconnect_text
reply_text-disconnect client id user acct =
    let p : PacketParts = disconnect_parts client id user acct (replicate 16 0) in
    let a : List ℕ = request_authenticator client id user acct in
    sym (signature_put client.secret p refl) ∙ ap (λ (xs : List ℕ). take 4 (packet_text p) ++ a ++ xs) (drop-packet_text p refl) ∙ authenticator_put p a

-- it has the octets that a packet has before its attributes, at least
pub long-disconnect_text : (client : Client) (id : ℕ) (user : Option (List ℕ)) (acct : List ℕ) → 20 ≤ length (disconnect_text client id user acct)
unfolding disconnect_text
long-disconnect_text client id user acct =
    omega (arith, length-packet_text (disconnect_parts client id user acct (request_authenticator client id user acct)) (length-md5 _))

-- ---- while it is made

abbrev pub with_more : ReplyParts → List AttributeParts → ReplyParts
with_more r more = record r { attributes = r.attributes ++ more }

-- the Disconnect-Request with these attributes so far
abbrev pub draft : ℕ → List AttributeParts → ReplyParts
draft id attributes = record { code = 40; id = id; request = replicate 16 0; sealed = false; attributes = attributes }

-- what was put, one after the other, is the attributes of the session
pub drafted : (client : Client) (id : ℕ) (user : Option (List ℕ)) (acct address : List ℕ) (begun named addressed whole : ReplyParts)
    → address ≡ to_be_bytes w32 client.address → begun ≡ draft id [] → named ≡ with_more begun (user_attributes user)
    → addressed ≡ with_more named (attribute 4 address ∷ []) → whole ≡ with_more addressed (attribute 44 acct ∷ []) → whole ≡ draft id (session_attributes client user acct)
drafted client id user acct address begun named addressed whole octets first second third fourth =
    fourth ∙ ap (λ r. with_more r (attribute 44 acct ∷ [])) (third ∙ ap (λ r. with_more r (attribute 4 address ∷ [])) (second ∙ ap (λ r. with_more r (user_attributes user)) first))
    ∙ ap (draft id) (append_assoc (user_attributes user) (attribute 4 address ∷ []) (attribute 44 acct ∷ []))
    ∙ ap (λ (xs : List ℕ). draft id (user_attributes user ++ attribute 4 xs ∷ attribute 44 acct ∷ [])) (octets ∙ to_be_bytes-32 client.address)

-- the text and the parts of what was made
pub finished_text : (secret text : List ℕ) (client : Client) (id : ℕ) (user : Option (List ℕ)) (acct : List ℕ) (r : ReplyParts) → secret ≡ client.secret
    → r ≡ draft id (session_attributes client user acct) → text ≡ reply_text secret r.request r.code r.id r.sealed r.attributes → text ≡ disconnect_text client id user acct
finished_text secret text client id user acct r own made e =
    e ∙ ap (λ (q : ReplyParts). reply_text secret q.request q.code q.id q.sealed q.attributes) made
    ∙ ap (λ (s : List ℕ). reply_text s (replicate 16 0) 40 id false (session_attributes client user acct)) own ∙ reply_text-disconnect client id user acct

pub finished_packet : (secret text authenticator : List ℕ) (client : Client) (id : ℕ) (user : Option (List ℕ)) (acct : List ℕ) (r : ReplyParts) → r ≡ draft id (session_attributes client user acct)
    → IsPacket text (sealed_parts secret r.request r.code r.id r.sealed r.attributes authenticator) → IsPacket text (disconnect_parts client id user acct authenticator)
finished_packet secret text authenticator client id user acct r made packet =
    subst (λ (q : ReplyParts). IsPacket text (sealed_parts secret q.request q.code q.id q.sealed q.attributes authenticator)) made packet
