-- What was put is the answer.
use Rattle.std.proofs.Common.{◌≡◌, ℕ, Bool, true, false, cond, List, [], ◌++◌, sym, ap, ◌∙◌}
use Rattle.std.proofs.lemmas.List.{append-nil}
use Rattle.radius_packet.specs.Packet.{PacketParts}
use Rattle.diameter_avp.specs.Avps.{AvpParts, avps_text}
use Rattle.diameter_message.specs.declared.header.Header.{Header}
use Rattle.diameter_message.specs.Message.{message_text}
use Rattle.diameter_message.specs.Writer.{MessageWriterParts, begun, with_avps}
use Rattle.translation.specs.declared.class.Class.{Class}
use Rattle.reverse_map.specs.declared.own.Reverse.{Reverse}
use Rattle.reverse_map.specs.Answers.{class_of, result_of, has_key, reply_result, images, reply_images, names, repeated, answer_header, answer_head, answer_avps, refusal, answer_of}
use Rattle.reverse_map.specs.Asked.{AskedParts}

pub headed : (own : Reverse) (q : AskedParts) (code : ℕ) (made header : Header) (session : List ℕ) (avps : List AvpParts) (empty named whole : MessageWriterParts)
    → q.header ≡ header → session ≡ q.session → avps ≡ q.avps → made ≡ answer_header header code
    → empty ≡ begun made [] → named ≡ with_avps empty (names own session code) → whole ≡ with_avps named (repeated header avps)
    → whole ≡ begun (answer_header q.header code) (answer_head own q code)
headed own q code made header session avps empty named whole same_header same_session same_avps m first second third =
    third
    ∙ ap (λ (w : MessageWriterParts). with_avps w (repeated header avps)) (second ∙ ap (λ (w : MessageWriterParts). with_avps w (names own session code)) first)
    ∙ ap (λ (h : Header). begun h (names own session code ++ repeated header avps)) (m ∙ ap (λ (h : Header). answer_header h code) (sym same_header))
    ∙ ap (λ (s : List ℕ). begun (answer_header q.header code) (names own s code ++ repeated header avps)) same_session
    ∙ ap (λ (h : Header). begun (answer_header q.header code) (names own q.session code ++ repeated h avps)) (sym same_header)
    ∙ ap (λ (xs : List AvpParts). begun (answer_header q.header code) (names own q.session code ++ repeated q.header xs)) same_avps

-- with the images of a reply that has no key
pub with_images : (own : Reverse) (q : AskedParts) (reply : PacketParts) (code : ℕ) (class : Class) (head whole : MessageWriterParts)
    → has_key reply ≡ false → code ≡ result_of reply.code → class ≡ class_of reply.code
    → head ≡ begun (answer_header q.header code) (answer_head own q code) → whole ≡ with_avps head (images class reply.attributes)
    → whole ≡ begun (answer_header q.header (reply_result reply)) (answer_avps own q reply)
with_images own q reply code class head whole keyless same_code same_class first second =
    let told : code ≡ reply_result reply = same_code ∙ sym (ap (λ (b : Bool). cond b 5012 (result_of reply.code)) keyless) in
    let given : images class reply.attributes ≡ reply_images reply =
    ap (λ (c : Class). images c reply.attributes) same_class ∙ sym (ap (λ (b : Bool). cond b [] (images (class_of reply.code) reply.attributes)) keyless) in
    second
    ∙ ap (λ (w : MessageWriterParts). with_avps w (images class reply.attributes)) first
    ∙ ap (λ (n : ℕ). begun (answer_header q.header n) (answer_head own q n ++ images class reply.attributes)) told
    ∙ ap (λ (xs : List AvpParts). begun (answer_header q.header (reply_result reply)) (answer_head own q (reply_result reply) ++ xs)) given

-- a reply with a key is refused
pub key_avps : (own : Reverse) (q : AskedParts) (reply : PacketParts) → has_key reply ≡ true → answer_head own q 5012 ≡ answer_avps own q reply
key_avps own q reply key =
    sym (append-nil (answer_head own q 5012)) ∙ ap (λ (b : Bool). answer_head own q (cond b 5012 (result_of reply.code)) ++ cond b [] (images (class_of reply.code) reply.attributes)) (sym key)

pub key_result : (reply : PacketParts) → has_key reply ≡ true → 5012 ≡ reply_result reply
key_result reply key = ap (λ (b : Bool). cond b 5012 (result_of reply.code)) (sym key)

pub key_answer : (own : Reverse) (q : AskedParts) (reply : PacketParts) → has_key reply ≡ true → refusal own q 5012 ≡ answer_of own q reply
unfolding refusal answer_of
key_answer own q reply key =
    ap (λ (n : ℕ). message_text (answer_header q.header n) (avps_text (answer_head own q 5012))) (key_result reply key)
    ∙ ap (λ (avps : List AvpParts). message_text (answer_header q.header (reply_result reply)) (avps_text avps)) (key_avps own q reply key)
