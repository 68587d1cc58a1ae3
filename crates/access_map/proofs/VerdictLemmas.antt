-- What is known of a packet that was judged.
use Rattle.std.proofs.Common.{◌≡◌, ◌≤◌, Bool, true, false, ◌&&◌, length, None, ◌∙◌, refl, sym, arith}
use Rattle.std.specs.Prelude.{count_by, nat_lt}
use Rattle.std.specs.Option.{option_or}
use Rattle.std.specs.List.{list_any}
use Rattle.std.proofs.lemmas.Bool.{ltb-false, or_parts}
use Rattle.radius_packet.specs.Packet.{PacketParts, attributes_text}
use Rattle.radius_packet.specs.declared.reasons.Reason.TheVariants.{NasAddress}
use Rattle.session_carrier.specs.declared.kept.Kind2.{Kind2}
use Rattle.agent_settings.specs.declared.client.Client.{Client}
use Rattle.translation.specs.declared.direction.Direction.TheVariants as direction
use Rattle.translation.specs.Values.{first_bad}
use Rattle.translation.specs.Heads.{is_eap}
use Rattle.translation.specs.Judging.{is_foreign, is_key_attribute, proxy_states, reason_if, value_reason}
use Rattle.translation.proofs.JudgingLemmas as judging
use Rattle.access_map.specs.Verdict.{is_password, is_bad_password, has_more_passwords, seal_reason, password_reason, access_reason, access_kind, verdict, IsJudged}

unless : (x y : Bool) → (x && y) ≡ false → y ≡ true → x ≡ false
unless true y both is = sym is ∙ both
unless false y both is = refl

no_reason : (client : Client) (packet : PacketParts) (kind : Kind2) (judged : IsJudged client packet kind) → access_reason client judged.0 packet ≡ None
unfolding verdict
no_reason client packet kind judged = (judging.kind_unless-ok _ _ _ judged.1).0

-- it is translated as this kind
pub judged-kind : (client : Client) (packet : PacketParts) (kind : Kind2) → IsJudged client packet kind → kind ≡ access_kind packet.attributes
unfolding verdict
judged-kind client packet kind judged = sym (judging.kind_unless-ok _ _ _ judged.1).1

last_reasons : (client : Client) (packet : PacketParts) (kind : Kind2) → IsJudged client packet kind
    → (password_reason packet.attributes ≡ None) × (value_reason direction.Access packet.attributes ≡ None)
last_reasons client packet kind judged =
    let values = value_reason direction.Access packet.attributes in
    let passwords = option_or (password_reason packet.attributes) values in
    let foreign = reason_if (list_any (is_foreign client judged.0) packet.attributes) NasAddress in
    let after_seal = judging.neither (seal_reason client packet) (option_or foreign passwords) (no_reason client packet kind judged) in
    let after_address = judging.neither foreign passwords after_seal.1 in
    judging.neither (password_reason packet.attributes) values after_address.1

-- each password has a good size
pub judged-passwords : (client : Client) (packet : PacketParts) (kind : Kind2) → IsJudged client packet kind → list_any is_bad_password packet.attributes ≡ false
judged-passwords client packet kind judged =
    judging.stands_not _ _ (judging.neither _ _ (last_reasons client packet kind judged).0).1

few_passwords : (client : Client) (packet : PacketParts) (kind : Kind2) → IsJudged client packet kind → has_more_passwords packet.attributes ≡ false
few_passwords client packet kind judged =
    judging.stands_not _ _ (judging.neither _ _ (last_reasons client packet kind judged).0).0

-- there is one password at most
pub judged-one : (client : Client) (packet : PacketParts) (kind : Kind2) → IsJudged client packet kind → count_by is_password packet.attributes ≤ 1
judged-one client packet kind judged = ltb-false _ _ (or_parts _ _ (few_passwords client packet kind judged)).0

-- and none beside an EAP-Message
pub judged-eap : (client : Client) (packet : PacketParts) (kind : Kind2) → IsJudged client packet kind → list_any is_eap packet.attributes ≡ true → count_by is_password packet.attributes ≡ 0
judged-eap client packet kind judged eap =
    let passwords = count_by is_password packet.attributes in
    let both = or_parts (nat_lt 1 passwords) (nat_lt 0 passwords && list_any is_eap packet.attributes) (few_passwords client packet kind judged) in
    let none = unless (nat_lt 0 passwords) (list_any is_eap packet.attributes) both.1 eap in
    omega (arith, ltb-false 0 passwords none)

-- each value has the size and the text that it must have
pub judged-values : (client : Client) (packet : PacketParts) (kind : Kind2) → IsJudged client packet kind → first_bad direction.Access packet.attributes ≡ None
judged-values client packet kind judged =
    judging.values_are_good direction.Access packet.attributes (last_reasons client packet kind judged).1

pub judged-keys : (client : Client) (packet : PacketParts) (kind : Kind2) → IsJudged client packet kind → list_any is_key_attribute packet.attributes ≡ false
judged-keys client packet kind judged =
    judging.no_keys direction.Access packet.attributes (last_reasons client packet kind judged).1

-- the Proxy-States have 2048 octets at most
pub judged-proxies : (client : Client) (packet : PacketParts) (kind : Kind2) → IsJudged client packet kind → length (attributes_text (proxy_states packet.attributes)) ≤ 2048
judged-proxies client packet kind judged =
    judging.proxy_states_are_short direction.Access packet.attributes (last_reasons client packet kind judged).1
