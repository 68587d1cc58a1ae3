-- What is known of a packet that was judged.
use Rattle.std.proofs.Common.{◌≡◌, ◌≤◌, false, length, Option, Some, None, Result, Ok, Err, ap}
use Rattle.std.specs.List.{list_any}
use Rattle.radius_packet.specs.Packet.{PacketParts, attributes_text}
use Rattle.radius_packet.specs.declared.reasons.Reason.{Reason}
use Rattle.session_carrier.specs.declared.kept.Kind2.{Kind2}
use Rattle.agent_settings.specs.declared.client.Client.{Client}
use Rattle.translation.specs.declared.direction.Direction.TheVariants.{Accounting}
use Rattle.translation.specs.Values.{first_bad}
use Rattle.translation.specs.Judging.{is_key_attribute, proxy_states, value_reason}
use Rattle.translation.proofs.JudgingLemmas as judging
use Rattle.accounting_map.specs.Verdict.{status, status_kind, outer_reason, kind_between, verdict, IsJudged}

-- the status gives the kind, and there is no reason behind it
between : (outer : Option Reason) (kind : Result Kind2 Reason) (last : Option Reason) (got : Kind2) → kind_between outer kind last ≡ Ok got → (kind ≡ Ok got) × (last ≡ None)
between (Some reason) kind last got e = absurd (cc)
between None (Err reason) last got e = absurd (cc)
between None (Ok kind) last got e =
    let both = judging.kind_unless-ok last kind got e in
    (ap Ok both.1, both.0)

judged-both : (client : Client) (packet : PacketParts) (kind : Kind2) → IsJudged client packet kind
    → (status_kind (status packet.attributes) ≡ Ok kind) × (value_reason Accounting packet.attributes ≡ None)
unfolding verdict
judged-both client packet kind judged =
    between (outer_reason client judged.0 packet) (status_kind (status packet.attributes)) (value_reason Accounting packet.attributes) kind judged.1

-- it is what its status says
pub judged-kind : (client : Client) (packet : PacketParts) (kind : Kind2) → IsJudged client packet kind → status_kind (status packet.attributes) ≡ Ok kind
judged-kind client packet kind judged = (judged-both client packet kind judged).0

-- each value has the size and the text that it must have
pub judged-values : (client : Client) (packet : PacketParts) (kind : Kind2) → IsJudged client packet kind → first_bad Accounting packet.attributes ≡ None
judged-values client packet kind judged =
    judging.values_are_good Accounting packet.attributes (judged-both client packet kind judged).1

pub judged-keys : (client : Client) (packet : PacketParts) (kind : Kind2) → IsJudged client packet kind → list_any is_key_attribute packet.attributes ≡ false
judged-keys client packet kind judged = judging.no_keys Accounting packet.attributes (judged-both client packet kind judged).1

-- the Proxy-States have 2048 octets at most
pub judged-proxies : (client : Client) (packet : PacketParts) (kind : Kind2) → IsJudged client packet kind → length (attributes_text (proxy_states packet.attributes)) ≤ 2048
judged-proxies client packet kind judged =
    judging.proxy_states_are_short Accounting packet.attributes (judged-both client packet kind judged).1
