-- The definitions on lines from outside.
use Rattle.std.proofs.Common.{◌≡◌, [], ◌∷◌, false, Some, None, codes, refl}
use Rattle.std.specs.Net.Reader.{read_number, read_octet, read_ipv4}
use Rattle.wire_core.specs.Numbers.{number}
use Rattle.hex.specs.Hex.{decode_pairs}
use Rattle.radius_packet.specs.declared.reasons.Via.TheVariants.{Auth}
use Rattle.agent_events.specs.declared.events.Input.TheVariants.{Datagram, Ready}
use Rattle.agent_settings.specs.Config.{are_settings_in_limits, is_client_in_limits}
use Rattle.text_lines.specs.Words.{words_of}
use Rattle.transcript.specs.Kinds.{kind_of}
use Rattle.transcript.specs.Lines.{client_of, control_of, event_of, settings_of}
use Rattle.transcript.specs.declared.happening.Happening.TheVariants.{Input, Link}
use Rattle.transcript.specs.declared.kind.EventName.TheVariants as name
use Rattle.transcript.specs.declared.kind.Kind.TheVariants as kind

-- ---- which line it is

agent-kind : kind_of (words_of (codes "agent a b c 192.0.2.1 0 1000 1 2 6000")) ≡ Some kind.Agent
agent-kind = refl

patient-kind : kind_of (words_of (codes "agent a b c 192.0.2.1 0 1000 1 2 6000 2000")) ≡ Some kind.Agent
patient-kind = refl

too-many-words : kind_of (words_of (codes "agent a b c 192.0.2.1 0 1000 1 2 6000 2000 7")) ≡ None
too-many-words = refl

client-kind : kind_of (words_of (codes "client nas1 192.168.1.16 78 nas1.example example plain refuse -")) ≡ Some kind.Client
client-kind = refl

-- five words whose second is `auth` are an event, whatever stands for its moment
odd-kind : kind_of (words_of (codes "client auth 192.168.1.16 1 00")) ≡ Some (kind.Event (name.Datagram Auth))
odd-kind = refl

control-kind : kind_of (words_of (codes "2100 control 192.168.1.16 3799 29aB00")) ≡ Some kind.Control
control-kind = refl

short-control : kind_of (words_of (codes "2100 control 192.168.1.16 3799")) ≡ None
short-control = refl

no-kind : kind_of (words_of (codes "0 readi")) ≡ None
no-kind = refl

empty-kind : kind_of (words_of []) ≡ None
empty-kind = refl

-- ---- what it tells

agent-example : settings_of (words_of (codes "agent agent.example example example 192.0.2.1 7 30000 64 64 30000 5000")) ≡ Some (record {
  host = codes "agent.example";
  realm = codes "example";
  home_realm = codes "example";
  address = 3221225985;
  boot = Some 7;
  retention = 30000;
  patience = 5000;
  capacity = 64;
  backlog = 64;
  watchdog = 30000;
  clients = [];
})
unfolding number read_number read_octet read_ipv4 are_settings_in_limits
agent-example = refl

client-example : client_of (words_of (codes "client nas1 192.168.1.16 78797a7a7935343631 nas1.example example plain refuse -")) ≡ Some (record {
  name = codes "nas1";
  address = 3232235792;
  secret = codes "xyzzy5461";
  origin_host = codes "nas1.example";
  origin_realm = codes "example";
  require_seal = false;
  omit_keys = false;
  nas = [];
})
unfolding number read_number read_octet read_ipv4 decode_pairs is_client_in_limits
client-example = refl

ready-example : event_of name.Ready (words_of (codes "0 ready")) ≡ Some (0, Input Ready)
ready-example = refl

auth-example : event_of (name.Datagram Auth) (words_of (codes "1000 auth 192.168.1.16 1812 0105"))
    ≡ Some (1000, Input (Datagram Auth 3232235792 1812 (1 ∷ 5 ∷ [])))
unfolding number read_number read_octet read_ipv4 decode_pairs
auth-example = refl

link-example : event_of name.Link (words_of (codes "1100 link 0100aB")) ≡ Some (1100, Link (1 ∷ 0 ∷ 171 ∷ []))
unfolding decode_pairs
link-example = refl

control-example : control_of (words_of (codes "2100 control 192.168.1.16 3799 29aB00"))
    ≡ Some (record { moment = 2100; address = 3232235792; port = 3799; octets = 41 ∷ 171 ∷ 0 ∷ [] })
unfolding number read_number read_octet read_ipv4 decode_pairs
control-example = refl
