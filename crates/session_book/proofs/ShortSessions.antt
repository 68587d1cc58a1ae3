-- What is taken of a request that was taken up: its Session-Id is short where it is an accounting record's, and a login leaves the book.
use Rattle.std.proofs.Common.{◌≡◌, ℕ, ◌%◌, ◌<◌, ◌≤◌, Bool, true, false, cond, not, ◌&&◌, eqb, ltb, List, [], ◌∷◌, length, get_or, Option, Some, None, Result, Ok, Err, refl, sym, ap, ◌∙◌, subst, lit<, arith}
use Rattle.std.specs.Prelude.{find, replicate, nat_le, option_map, unwrap_or}
use Rattle.std.specs.Result.{ok_prefix}
use Rattle.std.proofs.lemmas.Bool.{le-leb, eqb-true}
use Rattle.std.proofs.lemmas.List.{length-replicate}
use Rattle.radius_packet.specs.Packet.{PacketParts, read_packet}
use Rattle.radius_packet.specs.declared.reasons.Reason.{Reason}
use Rattle.radius_packet.specs.declared.fault.PacketFault.{PacketFault}
use Rattle.radius_packet.specs.declared.reasons.Reason.TheVariants.{BadCode}
use Rattle.radius_packet.specs.declared.reasons.Via.{Via}
use Rattle.radius_packet.specs.declared.reasons.Via.TheVariants.{Acct, Auth}
use Rattle.diameter_avp.specs.Avps.{AvpParts, IsAvp, BeginsWith, avp_items, avps_text, avp_text, readable_avps, padding}
use Rattle.diameter_avp.proofs.TextLemmas.{ReadsFront-from_BeginsWith}
use Rattle.diameter_avp.proofs.ItemLemmas.{items_at-ok}
use Rattle.diameter_message.specs.declared.header.Header.{Header}
use Rattle.diameter_message.specs.declared.fault.MessageFault.TheVariants.{Short, BadVersion, BadLength}
use Rattle.diameter_message.specs.Message.{MessageParts, message_text, header_text, parts_of, read_message, length_of}
use Rattle.diameter_message.specs.Finding.{has_code, has_size}
use Rattle.diameter_message.specs.PlainAvps.{plain_avp}
use Rattle.wire_core.specs.Numbers.{u24, u32}
use Rattle.session_carrier.specs.declared.kept.Kind2.{Kind2}
use Rattle.session_carrier.specs.declared.kept.Kind2.TheVariants.{Access, Eap, Start, Interim, Stop}
use Rattle.session_carrier.specs.declared.kept.Numbers.{Numbers}
use Rattle.session_carrier.specs.Route.{RouteParts}
use Rattle.agent_settings.specs.declared.config.Config.{Config}
use Rattle.agent_settings.specs.declared.client.Client.{Client}
use Rattle.agent_settings.specs.Config.{InLimits, find_address}
use Rattle.accounting_map.specs.Numbers.{first_number, first_value}
use Rattle.agent_settings.proofs.Limits.{found_stands_at_place, clients_are_in_limits}
use Rattle.accounting_map.specs.Requests.{accounting_image, request_header, request_avps}
use Rattle.pending_table.specs.declared.key.Key.{Key}
use Rattle.pending_table.specs.Table.{same_key}
use Rattle.agent_events.specs.declared.events.Input.{Input}
use Rattle.agent_events.specs.declared.events.Input.TheVariants.{Datagram}
use Rattle.agent_core.specs.Fits.{RouteFits}
use Rattle.agent_core.specs.Verdict.{Request, code_at, key_of, kind_at, judged, packet_verdict, client_verdict, verdict}
use Rattle.agent_core.specs.Verdicts.{via_of}
use Rattle.agent_core.specs.Requests.{request_sent, accounting_route}
use Rattle.agent_core.specs.Rooms.{rooms, refusal}
use Rattle.agent_core.specs.Places.{Place, Taking, live, serial}
use Rattle.agent_core.specs.History.{at_input, admitted, requested, datagram, next_numbers}
use Rattle.agent_core.proofs.RequestLemmas.VerdictFacts.{verdict-fits}
use Rattle.agent_core.proofs.RequestLemmas.JudgedRequests.{judged_at}
use Rattle.agent_core.proofs.RequestLemmas.RouteLemmas.{accounting_route_fits}
use Rattle.agent_core.proofs.RequestLemmas.PacketFacts.{read_is_packet}
use Rattle.session_book.specs.Book.{Keep, Remove}
use Rattle.session_book.specs.History.{packet_change, recorded, started}
use Rattle.session_book.specs.Reading.{session_of, session_in, status}
use Rattle.session_book.specs.State.{short_session_of, short_session}

-- ---- the first AVP of a text is read

is-plain : (session : List ℕ) → length session ≤ 1024 → IsAvp (plain_avp 263 session)
is-plain session short = record { code = lit< tt; flags = lit< tt; vendor_flag = refl; vendor = tt; counted = omega arith }

begins : (a : AvpParts) (rest : List AvpParts) → IsAvp a → BeginsWith (avps_text (a ∷ rest)) a (avps_text rest)
unfolding avps_text avp_text
begins a rest is = record {
  avp = is;
  pad = replicate (padding (length a.body)) 0;
  padded = length-replicate {A = ℕ} (padding (length a.body)) 0;
  text = refl;
}

first-read : (a : AvpParts) (rest : List AvpParts) → IsAvp a → (more : List AvpParts) × (readable_avps (avps_text (a ∷ rest)) ≡ a ∷ more)
unfolding avp_items
first-read a rest is =
    let front = ReadsFront-from_BeginsWith 0 (avps_text (a ∷ rest)) a (avps_text rest) (begins a rest is) in
    (_, ap ok_prefix (items_at-ok 0 (avps_text (a ∷ rest)) a front.read))

both-find : (a : AvpParts) (avps more : List AvpParts) (p q : AvpParts → Bool) → avps ≡ a ∷ more → p a ≡ true → q a ≡ true → find p avps ≡ find q avps
both-find a avps more p q is one other = rw is (rw (one, other) refl)

session-agrees : (session : List ℕ) (rest : List AvpParts) → length session ≤ 1024
    → find (has_size 263 0 1024) (readable_avps (avps_text (plain_avp 263 session ∷ rest))) ≡ find (has_code 263) (readable_avps (avps_text (plain_avp 263 session ∷ rest)))
session-agrees session rest short =
    let r = first-read (plain_avp 263 session) rest (is-plain session short) in
    let low : nat_le 0 (length session) ≡ true = le-leb _ _ (omega arith) in
    let high : nat_le (length session) 1024 ≡ true = le-leb _ _ short in
    let fits : has_size 263 0 1024 (plain_avp 263 session) ≡ true = rw (low, high) refl in
    both-find (plain_avp 263 session) (readable_avps (avps_text (plain_avp 263 session ∷ rest))) r.0 (has_size 263 0 1024) (has_code 263) r.1 fits refl

-- ---- in a message

avps-of : (h : Header) (avps : List ℕ) → (parts_of (message_text h avps)).avps ≡ avps
unfolding message_text header_text u24 u32
avps-of h avps = refl

agrees-by : (m : MessageParts) (a b c : Bool) → find (has_size 263 0 1024) (readable_avps m.avps) ≡ find (has_code 263) (readable_avps m.avps)
    → short_session_of (cond a (Err Short) (cond b (Err BadVersion) (cond c (Ok m) (Err BadLength)))) ≡ session_of (cond a (Err Short) (cond b (Err BadVersion) (cond c (Ok m) (Err BadLength))))
agrees-by m true b c e = refl
agrees-by m false true c e = refl
agrees-by m false false true e = ap (option_map (λ (x : AvpParts). x.body)) e
agrees-by m false false false e = refl

message-agrees : (octets : List ℕ) → find (has_size 263 0 1024) (readable_avps (parts_of octets).avps) ≡ find (has_code 263) (readable_avps (parts_of octets).avps)
    → short_session octets ≡ session_in octets
unfolding read_message
message-agrees octets e =
    agrees-by (parts_of octets) (ltb (length octets) 20) (not (eqb (get_or octets 0 0) 1)) (eqb (length_of octets) (length octets) && eqb (length_of octets % 4) 0) e

image-agrees : (client : Client) (packet : PacketParts) (route : RouteParts) (numbers : Numbers) → length route.session ≤ 1024
    → short_session (accounting_image client packet route numbers) ≡ session_in (accounting_image client packet route numbers)
unfolding accounting_image
image-agrees client packet route numbers short =
    message-agrees (message_text (request_header numbers) (avps_text (request_avps client packet route)))
    (subst (λ (xs : List ℕ). find (has_size 263 0 1024) (readable_avps xs) ≡ find (has_code 263) (readable_avps xs))
    (sym (avps-of (request_header numbers) (avps_text (request_avps client packet route))))
    (session-agrees route.session _ short))

-- ---- of a request that was taken up

record IsSentBy (config : Config) (ps : List Place) (r : Result Request Reason) (t : Taking) : Type 0 where
  pub request : Request
  pub is : r ≡ Ok request
  pub sent : t.sent ≡ request_sent config request (next_numbers config ps) (serial ps)

taken-admitted : (config : Config) (ps : List Place) (m : ℕ) (input : Input) (request : Request) (o : Option Reason) (t : Taking)
    → (admitted config ps m input request o).taken ≡ Some t → t.sent ≡ request_sent config request (next_numbers config ps) (serial ps)
taken-admitted config ps m input request (Some reason) t e = absurd (cc)
taken-admitted config ps m input request None t e = sym (ap (λ (o : Option Taking). sent-in o) e)
  where
    sent-in : Option Taking → List ℕ
    sent-in None = []
    sent-in (Some x) = x.sent

taken-requested : (config : Config) (ps : List Place) (m : ℕ) (input : Input) (request : Request) (o : Option Taking) (t : Taking)
    → (requested config ps m input request o).taken ≡ Some t → t.sent ≡ request_sent config request (next_numbers config ps) (serial ps)
taken-requested config ps m input request (Some known) t e = absurd (cc)
taken-requested config ps m input request None t e = taken-admitted config ps m input request (refusal config (rooms config ps m)) t e

taken-datagram : (config : Config) (ps : List Place) (m : ℕ) (input : Input) (r : Result Request Reason) (t : Taking)
    → (datagram config ps m input r).taken ≡ Some t → IsSentBy config ps r t
taken-datagram config ps m input (Err reason) t e = absurd (cc)
taken-datagram config ps m input (Ok request) t e =
    record { request = request; is = refl; sent = taken-requested config ps m input request (find (λ x. same_key x.key request.key) (live config ps m)) t e }

kind-agrees : (config : Config) (kind : Kind2) (request : Request) (numbers : Numbers) (serial : ℕ) → Acct ≡ via_of kind → request.kind ≡ kind
    → RouteFits 1024 (accounting_route config request.settings request.packet)
    → short_session (request_sent config request numbers serial) ≡ session_in (request_sent config request numbers serial)
kind-agrees config Access request numbers serial via is fits = absurd (cc)
kind-agrees config Eap request numbers serial via is fits = absurd (cc)
kind-agrees config Start request numbers serial via is fits =
    rw is (image-agrees request.settings request.packet (accounting_route config request.settings request.packet) numbers fits.session)
kind-agrees config Interim request numbers serial via is fits =
    rw is (image-agrees request.settings request.packet (accounting_route config request.settings request.packet) numbers fits.session)
kind-agrees config Stop request numbers serial via is fits =
    rw is (image-agrees request.settings request.packet (accounting_route config request.settings request.packet) numbers fits.session)

pub sessions-short : (config : Config) (ps : List Place) (m address port : ℕ) (octets : List ℕ) (t : Taking) → InLimits config → ((i : ℕ) → get_or octets i 0 < 256)
    → (at_input config ps m (Datagram Acct address port octets)).taken ≡ Some t → short_session t.sent ≡ session_in t.sent
sessions-short config ps m address port octets t within bytes e =
    let by = taken-datagram config ps m (Datagram Acct address port octets) (verdict config Acct address port octets) t e in
    let request = by.request in
    let fits = verdict-fits found_stands_at_place config Acct address port octets request by.is in
    let client = clients_are_in_limits config request.client request.settings within fits.settings in
    let packet = read_is_packet octets request.packet bytes fits.read in
    let judged = judged_at Acct request.settings address request.packet request.kind fits.kind in
    subst (λ (xs : List ℕ). short_session xs ≡ session_in xs) (sym by.sent)
    (kind-agrees config request.kind request (next_numbers config ps) (serial ps) judged.1 refl
    (accounting_route_fits config request.settings request.packet within client packet.values))

-- ---- a packet that was taken up at the port for logins is no accounting record

packet-judged : (place : ℕ) (client : Client) (packet : PacketParts) (key : Key) (r : Result Kind2 Reason) (request : Request) → judged place client packet key r ≡ Ok request → packet ≡ request.packet
packet-judged place client packet key (Err reason) request e = absurd (cc)
packet-judged place client packet key (Ok kind) request e =
    let made : Request = record { client = place; settings = client; kind = kind; packet = packet; key = key } in
    let same : made ≡ request = cc in
    ap (λ (q : Request). q.packet) same

code-either : (via : Via) (place : ℕ) (client : Client) (packet : PacketParts) (key : Key) (kind : Result Kind2 Reason) (request : Request) (b : Bool) → eqb packet.code (code_at via) ≡ b
    → cond b (judged place client packet key kind) (Err BadCode) ≡ Ok request → request.packet.code ≡ code_at via
code-either via place client packet key kind request true is e =
    ap (λ (p : PacketParts). p.code) (sym (packet-judged place client packet key kind request e)) ∙ eqb-true packet.code (code_at via) is
code-either via place client packet key kind request false is e = absurd (cc)

code-packet : (via : Via) (address port : ℕ) (octets : List ℕ) (client : ℕ × Client) (r : Result PacketParts PacketFault) (request : Request)
    → packet_verdict via address port octets client r ≡ Ok request → request.packet.code ≡ code_at via
code-packet via address port octets client (Err fault) request e = absurd (cc)
code-packet via address port octets client (Ok packet) request e =
    code-either via client.0 client.1 packet (key_of via address port packet) (kind_at via client.1 address packet) request (eqb packet.code (code_at via)) refl e

code-client : (via : Via) (address port : ℕ) (octets : List ℕ) (found : Option (ℕ × Client)) (request : Request)
    → client_verdict via address port octets found ≡ Ok request → request.packet.code ≡ code_at via
code-client via address port octets None request e = absurd (cc)
code-client via address port octets (Some client) request e = code-packet via address port octets client (read_packet octets) request e

recorded-keeps : (address : ℕ) (packet : PacketParts) (session : List ℕ) → packet.code ≡ 1 → recorded address packet session ≡ Keep
recorded-keeps address packet session code =
    let other : eqb packet.code 4 ≡ false = ap (λ n. eqb n 4) code in
    let none : status packet ≡ 0 = ap (λ b. cond b (unwrap_or (first_number 40 packet.attributes) 0) 0) other in
    ap (λ n. cond (eqb n 1) (started address packet session (first_value 44 packet.attributes)) (cond (eqb n 2) (Remove session) Keep)) none

pub logins-keep : (config : Config) (ps : List Place) (m address port : ℕ) (octets : List ℕ) (t : Taking) → (at_input config ps m (Datagram Auth address port octets)).taken ≡ Some t
    → (session : List ℕ) → packet_change address (read_packet octets) session ≡ Keep
logins-keep config ps m address port octets t e session =
    let by = taken-datagram config ps m (Datagram Auth address port octets) (verdict config Auth address port octets) t e in
    let fits = verdict-fits found_stands_at_place config Auth address port octets by.request by.is in
    ap (λ r. packet_change address r session) fits.read
    ∙ recorded-keeps address by.request.packet session (code-client Auth address port octets (find_address address config.clients) by.request by.is)
