-- Each image of a request is a whole message.
use Rattle.std.proofs.Common.{◌≡◌, ℕ, ◌+◌, ◌*◌, ◌≤◌, List, [], ◌∷◌, ◌++◌, length, Option, Some, None, refl, sym, ap, subst, arith}
use Rattle.std.specs.Prelude.{IfSome}
use Rattle.wire_core.specs.Numbers.{u24, u32}
use Rattle.radius_packet.specs.Packet.{PacketParts, attributes_text}
use Rattle.diameter_avp.specs.Avps.{AvpParts, avps_text}
use Rattle.diameter_avp.proofs.CallerLemmas.{length-avps_text}
use Rattle.diameter_message.specs.declared.header.Header.{Header}
use Rattle.diameter_message.specs.Message.{IsHeader, IsMessage, message_text, header_text, parts_of}
use Rattle.diameter_message.specs.PlainAvps.{plain_avp, origin_avps}
use Rattle.diameter_message.proofs.MessageLemmas.{IsMessage-message_text}
use Rattle.session_carrier.specs.Route.{RouteParts}
use Rattle.session_carrier.specs.declared.kept.Kind2.{Kind2}
use Rattle.session_carrier.specs.declared.kept.Kind2.TheVariants.{Access, Eap, Start, Interim, Stop}
use Rattle.session_carrier.specs.declared.kept.Numbers.{Numbers}
use Rattle.agent_settings.specs.declared.client.Client.{Client}
use Rattle.agent_settings.specs.Config.{ClientInLimits}
use Rattle.translation.specs.Heads.{auth_head, auth_names, request_type}
use Rattle.translation.specs.Names.{names, host_avps}
use Rattle.translation.proofs.ClientLimits.{host_is_short, realm_is_short}
use Rattle.translation.proofs.SizeLemmas.{size, size-append, size-nil, size-plain}
use Rattle.access_map.specs.Requests as access
use Rattle.access_map.specs.Requests.{access_image}
use Rattle.access_map.proofs.PieceLemmas as access_pieces
use Rattle.access_map.proofs.VerdictLemmas.{judged-passwords}
use Rattle.eap_map.specs.Requests as eap
use Rattle.eap_map.specs.Requests.{eap_image}
use Rattle.eap_map.proofs.PieceLemmas as eap_pieces
use Rattle.accounting_map.specs.Requests as accounting
use Rattle.accounting_map.specs.Requests.{accounting_image}
use Rattle.accounting_map.specs.Verdict.{status}
use Rattle.accounting_map.proofs.PieceLemmas as accounting_pieces
use Rattle.agent_core.specs.Fits.{longest_session, RouteFits}
use Rattle.agent_core.specs.Requests.{image}
use Rattle.agent_core.specs.Standing.{IsWhole}
use Rattle.agent_core.specs.Verdicts.{IsJudged}
use Rattle.agent_core.proofs.ImageLemmas.Headers.{AreNumbers, header_of-text}
use Rattle.agent_core.proofs.RequestLemmas.TakenSteps.{header_by-fits}

-- ---- heads

-- Each bound is the sum of the bounds of its parts, so that no comparison opens a list.
size-joined : (front rest : List AvpParts) (k n : ℕ) → size front ≤ k → size rest ≤ n → size (front ++ rest) ≤ k + n
size-joined front rest k n first second = omega (arith, size-append front rest)

size-up-to : (code : ℕ) (body : List ℕ) (k : ℕ) → length body ≤ k → size (plain_avp code body ∷ []) ≤ k + 11
size-up-to code body k short = omega (arith, size-plain code body)

size-pair : (a b : AvpParts) (k n : ℕ) → size (a ∷ []) ≤ k → size (b ∷ []) ≤ n → size (a ∷ b ∷ []) ≤ k + n
size-pair a b k n first second = size-joined (a ∷ []) (b ∷ []) k n first second

at-most-four : (n : ℕ) → length (u32 n) ≤ 4
unfolding u32
at-most-four n = omega arith

size-four : (code n : ℕ) → size (plain_avp code (u32 n) ∷ []) ≤ 15
size-four code n = size-up-to code (u32 n) 4 (at-most-four n)

origin-size : (client : Client) → ClientInLimits client → size (origin_avps client.origin_host client.origin_realm) ≤ 150
origin-size client within =
    size-pair (plain_avp 264 client.origin_host) (plain_avp 296 client.origin_realm) 75 75
    (size-up-to 264 client.origin_host 64 (host_is_short client within))
    (size-up-to 296 client.origin_realm 64 (realm_is_short client within))

host-size : (host : Option (List ℕ)) → IfSome host (λ h. length h ≤ 255) → size (host_avps host) ≤ 266
host-size None short = omega (arith, size-nil)
host-size (Some host) short = size-up-to 293 host 255 short

route-end : (client : Client) (realm : List ℕ) → ClientInLimits client → length realm ≤ 255 → size (origin_avps client.origin_host client.origin_realm ++ plain_avp 283 realm ∷ []) ≤ 416
route-end client realm within short =
    size-joined (origin_avps client.origin_host client.origin_realm) (plain_avp 283 realm ∷ []) 150 266
    (origin-size client within) (size-up-to 283 realm 255 short)

auth_names-size : (application : ℕ) (client : Client) (route : RouteParts) → ClientInLimits client → RouteFits 244 route → size (auth_names application client route) ≤ 686
auth_names-size application client route within fits =
    let rest = origin_avps client.origin_host client.origin_realm ++ plain_avp 283 route.realm ∷ [] in
    size-joined (plain_avp 263 route.session ∷ []) (plain_avp 258 (u32 application) ∷ rest) 255 431
    (size-up-to 263 route.session 244 fits.session)
    (size-joined (plain_avp 258 (u32 application) ∷ []) rest 15 416 (size-four 258 application) (route-end client route.realm within fits.realm))

auth_head-size : (application : ℕ) (client : Client) (packet : PacketParts) (route : RouteParts) → ClientInLimits client → RouteFits 244 route → size (auth_head application client packet route) ≤ 982
auth_head-size application client packet route within fits =
    let kind = plain_avp 274 (u32 (request_type packet)) in
    let origin = plain_avp 408 (u32 1) in
    size-joined (auth_names application client route) (host_avps route.host ++ kind ∷ origin ∷ []) 686 296
    (auth_names-size application client route within fits)
    (size-joined (host_avps route.host) (kind ∷ origin ∷ []) 266 30 (host-size route.host fits.host)
    (size-pair kind origin 15 15 (size-four 274 (request_type packet)) (size-four 408 1)))

head-size : (client : Client) (packet : PacketParts) (route : RouteParts) → ClientInLimits client → RouteFits 1024 route → size (accounting.head client packet route) ≤ 1511
head-size client packet route within fits =
    let all = packet.attributes in
    let rest = origin_avps client.origin_host client.origin_realm ++ plain_avp 283 route.realm ∷ [] in
    let kind = accounting.record_type (status all) in
    let place = accounting.record_number (status all) (accounting.session_time all) in
    size-joined (names client route.session route.realm) (accounting.record_avps all) 1451 60
    (size-joined (plain_avp 263 route.session ∷ []) rest 1035 416
    (size-up-to 263 route.session 1024 fits.session) (route-end client route.realm within fits.realm))
    (size-joined (plain_avp 480 (u32 kind) ∷ plain_avp 485 (u32 place) ∷ []) (plain_avp 259 (u32 3) ∷ plain_avp 408 (u32 1) ∷ []) 30 30
    (size-pair (plain_avp 480 (u32 kind)) (plain_avp 485 (u32 place)) 15 15 (size-four 480 kind) (size-four 485 place))
    (size-pair (plain_avp 259 (u32 3)) (plain_avp 408 (u32 1)) 15 15 (size-four 259 3) (size-four 408 1)))

-- ---- messages

avps-of : (h : Header) (avps : List ℕ) → (parts_of (message_text h avps)).avps ≡ avps
unfolding message_text header_text u24 u32
avps-of h avps = refl

whole-text : (h : Header) (list : List AvpParts) → IsHeader h → size list ≤ 65516 → IsWhole (message_text h (avps_text list))
whole-text h list is short =
    let avps = avps_text list in
    let message : IsMessage (message_text h avps) h avps = IsMessage-message_text h avps is (length-avps_text list) (omega arith) in
    subst (λ (g : Header). IsMessage (message_text h avps) g (parts_of (message_text h avps)).avps) (sym (header_of-text h avps is))
    (subst (λ (xs : List ℕ). IsMessage (message_text h avps) h xs) (sym (avps-of h avps)) message)

-- ---- images

-- what is known of a packet whose request is sent
pub record Sendable (kind : Kind2) (client : Client) (packet : PacketParts) (route : RouteParts) : Type 0 where
  pub within : ClientInLimits client
  pub judged : IsJudged kind client packet
  pub fits : RouteFits (longest_session kind) route
  pub authenticator : length packet.authenticator ≡ 16
  pub attributes : length (attributes_text packet.attributes) ≤ 4076

-- a head and its pieces, which have so many octets for each of the attributes
fits-message : (head pieces after : List AvpParts) (k most count : ℕ) → size head ≤ k → after ≡ pieces → size after ≤ most * count
    → k + most * count ≤ 65516 → size (head ++ pieces) ≤ 65516
fits-message head pieces after k most count first same second few = omega (arith, size-append head pieces, ap size same)

access-size : (client : Client) (packet : PacketParts) (route : RouteParts) → Sendable Access client packet route → size (access.request_avps client packet route) ≤ 65516
access-size client packet route s =
    let few = s.attributes in
    fits-message (auth_head 1 client packet route) (access.pieces client packet) _
    982 14 (length (attributes_text packet.attributes))
    (auth_head-size 1 client packet route s.within s.fits) (access_pieces.pieces-are client packet)
    (access_pieces.pieces_after-size client packet s.authenticator (judged-passwords client packet Access s.judged)) (omega arith)

eap-size : (client : Client) (packet : PacketParts) (route : RouteParts) → Sendable Eap client packet route → size (eap.request_avps client packet route) ≤ 65516
eap-size client packet route s =
    let few = s.attributes in
    fits-message (auth_head 5 client packet route) (eap.pieces packet) _
    982 15 (length (attributes_text packet.attributes))
    (auth_head-size 5 client packet route s.within s.fits) (eap_pieces.pieces-are packet) (eap_pieces.pieces_after-size packet) (omega arith)

accounting-size : (client : Client) (packet : PacketParts) (route : RouteParts) → ClientInLimits client → RouteFits 1024 route → length (attributes_text packet.attributes) ≤ 4076 → size (accounting.request_avps client packet route) ≤ 65516
accounting-size client packet route within fits few =
    let all = packet.attributes in
    fits-message (accounting.head client packet route) (accounting.pieces all) _
    1511 14 (length (attributes_text all))
    (head-size client packet route within fits) (accounting_pieces.pieces-are all) (accounting_pieces.pieces_after-size all) (omega arith)

accounting-whole : (kind : Kind2) (client : Client) (packet : PacketParts) (route : RouteParts) (numbers : Numbers) → IsHeader (accounting.request_header numbers) → ClientInLimits client → RouteFits 1024 route → length (attributes_text packet.attributes) ≤ 4076 → IsWhole (accounting_image client packet route numbers)
unfolding accounting_image
accounting-whole kind client packet route numbers is within fits few =
    whole-text (accounting.request_header numbers) (accounting.request_avps client packet route) is (accounting-size client packet route within fits few)

pub image-whole : (kind : Kind2) (client : Client) (packet : PacketParts) (route : RouteParts) (numbers : Numbers) → AreNumbers numbers → Sendable kind client packet route → IsWhole (image kind client packet route numbers)
unfolding access_image eap_image
image-whole Access client packet route numbers are s =
    whole-text (access.request_header numbers) (access.request_avps client packet route) (header_by-fits Access numbers are) (access-size client packet route s)
image-whole Eap client packet route numbers are s =
    whole-text (eap.request_header numbers) (eap.request_avps client packet route) (header_by-fits Eap numbers are) (eap-size client packet route s)
image-whole Start client packet route numbers are s = accounting-whole Start client packet route numbers (header_by-fits Start numbers are) s.within s.fits s.attributes
image-whole Interim client packet route numbers are s = accounting-whole Interim client packet route numbers (header_by-fits Interim numbers are) s.within s.fits s.attributes
image-whole Stop client packet route numbers are s = accounting-whole Stop client packet route numbers (header_by-fits Stop numbers are) s.within s.fits s.attributes
