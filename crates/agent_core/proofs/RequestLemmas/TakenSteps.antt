-- A request is taken up: the step is the place.
use Rattle.std.proofs.Common.{◌≡◌, ℕ, ◌+◌, ◌<◌, ◌≤◌, inl, Bool, true, false, cond, List, [], ◌∷◌, ◌++◌, length, filter, Some, None, refl, sym, ◌∙◌, ap, subst, arith}
use Rattle.std.specs.Prelude.{slice_get, count_by}
use Rattle.std.specs.List.{AllByRecursion}
use Rattle.std.proofs.lemmas.Bool.{eq-eqb, ne_eqb}
use Rattle.std.proofs.lemmas.List.{length-append}
use Rattle.std.proofs.lemmas.List.Elements.{filter-append}
use Rattle.radius_packet.specs.declared.reasons.Via.{Via}
use Rattle.diameter_message.specs.declared.header.Header.{Header}
use Rattle.diameter_message.specs.Message.{IsHeader}
use Rattle.session_carrier.specs.declared.kept.Kind2.{Kind2}
use Rattle.session_carrier.specs.declared.kept.Kind2.TheVariants.{Access, Eap, Start, Interim, Stop}
use Rattle.session_carrier.specs.declared.kept.Numbers.{Numbers}
use Rattle.agent_settings.specs.declared.config.Config.{Config}
use Rattle.peer_machine.specs.Reading.{is_application_command}
use Rattle.agent_events.specs.declared.events.Input.TheVariants.{Datagram}
use Rattle.agent_events.specs.declared.events.Output.TheVariants.{Send}
use Rattle.agent_core.specs.declared.ledger.Ledger.{Ledger}
use Rattle.agent_core.specs.Links.{with_requests}
use Rattle.agent_core.specs.Fits.{header_by}
use Rattle.agent_core.specs.Verdict.{Request}
use Rattle.agent_core.specs.Requests.{is_fresh, request_sent, route_of}
use Rattle.agent_core.specs.Rooms.{rooms}
use Rattle.std.specs.Option.{option_map_or}
use Rattle.agent_core.specs.Places.{Place, Taking, now, link, takings, is_at, hop_at, rank, used, base, serial, live, is_sent, header_of, is_application_request, is_base_request, is_first_request}
use Rattle.agent_core.specs.History.{peer, taking_of, taking_place, next_numbers}
use Rattle.agent_core.specs.Machine.{says, count_of, row_for, sent_for, with_row}
use Rattle.agent_core.specs.Standing.{StandsAt, last_sent}
use Rattle.agent_core.proofs.ListLemmas.Lists.{AllByRecursion-filter, AllByRecursion-weaken}
use Rattle.agent_core.proofs.ImageLemmas.Headers.{AreNumbers, header_of-image, header_by-counts}
use Rattle.agent_core.proofs.RequestLemmas.Refusals.{Admits}
use Rattle.agent_core.proofs.LawLemmas.Soundness.{TakingFits, TakingFits-new, SentFits, Goes, hop-elsewhere}
use Rattle.agent_core.proofs.LawLemmas.Rising.{Rises}
use Rattle.agent_core.proofs.LawLemmas.Sound.{IsSound, IsSound-taken}
use Rattle.agent_core.proofs.RequestLemmas.TakenPlaces.{taken-entries, sent-agrees}
use Rattle.agent_core.proofs.StandingLemmas.Steps.{Before, Reaches, numbers-fit}

-- ---- what it sends

pub header_by-fits : (kind : Kind2) (numbers : Numbers) → AreNumbers numbers → IsHeader (header_by kind numbers)
header_by-fits Access numbers are = record { flags = omega arith; command = omega arith; application = omega arith; hop = are.hop; end = are.end }
header_by-fits Eap numbers are = record { flags = omega arith; command = omega arith; application = omega arith; hop = are.hop; end = are.end }
header_by-fits Start numbers are = record { flags = omega arith; command = omega arith; application = omega arith; hop = are.hop; end = are.end }
header_by-fits Interim numbers are = record { flags = omega arith; command = omega arith; application = omega arith; hop = are.hop; end = are.end }
header_by-fits Stop numbers are = record { flags = omega arith; command = omega arith; application = omega arith; hop = are.hop; end = are.end }

header_by-flags : (kind : Kind2) (numbers : Numbers) → (header_by kind numbers).flags ≡ 192
header_by-flags Access numbers = refl
header_by-flags Eap numbers = refl
header_by-flags Start numbers = refl
header_by-flags Interim numbers = refl
header_by-flags Stop numbers = refl

header_by-application : (kind : Kind2) (numbers : Numbers) → is_application_command (header_by kind numbers).command ≡ true
header_by-application Access numbers = refl
header_by-application Eap numbers = refl
header_by-application Start numbers = refl
header_by-application Interim numbers = refl
header_by-application Stop numbers = refl

pub sent-header : (config : Config) (request : Request) (numbers : Numbers) (n : ℕ) → AreNumbers numbers → header_of (request_sent config request numbers n) ≡ header_by request.kind numbers
sent-header config request numbers n are =
    header_of-image request.kind request.settings request.packet (route_of config request n) numbers are

sent-fits : (octets : List ℕ) (kind : Kind2) (numbers : Numbers) → AreNumbers numbers → header_of octets ≡ header_by kind numbers → SentFits octets
sent-fits octets kind numbers are is = record {
  whole = record { header = subst IsHeader (sym is) (header_by-fits kind numbers are) };
  flags = ap (λ (h : Header). h.flags) is ∙ header_by-flags kind numbers;
  application = ap (λ (h : Header). is_application_command h.command) is ∙ header_by-application kind numbers;
}

-- ---- the past with it

-- what is known of a request whose datagram is authentic
pub record RequestFits (config : Config) (request : Request) : Type 0 where
  pub settings : slice_get config.clients request.client ≡ Some request.settings

taken-goes : (config : Config) (ps : List Place) (m : ℕ) (via : Via) (address port : ℕ) (octets : List ℕ) (t : Taking) → now ps ≤ m → Goes ps (taking_place config ps m (Datagram via address port octets) t)
taken-goes config ps m via address port octets t later =
    record { later = later; number = refl; resent = omega arith; order = tt; unused = inl refl }

-- the new one has the greatest hop
new-rises : (config : Config) (ps : List Place) (p : Place) (t u : Taking) → is_at u.place p.taken ≡ false → p.resent ≡ [] → p.link.number ≡ (link ps).number → last_sent (p ∷ ps) t ≡ (p.link.number, used ps) → TakingFits config ps u → Rises (p ∷ ps) u t
new-rises config ps p t u apart alone same last fits =
    let hop = hop-elsewhere u p apart ∙ ap (rank u.place 0) alone in
    let was : last_sent (p ∷ ps) u ≡ last_sent ps u = ap (λ o. option_map_or (λ k. (p.link.number, k)) o (last_sent ps u)) hop in
    λ here there.
    let within : (last_sent ps u).1 < used ps = fits.within (ap (λ (l : ℕ × ℕ). l.0) (sym was) ∙ here ∙ same) in
    let first : (last_sent (p ∷ ps) u).1 ≡ (last_sent ps u).1 = ap (λ (l : ℕ × ℕ). l.1) was in
    let second : (last_sent (p ∷ ps) t).1 ≡ used ps = ap (λ (l : ℕ × ℕ). l.1) last in
    omega arith

record Counted (octets : List ℕ) : Type 0 where
  pub application : count_by (is_sent is_application_request) (Send octets ∷ []) ≡ 1
  pub base : count_by (is_sent is_base_request) (Send octets ∷ []) ≡ 0
  pub first : count_by (is_sent is_first_request) (Send octets ∷ []) ≡ 1

counted : (octets : List ℕ) (kind : Kind2) (numbers : Numbers) → header_of octets ≡ header_by kind numbers → Counted octets
counted octets kind numbers is =
    let counts = header_by-counts kind numbers in
    record {
      application = ap (λ (b : Bool). 0 + cond b 1 0) (ap is_application_request is ∙ counts.application);
      base = ap (λ (b : Bool). 0 + cond b 1 0) (ap is_base_request is ∙ counts.base);
      first = ap (λ (b : Bool). 0 + cond b 1 0) (ap is_first_request is ∙ counts.first_is);
    }

taken-sound : (ps : List Place) (m : ℕ) (S : Ledger) → Before ps m S → (via : Via) (address port : ℕ) (octets : List ℕ) (request : Request) → RequestFits S.config request → Admits S.config (rooms S.config ps m) → IsSound S.config (taking_place S.config ps m (Datagram via address port octets) (taking_of S.config ps m request) ∷ ps)
taken-sound ps m S b via address port octets request fits admits =
    let t = taking_of S.config ps m request in
    let p = taking_place S.config ps m (Datagram via address port octets) t in
    let numbers = numbers-fit ps m S b in
    let header = sent-header S.config request (next_numbers S.config ps) (serial ps) numbers in
    let here : is_at t.place p.taken ≡ true = eq-eqb (length ps) (length ps) refl in
    let next : t.hop < used (p ∷ ps) = (let h = (counted t.sent request.kind (next_numbers S.config ps) header).application in omega arith) in
    let hop : hop_at t p ≡ Some t.hop = ap (λ c. cond c (Some t.hop) None) here in
    let last : last_sent (p ∷ ps) t ≡ (p.link.number, used ps) = ap (λ o. option_map_or (λ k. (p.link.number, k)) o (last_sent ps t)) hop in
    let rises : AllByRecursion (λ (u : Taking). Rises (p ∷ ps) u t) (takings ps) =
    AllByRecursion-weaken (TakingFits S.config ps) (λ u. Rises (p ∷ ps) u t)
    (λ u f. new-rises S.config ps p t u (ne_eqb (length ps) u.place (λ (e : length ps ≡ u.place). let h = f.placed in omega arith)) refl refl last f)
    (takings ps) b.sound.each
    in
    IsSound-taken S.config ps m (Datagram via address port octets) t (taken-goes S.config ps m via address port octets t b.later) refl
    (TakingFits-new S.config ps p t here refl (omega arith) (omega arith) next fits.settings (sent-fits t.sent request.kind (next_numbers S.config ps) numbers header))
    rises admits.serial b.sound

-- ---- the step

fresh-count : (b : Bool) (t : Taking) → t.fresh ≡ b → length (filter (λ (u : Taking). u.fresh) (t ∷ [])) ≡ count_of b
fresh-count true t is = ap (λ (c : Bool). length (cond c (t ∷ []) [])) is
fresh-count false t is = ap (λ (c : Bool). length (cond c (t ∷ []) [])) is

taken-stands : (ps : List Place) (m : ℕ) (S : Ledger) → Before ps m S → (via : Via) (address port : ℕ) (octets : List ℕ) (request : Request) → StandsAt (taking_place S.config ps m (Datagram via address port octets) (taking_of S.config ps m request) ∷ ps) m (with_row S (row_for S request) (is_fresh request))
taken-stands ps m S b via address port octets request =
    let input = Datagram via address port octets in
    let t = taking_of S.config ps m request in
    let p = taking_place S.config ps m input t in
    let stands = b.stands in
    let sends = counted t.sent request.kind (next_numbers S.config ps) (sent-header S.config request (next_numbers S.config ps) (serial ps) (numbers-fit ps m S b)) in
    let fresh = λ (u : Taking). u.fresh in
    let application = sends.application in
    let first = sends.first in
    let apart : AllByRecursion (λ (u : Taking). is_at u.place (Some t) ≡ false) (live S.config ps m) =
    AllByRecursion-filter (λ (u : Taking). is_at u.place (Some t) ≡ false) _ (takings ps)
    (AllByRecursion-weaken (TakingFits S.config ps) (λ u. is_at u.place (Some t) ≡ false)
    (λ u f. ne_eqb (length ps) u.place (λ (e : length ps ≡ u.place). let h = f.placed in omega arith)) (takings ps) b.sound.each)
    in
    let base-stays : base (p ∷ ps) ≡ base ps = (let h = sends.base in omega arith) in
    let any : count_by (is_sent (λ h. true)) (Send t.sent ∷ []) ≡ 1 = refl in
    record {
      moment = stands.moment;
      peer = stands.peer ∙ ap (λ n. record (peer S.config ps) { link = with_requests (link ps) n }) (sym base-stays);
      used = let h = stands.used in omega arith;
      outbox = let h = stands.outbox in omega arith;
      total = let h = stands.total in omega arith;
      serial =
          let split : length (filter fresh (takings ps ++ t ∷ [])) ≡ length (filter fresh (takings ps)) + length (filter fresh (t ∷ [])) = ap length (filter-append fresh (takings ps) (t ∷ [])) ∙ length-append (filter fresh (takings ps)) (filter fresh (t ∷ [])) in
          let one = fresh-count (is_fresh request) t refl in
          ap (λ n. n + count_of (is_fresh request)) stands.serial
          ∙ ap (λ n. length (filter fresh (takings ps)) + n) (sym one)
          ∙ sym split;
      capacity = stands.capacity;
      patience = stands.patience;
      retention = stands.retention;
      entries = taken-entries ps m S input request stands b.lasts.patience (b.sound.open_ahead (length ps) (omega arith)) apart;
    }

pub taken-reaches : (ps : List Place) (m : ℕ) (S : Ledger) → Before ps m S → (via : Via) (address port : ℕ) (octets : List ℕ) (request : Request) → RequestFits S.config request → Admits S.config (rooms S.config ps m) → Reaches ps m S (taking_place S.config ps m (Datagram via address port octets) (taking_of S.config ps m request)) (says (with_row S (row_for S request) (is_fresh request)) (Send (sent_for S request) ∷ []))
taken-reaches ps m S b via address port octets request fits admits = record {
  follows = record {
    stands = taken-stands ps m S b via address port octets request;
    outputs = ap (λ sent. Send sent ∷ []) (sent-agrees ps m S request b.stands);
    config = refl;
    moment = refl;
  };
  sound = taken-sound ps m S b via address port octets request fits admits;
}
