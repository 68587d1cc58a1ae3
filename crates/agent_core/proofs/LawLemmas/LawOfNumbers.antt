-- The numbers of the requests that go out.
use Rattle.std.proofs.Common.{◌≡◌, ℕ, ◌+◌, ◌%◌, ◌<◌, ◌≤◌, ◌^◌, ◌⊎◌, inl, inr, Bool, true, false, cond, List, [], ◌∷◌, ◌++◌, length, map, Option, Some, None, option_map, refl, sym, ◌∙◌, ap, subst, arith}
use Rattle.std.specs.Prelude.{◌==◌, count_by, option_to_list, max}
use Rattle.std.specs.List.{AllByRecursion, enumerate_from}
use Rattle.std.proofs.lemmas.List.{length-append}
use Rattle.radius_packet.specs.declared.reasons.Reason.{Reason}
use Rattle.radius_packet.specs.declared.reasons.Reason.TheVariants as reasons
use Rattle.diameter_avp.specs.Avps.{avps_text}
use Rattle.diameter_message.specs.declared.header.Header.{Header}
use Rattle.diameter_message.specs.PlainAvps.{origin_avps}
use Rattle.diameter_message.specs.Message.{MessageParts, IsHeader}
use Rattle.session_carrier.specs.declared.kept.Kind2.{Kind2}
use Rattle.session_carrier.specs.declared.kept.Kind2.TheVariants.{Access, Eap, Start, Interim, Stop}
use Rattle.agent_settings.specs.declared.config.Config.{Config}
use Rattle.pending_table.specs.declared.key.Key.{Key}
use Rattle.peer_machine.specs.declared.LinkCause.{LinkCause}
use Rattle.peer_machine.specs.declared.messages.Names.{Names}
use Rattle.peer_machine.specs.declared.words.LinkState.{LinkState}
use Rattle.peer_machine.specs.declared.words.BaseRequest.{BaseRequest}
use Rattle.peer_machine.specs.declared.words.BaseRequest.TheVariants.{CapabilitiesExchange, DeviceWatchdog, DisconnectPeer}
use Rattle.peer_machine.specs.declared.words.Act.{Act}
use Rattle.peer_machine.specs.declared.words.Act.TheVariants.{Nothing, Serve, Discard, Pass, Close, Request, Answer, AnswerAndClose}
use Rattle.peer_machine.specs.declared.words.Event.{Event as LinkEvent}
use Rattle.peer_machine.specs.Messages.{command_of, details, request_header, request_text}
use Rattle.peer_machine.specs.Step.{PeerParts, link_at, sent, is_request as asks}
use Rattle.agent_events.specs.declared.events.Input.{Input}
use Rattle.agent_events.specs.declared.events.Output.{Output}
use Rattle.agent_events.specs.declared.events.Output.TheVariants.{Reply, Send, Dropped, Closed}
use Rattle.agent_core.specs.declared.ledger.Ledger.{Ledger}
use Rattle.agent_core.specs.Settings.{names, end_number}
use Rattle.agent_core.specs.Fits.{header_by}
use Rattle.agent_core.specs.Places.{Place, Taking, now, link, begins, opens, waiting, used, base, total, serial, answer_to, header_of, is_sent, send_count, sent_on_link, is_application_request, is_base_request, is_first_request}
use Rattle.agent_core.specs.History.{at_input, past, peer, repeated, taking_of, linked, link_act, link_after, link_output, link_outputs, resends, again, outcome, reply_outputs, next_numbers}
use Rattle.agent_core.specs.Machine.{begins_by, count_of, opens_then}
use Rattle.agent_core.specs.Standing.{StandsAt, IsRoomy}
use Rattle.agent_core.specs.LawsOfSends.{RequestsAreNumbered, headers_in, headers_on_link, headers_so_far}
use Rattle.agent_core.proofs.ListLemmas.Lists.{AllByRecursion-weaken}
use Rattle.agent_core.proofs.LawLemmas.Counts.{count-cons, own-application, own-base, own-first, resends-count, again-application, again-base, again-first}
use Rattle.agent_core.proofs.LawLemmas.Soundness.{SentFits, IsUnused}
use Rattle.agent_core.proofs.ImageLemmas.Headers.{Counts, header_of-text, header_by-counts, EndsSession, termination_header-counts}
use Rattle.agent_core.proofs.AnswerLemmas.FollowHeaders.{follow_ends_session}
use Rattle.agent_core.proofs.RequestLemmas.TakenSteps.{sent-header}
use Rattle.agent_core.proofs.StandingLemmas.Agreeing.{StandsAt-later, opens-agrees}
use Rattle.agent_core.proofs.LinkLemmas.LinkRequests.{noted-requests}
use Rattle.agent_core.proofs.LinkLemmas.Opening.{opening}
use Rattle.agent_core.proofs.RoomLemmas.Roomy.{IsRoomy-later, before-opening}
use Rattle.agent_core.proofs.StandingLemmas.Histories.{Standing}
use Rattle.agent_core.proofs.LawLemmas.LawOfRooms.{room_is_left}
use Rattle.agent_core.proofs.LawLemmas.LawOfImages.{Ready, ready, numbers-ready, resent-fits, again-header, append-nil, fewer-if}
use Rattle.agent_core.proofs.LawLemmas.LawPlaces.{place-by, history-by, known}

-- ---- lists of headers

number-append : (P : ℕ × Header → Type 0) (n k : ℕ) (xs ys : List Header) → k ≡ n + length xs → AllByRecursion P (enumerate_from n xs) → AllByRecursion P (enumerate_from k ys) → AllByRecursion P (enumerate_from n (xs ++ ys))
number-append P n k [] ys is all more =
    let same : k ≡ n = omega arith in
    subst (λ j. AllByRecursion P (enumerate_from j ys)) same more
number-append P n k (x ∷ xs) ys is all more = (all.0, number-append P (n + 1) k xs ys (omega arith) all.1 more)

headers-append : (test : Header → Bool) (xs ys : List Output) → headers_in test (xs ++ ys) ≡ headers_in test xs ++ headers_in test ys
headers-append test [] ys = refl
headers-append test (Send octets ∷ xs) ys =
    elim (test (header_of octets)) as (λ b. cond b (header_of octets ∷ headers_in test (xs ++ ys)) (headers_in test (xs ++ ys)) ≡ cond b (header_of octets ∷ headers_in test xs) (headers_in test xs) ++ headers_in test ys) [
      | true ↦ ap (λ r. header_of octets ∷ r) (headers-append test xs ys)
      | false ↦ headers-append test xs ys
    ]
headers-append test (Reply via address port octets ∷ xs) ys = headers-append test xs ys
headers-append test (Dropped reason ∷ xs) ys = headers-append test xs ys
headers-append test (Closed cause ∷ xs) ys = headers-append test xs ys

headers-count : (test : Header → Bool) (xs : List Output) → length (headers_in test xs) ≡ count_by (is_sent test) xs
headers-count test [] = refl
headers-count test (Send octets ∷ xs) =
    let rest : length (headers_in test xs) ≡ count_by (is_sent test) xs = headers-count test xs in
    elim (test (header_of octets)) as (λ b. length (cond b (header_of octets ∷ headers_in test xs) (headers_in test xs)) ≡ cond b 1 0 + count_by (is_sent test) xs) [
      | true ↦ omega arith
      | false ↦ omega arith
    ]
    ∙ sym (count-cons (is_sent test) (Send octets) xs)
headers-count test (Reply via address port octets ∷ xs) =
    let rest : length (headers_in test xs) ≡ count_by (is_sent test) xs = headers-count test xs in
    let all : length (headers_in test xs) ≡ cond false 1 0 + count_by (is_sent test) xs = omega arith in
    all ∙ sym (count-cons (is_sent test) (Reply via address port octets) xs)
headers-count test (Dropped reason ∷ xs) =
    let rest : length (headers_in test xs) ≡ count_by (is_sent test) xs = headers-count test xs in
    let all : length (headers_in test xs) ≡ cond false 1 0 + count_by (is_sent test) xs = omega arith in
    all ∙ sym (count-cons (is_sent test) (Dropped reason) xs)
headers-count test (Closed cause ∷ xs) =
    let rest : length (headers_in test xs) ≡ count_by (is_sent test) xs = headers-count test xs in
    let all : length (headers_in test xs) ≡ cond false 1 0 + count_by (is_sent test) xs = omega arith in
    all ∙ sym (count-cons (is_sent test) (Closed cause) xs)

empty : (xs : List Header) → length xs ≡ 0 → xs ≡ []
empty [] e = refl
empty (x ∷ xs) e = absurd (omega arith)

none-in : (test : Header → Bool) (xs : List Output) → count_by (is_sent test) xs ≡ 0 → headers_in test xs ≡ []
none-in test xs none = empty (headers_in test xs) (headers-count test xs ∙ none)

link-count : (test : Header → Bool) (ps : List Place) → length (headers_on_link test ps) ≡ sent_on_link test ps
link-count test [] = refl
link-count test (p ∷ ps) =
    let here : length (headers_in test p.outputs) ≡ send_count test p = headers-count test p.outputs in
    let before : length (headers_on_link test ps) ≡ sent_on_link test ps = link-count test ps in
    length-append (cond (begins ps p.input) [] (headers_on_link test ps)) (headers_in test p.outputs)
    ∙ elim (begins ps p.input) as (λ b. length (cond b [] (headers_on_link test ps)) + length (headers_in test p.outputs) ≡ cond b (send_count test p) (sent_on_link test ps + send_count test p)) [
      | true ↦ omega arith
      | false ↦ omega arith
    ]

total-count : (ps : List Place) → length (headers_so_far is_first_request ps) ≡ total ps
total-count [] = refl
total-count (p ∷ ps) =
    let here : length (headers_in is_first_request p.outputs) ≡ send_count is_first_request p = headers-count is_first_request p.outputs in
    let before : length (headers_so_far is_first_request ps) ≡ total ps = total-count ps in
    length-append (headers_so_far is_first_request ps) (headers_in is_first_request p.outputs) ∙ omega arith

-- ---- what holds of the numbers

abbrev ByPlace : ℕ × Header → Type 0
ByPlace k = k.1.hop ≡ k.0

abbrev ByBase : ℕ × Header → Type 0
ByBase k = k.1.hop ≡ 2147483648 + k.0 % 2147483648

abbrev ByEnd : Config → ℕ × Header → Type 0
ByEnd config k = k.1.end ≡ end_number config k.0

-- so many were sent over the link before this input
abbrev so_far : List Place → Input → ℕ → ℕ
so_far ps input n = cond (begins ps input) 0 n

record NumbersAt (config : Config) (ps : List Place) (p : Place) : Type 0 where
  pub application : AllByRecursion ByPlace (enumerate_from (so_far ps p.input (used ps)) (headers_in is_application_request p.outputs))
  pub base : AllByRecursion ByBase (enumerate_from (so_far ps p.input (base ps)) (headers_in is_base_request p.outputs))
  pub first : AllByRecursion (ByEnd config) (enumerate_from (total ps) (headers_in is_first_request p.outputs))

record AllNumbered (config : Config) (ps : List Place) : Type 0 where
  pub application : AllByRecursion ByPlace (enumerate_from 0 (headers_on_link is_application_request ps))
  pub base : AllByRecursion ByBase (enumerate_from 0 (headers_on_link is_base_request ps))
  pub first : AllByRecursion (ByEnd config) (enumerate_from 0 (headers_so_far is_first_request ps))

on-link : (P : ℕ × Header → Type 0) (b : Bool) (n : ℕ) (xs ys : List Header) → length xs ≡ n → AllByRecursion P (enumerate_from 0 xs) → AllByRecursion P (enumerate_from (cond b 0 n) ys) → AllByRecursion P (enumerate_from 0 (cond b [] xs ++ ys))
on-link P true n xs ys many all more = more
on-link P false n xs ys many all more = number-append P 0 n xs ys (omega arith) all more

numbered-on : (config : Config) (p : Place) (ps : List Place) → NumbersAt config ps p → AllNumbered config ps → AllNumbered config (p ∷ ps)
numbered-on config p ps here before = record {
  application = on-link ByPlace (begins ps p.input) (used ps) (headers_on_link is_application_request ps) (headers_in is_application_request p.outputs) (link-count is_application_request ps) before.application here.application;
  base = on-link ByBase (begins ps p.input) (base ps) (headers_on_link is_base_request ps) (headers_in is_base_request p.outputs) (link-count is_base_request ps) before.base here.base;
  first =
      let many = total-count ps in
      number-append (ByEnd config) 0 (total ps) (headers_so_far is_first_request ps) (headers_in is_first_request p.outputs) (omega arith) before.first here.first;
}

-- ---- places that send nothing

none-each : (P : ℕ × Header → Type 0) (n : ℕ) (xs : List Header) → xs ≡ [] → AllByRecursion P (enumerate_from n xs)
none-each P n xs none = subst (λ ys. AllByRecursion P (enumerate_from n ys)) (sym none) tt

none-at : (config : Config) (ps : List Place) (p : Place) → ((test : Header → Bool) → headers_in test p.outputs ≡ []) → NumbersAt config ps p
none-at config ps p none = record {
  application = none-each ByPlace _ _ (none is_application_request);
  base = none-each ByBase _ _ (none is_base_request);
  first = none-each (ByEnd config) _ _ (none is_first_request);
}

repeated-none : (key : Key) (o : Option (Option (List ℕ))) (test : Header → Bool) → headers_in test (repeated key o) ≡ []
repeated-none key None test = refl
repeated-none key (Some None) test = refl
repeated-none key (Some (Some octets)) test = refl

unmatched-none : (b : Bool) (test : Header → Bool) → headers_in test (cond b [] (Dropped reasons.Unmatched ∷ [])) ≡ []
unmatched-none true test = refl
unmatched-none false test = refl

-- ---- one application request, the next one

one-each : (P : ℕ × Header → Type 0) (n : ℕ) (xs : List Header) (h : Header) → xs ≡ h ∷ [] → P (n, h) → AllByRecursion P (enumerate_from n xs)
one-each P n xs h is holds = subst (λ ys. AllByRecursion P (enumerate_from n ys)) (sym is) (holds, tt)

one-sent : (test : Header → Bool) (octets : List ℕ) (h : Header) (b : Bool) → header_of octets ≡ h → test h ≡ b → headers_in test (Send octets ∷ []) ≡ cond b (h ∷ []) []
one-sent test octets h b is holds = ap (λ (g : Header). cond (test g) (g ∷ []) []) is ∙ ap (λ c. cond c (h ∷ []) []) holds

-- the header of the next application request
record IsNext (config : Config) (ps : List Place) (h : Header) : Type 0 where
  pub counts : Counts true h
  pub hop : h.hop ≡ used ps
  pub end : h.end ≡ end_number config (total ps)

record SendsNext (config : Config) (ps : List Place) (outputs : List Output) : Type 0 where
  pub application : AllByRecursion ByPlace (enumerate_from (used ps) (headers_in is_application_request outputs))
  pub base : AllByRecursion ByBase (enumerate_from (base ps) (headers_in is_base_request outputs))
  pub first : AllByRecursion (ByEnd config) (enumerate_from (total ps) (headers_in is_first_request outputs))

next-sent : (config : Config) (ps : List Place) (octets : List ℕ) (h : Header) → header_of octets ≡ h → IsNext config ps h → SendsNext config ps (Send octets ∷ [])
next-sent config ps octets h is next = record {
  application = one-each ByPlace (used ps) _ h (one-sent is_application_request octets h true is next.counts.application) next.hop;
  base = none-each ByBase (base ps) _ (one-sent is_base_request octets h false is next.counts.base);
  first = one-each (ByEnd config) (total ps) _ h (one-sent is_first_request octets h true is next.counts.first_is) next.end;
}

next-at : (config : Config) (ps : List Place) (p : Place) → begins ps p.input ≡ false → SendsNext config ps p.outputs → NumbersAt config ps p
next-at config ps p quiet next = record {
  application = subst (λ b. AllByRecursion ByPlace (enumerate_from (cond b 0 (used ps)) (headers_in is_application_request p.outputs))) (sym quiet) next.application;
  base = subst (λ b. AllByRecursion ByBase (enumerate_from (cond b 0 (base ps)) (headers_in is_base_request p.outputs))) (sym quiet) next.base;
  first = next.first;
}

header_by-next : (config : Config) (ps : List Place) (kind : Kind2) → IsNext config ps (header_by kind (next_numbers config ps))
header_by-next config ps Access = record { counts = header_by-counts Access (next_numbers config ps); hop = refl; end = refl }
header_by-next config ps Eap = record { counts = header_by-counts Eap (next_numbers config ps); hop = refl; end = refl }
header_by-next config ps Start = record { counts = header_by-counts Start (next_numbers config ps); hop = refl; end = refl }
header_by-next config ps Interim = record { counts = header_by-counts Interim (next_numbers config ps); hop = refl; end = refl }
header_by-next config ps Stop = record { counts = header_by-counts Stop (next_numbers config ps); hop = refl; end = refl }

outcome-next : (config : Config) (ps : List Place) (key : Key) (reply follow : Option (List ℕ)) → ((octets : List ℕ) → follow ≡ Some octets → EndsSession (next_numbers config ps) octets) → SendsNext config ps (reply_outputs key reply ++ option_to_list (option_map Send follow))
outcome-next config ps key None None ends = record { application = tt; base = tt; first = tt }
outcome-next config ps key (Some reply) None ends = record { application = tt; base = tt; first = tt }
outcome-next config ps key None (Some octets) ends =
    let e = ends octets refl in
    next-sent config ps octets _ e.1 (record { counts = termination_header-counts e.0 (next_numbers config ps); hop = refl; end = refl })
outcome-next config ps key (Some reply) (Some octets) ends =
    let e = ends octets refl in
    let next = next-sent config ps octets _ e.1 (record { counts = termination_header-counts e.0 (next_numbers config ps); hop = refl; end = refl }) in
    record { application = next.application; base = next.base; first = next.first }

-- ---- the link

-- what the link says is counted by what it sends
link-headers : (test : Header → Bool) (send : Option (List ℕ)) (closed : Option LinkCause) (dropped : Option Reason) → headers_in test (option_to_list (option_map Send send) ++ option_to_list (option_map Closed closed) ++ option_to_list (option_map Dropped dropped)) ≡ headers_in test (option_to_list (option_map Send send))
link-headers test None None None = refl
link-headers test None None (Some r) = refl
link-headers test None (Some c) None = refl
link-headers test None (Some c) (Some r) = refl
link-headers test (Some o) None None = refl
link-headers test (Some o) None (Some r) = refl
link-headers test (Some o) (Some c) None = refl
link-headers test (Some o) (Some c) (Some r) = refl

abbrev own : Names → LinkState → ℕ → Option MessageParts → Act → List Output
own names l end message act = option_to_list (option_map Send (sent names l end message act))

command-small : (r : BaseRequest) → command_of r < 2 ^ 24
command-small CapabilitiesExchange = omega arith
command-small DeviceWatchdog = omega arith
command-small DisconnectPeer = omega arith

request-is : (names : Names) (r : BaseRequest) (hop end : ℕ) → hop < 2 ^ 32 → end < 2 ^ 32 → header_of (request_text names r hop end) ≡ request_header r hop end
unfolding request_text
request-is names r hop end hop_fits end_fits =
    let is : IsHeader (request_header r hop end) = record { flags = omega arith; command = command-small r; application = omega arith; hop = hop_fits; end = end_fits } in
    header_of-text (request_header r hop end) (avps_text (origin_avps names.host names.realm ++ details names r)) is

request-base : (r : BaseRequest) (hop end : ℕ) → is_base_request (request_header r hop end) ≡ true
request-base CapabilitiesExchange hop end = refl
request-base DeviceWatchdog hop end = refl
request-base DisconnectPeer hop end = refl

request-first : (r : BaseRequest) (hop end : ℕ) → is_first_request (request_header r hop end) ≡ true
request-first CapabilitiesExchange hop end = refl
request-first DeviceWatchdog hop end = refl
request-first DisconnectPeer hop end = refl

-- the link's own request has the next numbers
record OwnNumbers (config : Config) (n total : ℕ) (outputs : List Output) : Type 0 where
  pub base : AllByRecursion ByBase (enumerate_from n (headers_in is_base_request outputs))
  pub first : AllByRecursion (ByEnd config) (enumerate_from total (headers_in is_first_request outputs))

own-none : (config : Config) (n total : ℕ) (names : Names) (l : LinkState) (end : ℕ) (message : Option MessageParts) (act : Act) → asks act ≡ false → OwnNumbers config n total (own names l end message act)
own-none config n total names l end message act quiet = record {
  base = none-each ByBase n _ (none-in is_base_request (own names l end message act) (own-base names l end message act ∙ ap count_of quiet));
  first = none-each (ByEnd config) total _ (none-in is_first_request (own names l end message act) (own-first names l end message act ∙ ap count_of quiet));
}

own-request : (config : Config) (n total : ℕ) (names : Names) (l : LinkState) (message : Option MessageParts) (r : BaseRequest) → l.requests ≡ n % 2147483648 → OwnNumbers config n total (own names l (end_number config total) message (Request r))
own-request config n total names l message r next =
    let hop = 2147483648 + l.requests in
    let end = end_number config total in
    let octets = request_text names r hop end in
    let small : hop < 2 ^ 32 = omega arith in
    let is : header_of octets ≡ request_header r hop end = request-is names r hop end small (omega arith) in
    record {
      base = one-each ByBase n _ (request_header r hop end) (one-sent is_base_request octets (request_header r hop end) true is (request-base r hop end)) (ap (λ k. 2147483648 + k) next);
      first = one-each (ByEnd config) total _ (request_header r hop end) (one-sent is_first_request octets (request_header r hop end) true is (request-first r hop end)) refl;
    }

own-numbers : (config : Config) (n total : ℕ) (names : Names) (l : LinkState) (message : Option MessageParts) (act : Act) → l.requests ≡ n % 2147483648 → OwnNumbers config n total (own names l (end_number config total) message act)
own-numbers config n total names l message Nothing next = own-none config n total names l (end_number config total) message Nothing refl
own-numbers config n total names l message Serve next = own-none config n total names l (end_number config total) message Serve refl
own-numbers config n total names l message (Discard reason) next = own-none config n total names l (end_number config total) message (Discard reason) refl
own-numbers config n total names l message Pass next = own-none config n total names l (end_number config total) message Pass refl
own-numbers config n total names l message (Close cause) next = own-none config n total names l (end_number config total) message (Close cause) refl
own-numbers config n total names l message (Request r) next = own-request config n total names l message r next
own-numbers config n total names l message (Answer code error) next = own-none config n total names l (end_number config total) message (Answer code error) refl
own-numbers config n total names l message (AnswerAndClose code cause) next = own-none config n total names l (end_number config total) message (AnswerAndClose code cause) refl

rest-of : (b : Bool) (n : ℕ) → cond b 0 (n % 2147483648) ≡ cond b 0 n % 2147483648
rest-of true n = omega arith
rest-of false n = refl

-- ---- what is sent again

again-numbers : (n : ℕ) (ts : List Taking) → n + length ts ≤ 2147483648 → AllByRecursion (λ t. SentFits t.sent) ts → AllByRecursion ByPlace (enumerate_from n (headers_in is_application_request (map (λ (q : ℕ × Taking). Send (again q.1.sent q.0)) (enumerate_from n ts))))
again-numbers n [] few fits = tt
again-numbers n (t ∷ ts) few fits =
    let rest = headers_in is_application_request (map (λ (q : ℕ × Taking). Send (again q.1.sent q.0)) (enumerate_from (n + 1) ts)) in
    let small : n < 2 ^ 32 = omega arith in
    subst (λ b. AllByRecursion ByPlace (enumerate_from n (cond b (header_of (again t.sent n) ∷ rest) rest))) (sym ((again-application t fits.0).holds n)) (
      ap (λ (h : Header). h.hop) (again-header t.sent n small fits.0),
      again-numbers (n + 1) ts (omega arith) fits.1,
    )

from-none : (n : ℕ) (ts : List Taking) → (ts ≡ []) ⊎ (n ≡ 0) → length ts ≤ 2147483648 → AllByRecursion (λ t. SentFits t.sent) ts → AllByRecursion ByPlace (enumerate_from n (headers_in is_application_request (resends ts)))
from-none n ts (inl none) few fits = subst (λ us. AllByRecursion ByPlace (enumerate_from n (headers_in is_application_request (resends us)))) (sym none) tt
from-none n ts (inr zero_is) few fits =
    subst (λ k. AllByRecursion ByPlace (enumerate_from k (headers_in is_application_request (resends ts)))) (sym zero_is) (again-numbers 0 ts (omega arith) fits)

unused-start : (ps : List Place) (p : Place) → IsUnused ps p → (p.resent ≡ []) ⊎ (so_far ps p.input (used ps) ≡ 0)
unused-start ps p (inl none) = inl none
unused-start ps p (inr (inl begun)) = inr (ap (λ b. cond b 0 (used ps)) begun)
unused-start ps p (inr (inr none)) = inr (elim (begins ps p.input) as (λ b. cond b 0 (used ps) ≡ 0) [
  | true ↦ refl
  | false ↦ none
])

-- what is sent again is sent over a link that has sent nothing
unused-by : (ps : List Place) (m : ℕ) (S : Ledger) → StandsAt ps m S → IsRoomy S → (input : Input) (event : LinkEvent) (message : Option MessageParts) → begins_by S.peer.link event ≡ begins ps input → (b c : Bool) → opens (link ps).phase (link_after S.config ps m input event).phase ≡ b → begins ps input ≡ c → IsUnused ps (linked S.config ps m input event message)
unused-by ps m S stands roomy input event message begun false c shut is = inl (ap (λ d. cond d (waiting S.config ps m) []) shut)
unused-by ps m S stands roomy input event message begun true true opened is = inr (inl is)
unused-by ps m S stands roomy input event message begun true false opened is =
    let opens_now : opens_then S event ≡ true = opens-agrees ps m S stands input event begun ∙ opened in
    let none : S.used ≡ 0 = (before-opening S event roomy false (begun ∙ is) (opening S event opens_now)).used in
    inr (inr (sym stands.used ∙ none))

abbrev LinkUnused : Config → List Place → ℕ → Input → Type 0
LinkUnused config ps m input = (event : LinkEvent) (message : Option MessageParts) → begins_by (peer config ps).link event ≡ begins ps input → IsUnused ps (linked config ps m input event message)

unused : (config : Config) (ps : List Place) (m : ℕ) (input : Input) → now ps ≤ m → Standing config ps → LinkUnused config ps m input
unused config ps m input later s =
    let S = s.ledger in
    let moment : S.moment ≤ m = (let h = s.stands.moment in omega arith) in
    let T : Ledger = record S { moment = m } in
    let stands : StandsAt ps m T = StandsAt-later ps S (now ps) m later s.stands in
    let roomy : IsRoomy T = IsRoomy-later S m moment s.roomy in
    subst (λ (c : Config). LinkUnused c ps m input) s.same (λ event message begun.
    let begun_too : begins_by T.peer.link event ≡ begins ps input = ap (λ (q : PeerParts). begins_by q.link event) stands.peer ∙ begun in
    unused-by ps m T stands roomy input event message begun_too _ _ refl refl)

-- ---- together

linked-numbers : (config : Config) (ps : List Place) (m : ℕ) (input : Input) (event : LinkEvent) (message : Option MessageParts) → Ready config ps m → begins_by (peer config ps).link event ≡ begins ps input → IsUnused ps (linked config ps m input event message) → NumbersAt config ps (linked config ps m input event message)
linked-numbers config ps m input event message is begun unused =
    let p = linked config ps m input event message in
    let o = link_output config ps m input event message in
    let ts = p.resent in
    let l = link_at (peer config ps) m event in
    let act = link_act config ps m input event in
    let end = end_number config (total ps) in
    let n = so_far ps input (base ps) in
    let fits = resent-fits config ps m input event message is in
    let few = is.used in
    let fewer : length ts ≤ length (waiting config ps m) = fewer-if (opens (link ps).phase p.link.phase) (waiting config ps m) in
    let split : (test : Header → Bool) → headers_in test p.outputs ≡ headers_in test (own (names config) l end message act) ++ headers_in test (resends ts) =
    (λ test. headers-append test (link_outputs o) (resends ts) ∙ ap (λ hs. hs ++ headers_in test (resends ts)) (link-headers test o.send o.closed o.dropped))
    in
    let next : l.requests ≡ n % 2147483648 =
    noted-requests (peer config ps).link m event ∙ ap (λ b. cond b 0 (base ps % 2147483648)) begun ∙ rest-of (begins ps input) (base ps)
    in
    let numbers = own-numbers config n (total ps) (names config) l message act next in
    let no_own : headers_in is_application_request (own (names config) l end message act) ≡ [] = none-in is_application_request (own (names config) l end message act) (own-application (names config) l end message act) in
    let no_base : headers_in is_base_request (resends ts) ≡ [] = none-in is_base_request (resends ts) (resends-count is_base_request false ts (AllByRecursion-weaken _ _ again-base ts fits)) in
    let no_first : headers_in is_first_request (resends ts) ≡ [] = none-in is_first_request (resends ts) (resends-count is_first_request false ts (AllByRecursion-weaken _ _ again-first ts fits)) in
    record {
      application =
          subst (λ hs. AllByRecursion ByPlace (enumerate_from (so_far ps input (used ps)) hs))
          (sym (split is_application_request ∙ ap (λ hs. hs ++ headers_in is_application_request (resends ts)) no_own))
          (from-none (so_far ps input (used ps)) ts (unused-start ps p unused) (omega arith) fits);
      base =
          subst (λ hs. AllByRecursion ByBase (enumerate_from n hs))
          (sym (split is_base_request ∙ ap (λ hs. headers_in is_base_request (own (names config) l end message act) ++ hs) no_base ∙ append-nil (headers_in is_base_request (own (names config) l end message act))))
          numbers.base;
      first =
          subst (λ hs. AllByRecursion (ByEnd config) (enumerate_from (total ps) hs))
          (sym (split is_first_request ∙ ap (λ hs. headers_in is_first_request (own (names config) l end message act) ++ hs) no_first ∙ append-nil (headers_in is_first_request (own (names config) l end message act))))
          numbers.first;
    }

numbers-at : (config : Config) (ps : List Place) (m : ℕ) (input : Input) → Ready config ps m → LinkUnused config ps m input → NumbersAt config ps (at_input config ps m input)
numbers-at config ps m input is unused =
    let numbers = numbers-ready config ps m is in
    place-by (NumbersAt config ps) config ps m input (record {
      drained = λ quiet. none-at config ps _ (λ test. refl);
      dropped = λ quiet reason. none-at config ps _ (λ test. refl);
      repeats = λ quiet t comes. none-at config ps _ (repeated-none t.key (answer_to t.place ps));
      takes = λ quiet request takes.
          next-at config ps _ quiet (next-sent config ps (taking_of config ps m request).sent (header_by request.kind (next_numbers config ps)) (sent-header config request (next_numbers config ps) (serial ps) numbers) (header_by-next config ps request.kind));
      links = λ apart event message begun. linked-numbers config ps m input event message is begun (unused event message begun);
      unmatched = λ octets message comes. none-at config ps _ (unmatched-none (message.header.command == 275));
      matched = λ octets message comes t found.
          let o = outcome t.kept.kind t.settings t.kept message (next_numbers config ps) in
          next-at config ps _ refl (outcome-next config ps t.key o.reply o.follow (λ more is. follow_ends_session t.kept.kind t.settings t.kept message (next_numbers config ps) more numbers is));
    })

numbered-at : (config : Config) (ps : List Place) (m : ℕ) (input : Input) → now ps ≤ m → Standing config ps → AllNumbered config ps → AllNumbered config (at_input config ps m input ∷ ps)
numbered-at config ps m input later s before =
    numbered-on config (at_input config ps m input) ps (numbers-at config ps m input (ready config ps m later s) (unused config ps m input later s)) before

pub numbers : RequestsAreNumbered
numbers config history within =
    let all = history-by config (AllNumbered config) (record { application = tt; base = tt; first = tt })
    (λ past_events e before.
    let ps = past config past_events in
    numbered-at config ps (max (now ps) e.moment) e.input (omega arith) (known config within past_events) before) history
    in
    let ps = past config history in
    let many : length (headers_on_link is_application_request ps) ≡ used ps = link-count is_application_request ps in
    let few = (room_is_left config history within).used in
    record { application = all.application; base = all.base; first = all.first; few = omega arith }
