-- What changes nothing may be left out of a history: all that comes later is the same, but that later requests have other places.
use Rattle.std.proofs.Common.{◌≡◌, ℕ, ◌+◌, ◌<◌, ◌≤◌, suc, Bool, true, false, cond, ◌&&◌, not, List, [], ◌∷◌, ◌++◌, length, map, filter, find, Option, Some, None, option_map, Result, Ok, Err, refl, sym, ◌∙◌, ap, subst, arith}
use Rattle.std.specs.Prelude.{◌==◌, nat_lt, is_some, max, option_to_list}
use Rattle.std.specs.Option.{option_or}
use Rattle.std.specs.List.{AllByRecursion, enumerate_from}
use Rattle.std.proofs.lemmas.Bool.{ltb-true, ltb-false, lt-ltb, le-ltb, eqb-true, eq-eqb, ne_eqb}
use Rattle.std.proofs.lemmas.List.{length-map, map-append}
use Rattle.radius_packet.specs.declared.reasons.Reason.{Reason}
use Rattle.radius_packet.specs.declared.reasons.Reason.TheVariants as reasons
use Rattle.diameter_message.specs.declared.header.Header.{Header}
use Rattle.diameter_message.specs.declared.fault.MessageFault.{MessageFault}
use Rattle.diameter_message.specs.Message.{MessageParts, read_message}
use Rattle.agent_settings.specs.declared.config.Config.{Config}
use Rattle.pending_table.specs.Table.{same_key}
use Rattle.peer_machine.specs.declared.words.Event.{Event as LinkEvent}
use Rattle.peer_machine.specs.declared.words.Event.TheVariants.{Opens, Serves, Says, Breaks, Ends, Ticks, Leaves}
use Rattle.peer_machine.specs.declared.words.Act.{Act}
use Rattle.peer_machine.specs.Rules.{may_begin, after}
use Rattle.peer_machine.specs.Step.{PeerParts, act_at, link_at, output_of, sent, is_pass}
use Rattle.peer_machine.specs.Reading.{said_in}
use Rattle.agent_events.specs.declared.events.Input.{Input}
use Rattle.agent_events.specs.declared.events.Input.TheVariants.{Datagram, Up, Ready, Message, Broken, Down, Tick, Drain, Leave}
use Rattle.agent_events.specs.declared.events.Output.{Output}
use Rattle.agent_events.specs.declared.events.Output.TheVariants.{Send, Dropped}
use Rattle.agent_events.specs.Kinds.{is_drain}
use Rattle.agent_core.specs.Settings.{names, end_number}
use Rattle.agent_core.specs.Links.{LinkAt, with_requests, without_requests}
use Rattle.agent_core.specs.Verdict.{Request, verdict}
use Rattle.agent_core.specs.Places.{Event, Place, Taking, now, link, begins, opens, takings, with_taking, is_at, match_of, answer_to, reply_in, end_by, ends, live, waiting, rank, hop_at, number, send_count, sent_on_link, used, base, outbox, total, serial, is_application_request, is_base_request, is_first_request}
use Rattle.agent_core.specs.Rooms.{rooms, refusal, has_spare}
use Rattle.agent_core.specs.Requests.{request_sent, kept_of}
use Rattle.agent_core.specs.History.{at_input, place, places, past, still, taking_of, taking_place, admitted, repeated, requested, datagram, peer, link_act, link_outputs, again, resends, linked, answered, heard, messaged, matches, is_number, command_of, next_numbers, outcome, outcome_outputs, outputs_after}
use Rattle.agent_core.specs.LawsOfSends.{not_before, each_outputs}
use Rattle.agent_core.proofs.ListLemmas.Lists.{filter-same, filter-map, find-same, find-map, find-All, AllByRecursion-filter, AllByRecursion-push, AllByRecursion-weaken}
use Rattle.agent_core.proofs.StandingLemmas.Simulation.{IsUnsent, stays}
use Rattle.agent_core.proofs.LawLemmas.LawPlaces.{place-by, history-by}

-- ---- the places of requests

-- a number of a place, once another place stands at k
abbrev shift : ℕ → ℕ → ℕ
shift k n = cond (nat_lt n k) n (n + 1)

abbrev moved : ℕ → Taking → Taking
moved k t = record t { place = shift k t.place }

abbrev moved_place : ℕ → Place → Place
moved_place k p =
    record p { taken = option_map (moved k) p.taken; matched = option_map (moved k) p.matched; resent = map (moved k) p.resent }

-- what a later place looks at of the one that matches a request
abbrev told : Place → ℕ × List Output
told p = (p.moment, p.outputs)

shift-below : (k n : ℕ) → n < k → shift k n ≡ n
shift-below k n below = ap (λ b. cond b n (n + 1)) (lt-ltb n k below)

shift-beyond : (k n : ℕ) → k ≤ n → shift k n ≡ n + 1
shift-beyond k n beyond = ap (λ b. cond b n (n + 1)) (le-ltb n k beyond)

next-same : (a b : ℕ) → (a + 1 == b + 1) ≡ (a == b)
next-same a b =
    elim (a == b) as (λ c. (a == b) ≡ c → (a + 1 == b + 1) ≡ c) [
      | true ↦ (λ e. let same : a ≡ b = eqb-true a b e in eq-eqb (a + 1) (b + 1) (omega arith))
      | false ↦ (λ e. ne_eqb (a + 1) (b + 1) (λ (same : a + 1 ≡ b + 1). let yes : (a == b) ≡ true = eq-eqb a b (omega arith) in absurd (cc)))
    ] refl

-- two numbers are the same where they were
shift-same : (k a b : ℕ) → (shift k a == shift k b) ≡ (a == b)
shift-same k a b =
    elim (nat_lt a k) as (λ c. nat_lt a k ≡ c → (cond c a (a + 1) == shift k b) ≡ (a == b)) [
      | true ↦ (λ e.
          let before : a < k = ltb-true a k e in
          elim (nat_lt b k) as (λ d. nat_lt b k ≡ d → (a == cond d b (b + 1)) ≡ (a == b)) [
            | true ↦ (λ f. refl)
            | false ↦ (λ f.
                let behind : k ≤ b = ltb-false b k f in
                ne_eqb a (b + 1) (λ (same : a ≡ b + 1). omega arith) ∙ sym (ne_eqb a b (λ (same : a ≡ b). omega arith)))
          ] refl)
      | false ↦ (λ e.
          let behind : k ≤ a = ltb-false a k e in
          elim (nat_lt b k) as (λ d. nat_lt b k ≡ d → (a + 1 == cond d b (b + 1)) ≡ (a == b)) [
            | true ↦ (λ f.
                let before : b < k = ltb-true b k f in
                ne_eqb (a + 1) b (λ (same : a + 1 ≡ b). omega arith) ∙ sym (ne_eqb a b (λ (same : a ≡ b). omega arith)))
            | false ↦ (λ f. next-same a b)
          ] refl)
    ] refl

at-moved : (k n : ℕ) (o : Option Taking) → is_at n o ≡ is_at (shift k n) (option_map (moved k) o)
at-moved k n None = refl
at-moved k n (Some t) = sym (shift-same k t.place n)

rank-moved : (k place n : ℕ) (ts : List Taking) → rank place n ts ≡ rank (shift k place) n (map (moved k) ts)
rank-moved k place n [] = refl
rank-moved k place n (t ∷ ts) =
    ap (λ b. cond b (Some n) (rank place (n + 1) ts)) (sym (shift-same k t.place place))
    ∙ ap (cond (shift k t.place == shift k place) (Some n)) (rank-moved k place (n + 1) ts)

hop-moved : (k : ℕ) (t : Taking) (p : Place) → hop_at t p ≡ hop_at (moved k t) (moved_place k p)
hop-moved k t p =
    ap (λ o. option_or o (cond (is_at t.place p.taken) (Some t.hop) None)) (rank-moved k t.place 0 p.resent)
    ∙ ap (λ b. option_or (rank (shift k t.place) 0 (map (moved k) p.resent)) (cond b (Some t.hop) None)) (at-moved k t.place p.taken)

with-moved : (k : ℕ) (o : Option Taking) (ts : List Taking) → map (moved k) (with_taking o ts) ≡ with_taking (option_map (moved k) o) (map (moved k) ts)
with-moved k None ts = refl
with-moved k (Some t) ts = map-append (moved k) ts (t ∷ [])

resends-from : (k n : ℕ) (ts : List Taking) → map (λ (p : ℕ × Taking). Send (again p.1.sent p.0)) (enumerate_from n ts) ≡ map (λ (p : ℕ × Taking). Send (again p.1.sent p.0)) (enumerate_from n (map (moved k) ts))
resends-from k n [] = refl
resends-from k n (t ∷ ts) = ap (λ os. Send (again t.sent n) ∷ os) (resends-from k (n + 1) ts)

-- ---- what a later place looks at

-- two pasts, the second with one more place at k, of which all is the same that a place looks at that comes at the moment m or
-- later
record Alike (k m : ℕ) (qs rs : List Place) : Type 0 where
  pub beyond : k ≤ length qs
  pub places : length qs + 1 ≡ length rs
  pub now_is : max (now qs) m ≡ now rs
  pub link_is : link qs ≡ link rs
  pub takings_are : map (moved k) (takings qs) ≡ takings rs
  pub matched : (n : ℕ) → option_map told (match_of n qs) ≡ option_map told (match_of (shift k n) rs)
  pub numbered : (t : Taking) → number qs t ≡ number rs (moved k t)
  pub used_is : used qs ≡ used rs
  pub base_is : base qs ≡ base rs
  pub outbox_is : outbox qs ≡ outbox rs
  pub total_is : total qs ≡ total rs

abbrev ended : Config → ℕ → Option (ℕ × List Output) → ℕ
ended config taken None = taken + config.patience
ended config taken (Some t) = t.0 + config.retention

end-told : (config : Config) (taken : ℕ) (o : Option Place) → end_by config taken o ≡ ended config taken (option_map told o)
end-told config taken None = refl
end-told config taken (Some p) = refl

end-same : (config : Config) (taken : ℕ) (o r : Option Place) → option_map told o ≡ option_map told r → end_by config taken o ≡ end_by config taken r
end-same config taken o r same = end-told config taken o ∙ ap (ended config taken) same ∙ sym (end-told config taken r)

some-told : (o : Option Place) → is_some o ≡ is_some (option_map told o)
some-told None = refl
some-told (Some p) = refl

some-same : (o r : Option Place) → option_map told o ≡ option_map told r → is_some o ≡ is_some r
some-same o r same = some-told o ∙ ap is_some same ∙ sym (some-told r)

abbrev reply_of : Option Place → Option (Option (List ℕ))
reply_of o = option_map (λ (p : Place). reply_in p.outputs) o

reply-told : (o : Option Place) → reply_of o ≡ option_map (λ (t : ℕ × List Output). reply_in t.1) (option_map told o)
reply-told None = refl
reply-told (Some p) = refl

reply-same : (o r : Option Place) → option_map told o ≡ option_map told r → reply_of o ≡ reply_of r
reply-same o r same = reply-told o ∙ ap (option_map (λ (t : ℕ × List Output). reply_in t.1)) same ∙ sym (reply-told r)

live-is : (config : Config) (k m0 : ℕ) (qs rs : List Place) (m : ℕ) → Alike k m0 qs rs → map (moved k) (live config qs m) ≡ live config rs m
live-is config k m0 qs rs m a =
    let test = λ (t : Taking). nat_lt m (ends config rs t) in
    ap (map (moved k)) (filter-same (λ t. nat_lt m (ends config qs t)) (λ t. test (moved k t)) (λ t. ap (nat_lt m) (end-same config t.moment (match_of t.place qs) (match_of (shift k t.place) rs) (a.matched t.place))) (takings qs))
    ∙ sym (filter-map test (moved k) (takings qs))
    ∙ ap (filter test) a.takings_are

waiting-is : (config : Config) (k m0 : ℕ) (qs rs : List Place) (m : ℕ) → Alike k m0 qs rs → map (moved k) (waiting config qs m) ≡ waiting config rs m
waiting-is config k m0 qs rs m a =
    let test = λ (t : Taking). not (is_some (match_of t.place rs)) in
    ap (map (moved k)) (filter-same (λ t. not (is_some (match_of t.place qs))) (λ t. test (moved k t)) (λ t. ap not (some-same (match_of t.place qs) (match_of (shift k t.place) rs) (a.matched t.place))) (live config qs m))
    ∙ sym (filter-map test (moved k) (live config qs m))
    ∙ ap (filter test) (live-is config k m0 qs rs m a)

lives : (config : Config) (k m0 : ℕ) (qs rs : List Place) (m : ℕ) → Alike k m0 qs rs → length (live config qs m) ≡ length (live config rs m)
lives config k m0 qs rs m a = sym (length-map (live config qs m) (moved k)) ∙ ap length (live-is config k m0 qs rs m a)

waits : (config : Config) (k m0 : ℕ) (qs rs : List Place) (m : ℕ) → Alike k m0 qs rs → length (waiting config qs m) ≡ length (waiting config rs m)
waits config k m0 qs rs m a = sym (length-map (waiting config qs m) (moved k)) ∙ ap length (waiting-is config k m0 qs rs m a)

serial-is : (k m0 : ℕ) (qs rs : List Place) → Alike k m0 qs rs → serial qs ≡ serial rs
serial-is k m0 qs rs a =
    let fresh = λ (t : Taking). t.fresh in
    sym (length-map (filter fresh (takings qs)) (moved k))
    ∙ ap length (sym (filter-map fresh (moved k) (takings qs)))
    ∙ ap (λ ts. length (filter fresh ts)) a.takings_are

peer-is : (config : Config) (k m0 : ℕ) (qs rs : List Place) → Alike k m0 qs rs → peer config qs ≡ peer config rs
peer-is config k m0 qs rs a =
    ap (λ (l : LinkAt). record (peer config qs) { link = with_requests l (base qs) }) a.link_is
    ∙ ap (λ n. record (peer config rs) { link = with_requests (link rs) n }) a.base_is

begins-is : (k m0 : ℕ) (qs rs : List Place) (input : Input) → Alike k m0 qs rs → begins qs input ≡ begins rs input
begins-is k m0 qs rs Up a = ap (λ (l : LinkAt). may_begin l.phase l.number) a.link_is
begins-is k m0 qs rs Ready a = ap (λ (l : LinkAt). may_begin l.phase l.number) a.link_is
begins-is k m0 qs rs (Datagram via address port octets) a = refl
begins-is k m0 qs rs (Message octets) a = refl
begins-is k m0 qs rs (Broken fault) a = refl
begins-is k m0 qs rs Down a = refl
begins-is k m0 qs rs Tick a = refl
begins-is k m0 qs rs Drain a = refl
begins-is k m0 qs rs Leave a = refl

spare-is : (config : Config) (k m0 : ℕ) (qs rs : List Place) (m : ℕ) (input : Input) → Alike k m0 qs rs → has_spare config qs m input ≡ has_spare config rs m input
spare-is config k m0 qs rs m input a =
    ap (λ b. nat_lt (cond b 0 (outbox qs) + length (waiting config qs m)) (config.backlog + 64)) (begins-is k m0 qs rs input a)
    ∙ ap (λ n. nat_lt (cond (begins rs input) 0 n + length (waiting config qs m)) (config.backlog + 64)) a.outbox_is
    ∙ ap (λ n. nat_lt (cond (begins rs input) 0 (outbox rs) + n) (config.backlog + 64)) (waits config k m0 qs rs m a)

act-is : (config : Config) (k m0 : ℕ) (qs rs : List Place) (m : ℕ) (input : Input) (event : LinkEvent) → Alike k m0 qs rs → link_act config qs m input event ≡ link_act config rs m input event
act-is config k m0 qs rs m input event a =
    ap (λ (p : PeerParts). act_at p m event (has_spare config qs m input)) (peer-is config k m0 qs rs a)
    ∙ ap (act_at (peer config rs) m event) (spare-is config k m0 qs rs m input a)

rooms-are : (config : Config) (k m0 : ℕ) (qs rs : List Place) (m : ℕ) → Alike k m0 qs rs → rooms config qs m ≡ rooms config rs m
rooms-are config k m0 qs rs m a =
    ap (λ (l : LinkAt). record (rooms config qs m) { phase = l.phase }) a.link_is
    ∙ ap (λ n. record (rooms config qs m) { phase = (link rs).phase; used = n }) a.used_is
    ∙ ap (λ n. record (rooms config qs m) { phase = (link rs).phase; used = used rs; outbox = n }) a.outbox_is
    ∙ ap (λ n. record (rooms config qs m) { phase = (link rs).phase; used = used rs; outbox = outbox rs; serial = n }) (serial-is k m0 qs rs a)
    ∙ ap (λ n. record (rooms config qs m) { phase = (link rs).phase; used = used rs; outbox = outbox rs; serial = serial rs; live = n }) (lives config k m0 qs rs m a)
    ∙ ap (λ n. record (rooms config rs m) { waiting = n }) (waits config k m0 qs rs m a)

-- ---- each kind of place

still-is : (config : Config) (k m0 : ℕ) (qs rs : List Place) (m : ℕ) (input : Input) (outputs : List Output) → Alike k m0 qs rs → moved_place k (still config qs m input outputs) ≡ still config rs m input outputs
still-is config k m0 qs rs m input outputs a = ap (λ (l : LinkAt). record (still config rs m input outputs) { link = l }) a.link_is

-- the place of an input of the link, by what it looks at
abbrev link_place : Config → ℕ → Input → LinkEvent → Option MessageParts → PeerParts → Act → ℕ → List Taking → List Output → Place
link_place config m input event message p act n ts os = record {
  moment = m;
  input = input;
  link = without_requests (after (link_at p m event) m act);
  taken = None;
  matched = None;
  resent = ts;
  outputs = link_outputs (output_of (sent (names config) (link_at p m event) (end_number config n) message act) act) ++ os;
}

abbrev opened : LinkAt → ℕ → LinkEvent → PeerParts → Act → Bool
opened l m event p act = opens l.phase (without_requests (after (link_at p m event) m act)).phase

resent-moved : (k : ℕ) (b : Bool) (ts : List Taking) → map (moved k) (cond b ts []) ≡ cond b (map (moved k) ts) []
resent-moved k true ts = refl
resent-moved k false ts = refl

linked-is : (config : Config) (k m0 : ℕ) (qs rs : List Place) (m : ℕ) (input : Input) (event : LinkEvent) (message : Option MessageParts) → Alike k m0 qs rs → moved_place k (linked config qs m input event message) ≡ linked config rs m input event message
linked-is config k m0 qs rs m input event message a =
    let at = link_place config m input event message in
    let resent = cond (opened (link qs) m event (peer config qs) (link_act config qs m input event)) (waiting config qs m) [] in
    let all : map (moved k) resent ≡ cond (opened (link rs) m event (peer config rs) (link_act config rs m input event)) (waiting config rs m) [] =
    resent-moved k (opened (link qs) m event (peer config qs) (link_act config qs m input event)) (waiting config qs m)
    ∙ ap (λ ts. cond (opened (link qs) m event (peer config qs) (link_act config qs m input event)) ts []) (waiting-is config k m0 qs rs m a)
    ∙ ap (λ l. cond (opened l m event (peer config qs) (link_act config qs m input event)) (waiting config rs m) []) a.link_is
    ∙ ap (λ p. cond (opened (link rs) m event p (link_act config qs m input event)) (waiting config rs m) []) (peer-is config k m0 qs rs a)
    ∙ ap (λ act. cond (opened (link rs) m event (peer config rs) act) (waiting config rs m) []) (act-is config k m0 qs rs m input event a)
    in
    ap (at (peer config qs) (link_act config qs m input event) (total qs) (map (moved k) resent)) (resends-from k 0 resent)
    ∙ ap (λ p. at p (link_act config qs m input event) (total qs) (map (moved k) resent) (resends (map (moved k) resent))) (peer-is config k m0 qs rs a)
    ∙ ap (λ act. at (peer config rs) act (total qs) (map (moved k) resent) (resends (map (moved k) resent))) (act-is config k m0 qs rs m input event a)
    ∙ ap (λ n. at (peer config rs) (link_act config rs m input event) n (map (moved k) resent) (resends (map (moved k) resent))) a.total_is
    ∙ ap (λ ts. at (peer config rs) (link_act config rs m input event) (total rs) ts (resends ts)) all

numbers-are : (config : Config) (k m0 : ℕ) (qs rs : List Place) → Alike k m0 qs rs → next_numbers config qs ≡ next_numbers config rs
numbers-are config k m0 qs rs a =
    ap (λ n. record { hop = n; end = end_number config (total qs) }) a.used_is ∙ ap (λ n. record { hop = used rs; end = end_number config n }) a.total_is

taking-is : (config : Config) (k m0 : ℕ) (qs rs : List Place) (m : ℕ) (request : Request) → Alike k m0 qs rs → moved k (taking_of config qs m request) ≡ taking_of config rs m request
taking-is config k m0 qs rs m request a =
    ap (λ n. record (taking_of config qs m request) { place = n }) (shift-beyond k (length qs) a.beyond ∙ a.places)
    ∙ ap (λ n. record (taking_of config qs m request) { place = length rs; hop = n }) a.used_is
    ∙ ap (λ numbers. record (taking_of config qs m request) { place = length rs; hop = used rs; sent = request_sent config request numbers (serial qs) }) (numbers-are config k m0 qs rs a)
    ∙ ap (λ n. record (taking_of config rs m request) { sent = request_sent config request (next_numbers config rs) n; kept = kept_of config request n }) (serial-is k m0 qs rs a)

takes-is : (config : Config) (k m0 : ℕ) (qs rs : List Place) (m : ℕ) (input : Input) (request : Request) → Alike k m0 qs rs → moved_place k (taking_place config qs m input (taking_of config qs m request)) ≡ taking_place config rs m input (taking_of config rs m request)
takes-is config k m0 qs rs m input request a =
    ap (taking_place config qs m input) (taking-is config k m0 qs rs m request a)
    ∙ ap (λ (l : LinkAt). record (taking_place config qs m input (taking_of config rs m request)) { link = l }) a.link_is

admitted-is : (config : Config) (k m0 : ℕ) (qs rs : List Place) (m : ℕ) (input : Input) (request : Request) (o : Option Reason) → Alike k m0 qs rs → moved_place k (admitted config qs m input request o) ≡ admitted config rs m input request o
admitted-is config k m0 qs rs m input request (Some reason) a = still-is config k m0 qs rs m input (Dropped reason ∷ []) a
admitted-is config k m0 qs rs m input request None a = takes-is config k m0 qs rs m input request a

requested-is : (config : Config) (k m0 : ℕ) (qs rs : List Place) (m : ℕ) (input : Input) (request : Request) (o : Option Taking) → Alike k m0 qs rs → moved_place k (requested config qs m input request o) ≡ requested config rs m input request (option_map (moved k) o)
requested-is config k m0 qs rs m input request (Some t) a =
    still-is config k m0 qs rs m input (repeated t.key (answer_to t.place qs)) a
    ∙ ap (λ o. still config rs m input (repeated t.key o)) (reply-same (match_of t.place qs) (match_of (shift k t.place) rs) (a.matched t.place))
requested-is config k m0 qs rs m input request None a =
    admitted-is config k m0 qs rs m input request (refusal config (rooms config qs m)) a
    ∙ ap (λ r. admitted config rs m input request (refusal config r)) (rooms-are config k m0 qs rs m a)

datagram-is : (config : Config) (k m0 : ℕ) (qs rs : List Place) (m : ℕ) (input : Input) (r : Result Request Reason) → Alike k m0 qs rs → moved_place k (datagram config qs m input r) ≡ datagram config rs m input r
datagram-is config k m0 qs rs m input (Err reason) a = still-is config k m0 qs rs m input (Dropped reason ∷ []) a
datagram-is config k m0 qs rs m input (Ok request) a =
    let test = λ (t : Taking). same_key t.key request.key in
    requested-is config k m0 qs rs m input request (find test (live config qs m)) a
    ∙ ap (requested config rs m input request) (sym (find-map test (moved k) (live config qs m)) ∙ ap (find test) (live-is config k m0 qs rs m a))

answered-is : (config : Config) (k m0 : ℕ) (qs rs : List Place) (m : ℕ) (message : MessageParts) (p q : Place) → moved_place k p ≡ q → (o : Option Taking) → Alike k m0 qs rs → moved_place k (answered config qs m message p o) ≡ answered config rs m message q (option_map (moved k) o)
answered-is config k m0 qs rs m message p q same None a = ap (λ (x : Place). answered config rs m message x None) same
answered-is config k m0 qs rs m message p q same (Some t) a =
    ap (λ (x : Place). record x { matched = Some (moved k t); outputs = outcome_outputs t.key (outcome t.kept.kind t.settings t.kept message (next_numbers config qs)) }) same
    ∙ ap (λ numbers. record q { matched = Some (moved k t); outputs = outcome_outputs t.key (outcome t.kept.kind t.settings t.kept message numbers) }) (numbers-are config k m0 qs rs a)

found-is : (config : Config) (k m0 : ℕ) (qs rs : List Place) (m : ℕ) (h : Header) → Alike k m0 qs rs → option_map (moved k) (find (matches qs h) (waiting config qs m)) ≡ find (matches rs h) (waiting config rs m)
found-is config k m0 qs rs m h a =
    ap (option_map (moved k)) (find-same (matches qs h) (λ t. matches rs h (moved k t)) (λ t. ap (λ o. is_number h.hop o && h.command == command_of t.kept.kind) (a.numbered t)) (waiting config qs m))
    ∙ sym (find-map (matches rs h) (moved k) (waiting config qs m))
    ∙ ap (find (matches rs h)) (waiting-is config k m0 qs rs m a)

heard-is : (config : Config) (k m0 : ℕ) (qs rs : List Place) (m : ℕ) (message : MessageParts) (p q : Place) → moved_place k p ≡ q → (b : Bool) → Alike k m0 qs rs → moved_place k (heard config qs m message p b) ≡ heard config rs m message q b
heard-is config k m0 qs rs m message p q same true a =
    answered-is config k m0 qs rs m message p q same (find (matches qs message.header) (waiting config qs m)) a
    ∙ ap (answered config rs m message q) (found-is config k m0 qs rs m message.header a)
heard-is config k m0 qs rs m message p q same false a = same

messaged-is : (config : Config) (k m0 : ℕ) (qs rs : List Place) (m : ℕ) (input : Input) (r : Result MessageParts MessageFault) → Alike k m0 qs rs → moved_place k (messaged config qs m input r) ≡ messaged config rs m input r
messaged-is config k m0 qs rs m input (Err fault) a = still-is config k m0 qs rs m input (Dropped reasons.BadMessage ∷ []) a
messaged-is config k m0 qs rs m input (Ok message) a =
    let event = Says (said_in message) in
    let q = linked config rs m input event (Some message) in
    heard-is config k m0 qs rs m message (linked config qs m input event (Some message)) q (linked-is config k m0 qs rs m input event (Some message) a) (is_pass (link_act config qs m input event)) a
    ∙ ap (λ act. heard config rs m message q (is_pass act)) (act-is config k m0 qs rs m input event a)

input-is : (config : Config) (k m0 : ℕ) (qs rs : List Place) (m : ℕ) (input : Input) → Alike k m0 qs rs → moved_place k (at_input config qs m input) ≡ at_input config rs m input
input-is config k m0 qs rs m (Datagram via address port octets) a = datagram-is config k m0 qs rs m (Datagram via address port octets) (verdict config via address port octets) a
input-is config k m0 qs rs m Up a = linked-is config k m0 qs rs m Up Opens None a
input-is config k m0 qs rs m Ready a = linked-is config k m0 qs rs m Ready Serves None a
input-is config k m0 qs rs m (Message octets) a = messaged-is config k m0 qs rs m (Message octets) (read_message octets) a
input-is config k m0 qs rs m (Broken fault) a = linked-is config k m0 qs rs m (Broken fault) (Breaks fault) None a
input-is config k m0 qs rs m Down a = linked-is config k m0 qs rs m Down Ends None a
input-is config k m0 qs rs m Tick a = linked-is config k m0 qs rs m Tick Ticks None a
input-is config k m0 qs rs m Drain a = still-is config k m0 qs rs m Drain [] a
input-is config k m0 qs rs m Leave a = linked-is config k m0 qs rs m Leave Leaves None a

place-is : (config : Config) (k m0 : ℕ) (qs rs : List Place) (e : Event) → Alike k m0 qs rs → moved_place k (place config qs (not_before m0 e)) ≡ place config rs e
place-is config k m0 qs rs e a =
    let at : max (now qs) m0 ≡ now rs = a.now_is in
    let same : max (now qs) (max m0 e.moment) ≡ max (now rs) e.moment = omega arith in
    ap (λ n. moved_place k (at_input config qs n e.input)) same
    ∙ input-is config k m0 qs rs (max (now rs) e.moment) e.input a

-- ---- the pasts go on alike

counts-on : (test : Header → Bool) (k m0 : ℕ) (p : Place) (qs rs : List Place) → Alike k m0 qs rs → sent_on_link test qs ≡ sent_on_link test rs → sent_on_link test (p ∷ qs) ≡ sent_on_link test (moved_place k p ∷ rs)
counts-on test k m0 p qs rs a same =
    ap (λ b. cond b (send_count test p) (sent_on_link test qs + send_count test p)) (begins-is k m0 qs rs p.input a)
    ∙ ap (λ n. cond (begins rs p.input) (send_count test p) (n + send_count test p)) same

matched-on : (k : ℕ) (p : Place) (b : Bool) (o r : Option Place) → option_map told o ≡ option_map told r → option_map told (cond b (Some p) o) ≡ option_map told (cond b (Some (moved_place k p)) r)
matched-on k p true o r same = refl
matched-on k p false o r same = same

alike-on : (k m0 : ℕ) (p : Place) (qs rs : List Place) → m0 ≤ p.moment → Alike k m0 qs rs → Alike k m0 (p ∷ qs) (moved_place k p ∷ rs)
alike-on k m0 p qs rs later a = record {
  beyond = let h = a.beyond in omega arith;
  places = let h = a.places in omega arith;
  now_is = omega arith;
  link_is = refl;
  takings_are = with-moved k p.taken (takings qs) ∙ ap (with_taking (option_map (moved k) p.taken)) a.takings_are;
  matched = λ n.
      matched-on k p (is_at n p.matched) (match_of n qs) (match_of (shift k n) rs) (a.matched n)
      ∙ ap (λ b. option_map told (cond b (Some (moved_place k p)) (match_of (shift k n) rs))) (at-moved k n p.matched);
  numbered = λ t.
      ap (λ o. option_or o (cond (begins qs p.input) None (number qs t))) (hop-moved k t p)
      ∙ ap (λ b. option_or (hop_at (moved k t) (moved_place k p)) (cond b None (number qs t))) (begins-is k m0 qs rs p.input a)
      ∙ ap (λ o. option_or (hop_at (moved k t) (moved_place k p)) (cond (begins rs p.input) None o)) (a.numbered t);
  used_is = counts-on is_application_request k m0 p qs rs a a.used_is;
  base_is = counts-on is_base_request k m0 p qs rs a a.base_is;
  outbox_is =
      ap (λ b. cond (is_drain p.input) 0 (cond b (send_count (λ h. true) p) (outbox qs + send_count (λ h. true) p))) (begins-is k m0 qs rs p.input a)
      ∙ ap (λ n. cond (is_drain p.input) 0 (cond (begins rs p.input) (send_count (λ h. true) p) (n + send_count (λ h. true) p))) a.outbox_is;
  total_is = ap (λ n. n + send_count is_first_request p) a.total_is;
}

pub moment-of : (config : Config) (ps : List Place) (m : ℕ) (input : Input) → (at_input config ps m input).moment ≡ m
moment-of config ps m input = place-by (λ p. p.moment ≡ m) config ps m input (record {
  drained = λ quiet. refl;
  dropped = λ quiet reason. refl;
  repeats = λ quiet t again. refl;
  takes = λ quiet request takes. refl;
  links = λ apart event message begun. refl;
  unmatched = λ octets message comes. refl;
  matched = λ octets message comes t found. refl;
})

alike-next : (config : Config) (k m0 : ℕ) (qs rs : List Place) (e : Event) → Alike k m0 qs rs → Alike k m0 (place config qs (not_before m0 e) ∷ qs) (place config rs e ∷ rs)
alike-next config k m0 qs rs e a =
    let p = place config qs (not_before m0 e) in
    let at : p.moment ≡ max (now qs) (max m0 e.moment) = moment-of config qs (max (now qs) (max m0 e.moment)) e.input in
    subst (λ q. Alike k m0 (p ∷ qs) (q ∷ rs)) (place-is config k m0 qs rs e a) (alike-on k m0 p qs rs (omega arith) a)

alike-places : (config : Config) (k m0 : ℕ) (qs rs : List Place) (more : List Event) → Alike k m0 qs rs → Alike k m0 (places config qs (map (not_before m0) more)) (places config rs more)
alike-places config k m0 qs rs [] a = a
alike-places config k m0 qs rs (e ∷ more) a =
    alike-places config k m0 (place config qs (not_before m0 e) ∷ qs) (place config rs e ∷ rs) more (alike-next config k m0 qs rs e a)

alike-outputs : (config : Config) (k m0 : ℕ) (qs rs : List Place) (more : List Event) → Alike k m0 qs rs → each_outputs config qs (map (not_before m0) more) ≡ each_outputs config rs more
alike-outputs config k m0 qs rs [] a = refl
alike-outputs config k m0 qs rs (e ∷ more) a =
    let p = place config qs (not_before m0 e) in
    ap (λ (q : Place). q.outputs ∷ each_outputs config (p ∷ qs) (map (not_before m0) more)) (place-is config k m0 qs rs e a)
    ∙ ap (λ os. (place config rs e).outputs ∷ os) (alike-outputs config k m0 (p ∷ qs) (place config rs e ∷ rs) more (alike-next config k m0 qs rs e a))

-- ---- where requests stand

abbrev Below : ℕ → List Taking → Type 0
Below k ts = AllByRecursion (λ t. t.place < k) ts

-- each request was taken up before, and what is ahead was neither matched nor sent
record Placed (ps : List Place) : Type 0 where
  pub each : Below (length ps) (takings ps)
  pub unmatched : (n : ℕ) → length ps ≤ n → match_of n ps ≡ None
  pub unnumbered : (t : Taking) → length ps ≤ t.place → number ps t ≡ None

-- where the requests stand that a place takes up, matches and sends again
record Fits (k : ℕ) (p : Place) : Type 0 where
  pub taken : Below (k + 1) (option_to_list p.taken)
  pub matched : Below k (option_to_list p.matched)
  pub resent : Below k p.resent

ahead-of : (k n : ℕ) (o : Option Taking) → Below k (option_to_list o) → k ≤ n → is_at n o ≡ false
ahead-of k n None below ahead = refl
ahead-of k n (Some t) below ahead = ne_eqb t.place n (λ (same : t.place ≡ n). let h = below.0 in omega arith)

rank-ahead : (k place n : ℕ) (ts : List Taking) → Below k ts → k ≤ place → rank place n ts ≡ None
rank-ahead k place n [] below ahead = refl
rank-ahead k place n (t ∷ ts) below ahead =
    ap (λ b. cond b (Some n) (rank place (n + 1) ts)) (ne_eqb t.place place (λ (same : t.place ≡ place). let h = below.0 in omega arith))
    ∙ rank-ahead k place (n + 1) ts below.1 ahead

unnumbered-on : (o : Option ℕ) (b : Bool) → o ≡ None → option_or None (cond b None o) ≡ None
unnumbered-on o true none = refl
unnumbered-on o false none = none

below-more : (k : ℕ) (ts : List Taking) → Below k ts → Below (k + 1) ts
below-more k ts below = AllByRecursion-weaken (λ t. t.place < k) (λ t. t.place < k + 1) (λ t h. omega arith) ts below

below-with : (k : ℕ) (o : Option Taking) (ts : List Taking) → Below k (option_to_list o) → Below k ts → Below k (with_taking o ts)
below-with k None ts one below = below
below-with k (Some t) ts one below = AllByRecursion-push (λ u. u.place < k) ts t below one.0

placed-on : (ps : List Place) (p : Place) → Fits (length ps) p → Placed ps → Placed (p ∷ ps)
placed-on ps p fits so_far = record {
  each =
      let one : length ps + 1 ≡ length (p ∷ ps) = omega arith in
      subst (λ n. Below n (takings (p ∷ ps))) one
      (below-with (length ps + 1) p.taken (takings ps) fits.taken (below-more (length ps) (takings ps) so_far.each));
  unmatched = λ n ahead.
      let more : length ps ≤ n = omega arith in
      ap (λ b. cond b (Some p) (match_of n ps)) (ahead-of (length ps) n p.matched fits.matched more) ∙ so_far.unmatched n more;
  unnumbered = λ t ahead.
      let more : length ps ≤ t.place = omega arith in
      let far : length ps + 1 ≤ t.place = omega arith in
      ap (λ o. option_or (option_or o (cond (is_at t.place p.taken) (Some t.hop) None)) (cond (begins ps p.input) None (number ps t))) (rank-ahead (length ps) t.place 0 p.resent fits.resent more)
      ∙ ap (λ b. option_or (option_or None (cond b (Some t.hop) None)) (cond (begins ps p.input) None (number ps t))) (ahead-of (length ps + 1) t.place p.taken fits.taken far)
      ∙ unnumbered-on (number ps t) (begins ps p.input) (so_far.unnumbered t more);
}

waiting-below : (config : Config) (ps : List Place) (m : ℕ) → Placed ps → Below (length ps) (waiting config ps m)
waiting-below config ps m so_far =
    AllByRecursion-filter (λ t. t.place < length ps) (λ t. not (is_some (match_of t.place ps))) (live config ps m)
    (AllByRecursion-filter (λ t. t.place < length ps) (λ t. nat_lt m (ends config ps t)) (takings ps) so_far.each)

below-if : (k : ℕ) (b : Bool) (ts : List Taking) → Below k ts → Below k (cond b ts [])
below-if k true ts below = below
below-if k false ts below = tt

place-fits : (config : Config) (ps : List Place) (m : ℕ) (input : Input) → Placed ps → Fits (length ps) (at_input config ps m input)
place-fits config ps m input so_far = place-by (Fits (length ps)) config ps m input (record {
  drained = λ quiet. record { taken = tt; matched = tt; resent = tt };
  dropped = λ quiet reason. record { taken = tt; matched = tt; resent = tt };
  repeats = λ quiet t again. record { taken = tt; matched = tt; resent = tt };
  takes = λ quiet request takes. record { taken = (omega arith, tt); matched = tt; resent = tt };
  links = λ apart event message begun. record { taken = tt; matched = tt; resent = below-if (length ps) _ (waiting config ps m) (waiting-below config ps m so_far) };
  unmatched = λ octets message comes. record { taken = tt; matched = tt; resent = below-if (length ps) _ (waiting config ps m) (waiting-below config ps m so_far) };
  matched = λ octets message comes t found. record {
    taken = tt;
    matched = (find-All (λ (u : Taking). u.place < length ps) (matches ps message.header) (waiting config ps m) (waiting-below config ps m so_far) t found, tt);
    resent = below-if (length ps) _ (waiting config ps m) (waiting-below config ps m so_far);
  };
})

placed : (config : Config) (history : List Event) → Placed (past config history)
placed config history = history-by config Placed (record { each = tt; unmatched = λ n ahead. refl; unnumbered = λ t ahead. refl })
    (λ before e so_far. placed-on (past config before) (place config (past config before) e) (place-fits config (past config before) (max (now (past config before)) e.moment) e.input so_far) so_far) history

-- ---- a place that changes nothing

map-below : (k : ℕ) (ts : List Taking) → Below k ts → map (moved k) ts ≡ ts
map-below k [] below = refl
map-below k (t ∷ ts) below =
    ap (λ n. record t { place = n } ∷ map (moved k) ts) (shift-below k t.place below.0) ∙ ap (λ us. t ∷ us) (map-below k ts below.1)

matched-alike : (ps : List Place) → Placed ps → (n : ℕ) → match_of n ps ≡ match_of (shift (length ps) n) ps
matched-alike ps at n =
    elim (nat_lt n (length ps)) as (λ b. nat_lt n (length ps) ≡ b → match_of n ps ≡ match_of (cond b n (n + 1)) ps) [
      | true ↦ (λ e. refl)
      | false ↦ (λ e.
          let ahead : length ps ≤ n = ltb-false n (length ps) e in
          at.unmatched n ahead ∙ sym (at.unmatched (n + 1) (omega arith)))
    ] refl

numbered-alike : (ps : List Place) → Placed ps → (t : Taking) → number ps t ≡ number ps (moved (length ps) t)
numbered-alike ps at t =
    elim (nat_lt t.place (length ps)) as (λ b. nat_lt t.place (length ps) ≡ b → number ps t ≡ number ps (record t { place = cond b t.place (t.place + 1) })) [
      | true ↦ (λ e. refl)
      | false ↦ (λ e.
          let ahead : length ps ≤ t.place = ltb-false t.place (length ps) e in
          at.unnumbered t ahead ∙ sym (at.unnumbered (record t { place = t.place + 1 }) (omega arith)))
    ] refl

-- what leaves the counts as they were
pub record LeavesAll (ps : List Place) (input : Input) (outputs : List Output) : Type 0 where
  pub begins_none : begins ps input ≡ false
  pub unsent : IsUnsent outputs
  pub drains_none : is_drain input ≡ true → outbox ps ≡ 0

drained-is : (b : Bool) (n : ℕ) → (b ≡ true → n ≡ 0) → n ≡ cond b 0 n
drained-is true n none = none refl
drained-is false n none = refl

still-alike : (config : Config) (ps : List Place) (m : ℕ) (input : Input) (outputs : List Output) → Placed ps → now ps ≤ m → LeavesAll ps input outputs → Alike (length ps) m ps (still config ps m input outputs ∷ ps)
still-alike config ps m input outputs at later leaves =
    let p = still config ps m input outputs in
    record {
      beyond = omega arith;
      places = omega arith;
      now_is = omega arith;
      link_is = refl;
      takings_are = map-below (length ps) (takings ps) at.each;
      matched = λ n. ap (option_map told) (matched-alike ps at n);
      numbered = λ t. numbered-alike ps at t ∙ ap (λ b. cond b None (number ps (moved (length ps) t))) (sym leaves.begins_none);
      used_is = sym (stays (begins ps input) (used ps) (send_count is_application_request p) leaves.begins_none leaves.unsent.application);
      base_is = sym (stays (begins ps input) (base ps) (send_count is_base_request p) leaves.begins_none leaves.unsent.base);
      outbox_is =
          drained-is (is_drain input) (outbox ps) leaves.drains_none
          ∙ ap (cond (is_drain input) 0) (sym (stays (begins ps input) (outbox ps) (send_count (λ h. true) p) leaves.begins_none leaves.unsent.any));
      total_is = sym (stays false (total ps) (send_count is_first_request p) refl leaves.unsent.first);
    }

places-split : (config : Config) (ps : List Place) (es more : List Event) → places config ps (es ++ more) ≡ places config (places config ps es) more
places-split config ps [] more = refl
places-split config ps (e ∷ es) more = places-split config (place config ps e ∷ ps) es more

-- an event at whose place nothing changes may be left out, where what comes later comes no earlier than it did
pub left-out : (config : Config) (history more : List Event) (m : ℕ) (input : Input) (outputs : List Output) (e : Event) → at_input config (past config history) (max (now (past config history)) m) input ≡ still config (past config history) (max (now (past config history)) m) input outputs → LeavesAll (past config history) input outputs → outputs_after config (history ++ record { moment = m; input = input } ∷ more) e ≡ outputs_after config (history ++ map (not_before (max (now (past config history)) m)) more) (not_before (max (now (past config history)) m) e)
left-out config history more m input outputs e is leaves =
    let ps = past config history in
    let at = max (now ps) m in
    let p = still config ps at input outputs in
    let alike : Alike (length ps) at (places config ps (map (not_before at) more)) (places config (p ∷ ps) more) =
    alike-places config (length ps) at ps (p ∷ ps) more (still-alike config ps at input outputs (placed config history) (omega arith) leaves)
    in
    ap (λ qs. (place config qs e).outputs) (places-split config [] history (record { moment = m; input = input } ∷ more))
    ∙ ap (λ q. (place config (places config (q ∷ ps) more) e).outputs) is
    ∙ sym (ap (λ (q : Place). q.outputs) (place-is config (length ps) at (places config ps (map (not_before at) more)) (places config (p ∷ ps) more) e alike))
    ∙ sym (ap (λ qs. (place config qs (not_before at e)).outputs) (places-split config [] history (map (not_before at) more)))

-- and all that goes out later is the same
pub left-outputs : (config : Config) (history more : List Event) (m : ℕ) (input : Input) (outputs : List Output) → at_input config (past config history) (max (now (past config history)) m) input ≡ still config (past config history) (max (now (past config history)) m) input outputs → LeavesAll (past config history) input outputs → each_outputs config (past config history) (map (not_before (max (now (past config history)) m)) more) ≡ each_outputs config (at_input config (past config history) (max (now (past config history)) m) input ∷ past config history) more
left-outputs config history more m input outputs is leaves =
    let ps = past config history in
    let at = max (now ps) m in
    let p = still config ps at input outputs in
    alike-outputs config (length ps) at ps (p ∷ ps) more (still-alike config ps at input outputs (placed config history) (omega arith) leaves)
    ∙ ap (λ q. each_outputs config (q ∷ ps) more) (sym is)
