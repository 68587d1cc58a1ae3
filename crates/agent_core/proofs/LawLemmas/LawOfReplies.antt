-- The Replies to a request are the same, and go to a client.
use Rattle.std.proofs.Common.{◌≡◌, ℕ, ◌+◌, Bool, true, false, cond, List, [], ◌∷◌, ◌++◌, map, find, option_map, Option, Some, None, Result, Ok, Err, refl, sym, ◌∙◌, ap, subst}
use Rattle.std.specs.Prelude.{◌==◌, nat_lt, is_some, option_to_list, max, not}
use Rattle.std.specs.List.{AllByRecursion, enumerate_from, list_any}
use Rattle.std.proofs.lemmas.Bool.{eqb-true, eq-eqb, and_from, or_left, or_right}
use Rattle.radius_packet.specs.declared.reasons.Via.{Via}
use Rattle.radius_packet.specs.declared.reasons.Reason.{Reason}
use Rattle.radius_packet.specs.declared.reasons.Reason.TheVariants as reasons
use Rattle.radius_packet.specs.declared.fault.PacketFault.{PacketFault}
use Rattle.radius_packet.specs.Packet.{PacketParts, read_packet}
use Rattle.session_carrier.specs.declared.kept.Kind2.{Kind2}
use Rattle.agent_settings.specs.declared.config.Config.{Config}
use Rattle.agent_settings.specs.declared.client.Client.{Client}
use Rattle.agent_settings.specs.Config.{find_address}
use Rattle.pending_table.specs.declared.key.Key.{Key}
use Rattle.pending_table.specs.Table.{same_key}
use Rattle.peer_machine.specs.declared.LinkCause.{LinkCause}
use Rattle.peer_machine.specs.Reading.{said_in}
use Rattle.peer_machine.specs.declared.words.Event.TheVariants.{Says}
use Rattle.peer_machine.specs.declared.peer.PeerOutput.{PeerOutput}
use Rattle.agent_events.specs.declared.events.Input.{Input}
use Rattle.agent_events.specs.declared.events.Input.TheVariants.{Datagram, Up, Ready, Message, Broken, Down, Tick, Drain, Leave}
use Rattle.agent_events.specs.declared.events.Output.{Output}
use Rattle.agent_events.specs.declared.events.Output.TheVariants.{Reply, Send, Dropped, Closed}
use Rattle.agent_core.specs.Verdict.{Request, verdict, judged, packet_verdict, client_verdict, kind_at, code_at, key_of}
use Rattle.agent_core.specs.Places.{Event, Place, Taking, now, takings, is_at, match_of, answer_to, reply_in, ends, live, waiting}
use Rattle.agent_core.specs.History.{at_input, place, past, repeated, link_output, link_outputs, resends, again, reply_outputs, outcome_outputs, matches, linked, answered, taking_of, outcome, next_numbers}
use Rattle.agent_core.specs.LawsOfRequests.{RepliesAreTheSame, RepliesGoToClients, IsToClient, is_from, known_by, come_again, replied, replies_in, replies_to}
use Rattle.agent_core.proofs.ListLemmas.Lists.{AllByRecursion-weaken, AllByRecursion-filter, AllByRecursion-push, find-All}
use Rattle.agent_core.proofs.LawLemmas.LawOfKeys.{same_via-refl}
use Rattle.agent_core.proofs.LawLemmas.LawOfMatches.{MatchesNew, matches-new}
use Rattle.agent_core.proofs.LawLemmas.LawPlaces.{place-by, history-by}

-- ---- what holds of the outputs

pub each-append : {X : Type 0} (P : X → Type 0) (xs ys : List X) → AllByRecursion P xs → AllByRecursion P ys → AllByRecursion P (xs ++ ys)
each-append P [] ys all more = more
each-append P (x ∷ xs) ys all more = (all.0, each-append P xs ys all.1 more)

resends-each : (P : Output → Type 0) → ((octets : List ℕ) → P (Send octets)) → (n : ℕ) (ts : List Taking) → AllByRecursion P (map (λ (q : ℕ × Taking). Send (again q.1.sent q.0)) (enumerate_from n ts))
resends-each P sends n [] = tt
resends-each P sends n (t ∷ ts) = (sends (again t.sent n), resends-each P sends (n + 1) ts)

sends-each : (P : Output → Type 0) → ((octets : List ℕ) → P (Send octets)) → (o : Option (List ℕ)) → AllByRecursion P (option_to_list (option_map Send o))
sends-each P sends None = tt
sends-each P sends (Some octets) = (sends octets, tt)

pub closes-each : (P : Output → Type 0) → ((cause : LinkCause) → P (Closed cause)) → (o : Option LinkCause) → AllByRecursion P (option_to_list (option_map Closed o))
closes-each P closes None = tt
closes-each P closes (Some cause) = (closes cause, tt)

pub drops-each : (P : Output → Type 0) → ((reason : Reason) → P (Dropped reason)) → (o : Option Reason) → AllByRecursion P (option_to_list (option_map Dropped o))
drops-each P drops None = tt
drops-each P drops (Some reason) = (drops reason, tt)

-- of what the link sends, and sends again
pub links-each : (P : Output → Type 0) → ((octets : List ℕ) → P (Send octets)) → ((cause : LinkCause) → P (Closed cause)) → ((reason : Reason) → P (Dropped reason)) → (o : PeerOutput) (ts : List Taking) → AllByRecursion P (link_outputs o ++ resends ts)
links-each P sends closes drops o ts =
    each-append P (link_outputs o) (resends ts)
    (each-append P (option_to_list (option_map Send o.send) ++ option_to_list (option_map Closed o.closed)) (option_to_list (option_map Dropped o.dropped))
    (each-append P (option_to_list (option_map Send o.send)) (option_to_list (option_map Closed o.closed)) (sends-each P sends o.send) (closes-each P closes o.closed))
    (drops-each P drops o.dropped))
    (resends-each P sends 0 ts)

-- ---- the same

abbrev IsNone : Output → Type 0
IsNone output = (outputs : List Output) → replies_in (output ∷ outputs) ≡ replies_in outputs

no-replies : (outputs : List Output) → AllByRecursion IsNone outputs → replies_in outputs ≡ []
no-replies [] all = refl
no-replies (output ∷ outputs) all = all.0 outputs ∙ no-replies outputs all.1

abbrev Answered : ℕ → List Place → List ℕ → Type 0
Answered n ps octets = answer_to n ps ≡ Some (Some octets)

abbrev SameAt : Config → List Place → Place → Type 0
SameAt config ps p = (n : ℕ) → is_at n (replied config ps p) ≡ true → AllByRecursion (Answered n (p ∷ ps)) (replies_in p.outputs)

repeated-same : (key : Key) (o : Option (Option (List ℕ))) → AllByRecursion (λ octets. o ≡ Some (Some octets)) (replies_in (repeated key o))
repeated-same key None = tt
repeated-same key (Some None) = tt
repeated-same key (Some (Some octets)) = (refl, tt)

outcome-same : (key : Key) (reply follow : Option (List ℕ)) → AllByRecursion (λ octets. Some (reply_in (reply_outputs key reply ++ option_to_list (option_map Send follow))) ≡ Some (Some octets)) (replies_in (reply_outputs key reply ++ option_to_list (option_map Send follow)))
outcome-same key None None = tt
outcome-same key None (Some more) = tt
outcome-same key (Some octets) None = (refl, tt)
outcome-same key (Some octets) (Some more) = (refl, tt)

unmatched-none : (b : Bool) → replies_in (cond b [] (Dropped reasons.Unmatched ∷ [])) ≡ []
unmatched-none true = refl
unmatched-none false = refl

none-each : (P : List ℕ → Type 0) (xs : List (List ℕ)) → xs ≡ [] → AllByRecursion P xs
none-each P xs none = subst (AllByRecursion P) (sym none) tt

same-at : (config : Config) (ps : List Place) (m : ℕ) (input : Input) → SameAt config ps (at_input config ps m input)
same-at config ps m input = place-by (SameAt config ps) config ps m input (record {
  drained = λ quiet n e. tt;
  dropped = λ quiet reason n e. tt;
  repeats = λ quiet t comes n e.
      let here : is_at n (Some t) ≡ true = ap (is_at n) (sym comes) ∙ e in
      subst (λ k. AllByRecursion (Answered k ps) (replies_in (repeated t.key (answer_to t.place ps)))) (eqb-true t.place n here)
      (repeated-same t.key (answer_to t.place ps));
  takes = λ quiet request takes n e. tt;
  links = λ apart event message begun n e.
      let p = linked config ps m input event message in
      none-each (Answered n (p ∷ ps)) (replies_in p.outputs) (no-replies p.outputs (links-each IsNone (λ octets outputs. refl) (λ cause outputs. refl) (λ reason outputs. refl) (link_output config ps m input event message) p.resent));
  unmatched = λ octets message comes n e. none-each _ _ (unmatched-none (message.header.command == 275));
  matched = λ octets message comes t found n e.
      let o = outcome t.kept.kind t.settings t.kept message (next_numbers config ps) in
      subst (λ (b : Bool). AllByRecursion (λ x. option_map (λ (p : Place). reply_in p.outputs) (cond b (Some (answered config ps m message (linked config ps m (Message octets) (Says (said_in message)) (Some message)) (Some t))) (match_of n ps)) ≡ Some (Some x)) (replies_in (outcome_outputs t.key o))) (sym e)
      (outcome-same t.key o.reply o.follow);
})

not-both : (p : Place) (ps : List Place) (n : ℕ) (r : Option (List ℕ)) → MatchesNew ps p → answer_to n ps ≡ Some r → answer_to n (p ∷ ps) ≡ Some r
not-both p ps n r anew was =
    elim (is_at n p.matched) as (λ b. is_at n p.matched ≡ b → option_map (λ (q : Place). reply_in q.outputs) (cond b (Some p) (match_of n ps)) ≡ Some r) [
      | true ↦ (λ e.
          let none : answer_to n ps ≡ None = ap (option_map (λ (q : Place). reply_in q.outputs)) (anew n e) in
          absurd (cc))
      | false ↦ (λ e. was)
    ] refl

AllSame : Config → List Place → Type 0
AllSame config ps = (n : ℕ) → AllByRecursion (Answered n ps) (replies_to config n ps)

same-on : (config : Config) (p : Place) (ps : List Place) → MatchesNew ps p → SameAt config ps p → AllSame config ps → AllSame config (p ∷ ps)
unfolding AllSame
same-on config p ps anew here before n =
    each-append (Answered n (p ∷ ps)) (cond (is_at n (replied config ps p)) (replies_in p.outputs) []) (replies_to config n ps)
    (elim (is_at n (replied config ps p)) as (λ b. is_at n (replied config ps p) ≡ b → AllByRecursion (Answered n (p ∷ ps)) (cond b (replies_in p.outputs) [])) [
      | true ↦ (λ e. here n e)
      | false ↦ (λ e. tt)
    ] refl)
    (AllByRecursion-weaken (Answered n ps) (Answered n (p ∷ ps)) (λ octets was. not-both p ps n (Some octets) anew was) (replies_to config n ps) (before n))

pub same : RepliesAreTheSame
unfolding AllSame
same config history n = history-by config (AllSame config) (λ k. tt)
    (λ past_events e before.
    let ps = past config past_events in
    let m = max (now ps) e.moment in
    same-on config (at_input config ps m e.input) ps (matches-new config ps m e.input) (same-at config ps m e.input) before) history n

-- ---- only to clients

-- a client has the address that the request came from
abbrev IsClients : Config → Taking → Type 0
IsClients config t = is_some (find_address t.key.address config.clients) ≡ true

judged-key : (place : ℕ) (client : Client) (packet : PacketParts) (key : Key) (r : Result Kind2 Reason) (request : Request) → judged place client packet key r ≡ Ok request → key ≡ request.key
judged-key place client packet key (Err reason) request e = absurd (cc)
judged-key place client packet key (Ok kind) request e =
    let made : Request = record { client = place; settings = client; kind = kind; packet = packet; key = key } in
    let same : made ≡ request = cc in
    ap (λ (r : Request). r.key) same

packet-address : (via : Via) (address port : ℕ) (octets : List ℕ) (client : ℕ × Client) (r : Result PacketParts PacketFault) (request : Request) → packet_verdict via address port octets client r ≡ Ok request → address ≡ request.key.address
packet-address via address port octets client (Err fault) request e = absurd (cc)
packet-address via address port octets client (Ok packet) request e =
    elim (packet.code == code_at via) as (λ b. cond b (judged client.0 client.1 packet (key_of via address port packet) (kind_at via client.1 address packet)) (Err reasons.BadCode) ≡ Ok request → address ≡ request.key.address) [
      | true ↦ (λ h. ap (λ (k : Key). k.address) (judged-key client.0 client.1 packet (key_of via address port packet) (kind_at via client.1 address packet) request h))
      | false ↦ (λ h. absurd (cc))
    ] e

client-address : (via : Via) (address port : ℕ) (octets : List ℕ) (found : Option (ℕ × Client)) (request : Request) → client_verdict via address port octets found ≡ Ok request → (is_some found ≡ true) × (address ≡ request.key.address)
client-address via address port octets None request e = absurd (cc)
client-address via address port octets (Some c) request e = (refl, packet-address via address port octets c (read_packet octets) request e)

request-clients : (config : Config) (via : Via) (address port : ℕ) (octets : List ℕ) (request : Request) → verdict config via address port octets ≡ Ok request → is_some (find_address request.key.address config.clients) ≡ true
request-clients config via address port octets request e =
    let both = client-address via address port octets (find_address address config.clients) request e in
    subst (λ a. is_some (find_address a config.clients) ≡ true) both.1 both.0

abbrev FromClients : Config → List Place → Type 0
FromClients config ps = AllByRecursion (IsClients config) (takings ps)

from-at : (config : Config) (ps : List Place) (m : ℕ) (input : Input) → FromClients config ps → FromClients config (at_input config ps m input ∷ ps)
from-at config ps m input before = place-by (λ p. FromClients config (p ∷ ps)) config ps m input (record {
  drained = λ quiet. before;
  dropped = λ quiet reason. before;
  repeats = λ quiet t comes. before;
  takes = λ quiet request takes. AllByRecursion-push (IsClients config) (takings ps) (taking_of config ps m request) before (request-clients config takes.via takes.address takes.port takes.octets request takes.judged);
  links = λ apart event message begun. before;
  unmatched = λ octets message comes. before;
  matched = λ octets message comes t found. before;
})

from_clients : (config : Config) (history : List Event) → FromClients config (past config history)
from_clients config history = history-by config (FromClients config) tt
    (λ past_events e before. from-at config (past config past_events) (max (now (past config past_events)) e.moment) e.input before) history

-- what holds of each that was taken up holds of the one that came again
known-each : (P : Taking → Type 0) (config : Config) (ps : List Place) (m : ℕ) (r : Result Request Reason) (t : Taking) → known_by config ps m r ≡ Some t → AllByRecursion P (takings ps) → P t
known-each P config ps m (Err reason) t e all = absurd (cc)
known-each P config ps m (Ok request) t e all =
    find-All P (λ (u : Taking). same_key u.key request.key) (live config ps m) (AllByRecursion-filter P (λ u. nat_lt m (ends config ps u)) (takings ps) all) t e

again-each : (P : Taking → Type 0) (config : Config) (ps : List Place) (m : ℕ) (input : Input) (t : Taking) → come_again config ps m input ≡ Some t → AllByRecursion P (takings ps) → P t
again-each P config ps m (Datagram via address port octets) t e all = known-each P config ps m (verdict config via address port octets) t e all
again-each P config ps m Up t e all = absurd (cc)
again-each P config ps m Ready t e all = absurd (cc)
again-each P config ps m (Message octets) t e all = absurd (cc)
again-each P config ps m (Broken fault) t e all = absurd (cc)
again-each P config ps m Down t e all = absurd (cc)
again-each P config ps m Tick t e all = absurd (cc)
again-each P config ps m Drain t e all = absurd (cc)
again-each P config ps m Leave t e all = absurd (cc)

waiting-each : (P : Taking → Type 0) (config : Config) (ps : List Place) (m : ℕ) (q : Taking → Bool) (t : Taking) → find q (waiting config ps m) ≡ Some t → AllByRecursion P (takings ps) → P t
waiting-each P config ps m q t e all =
    find-All P q (waiting config ps m) (AllByRecursion-filter P (λ u. not (is_some (match_of u.place ps))) (live config ps m) (AllByRecursion-filter P (λ u. nat_lt m (ends config ps u)) (takings ps) all)) t e

any-each : (r : Taking → Bool) (ts : List Taking) → AllByRecursion (λ t. r t ≡ true → list_any r ts ≡ true) ts
any-each r [] = tt
any-each r (t ∷ ts) = (
  (λ e. or_left (r t) (list_any r ts) e),
  AllByRecursion-weaken _ _ (λ u some e. or_right (r t) (list_any r ts) (some e)) ts (any-each r ts),
)

-- where its Replies go
record Returns (config : Config) (ts : List Taking) (t : Taking) : Type 0 where
  pub own : (octets : List ℕ) → is_from (Reply t.key.via t.key.address t.key.port octets) t ≡ true
  pub from : (octets : List ℕ) → list_any (is_from (Reply t.key.via t.key.address t.key.port octets)) ts ≡ true
  pub client : IsClients config t

both-each : (P Q : Taking → Type 0) (ts : List Taking) → AllByRecursion P ts → AllByRecursion Q ts → AllByRecursion (λ t. P t × Q t) ts
both-each P Q [] all more = tt
both-each P Q (t ∷ ts) all more = ((all.0, more.0), both-each P Q ts all.1 more.1)

is_from-own : (t : Taking) (octets : List ℕ) → is_from (Reply t.key.via t.key.address t.key.port octets) t ≡ true
is_from-own t octets = and_from _ _ (and_from _ _ (same_via-refl t.key.via) (eq-eqb t.key.address t.key.address refl)) (eq-eqb t.key.port t.key.port refl)

each-any : (ts us : List Taking) → ((r : Taking → Bool) → AllByRecursion (λ t. r t ≡ true → list_any r ts ≡ true) us) → AllByRecursion (λ t. (octets : List ℕ) → list_any (is_from (Reply t.key.via t.key.address t.key.port octets)) ts ≡ true) us
each-any ts [] some = tt
each-any ts (u ∷ us) some = (
  (λ octets. (some (is_from (Reply u.key.via u.key.address u.key.port octets))).0 (is_from-own u octets)),
  each-any ts us (λ r. (some r).1),
)

go-back : (config : Config) (ts : List Taking) → AllByRecursion (IsClients config) ts → AllByRecursion (Returns config ts) ts
go-back config ts all =
    AllByRecursion-weaken _ _ (λ t both. record { own = is_from-own t; from = both.0; client = both.1 }) ts
    (both-each _ (IsClients config) ts (each-any ts ts (λ r. any-each r ts)) all)

goes : (config : Config) (ts : List Taking) (t : Taking) → Returns config ts t → (octets : List ℕ) → IsToClient config ts (Some t) (Reply t.key.via t.key.address t.key.port octets)
goes config ts t back octets = (back.own octets, record { taken = back.from octets; client = back.client })

repeated-goes : (config : Config) (ts : List Taking) (t : Taking) (o : Option (Option (List ℕ))) → Returns config ts t → AllByRecursion (IsToClient config ts (Some t)) (repeated t.key o)
repeated-goes config ts t None back = (tt, tt)
repeated-goes config ts t (Some None) back = (tt, tt)
repeated-goes config ts t (Some (Some octets)) back = (goes config ts t back octets, tt)

outcome-goes : (config : Config) (ts : List Taking) (t : Taking) (reply follow : Option (List ℕ)) → Returns config ts t → AllByRecursion (IsToClient config ts (Some t)) (reply_outputs t.key reply ++ option_to_list (option_map Send follow))
outcome-goes config ts t None None back = tt
outcome-goes config ts t None (Some more) back = (tt, tt)
outcome-goes config ts t (Some octets) None back = (goes config ts t back octets, tt)
outcome-goes config ts t (Some octets) (Some more) back = (goes config ts t back octets, (tt, tt))

unmatched-goes : (config : Config) (ts : List Taking) (asked : Option Taking) (b : Bool) → AllByRecursion (IsToClient config ts asked) (cond b [] (Dropped reasons.Unmatched ∷ []))
unmatched-goes config ts asked true = tt
unmatched-goes config ts asked false = (tt, tt)

abbrev AreToClients : Config → List Place → Place → Type 0
AreToClients config ps p = AllByRecursion (IsToClient config (takings ps) (replied config ps p)) p.outputs

to-clients : (config : Config) (ps : List Place) (m : ℕ) (input : Input) → FromClients config ps → AreToClients config ps (at_input config ps m input)
to-clients config ps m input from =
    let ts = takings ps in
    let back = go-back config ts from in
    place-by (AreToClients config ps) config ps m input (record {
      drained = λ quiet. tt;
      dropped = λ quiet reason. (tt, tt);
      repeats = λ quiet t comes.
          subst (λ (o : Option Taking). AllByRecursion (IsToClient config ts o) (repeated t.key (answer_to t.place ps))) (sym comes)
          (repeated-goes config ts t (answer_to t.place ps) (again-each (Returns config ts) config ps m input t comes back));
      takes = λ quiet request takes. (tt, tt);
      links = λ apart event message begun.
          links-each (IsToClient config ts (come_again config ps m input)) (λ octets. tt) (λ cause. tt) (λ reason. tt) (link_output config ps m input event message) (linked config ps m input event message).resent;
      unmatched = λ octets message comes. unmatched-goes config ts None (message.header.command == 275);
      matched = λ octets message comes t found.
          let o = outcome t.kept.kind t.settings t.kept message (next_numbers config ps) in
          outcome-goes config ts t o.reply o.follow (waiting-each (Returns config ts) config ps m (matches ps message.header) t found back);
    })

pub only_to_clients : RepliesGoToClients
only_to_clients config history e =
    to-clients config (past config history) (max (now (past config history)) e.moment) e.input (from_clients config history)
