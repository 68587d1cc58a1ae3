-- Laws of the rule about the requests that are taken up, for every history.
use Rattle.std.specs.Prelude.{◌≡◌, ◌≢◌, ℕ, ◌≤◌, ◌⊎◌, Bool, true, false, ◌==◌, ◌&&◌, is_some, List, [], ◌∷◌, ◌++◌, count_by, slice_index, bit_and, Option, Some, None, find, Result, Ok, Err, if◌then◌else◌, option_map, option_to_list}
use Rattle.std.specs.Option.{option_or}
use Rattle.std.specs.List.{AllByRecursion as Each, list_any}
use Rattle.diameter_avp.specs.Avps.{AvpParts, read_avps}
use Rattle.diameter_message.specs.declared.header.Header.{Header}
use Rattle.diameter_message.specs.Message.{MessageParts, read_message}
use Rattle.diameter_message.specs.Results.{is_success, result_code}
use Rattle.translation.specs.Reading.{has_own_session}
use Rattle.session_carrier.specs.declared.kept.Kind2.{Kind2}
use Rattle.session_carrier.specs.declared.kept.Kind2.TheVariants.{Access, Eap, Start, Interim, Stop}
use Rattle.session_carrier.specs.declared.kept.Outcome.{Outcome}
use Rattle.agent_settings.specs.declared.config.Config.{Config}
use Rattle.agent_settings.specs.Config.{InLimits, find_address}
use Rattle.radius_packet.specs.declared.reasons.Reason.{Reason}
use Rattle.peer_machine.specs.declared.Phase.{Phase}
use Rattle.peer_machine.specs.declared.Phase.TheVariants.{Closed, Greeting, Serving, Closing}
use Rattle.pending_table.specs.declared.key.Key.{Key}
use Rattle.pending_table.specs.Table.{same_key, same_via}
use Rattle.agent_events.specs.declared.events.Input.{Input}
use Rattle.agent_events.specs.declared.events.Input.TheVariants.{Datagram, Message}
use Rattle.agent_events.specs.declared.events.Output.{Output}
use Rattle.agent_events.specs.declared.events.Output.TheVariants.{Reply, Send}
use Rattle.agent_core.specs.Verdict.{Request, verdict}
use Rattle.agent_core.specs.Places.{Event, Place, Taking, link, takings, is_at, ends, live, waiting, answer_to, is_request}
use Rattle.agent_core.specs.History.{place, past, matches, outcome, next_numbers}

-- ---- requests of one key are apart

-- each earlier request of its key has ended by this moment
abbrev pub ComesApart : Config → List Place → ℕ → Taking → Type 0
ComesApart config ps m t = Each (λ earlier. earlier.key ≡ t.key → ends config ps earlier ≤ m) (takings ps)

-- a request that is taken up comes at or after the end of each earlier one of its key
abbrev pub RequestsOfOneKeyAreApart : Type 0
RequestsOfOneKeyAreApart = (config : Config) (history : List Event) (e : Event) (t : Taking) → (place config (past config history) e).taken ≡ Some t
    → ComesApart config (past config history) (place config (past config history) e).moment t

-- ---- requests are matched once

-- at most one place matches a request, over all links
abbrev pub IsMatchedOnce : List Place → Type 0
IsMatchedOnce ps = (n : ℕ) → count_by (λ p. is_at n p.matched) ps ≤ 1

-- an answer matches at most one of the requests that wait
abbrev pub MatchesOne : Config → List Place → Type 0
MatchesOne config ps = (m : ℕ) (h : Header) → count_by (matches ps h) (waiting config ps m) ≤ 1

abbrev pub RequestsAreMatchedOnce : Type 0
RequestsAreMatchedOnce = (config : Config) (history : List Event) → InLimits config → IsMatchedOnce (past config history) × MatchesOne config (past config history)

-- ---- fresh sessions differ

-- a session that a request begins is none that an earlier one began
abbrev pub FreshSessionsDiffer : Type 0
FreshSessionsDiffer = (config : Config) (history : List Event) (e : Event) (t : Taking) → InLimits config
    → (place config (past config history) e).taken ≡ Some t → t.fresh ≡ true
    → Each (λ earlier. earlier.fresh ≡ true → earlier.kept.session ≢ t.kept.session) (takings (past config history))

-- ---- replies are the same

-- the live request of a datagram's key
abbrev pub known_by : Config → List Place → ℕ → Result Request Reason → Option Taking
known_by config ps m (Err reason) = None
known_by config ps m (Ok request) = find (λ t. same_key t.key request.key) (live config ps m)

abbrev pub come_again : Config → List Place → ℕ → Input → Option Taking
come_again config ps m (Datagram via address port octets) = known_by config ps m (verdict config via address port octets)
come_again config ps m input = None

-- the request that a place replies to, if it replies: the one that it matches, or the live one that came again
abbrev pub replied : Config → List Place → Place → Option Taking
replied config ps p = option_or p.matched (come_again config ps p.moment p.input)

-- the octets of each Reply
abbrev pub replies_in : List Output → List (List ℕ)
replies_in [] = []
replies_in (Reply via address port octets ∷ outputs) = octets ∷ replies_in outputs
replies_in (output ∷ outputs) = replies_in outputs

-- all Replies to the request taken up at this place
abbrev pub replies_to : Config → ℕ → List Place → List (List ℕ)
replies_to config n [] = []
replies_to config n (p ∷ ps) = (if is_at n (replied config ps p) then replies_in p.outputs else []) ++ replies_to config n ps

-- each Reply to a request is the one that went out where it was matched
abbrev pub RepliesAreTheSame : Type 0
RepliesAreTheSame = (config : Config) (history : List Event) (n : ℕ)
    → Each (λ octets. answer_to n (past config history) ≡ Some (Some octets)) (replies_to config n (past config history))

-- ---- answers settle

-- an answer may come
abbrev pub is_open : Phase → Bool
is_open Closed = false
is_open Greeting = false
is_open Serving = true
is_open Closing = true

-- the reply first, where there is one, and then the further request, where there is one
abbrev pub answer_outputs : Key → Outcome → List Output
answer_outputs key o =
    option_to_list (option_map (λ octets. Reply key.via key.address key.port octets) o.reply) ++ option_to_list (option_map Send o.follow)

-- its place matches it, it waits no longer, and its reply goes out, and then what follows
pub record IsSettled (config : Config) (ps : List Place) (p : Place) (message : MessageParts) (t : Taking) : Type 0 where
  pub matched : p.matched ≡ Some t
  pub gone : Each (λ u. u.place ≢ t.place) (waiting config (p ∷ ps) p.moment)
  pub outputs : p.outputs ≡ answer_outputs t.key (outcome t.kept.kind t.settings t.kept message (next_numbers config ps))

abbrev pub SettlesAt : Config → List Place → Place → MessageParts → Type 0
SettlesAt config ps p message = Each (λ t. matches ps message.header t ≡ true → IsSettled config ps p message t) (waiting config ps p.moment)

-- an answer that comes while the link serves or closes settles the request that waits for it
abbrev pub AnswersSettle : Type 0
AnswersSettle = (config : Config) (history : List Event) (m : ℕ) (octets : List ℕ) (message : MessageParts) → InLimits config
    → read_message octets ≡ Ok message → is_request message.header ≡ false → is_open (link (past config history)).phase ≡ true
    → SettlesAt config (past config history) (place config (past config history) (record { moment = m; input = Message octets })) message

-- ---- replies go to clients

-- this request came from there
abbrev pub is_from : Output → Taking → Bool
is_from (Reply via address port octets) t = same_via t.key.via via && t.key.address == address && t.key.port == port
is_from output t = true

-- a request was taken up that came from there, and a client has this address
pub record IsOfClient (config : Config) (ts : List Taking) (address : ℕ) (reply : Output) : Type 0 where
  pub taken : list_any (is_from reply) ts ≡ true
  pub client : is_some (find_address address config.clients) ≡ true

-- the place replies to a request, and a Reply goes to where this one came from
abbrev pub GoesBack : Option Taking → Output → Type 0
GoesBack None reply = ⊥
GoesBack (Some t) reply = is_from reply t ≡ true

-- where a Reply goes, by the requests before its place and the one that it replies to
abbrev pub IsToClient : Config → List Taking → Option Taking → Output → Type 0
IsToClient config ts asked (Reply via address port octets) =
    GoesBack asked (Reply via address port octets) × IsOfClient config ts address (Reply via address port octets)
IsToClient config ts asked output = Unit {0}

abbrev pub RepliesGoToClients : Type 0
RepliesGoToClients = (config : Config) (history : List Event) (e : Event)
    → Each (IsToClient config (takings (past config history)) (replied config (past config history) (place config (past config history) e)))
    (place config (past config history) e).outputs

-- ---- acceptances are guarded

-- a request for access, and not one of accounting
abbrev pub asks_for_access : Kind2 → Bool
asks_for_access Access = true
asks_for_access Eap = true
asks_for_access Start = false
asks_for_access Interim = false
asks_for_access Stop = false

-- the answer's flag E is clear, its AVPs can be read, its Result-Code is one of 2000 to 2999, and its one Session-Id is this session
pub record Accepts (message : MessageParts) (session : List ℕ) : Type 0 where
  pub sound : bit_and message.header.flags 32 ≡ 0
  pub avps : List AvpParts
  pub read : read_avps message.avps ≡ Ok avps
  pub success : is_success (result_code avps) ≡ true
  pub own : has_own_session session avps ≡ true

-- the request is one for access, and a message came that accepts it
abbrev pub IsAccepted : Input → Taking → Type 0
IsAccepted (Message octets) t =
    (asks_for_access t.kept.kind ≡ true) × ((message : MessageParts) × ((read_message octets ≡ Ok message) × Accepts message t.kept.session))
IsAccepted input t = ⊥

-- a Reply of code 2 goes out only where a request is matched that the answer accepts, or to one that came again and got this very reply
abbrev pub IsGuarded : Config → List Place → Place → Output → Type 0
IsGuarded config ps p (Reply via address port octets) = slice_index octets 0 ≡ 2
    → ((t : Taking) × ((p.matched ≡ Some t) × IsAccepted p.input t))
    ⊎ ((t : Taking) × ((come_again config ps p.moment p.input ≡ Some t) × (answer_to t.place ps ≡ Some (Some octets))))
IsGuarded config ps p output = Unit {0}

abbrev pub AcceptancesAreGuarded : Type 0
AcceptancesAreGuarded = (config : Config) (history : List Event) (e : Event)
    → Each (IsGuarded config (past config history) (place config (past config history) e)) (place config (past config history) e).outputs
