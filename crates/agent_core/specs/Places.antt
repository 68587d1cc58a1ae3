-- The places of a history, and what a search of the earlier ones finds. Nothing here has a table, an index, an expiry or
-- a counter: the history is searched at each place.
use Rattle.std.specs.Prelude.{ℕ, ◌+◌, Bool, true, false, ◌==◌, nat_le, nat_lt, ◌&&◌, ◌||◌, not, List, [], ◌∷◌, ◌++◌, length, filter, count_by, bit_and, Option, Some, None, option_map, is_some, if◌then◌else◌}
use Rattle.std.specs.Option.{option_or}
use Rattle.diameter_message.specs.declared.header.Header.{Header}
use Rattle.diameter_message.specs.Message.{parts_of}
use Rattle.session_carrier.specs.declared.kept.Kept.{Kept}
use Rattle.agent_settings.specs.declared.config.Config.{Config}
use Rattle.agent_settings.specs.declared.client.Client.{Client}
use Rattle.pending_table.specs.declared.key.Key.{Key}
use Rattle.peer_machine.specs.declared.Phase.{Phase}
use Rattle.peer_machine.specs.declared.Phase.TheVariants.{Closed, Greeting, Serving, Closing}
use Rattle.peer_machine.specs.Rules.{may_begin}
use Rattle.agent_events.specs.declared.events.Input.{Input}
use Rattle.agent_events.specs.declared.events.Input.TheVariants.{Up, Ready}
use Rattle.agent_events.specs.declared.events.Output.{Output}
use Rattle.agent_events.specs.declared.events.Output.TheVariants.{Reply, Send}
use Rattle.agent_events.specs.Kinds.{is_drain}
use Rattle.agent_core.specs.Links.{LinkAt, no_link}

-- an input and the moment that came with it
pub record Event : Type 0 where
  pub moment : ℕ
  pub input : Input

-- a request that was taken up: where and when, the message that it sent then and its hop, what is kept of it, and whether
-- it began a session
pub record Taking : Type 0 where
  pub place : ℕ
  pub moment : ℕ
  pub settings : Client
  pub key : Key
  pub hop : ℕ
  pub sent : List ℕ
  pub kept : Kept
  pub fresh : Bool

-- what happened at a place of the history: the greatest moment so far, the input, the link after it, the request that was
-- taken up or matched there, those that were sent again, and what went out
pub record Place : Type 0 where
  pub moment : ℕ
  pub input : Input
  pub link : LinkAt
  pub taken : Option Taking
  pub matched : Option Taking
  pub resent : List Taking
  pub outputs : List Output

-- The places before an input are a list, the newest first: what is earlier than a place is the rest of the list after it,
-- and its number is the length of that rest.

-- the greatest moment so far
abbrev pub now : List Place → ℕ
now [] = 0
now (p ∷ ps) = p.moment

-- ---- the link

-- the link before an input: none began at first
abbrev pub link : List Place → LinkAt
link [] = no_link
link (p ∷ ps) = p.link

-- whether this input begins a link
abbrev pub begins : List Place → Input → Bool
begins ps Up = may_begin (link ps).phase (link ps).number
begins ps Ready = may_begin (link ps).phase (link ps).number
begins ps input = false

abbrev pub is_serving : Phase → Bool
is_serving Serving = true
is_serving Closed = false
is_serving Greeting = false
is_serving Closing = false

-- an opening: the link serves, and didn't before
abbrev pub opens : Phase → Phase → Bool
opens before after = not (is_serving before) && is_serving after

-- ---- the requests that were taken up

-- the requests that were taken up, in the order of taking
abbrev pub with_taking : Option Taking → List Taking → List Taking
with_taking None ts = ts
with_taking (Some t) ts = ts ++ t ∷ []

abbrev pub takings : List Place → List Taking
takings [] = []
takings (p ∷ ps) = with_taking p.taken (takings ps)

abbrev pub is_at : ℕ → Option Taking → Bool
is_at place None = false
is_at place (Some t) = t.place == place

-- the place that matches the request taken up at this place
abbrev pub match_of : ℕ → List Place → Option Place
match_of place [] = None
match_of place (p ∷ ps) = if is_at place p.matched then Some p else match_of place ps

-- the first Reply's octets
abbrev pub reply_in : List Output → Option (List ℕ)
reply_in [] = None
reply_in (Reply via address port octets ∷ outputs) = Some octets
reply_in (output ∷ outputs) = reply_in outputs

-- the reply that the request taken up at this place got, or that it got none; None where it still waits
abbrev pub answer_to : ℕ → List Place → Option (Option (List ℕ))
answer_to place ps = option_map (λ p. reply_in p.outputs) (match_of place ps)

-- when a request is dead that was taken up at the moment `taken`: the patience later where no place matches it, else the
-- retention after its match (profile)
abbrev pub end_by : Config → ℕ → Option Place → ℕ
end_by config taken None = taken + config.patience
end_by config taken (Some p) = p.moment + config.retention

abbrev pub ends : Config → List Place → Taking → ℕ
ends config ps t = end_by config t.moment (match_of t.place ps)

-- those that aren't dead yet
abbrev pub live : Config → List Place → ℕ → List Taking
live config ps m = filter (λ t. nat_lt m (ends config ps t)) (takings ps)

-- those of them that no earlier place matches
abbrev pub waiting : Config → List Place → ℕ → List Taking
waiting config ps m = filter (λ t. not (is_some (match_of t.place ps))) (live config ps m)

-- where this request stands among those, counted from n
abbrev pub rank : ℕ → ℕ → List Taking → Option ℕ
rank place n [] = None
rank place n (t ∷ ts) = if t.place == place then Some n else rank place (n + 1) ts

-- the hop with which it was sent at this place: the k-th that is sent again has hop k
abbrev pub hop_at : Taking → Place → Option ℕ
hop_at t p = option_or (rank t.place 0 p.resent) (if is_at t.place p.taken then Some t.hop else None)

-- the hop with which it was last sent on the present link, where it was
abbrev pub number : List Place → Taking → Option ℕ
number [] t = None
number (p ∷ ps) t = option_or (hop_at t p) (if begins ps p.input then None else number ps t)

-- ---- what was sent

-- the header of what a Send has (RFC 6733, section 3)
abbrev pub header_of : List ℕ → Header
header_of octets = (parts_of octets).header

-- flag R is set
abbrev pub is_request : Header → Bool
is_request h = nat_le 128 h.flags

-- AA, Diameter-EAP, Accounting and Session-Termination
abbrev pub is_application_request : Header → Bool
is_application_request h = is_request h && (h.command == 265 || h.command == 268 || h.command == 271 || h.command == 275)

-- Capabilities-Exchange, Device-Watchdog and Disconnect-Peer
abbrev pub is_base_request : Header → Bool
is_base_request h = is_request h && (h.command == 257 || h.command == 280 || h.command == 282)

-- a request that isn't sent again: flag T is clear
abbrev pub is_first_request : Header → Bool
is_first_request h = is_request h && bit_and h.flags 16 == 0

abbrev pub is_sent : (Header → Bool) → Output → Bool
is_sent test (Send octets) = test (header_of octets)
is_sent test output = false

-- how many messages that meet the test go out at a place
abbrev pub send_count : (Header → Bool) → Place → ℕ
send_count test p = count_by (is_sent test) p.outputs

-- how many such messages went out since the present link began
abbrev pub sent_on_link : (Header → Bool) → List Place → ℕ
sent_on_link test [] = 0
sent_on_link test (p ∷ ps) = if begins ps p.input then send_count test p else sent_on_link test ps + send_count test p

-- the application requests, and those of the base protocol
abbrev pub used : List Place → ℕ
used ps = sent_on_link is_application_request ps

abbrev pub base : List Place → ℕ
base ps = sent_on_link is_base_request ps

-- what was sent since the last Drain, or since the present link began
abbrev pub outbox : List Place → ℕ
outbox [] = 0
outbox (p ∷ ps) =
    if is_drain p.input then 0
    else if begins ps p.input then send_count (λ h. true) p
    else outbox ps + send_count (λ h. true) p

-- the requests since the start, without those that were sent again
abbrev pub total : List Place → ℕ
total [] = 0
total (p ∷ ps) = total ps + send_count is_first_request p

-- the requests that began a session
abbrev pub serial : List Place → ℕ
serial ps = length (filter (λ t. t.fresh) (takings ps))
