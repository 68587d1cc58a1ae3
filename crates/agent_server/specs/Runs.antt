-- What a desk answers to each entry of a run, by the history of its entries (profile). A run is a list of turns, each an
-- entry, which is an ask with its answer, or blank.
use Rattle.std.specs.Prelude.{◌≡◌, ℕ, Bool, true, false, nat_le, not, ◌||◌, List, [], ◌∷◌, ◌++◌, filter, Option, Some, None, if◌then◌else◌}
use Rattle.std.specs.Option.{option_or}
use Rattle.agent_settings.specs.declared.config.Config.{Config}
use Rattle.peer_machine.specs.declared.LinkCause.{LinkCause}
use Rattle.agent_events.specs.declared.events.Input.{Input}
use Rattle.agent_events.specs.Kinds.{is_drain, is_leave}
use Rattle.agent_events.specs.declared.events.Output.{Output}
use Rattle.agent_events.specs.declared.events.Output.TheVariants.{Send, Closed}
use Rattle.agent_core.specs.Places.{Event, Place, begins}
use Rattle.agent_core.specs.History.{past, place}
use Rattle.agent_core.specs.LawsOfSends.{without_idle}
use Rattle.server_workers.specs.declared.heard.Heard.{Heard}

-- ---- outputs

abbrev pub is_send : Output → Bool
is_send (Send octets) = true
is_send output = false

-- what is sent on the link, in order, and all else
abbrev pub sends_in : List Output → List Output
sends_in outputs = filter is_send outputs

abbrev pub others_in : List Output → List Output
others_in outputs = filter (λ o. not (is_send o)) outputs

abbrev pub cause_of : Output → Option LinkCause
cause_of (Closed cause) = Some cause
cause_of output = None

-- the cause of the last Closed
abbrev pub last_cause : List Output → Option LinkCause
last_cause [] = None
last_cause (o ∷ outputs) = option_or (last_cause outputs) (cause_of o)

-- ---- what is known after some places, the newest first

-- what was sent since the last Drain, or since the present link began
abbrev pub unsent_with : Bool → Bool → List Output → List Output → List Output
unsent_with drained begun before outputs =
    if drained then [] else if begun then sends_in outputs else before ++ sends_in outputs

abbrev pub unsent : List Place → List Output
unsent [] = []
unsent (p ∷ ps) = unsent_with (is_drain p.input) (begins ps p.input) (unsent ps) p.outputs

-- the cause of the last Closed, unless a link began after it
abbrev pub closed_with : Bool → Option LinkCause → List Output → Option LinkCause
closed_with begun before outputs = option_or (last_cause outputs) (if begun then None else before)

abbrev pub closed : List Place → Option LinkCause
closed [] = None
closed (p ∷ ps) = closed_with (begins ps p.input) (closed ps) p.outputs

-- a Leave came in
abbrev pub has_left : List Place → Bool
has_left [] = false
has_left (p ∷ ps) = has_left ps || is_leave p.input

-- ---- answers

-- at a Drain, what was sent before is handed over
abbrev pub handed_over : Bool → List Output → List Output
handed_over drained unsent = if drained then unsent else []

-- the answer at a place, after those before it
abbrev pub heard_at : ℕ → Place → List Place → Heard
heard_at until p ps = record {
  moment = p.moment;
  outputs = others_in p.outputs;
  sends = handed_over (is_drain p.input) (unsent ps);
  finished = has_left (p ∷ ps) || nat_le until p.moment;
  closed = closed (p ∷ ps);
}

-- ---- runs

-- an entry as an event: what was asked, at the moment that was answered
abbrev pub event_of : Input → Heard → Event
event_of ask heard = record { moment = heard.moment; input = ask }

-- the history of a run's entries
abbrev pub history : List (Option (Input × Heard)) → List Event
history [] = []
history (None ∷ turns) = history turns
history (Some entry ∷ turns) = event_of entry.0 entry.1 ∷ history turns

-- each entry's answer is that of its place
abbrev pub IsRunFrom : Config → ℕ → List Place → List (Option (Input × Heard)) → Type 0
IsRunFrom config until ps [] = Unit {0}
IsRunFrom config until ps (None ∷ turns) = IsRunFrom config until ps turns
IsRunFrom config until ps (Some entry ∷ turns) =
    (entry.1 ≡ heard_at until (place config ps (event_of entry.0 entry.1)) ps)
    × IsRunFrom config until (place config ps (event_of entry.0 entry.1) ∷ ps) turns

abbrev pub IsRun : Config → ℕ → List (Option (Input × Heard)) → Type 0
IsRun config until turns = IsRunFrom config until [] turns

-- the entries of a run that aren't idle, which are those that its record has
abbrev pub entries_recorded : Config → List (Option (Input × Heard)) → List Event
entries_recorded config turns = without_idle config [] (history turns)

-- the places of a run, the newest first
abbrev pub places_of : Config → List (Option (Input × Heard)) → List Place
places_of config turns = past config (history turns)
