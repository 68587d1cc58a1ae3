-- What a history says of the links of a run, and of their spans.
use Rattle.std.specs.Prelude.{◌≡◌, ℕ, ◌+◌, true, false, List, [], ◌∷◌, ◌++◌, length, flat_map, option_to_list, All, if◌then◌else◌}
use Rattle.agent_settings.specs.declared.config.Config.{Config}
use Rattle.peer_machine.specs.declared.LinkCause.{LinkCause}
use Rattle.agent_events.specs.declared.events.Input.TheVariants.{Up}
use Rattle.agent_events.specs.declared.events.Output.{Output}
use Rattle.agent_core.specs.Places.{Place, begins}
use Rattle.turnstile.specs.Turns.{of, plain}
use Rattle.server_workers.specs.Entries.{is_final, octets_in, sends}
use Rattle.server_workers.specs.Segments.{ServerTurn}
use Rattle.agent_server.specs.Runs.{cause_of, closed, places_of, sends_in, unsent}

-- ---- what a history says of its links

-- the causes for which links were closed, in order
abbrev pub causes_in : List Output → List LinkCause
causes_in outputs = flat_map (λ o. option_to_list (cause_of o)) outputs

abbrev pub closings : List Place → List LinkCause
closings [] = []
closings (p ∷ ps) = closings ps ++ causes_in p.outputs

-- what was sent on the present link, in order
abbrev pub link_sends : List Place → List Output
link_sends [] = []
link_sends (p ∷ ps) = if begins ps p.input then sends_in p.outputs else link_sends ps ++ sends_in p.outputs

-- ---- what the history says of spans

-- After these turns a span begins: its Up begins a link, and what was sent on that link, in order, is what the writer's
-- Drains handed over and then what no Drain did.
pub record SpanFits (config : Config) (front seg : List ServerTurn) : Type 0 where
  pub begun : begins (places_of config (plain front)) Up ≡ true
  pub sent : octets_in (link_sends (places_of config (plain (front ++ seg))))
      ≡ sends (of 0 seg) ++ octets_in (unsent (places_of config (plain (front ++ seg))))

abbrev pub SpansFit : Config → List ServerTurn → List (List ServerTurn) → Type 0
SpansFit config front [] = Unit {0}
SpansFit config front (seg ∷ segs) = SpanFits config front seg × SpansFit config (front ++ seg) segs

-- Each link but the last of so many was closed once, for a cause after which another is made, and the last was closed once
-- at most.
pub record ClosingsFit (count : ℕ) (ps : List Place) : Type 0 where
  pub earlier : List LinkCause
  pub all : closings ps ≡ earlier ++ option_to_list (closed ps)
  pub each : All (λ cause. is_final cause ≡ false) earlier
  pub count_is : length earlier + 1 ≡ count
