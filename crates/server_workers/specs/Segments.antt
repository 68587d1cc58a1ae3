-- How a run falls into the spans of its links: each begins with the Up of the link's writer, and lasts up to the next such
-- Up or to the end.
use Rattle.std.specs.Prelude.{◌≡◌, Bool, true, false, List, [], ◌∷◌, ◌++◌, All, Some}
use Rattle.peer_machine.specs.declared.LinkCause.{LinkCause}
use Rattle.agent_events.specs.declared.events.Input.{Input}
use Rattle.agent_events.specs.declared.events.Input.TheVariants.{Up, Ready, Drain}
use Rattle.agent_events.specs.Kinds.{is_drain}
use Rattle.turnstile.specs.Turns.{Turn}
use Rattle.server_workers.specs.declared.heard.Heard.{Heard}
use Rattle.server_workers.specs.Entries.{is_final}

-- a turn of the run, with the number under which it was taken
abbrev pub ServerTurn : Type 0
ServerTurn = Turn Input Heard

abbrev pub flat : List (List ServerTurn) → List ServerTurn
flat [] = []
flat (seg ∷ segs) = seg ++ flat segs

abbrev pub is_beginning : Input → Bool
is_beginning Up = true
is_beginning Ready = true
is_beginning ask = false

-- the turn is blank, or asks neither Up nor Ready; a Drain has the writer's number
abbrev pub IsWithin : ServerTurn → Type 0
IsWithin turn = (ask : Input) (heard : Heard) → turn.1 ≡ Some (ask, heard)
    → (is_beginning ask ≡ false) × (is_drain ask ≡ true → turn.0 ≡ 0)

-- a span begins with the writer's Up, and has no other
pub record IsSpan (seg : List ServerTurn) : Type 0 where
  pub opened : Heard
  pub rest : List ServerTurn
  pub whole : seg ≡ (0, Some (Up, opened)) ∷ rest
  pub within : All IsWithin rest

-- a Drain of the writer was told that the link is closed, for a cause after which another is made
pub record IsClosed (seg : List ServerTurn) : Type 0 where
  pub cause : LinkCause
  pub heard : Heard
  pub front : List ServerTurn
  pub back : List ServerTurn
  pub whole : seg ≡ front ++ (0, Some (Drain, heard)) ∷ back
  pub closed : heard.closed ≡ Some cause
  pub goes_on : is_final cause ≡ false

-- spans, of which each but the last is of a link that was closed
abbrev pub AreSpans : List (List ServerTurn) → Type 0
AreSpans [] = Unit {0}
AreSpans (seg ∷ []) = IsSpan seg
AreSpans (seg ∷ next ∷ segs) = IsSpan seg × IsClosed seg × AreSpans (next ∷ segs)
