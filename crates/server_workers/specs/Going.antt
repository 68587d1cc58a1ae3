-- What a pass of the server did, by the turns that it took itself.
use Rattle.std.specs.Prelude.{◌≡◌, ◌≢◌, ℕ, List, [], ◌∷◌, ◌++◌}
use Rattle.agent_events.specs.declared.events.Input.{Input}
use Rattle.turnstile.specs.declared.view.Known.{Known}
use Rattle.turnstile.specs.Turns.{In, StartsWith, Turn, least, of}
use Rattle.server_workers.specs.declared.heard.Heard.{Heard}
use Rattle.server_workers.specs.Entries.{RunTurn}

-- These turns were taken under the pass's least number, and others by others. All that was seen before is seen still.
pub record Went {T : Type 0} (mine : List RunTurn) (before now : Known T Input Heard) : Type 0 where
  pub own : of (least before.numbers) now.seen ≡ of (least before.numbers) before.seen ++ mine
  pub others : (n : ℕ) → In n before.numbers → n ≢ least before.numbers → of n now.seen ≡ of n before.seen
  pub begins : StartsWith now.seen before.seen
  pub first : now.first ≡ before.first
  pub numbers : now.numbers ≡ before.numbers

-- all that is seen now begins with what was seen, and ends with this turn
pub record SeenLast {T : Type 0} (turn : RunTurn) (before now : Known T Input Heard) : Type 0 where
  pub between : List (Turn Input Heard)
  pub seen : now.seen ≡ (before.seen ++ between) ++ (least before.numbers, turn) ∷ []
