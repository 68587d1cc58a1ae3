-- What is known of the link to the home server (profile).
use Rattle.std.specs.Prelude.{ℕ, ◌%◌, Bool, false, Option, None}
use Rattle.diameter_message.specs.Results.{is_success}
use Rattle.peer_machine.specs.declared.Phase.{Phase}
use Rattle.peer_machine.specs.declared.Phase.TheVariants.{Closed}
use Rattle.peer_machine.specs.declared.words.LinkState.{LinkState}
use Rattle.peer_machine.specs.declared.words.Said.{Said}
use Rattle.peer_machine.specs.declared.words.Said.TheVariants.{CapabilitiesAnswer}

-- its phase, how many links began, when something was last heard, when a watchdog request was sent that nothing came after,
-- and when the agent asked to disconnect
pub record LinkAt : Type 0 where
  pub phase : Phase
  pub number : ℕ
  pub heard : ℕ
  pub asked : Option ℕ
  pub leave : ℕ

-- none began
abbrev pub no_link : LinkAt
no_link = record { phase = Closed; number = 0; heard = 0; asked = None; leave = 0 }

-- the same with how many requests the link sent, and without
abbrev pub with_requests : LinkAt → ℕ → LinkState
with_requests l base =
    record { phase = l.phase; number = l.number; heard = l.heard; asked = l.asked; leave = l.leave; requests = base % 2147483648 }

abbrev pub without_requests : LinkState → LinkAt
without_requests l = record { phase = l.phase; number = l.number; heard = l.heard; asked = l.asked; leave = l.leave }

-- an answer of success to the Capabilities-Exchange-Request of a link
abbrev pub is_grant : Said → Bool
is_grant (CapabilitiesAnswer result) = is_success result
is_grant said = false
