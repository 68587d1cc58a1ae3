-- Internal: what a datagram leads to, before anything is changed.
use Rattle.std.specs.Prelude.{◌≡◌, ℕ, ◌<◌, Bool, length, List, None, Result}
use Rattle.radius_packet.specs.declared.reasons.Reason.{Reason}
use Rattle.pending_table.specs.declared.key.Key.{Key}
use Rattle.session_carrier.specs.declared.kept.Kept.{Kept}
use Rattle.pending_table.specs.Table as table
use Rattle.agent_events.specs.declared.events.Output.{Output}
use Rattle.agent_core.specs.declared.ledger.Ledger.{Ledger}
use Rattle.agent_core.specs.declared.datagrams.Considered.{Considered}
use Rattle.agent_core.specs.declared.datagrams.Considered.TheVariants.{Says, TakesUp}
use Rattle.agent_core.specs.Verdict.{Request}
use Rattle.agent_core.specs.Rooms.{refusal}
use Rattle.agent_core.specs.Machine.{Next, on_datagram, kept_rooms, with_row, new_row}

-- taking this up is what the machine does
pub record TakesItUp (S : Ledger) (key : Key) (kept : Kept) (sent : List ℕ) (fresh : Bool) (outputs : List Output) (n : Next) : Type 0 where
  pub unknown : table.find_key S.table key S.moment ≡ None
  pub room : length (table.live S.table S.moment) < S.table.capacity
  pub admits : refusal S.config (kept_rooms S) ≡ None
  pub ledger : n.ledger ≡ with_row S (new_row S key kept sent) fresh
  pub outputs_are : n.outputs ≡ outputs

-- this is what is left, and what goes out
pub record SaysOnly (S : Ledger) (outputs : List Output) (n : Next) : Type 0 where
  pub ledger : n.ledger ≡ S
  pub outputs_are : n.outputs ≡ outputs

abbrev pub Considers : Ledger → Result Request Reason → Considered → Type 0
Considers S r (Says outputs) = SaysOnly S outputs (on_datagram S r)
Considers S r (TakesUp key kept sent fresh outputs) = TakesItUp S key kept sent fresh outputs (on_datagram S r)
