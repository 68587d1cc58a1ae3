-- Internal: what an answer leads to, before anything is changed.
use Rattle.std.specs.Prelude.{◌≡◌, ℕ, Bool, List, Option, IsSome, slice_get}
use Rattle.diameter_message.specs.Message.{MessageParts}
use Rattle.pending_table.specs.declared.entry.Entry.{Entry}
use Rattle.pending_table.specs.Table as table
use Rattle.agent_events.specs.declared.events.Output.{Output}
use Rattle.agent_core.specs.declared.ledger.Ledger.{Ledger}
use Rattle.agent_core.specs.declared.messages.AnswerEffect.{AnswerEffect}
use Rattle.agent_core.specs.declared.messages.AnswerEffect.TheVariants.{Says, Settles}
use Rattle.agent_core.specs.Machine.{Next, on_answer, on_client, heard_ledger, settled_ledger}
use Rattle.agent_core.specs.Considering.{SaysOnly}

-- the machine settles the request with this reply, and these outputs go out
pub record SettlesWith (S : Ledger) (message : MessageParts) (outputs : List Output) (reply : Option (List ℕ)) (follows : Bool) (n : Next) : Type 0 where
  pub ledger : n.ledger ≡ settled_ledger S message reply follows
  pub outputs_are : n.outputs ≡ outputs

abbrev pub Gives : Ledger → MessageParts → AnswerEffect → Next → Type 0
Gives S message (Says outputs) n = SaysOnly (heard_ledger S message) outputs n
Gives S message (Settles outputs reply follows) n = SettlesWith S message outputs reply follows n

-- what the answer gives this entry
abbrev pub Answers : Ledger → Entry → MessageParts → AnswerEffect → Type 0
Answers S e message h = Gives S message h (on_client S message e (slice_get S.config.clients e.kept.client))

-- what the answer gives the entry that it matches, which is there where one is settled
pub record FindsEntry (S : Ledger) (message : MessageParts) (outputs : List Output) (reply : Option (List ℕ)) (follows : Bool) : Type 0 where
  pub awaited : IsSome (table.find_number S.table S.peer.link.number message.header.hop S.moment)
  pub settles : SettlesWith S message outputs reply follows (on_answer S message)

abbrev pub Matches : Ledger → MessageParts → AnswerEffect → Type 0
Matches S message (Says outputs) = SaysOnly (heard_ledger S message) outputs (on_answer S message)
Matches S message (Settles outputs reply follows) = FindsEntry S message outputs reply follows
