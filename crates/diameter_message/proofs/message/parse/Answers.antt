-- The clauses on `IsMessage` follow from the exact one.
use Rattle.std.proofs.Common.{◌≡◌, ℕ, List, Result, Ok, Err, arith, ◌∙◌, sym}
use Rattle.std.specs.Prelude.{IfOk}
use Rattle.wire_core.specs.Numbers.{AreOctets}
use Rattle.diameter_avp.proofs.TextLemmas.{AreOctets-from}
use Rattle.diameter_message.specs.declared.message.Message.{Message}
use Rattle.diameter_message.specs.declared.fault.MessageFault.{MessageFault}
use Rattle.diameter_message.specs.Message.{IsMessage, read_message}
use Rattle.diameter_message.specs.View.{message_view, parsed}
use Rattle.diameter_message.proofs.MessageLemmas.{IsMessage-from_ok, read_message-IsMessage}
use Rattle.diameter_message.proofs.message.parse.Goals as goal

is_message : (r : Result Message MessageFault) (octets : List ℕ) → AreOctets octets → parsed r ≡ read_message octets → IfOk r (λ m. IsMessage octets m.header m.avps.now)
is_message (Ok m) octets are e = IsMessage-from_ok octets (message_view m) are (sym e)
is_message (Err fault) octets are e = tt

pub returns-clause-found : goal.returns-clause-found
returns-clause-found c =
    is_message c.read.result c.args.octets.now (AreOctets-from _ (λ i. omega (arith, c.type_inv.octets i))) c.read.ensures

pub returns-clause-only : goal.returns-clause-only
returns-clause-only c = λ header avps is. c.read.ensures ∙ read_message-IsMessage _ header avps is
