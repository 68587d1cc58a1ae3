-- Messages as code hands them out.
use Rattle.std.specs.Prelude.{Result, Ok, Err}
use Rattle.diameter_message.specs.declared.message.Message.{Message}
use Rattle.diameter_message.specs.declared.fault.MessageFault.{MessageFault}
use Rattle.diameter_message.specs.Message.{MessageParts}

-- a message without where its AVPs lie
abbrev pub message_view : Message → MessageParts
message_view m = record { header = m.header; avps = m.avps.now }

abbrev pub parsed : Result Message MessageFault → Result MessageParts MessageFault
parsed (Ok m) = Ok (message_view m)
parsed (Err fault) = Err fault
