use Rattle.std.proofs.Common.{◌∙◌}
use Rattle.std.proofs.lemmas.Result.{on_ok_weaker}
use Rattle.wire_core.proofs.NumberLemmas.{to_be_bytes-32}
use Rattle.diameter_message.proofs.RoomLemmas.{Puts-number}
use Rattle.diameter_message.proofs.writer.MessageWriter.put_number.Goals as goal

pub returns-clause-ok : goal.returns-clause-ok
returns-clause-ok c =
    on_ok_weaker c.put_plain.result (Puts-number c.args.self.now c.put_plain.new.self c.args.code c.args.value c.to_be_bytes.result (c.to_be_bytes.ensures ∙ to_be_bytes-32 c.args.value)) c.put_plain.ensures.ok
