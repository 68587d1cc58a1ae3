-- The front gets the length, and is then the header of the message.
use Rattle.std.proofs.Common.{◌≡◌, ℕ, ◌≤◌, List, ◌++◌, length, arith, ap, ◌∙◌, subst}
use Rattle.std.proofs.lemmas.List.{length-append}
use Rattle.diameter_avp.specs.Avps.{avps_text}
use Rattle.diameter_avp.proofs.CallerLemmas.{length-avps_text}
use Rattle.diameter_message.specs.Message.{IsHeader}
use Rattle.diameter_message.specs.Writer.{MessageWriterParts}
use Rattle.diameter_message.proofs.MessageLemmas.{length-header_text, finished-text, IsMessage-message_text}
use Rattle.diameter_message.proofs.writer.MessageWriter.finish.Goals as goal

abbrev whole : MessageWriterParts → List ℕ
whole w = w.avps.front ++ avps_text w.avps.list

pub overwrite-requires : goal.overwrite-requires
overwrite-requires c =
    let w = c.args.self in
    let text : c.finish-octets.result ≡ whole w = c.finish-octets.ensures.text ∙ ap whole c.self.view_is in
    omega (arith, ap length c.to_be_bytes.ensures, ap length text, length-append w.avps.front (avps_text w.avps.list), ap length c.requires, length-header_text 0 w.header)

pub returns-clause-text : goal.returns-clause-text
returns-clause-text c =
    let text : c.finish-octets.result ≡ whole c.args.self = c.finish-octets.ensures.text ∙ ap whole c.self.view_is in
    finished-text c.args.self c.finish-octets.result c.to_be_bytes.result _ c.len-length.result c.requires text c.len-length.ensures c.to_be_bytes.ensures c.overwrite.ensures

pub returns-clause-message : goal.returns-clause-message
returns-clause-message c =
    let w = c.args.self in
    let text : c.finish-octets.result ≡ whole w = c.finish-octets.ensures.text ∙ ap whole c.self.view_is in
    let message = finished-text w c.finish-octets.result c.to_be_bytes.result _ c.len-length.result c.requires text c.len-length.ensures c.to_be_bytes.ensures c.overwrite.ensures in
    let header : IsHeader w.header = subst (λ (x : MessageWriterParts). IsHeader x.header) c.self.view_is c.self.invariant in
    let avps = w.avps.list in
    let short : length (avps_text avps) ≤ 65516 = subst (λ (x : MessageWriterParts). length (avps_text x.avps.list) ≤ 65516) c.self.view_is c.finish-octets.ensures.short in
    rw message (IsMessage-message_text w.header (avps_text avps) header (length-avps_text avps) (omega arith))
