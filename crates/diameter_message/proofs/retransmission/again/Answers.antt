-- The octets of flags and hop are written over.
use Rattle.std.proofs.Common.{◌∷◌, [], ◌++◌, List, ℕ, length, take, drop, get_or, rules, arith, ap, ◌∙◌}
use Rattle.std.specs.Prelude.{bit_or}
use Rattle.wire_core.proofs.NumberLemmas.{to_be_bytes-32}
use Rattle.diameter_message.proofs.MessageLemmas.{length-message, length-overwritten, sent_again-text, IsMessage-sent_again}
use Rattle.diameter_message.proofs.retransmission.again.Goals as goal

pub bounds-request-4 : goal.bounds-request-4
bounds-request-4 c =
    let long = length-message c.requires.0 c.requires.1 c.args.request.now c.requires.2 in
    search (rules, long)

pub overwrite-requires : goal.overwrite-requires
overwrite-requires c =
    omega (arith, ap length c.in_ok-octets.ensures, length-message c.requires.0 c.requires.1 c.args.request.now c.requires.2)

pub overwrite-requires-2 : goal.overwrite-requires-2
overwrite-requires-2 c =
    let same = ap length c.in_ok-octets.ensures in
    let long = length-message c.requires.0 c.requires.1 c.args.request.now c.requires.2 in
    let once = length-overwritten c.in_ok-octets.octets c.overwrite.new.self _ (omega arith) c.overwrite.ensures in
    omega (arith, ap length c.to_be_bytes.ensures)

pub returns-clause-text : goal.returns-clause-text
returns-clause-text c = λ header avps is.
    let once = c.overwrite.ensures ∙ ap (λ (o : List ℕ). take 4 o ++ bit_or (get_or c.args.request.now 4 0) 16 ∷ [] ++ drop 5 o) c.in_ok-octets.ensures in
    sent_again-text header avps c.args.request.now c.overwrite.new.self c.to_be_bytes.result c.overwrite-2.new.self c.args.hop is.text once (c.to_be_bytes.ensures ∙ to_be_bytes-32 c.args.hop) c.overwrite-2.ensures

pub returns-clause-message : goal.returns-clause-message
returns-clause-message c = λ header avps is.
    let once = c.overwrite.ensures ∙ ap (λ (o : List ℕ). take 4 o ++ bit_or (get_or c.args.request.now 4 0) 16 ∷ [] ++ drop 5 o) c.in_ok-octets.ensures in
    let text = sent_again-text header avps c.args.request.now c.overwrite.new.self c.to_be_bytes.result c.overwrite-2.new.self c.args.hop is.text once (c.to_be_bytes.ensures ∙ to_be_bytes-32 c.args.hop) c.overwrite-2.ensures in
    rw text (IsMessage-sent_again header avps c.args.request.now c.args.hop (omega arith) is)
