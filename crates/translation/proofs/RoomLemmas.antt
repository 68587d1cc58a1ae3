-- AVPs have room that stand at the front of AVPs that have it.
use Rattle.std.proofs.Common.{◌≡◌, ◌+◌, ◌≤◌, List, ◌++◌, length, sym, ap, ◌∙◌, append_assoc, arith}
use Rattle.std.proofs.lemmas.List.{length-append}
use Rattle.diameter_avp.specs.Avps.{AvpParts, avps_text}
use Rattle.diameter_avp.proofs.CallerLemmas.{avps_text-append}
use Rattle.diameter_message.specs.Writer.{MessageWriterParts, list_length}

-- a list isn't shorter for what stands behind it
pub room-front : (list piece rest all : List AvpParts) → all ≡ piece ++ rest → length (avps_text (list ++ all)) ≤ 65516 → length (avps_text (list ++ piece)) ≤ 65516
room-front list piece rest all e room =
    let whole : list ++ all ≡ (list ++ piece) ++ rest = ap (λ (avps : List AvpParts). list ++ avps) e ∙ sym (append_assoc list piece rest) in
    omega (arith, ap (λ (avps : List AvpParts). length (avps_text avps)) whole, ap length (avps_text-append (list ++ piece) rest), length-append (avps_text (list ++ piece)) (avps_text rest), room)

-- a list that isn't too long for what is to be put
pub room-whole : (w : MessageWriterParts) (avps : List AvpParts) → list_length w + length (avps_text avps) ≤ 65516 → length (avps_text (w.avps.list ++ avps)) ≤ 65516
room-whole w avps room =
    omega (arith, ap length (avps_text-append w.avps.list avps), length-append (avps_text w.avps.list) (avps_text avps), room)
