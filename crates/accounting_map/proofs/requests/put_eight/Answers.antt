-- What std calls the big-endian octets of a number is its text.
use Rattle.std.proofs.Common.{◌≡◌, ◌∙◌}
use Rattle.wire_core.specs.Numbers.{u64}
use Rattle.wire_core.proofs.NumberLemmas.{to_be_bytes-64}
use Rattle.accounting_map.proofs.requests.put_eight.Goals as goal

pub put_with_room-requires : goal.put_with_room-requires
put_with_room-requires c =
    let text : c.to_be_bytes.result ≡ u64 c.args.number = c.to_be_bytes.ensures ∙ to_be_bytes-64 c.args.number in
    rw text c.requires

pub returns : goal.returns
returns c =
    let text : c.to_be_bytes.result ≡ u64 c.args.number = c.to_be_bytes.ensures ∙ to_be_bytes-64 c.args.number in
    rw (← text) c.put_with_room.ensures.ok
