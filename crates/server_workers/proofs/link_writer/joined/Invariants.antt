use Rattle.std.proofs.Common.{◌≡◌, take}
use Rattle.server_workers.specs.Entries.{octets_in}
use Rattle.server_workers.proofs.link_writer.joined.Given as goal

-- the messages so far
abbrev pub invariant-loop-output : goal.invariant-loop-output
invariant-loop-output l = l.piece.items ≡ octets_in (take l.output-index l.outputs)
