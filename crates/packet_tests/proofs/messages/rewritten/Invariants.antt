use Rattle.std.proofs.Common.{◌≡◌}
use Rattle.diameter_message.specs.Message.{header_text}
use Rattle.packet_tests.proofs.messages.rewritten.Given as goal

-- the front stays the header's
abbrev pub invariant-loop-item : goal.invariant-loop-item
invariant-loop-item l = l.writer.avps.front ≡ header_text 0 l.writer.header
