use Rattle.std.proofs.Common.{◌≡◌, [], is_some}
use Rattle.turnstile.specs.Passes.{table_of}
use Rattle.wire_devices.specs.Links.{Inlet}
use Rattle.server_workers.specs.LinkReading.{Sight, SoFar}
use Rattle.server_workers.proofs.link_reader.take_messages.Given as goal

-- the messages so far were heeded
abbrev pub invariant-loop : goal.invariant-loop
invariant-loop g l = record {
  table : table_of l.visitor.pass ≡ table_of l.fn.visitor.pass;
  broken : l.frames.broken ≡ is_some l.frames.framer.shown;
  reads : (start : Sight g.row.T.Denot) (link : Inlet) → SoFar g.D.Datagrams.told [] start l.fn.visitor link l.fn.frames.framer
      → SoFar g.D.Datagrams.told [] start l.visitor link l.frames.framer;
}
