use Rattle.std.proofs.Common.{◌≡◌}
use Rattle.turnstile.specs.Passes.{table_of}
use Rattle.wire_devices.specs.Links.{Inlet}
use Rattle.server_workers.specs.LinkReading.{Sight, SoFar}
use Rattle.server_workers.proofs.link_reader.feed_all.Given as goal

-- the framer is as it was, and the reader has come as far with it
abbrev pub invariant-loop : goal.invariant-loop
invariant-loop g l = record {
  table : table_of l.visitor.pass ≡ table_of l.fn.visitor.pass;
  same : l.framer ≡ l.fn.framer;
  reads : (start : Sight g.row.T.Denot) (link : Inlet) → SoFar g.D.Datagrams.told l.piece start l.fn.visitor link l.fn.framer
      → SoFar g.D.Datagrams.told l.piece start l.visitor link l.fn.framer;
}
