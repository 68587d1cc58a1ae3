use Rattle.std.proofs.Common.{◌≡◌, is_some}
use Rattle.std.specs.Prelude.{nat_lt}
use Rattle.turnstile.specs.Passes.{table_of}
use Rattle.server_workers.specs.LinkReading.{HeededAll, Sight}
use Rattle.server_workers.proofs.link_reader.read_on.Given as goal

-- all that was received so far was heeded
abbrev pub invariant-loop : goal.invariant-loop
invariant-loop g l = record {
  table : table_of l.visitor.pass ≡ table_of l.fn.visitor.pass;
  broken : l.frames.broken ≡ is_some l.frames.framer.shown;
  failed : l.failed ≡ nat_lt 0 (g.I.LinkIn.told l.link).faults;
  reads : (start : Sight g.row.T.Denot) → HeededAll g.D.Datagrams.told start l.fn.visitor (g.I.LinkIn.told l.fn.link) l.fn.frames.framer
      → HeededAll g.D.Datagrams.told start l.visitor (g.I.LinkIn.told l.link) l.frames.framer;
}
