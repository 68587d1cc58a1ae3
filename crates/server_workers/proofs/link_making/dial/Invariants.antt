use Rattle.std.proofs.Common.{◌≡◌}
use Rattle.turnstile.specs.Passes.{known, table_of}
use Rattle.server_workers.proofs.DialLemmas.{Dialling}
use Rattle.server_workers.proofs.link_making.dial.Given as goal

-- each dial so far failed
abbrev pub invariant-loop-row : goal.invariant-loop-row
invariant-loop-row g l = record {
  table : table_of l.pass ≡ table_of l.fn.pass;
  so_far : Dialling (known l.fn.pass) (known l.pass) (g.L.Dialer.told l.fn.dialer) (g.L.Dialer.told l.dialer) l.row;
  made : g.L.Dialer.made l.dialer ≡ g.L.Dialer.made l.fn.dialer;
}
