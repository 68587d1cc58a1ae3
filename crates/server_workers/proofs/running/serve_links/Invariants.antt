use Rattle.std.proofs.Common.{◌≡◌, ℕ, ◌+◌, ◌≤◌, ◌++◌, ◌∷◌, [], length}
use Rattle.std.specs.Arc.{arc_value}
use Rattle.turnstile.specs.Passes.{known, table_of}
use Rattle.turnstile.specs.Turns.{of}
use Rattle.server_workers.specs.Running.{InOrder, Keeps, StartedAs, Ticked, counted, number_in, numbers_of, ports_in}
use Rattle.server_workers.proofs.running.serve_links.Given as goal

-- a link is open, its reader runs, no start was refused so far, and each link before is over
abbrev pub invariant-loop : goal.invariant-loop
invariant-loop g l = record {
  table : table_of l.pass ≡ table_of l.initial.pass;
  started : StartedAs g.L.In.LinkIn.told g.L.Out.LinkOut.told g.D.Datagrams.told (arc_value l.turnstile) (known l.pass) l.live.helper l.live.link_out l.past;
  row : (g.L.Dialer.told l.dialer).row ≡ 0;
  first : (known l.pass).first ≡ (known l.initial.pass).first;
  ticked : Ticked (of 0 (known l.initial.pass).seen) (of 0 (known l.pass).seen) (g.L.Dialer.told l.initial.dialer).faults (g.L.Dialer.told l.dialer).faults;
  unrefused : g.W.Crew.faults l.crew ≡ g.W.Crew.faults l.initial.crew;
  kept : Keeps (length l.initial.past.pairs.items) (length l.past.pairs.items) (g.L.Dialer.made l.initial.dialer) (g.L.Dialer.made l.dialer);
  begun : g.W.Crew.started l.initial.crew ≤ g.W.Crew.started l.crew;
  order : (made : ℕ) → InOrder made (numbers_of g.L.In.LinkIn.told l.initial.past.pairs.items ++ number_in g.L.In.LinkIn.told l.initial.live.helper ∷ [])
      → g.L.Dialer.made l.initial.dialer ≡ counted made (length l.initial.past.pairs.items + 1)
      → InOrder made (numbers_of g.L.In.LinkIn.told l.past.pairs.items ++ number_in g.L.In.LinkIn.told l.live.helper ∷ []);
  ports : ports_in g.D.Datagrams.told l.live.helper ≡ ports_in g.D.Datagrams.told l.initial.live.helper;
}
