use Rattle.std.proofs.Common.{◌≡◌}
use Rattle.turnstile.specs.Passes.{known, table_of}
use Rattle.server_workers.proofs.WritingLemmas.{Rounds}
use Rattle.server_workers.proofs.link_writer.write_link.Given as goal

-- what was done so far is rounds
abbrev pub invariant-loop : goal.invariant-loop
invariant-loop g l = (table_of l.pass ≡ table_of l.initial.pass)
    × Rounds l.sound (known l.initial.pass) (known l.pass) (g.O.LinkOut.told l.initial.link) (g.O.LinkOut.told l.link)
