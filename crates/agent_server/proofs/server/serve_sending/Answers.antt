use Rattle.std.proofs.Common.{refl}
use Rattle.server_workers.specs.declared.base.RunBase.{RunBase}
use Rattle.agent_server.proofs.StartingLemmas.{none-started}
use Rattle.agent_server.proofs.server.serve_sending.Goals as goal

pub returns-in-Err-clause-ran : goal.returns-in-Err-clause-ran
returns-in-Err-clause-ran g c = rw c.unready.ensures (record {
  workers = none-started (g.W.Crew.started c.args.world.crew);
  links = tt;
  ports = tt;
  order = tt;
  began = λ before read.
      let base : RunBase = record { config = c.args.config; until = c.args.until; before = before; sender = c.args.sender } in
      c.in-Err.ensures.began base refl refl read refl;
  served = λ before read. tt;
  recorded = λ before read. tt;
  early = λ before read. tt;
})

pub returns-clause-ran : goal.returns-clause-ran
returns-clause-ran g c = record {
  workers = c.run-status.ensures.trail;
  links = c.run-status.ensures.links;
  ports = c.run-status.ensures.ports;
  order = c.run-status.ensures.order;
  began = λ before read.
      let base : RunBase = record { config = c.args.config; until = c.args.until; before = before; sender = c.args.sender } in
      c.run-status.ensures.began base (c.in-Ok.ensures.carries base refl refl read refl);
  served = λ before read.
      let base : RunBase = record { config = c.args.config; until = c.args.until; before = before; sender = c.args.sender } in
      c.run-status.ensures.served base (c.in-Ok.ensures.carries base refl refl read refl);
  recorded = λ before read.
      let base : RunBase = record { config = c.args.config; until = c.args.until; before = before; sender = c.args.sender } in
      c.run-status.ensures.sent base (c.in-Ok.ensures.carries base refl refl read refl);
  early = λ before read.
      let base : RunBase = record { config = c.args.config; until = c.args.until; before = before; sender = c.args.sender } in
      c.run-status.ensures.early base (c.in-Ok.ensures.carries base refl refl read refl);
}
