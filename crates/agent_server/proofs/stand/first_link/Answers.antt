use Rattle.std.proofs.Common.{inl, arith}
use Rattle.turnstile.specs.Passes.{known}
use Rattle.agent_server.proofs.StartingLemmas.{dial-finished, first-opened}
use Rattle.agent_server.proofs.stand.first_link.Goals as goal

pub returns-clause-opened : goal.returns-clause-opened
returns-clause-opened g c =
    let (mine, went, dialled) = c.in-Made.ensures.dialled in
    first-opened g.D.Datagrams.told g.L.In.LinkIn.told g.L.Out.LinkOut.told (known c.args.pass.now) (known c.dial.new.pass) (known c.enter-2.new.pass) _ _ _ mine
    c.enter-2.result c.in-Some.field-0 c.requires.numbers c.requires.seen went dialled c.in-Some.is c.enter-2.ensures.went c.enter-2.ensures.last c.in-Some-make_twins.ensures.fresh.0 c.in-Some-make_twins.ensures.fresh.1

pub returns-in-Finished-clause-failed : goal.returns-in-Finished-clause-failed
returns-in-Finished-clause-failed g c =
    let (mine, went, dialled) = c.in-Finished.ensures.dialled in
    dial-finished g.L.In.LinkIn.told g.L.Out.LinkOut.told (known c.args.pass.now) (known c.dial.new.pass) _ _ mine c.requires.row c.requires.numbers c.requires.seen went dialled

pub returns-in-Failed-clause-failed : goal.returns-in-Failed-clause-failed
returns-in-Failed-clause-failed g c =
    let (mine, went, dialled) = c.in-Failed.ensures.dialled in
    (dialled.failed (omega (arith, c.requires.row, dialled.ends)), inl dialled.ends)
