-- The client that is found stands at its place, and is in limits.
use Rattle.std.proofs.Common.{sym}
use Rattle.agent_core.proofs.RequestLemmas.JudgedRequests.{is_request, port_is}
use Rattle.agent_core.proofs.verdict.verdict.Goals as goal

pub returns-in-Some-clause-request : goal.returns-in-Some-clause-request
returns-in-Some-clause-request c =
    let stands = (c.found_stands_at_place.ensures c.args.config.now.clients c.args.address c.in-Some.client c.in-Some.settings.now (sym c.in-Some.ensures)).1 in
    let within = c.clients_are_in_limits.ensures c.args.config.now c.in-Some.client c.in-Some.settings.now c.requires stands in
    let found = c.packet_verdict.ensures in
    is_request _ c.args.config.now c.args.via c.in-Some.client c.in-Some.settings.now c.args.address stands within found.client found.judged found.values

pub returns-in-Some-clause-port : goal.returns-in-Some-clause-port
returns-in-Some-clause-port c = port_is _ c.args.via c.in-Some.settings.now c.args.address c.packet_verdict.ensures.judged
