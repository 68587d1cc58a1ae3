use Rattle.std.proofs.Common.{length, ap, arith, ◌∙◌}
use Rattle.turnstile.specs.Passes.{known}
use Rattle.agent_server.proofs.StartingLemmas.{carries-same, read-began}
use Rattle.agent_server.proofs.team.disband.Goals as goal

pub rejoin_socket-auth-requires-clause-theirs : goal.rejoin_socket-auth-requires-clause-theirs
rejoin_socket-auth-requires-clause-theirs g c κs within = (1, c.requires.auth)

pub rejoin_socket-acct-requires-clause-theirs : goal.rejoin_socket-acct-requires-clause-theirs
rejoin_socket-acct-requires-clause-theirs g c κs within = (2, c.requires.acct)

pub rejoin_link-requires : goal.rejoin_link-requires
rejoin_link-requires g c = record {
  table = c.rejoin_socket-acct.ensures.table ∙ c.rejoin_socket-auth.ensures.table ∙ c.take_leave.ensures.table ∙ c.requires.own.0;
  theirs = (3, c.requires.link);
}

pub tools_of-requires-clause-all : goal.tools_of-requires-clause-all
tools_of-requires-clause-all g c =
    let (tries, went, asked) = c.take_leave.ensures.left in
    let one = ap length (went.numbers ∙ c.requires.own.1) in
    omega (arith, one, c.rejoin_link.ensures.one_more, c.rejoin_socket-auth.ensures.one_more, c.rejoin_socket-acct.ensures.one_more)

pub returns-clause-began : goal.returns-clause-began
returns-clause-began g c = λ base carries.
    let (tries, went, asked) = c.take_leave.ensures.left in
    read-began g.C.Clock.readings c.tools_of.result base (known c.rejoin_link.new.pass).seen
    (c.tools_of.ensures base (carries-same g.C.Clock.readings (known c.args.pass) (known c.rejoin_link.new.pass) base
    (c.rejoin_link.ensures.first ∙ c.rejoin_socket-acct.ensures.first ∙ c.rejoin_socket-auth.ensures.first ∙ went.first) carries))
