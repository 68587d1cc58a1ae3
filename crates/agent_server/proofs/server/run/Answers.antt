use Rattle.std.proofs.Common.{◌∙◌, ap, arith, length}
use Rattle.std.specs.Arc.{arc_value}
use Rattle.radius_packet.specs.declared.reasons.Via.TheVariants.{Auth, Acct}
use Rattle.turnstile.specs.Passes.{known}
use Rattle.agent_server.proofs.ConcludingLemmas.{first-in-order, link-ports, links-all, ports-on}
use Rattle.agent_server.proofs.StartingLemmas.{carries-same, ends-early, link-started, has-trail, if-none, read-began, reader-at, reader-starts, rose-same, served-from}
use Rattle.agent_server.proofs.server.run.Goals as goal

pub returns-in-Err-clause-early : goal.returns-in-Err-clause-early
returns-in-Err-clause-early g c = λ base carries.
    ends-early g.C.Clock.readings c.tools_of.result base (known c.first_link.new.pass).seen c.in-Err.status _ _ _ _
    (c.tools_of.ensures base (carries-same g.C.Clock.readings (known c.args.stand.pass) (known c.first_link.new.pass) base c.first_link.ensures.same.0 carries))
    c.in-Err.ensures.failed

pub start_workers-requires-clause-table : goal.start_workers-requires-clause-table
start_workers-requires-clause-table g c κs within = c.first_link.ensures.table ∙ c.requires.ready.table

pub start_workers-requires-clause-numbers : goal.start_workers-requires-clause-numbers
start_workers-requires-clause-numbers g c κs within = c.first_link.ensures.same.1 ∙ c.requires.ready.numbers

pub start_workers-requires-clause-rows : goal.start_workers-requires-clause-rows
start_workers-requires-clause-rows g c κs within =
    let alike = c.in-Ok.ensures.alike in
    (alike.0.row ∙ c.requires.rows.0, alike.1.row ∙ c.requires.rows.1)

pub start_workers-requires-clause-fresh : goal.start_workers-requires-clause-fresh
start_workers-requires-clause-fresh g c κs within = c.in-Ok.ensures.opened.fresh_in

pub lead-requires-clause-started : goal.lead-requires-clause-started
lead-requires-clause-started g c κs within =
    let ready = c.requires.ready in
    let started = c.in-Ok-start_workers.ensures in
    link-started g.D.Datagrams.told g.L.In.LinkIn.told g.L.Out.LinkOut.told (arc_value c.args.stand.turnstile) (known c.first_link.new.pass) (known c.start_workers.new.pass)
    c.in-Ok-start_workers.team.link c.in-Ok.first c.args.stand.past _ _ started.ok.2 started.own.1 started.same.0 c.in-Ok.ensures.opened ready.pairs ready.lost ready.again ready.room

pub lead-requires-clause-readers : goal.lead-requires-clause-readers
lead-requires-clause-readers g c κs within =
    let started = c.in-Ok-start_workers.ensures in
    let team = c.in-Ok-start_workers.team in
    let turnstile = arc_value c.args.stand.turnstile in
    let k = known c.start_workers.new.pass in (
      reader-at turnstile 1 k Auth c.first_link.new.auth team.auth started.ok.0,
      reader-at turnstile 2 k Acct c.first_link.new.acct team.acct started.ok.1,
    )

pub returns-in-Ok-start_workers-clause-served : goal.returns-in-Ok-start_workers-clause-served
returns-in-Ok-start_workers-clause-served g c = λ base carries.
    let told = g.D.Datagrams.told in
    let k = known c.first_link.new.pass in
    let l = known c.start_workers.new.pass in
    let opened = c.in-Ok.ensures.opened in
    let alike = c.in-Ok.ensures.alike in
    let started = c.in-Ok-start_workers.ensures in
    let team = c.in-Ok-start_workers.team in
    let turnstile = arc_value c.args.stand.turnstile in
    served-from g.C.Clock.readings told g.L.In.LinkIn.told g.L.Out.LinkOut.told (λ trail. record {
      config = base.config;
      until = base.until;
      before = base.before;
      auth = told c.args.auth;
      acct = told c.args.acct;
      auth' = told c.lead.result.auth;
      acct' = told c.lead.result.acct;
      dials = g.L.Dialer.told c.args.dialer.now;
      dials' = g.L.Dialer.told c.lead.new.dialer;
      starts = 0;
      starts' = g.W.Crew.faults c.lead.new.crew;
      clock = c.lead.result.tools.clock;
      trail = trail;
      status = c.lead.result.status;
    })
    (g.W.Crew.faults c.args.crew.now) (g.W.Crew.faults c.start_workers.new.crew) c.lead.result.trail started.unrefused
    (c.lead.ensures.served base (g.L.Dialer.told c.args.dialer.now) (told c.args.auth) (told c.args.acct)
    (carries-same g.C.Clock.readings (known c.args.stand.pass) l base (started.same.1 ∙ c.first_link.ensures.same.0) carries)
    (rose-same k l (g.L.Dialer.told c.args.dialer.now) (g.L.Dialer.told c.first_link.new.dialer) started.same.0 opened.dialled)
    opened.grows
    (reader-starts told turnstile Auth 1 k l team.auth c.first_link.new.auth (told c.args.auth) started.ok.0 started.same.0 opened.alone.0 alike.0 c.requires.rows.0)
    (reader-starts told turnstile Acct 2 k l team.acct c.first_link.new.acct (told c.args.acct) started.ok.1 started.same.0 opened.alone.1 alike.1 c.requires.rows.1))

pub returns-in-Err-clause-began : goal.returns-in-Err-clause-began
returns-in-Err-clause-began g c = λ base carries.
    read-began g.C.Clock.readings c.tools_of.result base (known c.first_link.new.pass).seen
    (c.tools_of.ensures base (carries-same g.C.Clock.readings (known c.args.stand.pass) (known c.first_link.new.pass) base c.first_link.ensures.same.0 carries))

pub returns-in-Ok-start_workers-clause-links : goal.returns-in-Ok-start_workers-clause-links
returns-in-Ok-start_workers-clause-links g c =
    links-all c.lead.result.trail c.args.stand.past.pairs.items (g.L.Dialer.made c.args.dialer.now) (g.L.Dialer.made c.first_link.new.dialer) (g.L.Dialer.made c.lead.new.dialer)
    c.requires.ready.pairs c.in-Ok.ensures.made c.lead.ensures.kept

pub returns-in-Ok-start_workers-clause-trail : goal.returns-in-Ok-start_workers-clause-trail
returns-in-Ok-start_workers-clause-trail g c =
    has-trail c.lead.result.trail (g.W.Crew.started c.args.crew.now) (g.W.Crew.started c.start_workers.new.crew) (g.W.Crew.started c.lead.new.crew) c.lead.ensures.some
    c.in-Ok-start_workers.ensures.all_started c.lead.ensures.started

pub returns-clause-began : goal.returns-clause-began
returns-clause-began g c = λ base carries.
    if-none c.disband.result.trail _
    (c.disband.ensures.began base (carries-same g.C.Clock.readings (known c.args.stand.pass) (known c.start_workers.new.pass) base
    (c.in-Err-start_workers.ensures.same.1 ∙ c.first_link.ensures.same.0) carries))

pub returns-in-Ok-start_workers-clause-ports : goal.returns-in-Ok-start_workers-clause-ports
returns-in-Ok-start_workers-clause-ports g c =
    let told = g.D.Datagrams.told in
    let team = c.in-Ok-start_workers.team in
    ports-on told c.lead.result.trail _ _ c.lead.ensures.ports
    (link-ports told (arc_value c.args.stand.turnstile) 3 (known c.start_workers.new.pass) _ _ team.link c.in-Ok-start_workers.ensures.ok.2 ∙ c.in-Ok.ensures.ports)

pub returns-in-Ok-start_workers-clause-order : goal.returns-in-Ok-start_workers-clause-order
returns-in-Ok-start_workers-clause-order g c =
    let none = c.requires.ready.pairs in
    c.lead.ensures.order (g.L.Dialer.made c.args.dialer.now)
    (first-in-order g.L.In.LinkIn.told (arc_value c.args.stand.turnstile) 3 (known c.start_workers.new.pass) _ _ c.in-Ok-start_workers.team.link c.args.stand.past.pairs.items _
    c.in-Ok-start_workers.ensures.ok.2 none c.in-Ok.ensures.numbered)
    (omega (arith, c.in-Ok.ensures.made, ap length none))

pub returns-in-Ok-start_workers-clause-sent : goal.returns-in-Ok-start_workers-clause-sent
returns-in-Ok-start_workers-clause-sent g c = λ base carries.
    c.lead.ensures.sent base
    (carries-same g.C.Clock.readings (known c.args.stand.pass) (known c.start_workers.new.pass) base (c.in-Ok-start_workers.ensures.same.1 ∙ c.first_link.ensures.same.0) carries)
