use Rattle.std.proofs.Common.{◌∙◌, true, false, sym, ap, subst, is_some}
use Rattle.diameter_message.specs.declared.next.Next.{Next}
use Rattle.diameter_message.specs.Framing.{FramerParts, without}
use Rattle.server_workers.specs.LinkReading.{Gives}
use Rattle.server_workers.proofs.LinkReadingLemmas.{heeds-fault, heeds-message, stays-broken, waits}
use Rattle.server_workers.proofs.link_reader.take_messages.Goals as goal

pub returns-in-Some-Wait-clause-reads : goal.returns-in-Some-Wait-clause-reads
returns-in-Some-Wait-clause-reads g c = λ start link s.
    let is = c.in-Some-Wait.field-0-is in
    let visitor = c.next_of_stream.new.visitor in
    let given = subst (λ (n : Next). Gives g.D.Datagrams.told n start visitor link c.loop.frames.framer) is
    (c.in-Some-Wait.ensures.reads start link (c.loop.invariant.reads start link s)) in
    waits g.D.Datagrams.told start visitor link c.loop.frames.framer c.next_of_stream.new.framer
    (c.in-Some-Wait.ensures.framer ∙ ap (λ (n : Next). without n c.loop.frames.framer) is) given

pub returns-then-frames-clause-reads : goal.returns-then-frames-clause-reads
returns-then-frames-clause-reads g c = λ start link s.
    let is = c.in-Some-Fault.field-0-is in
    let visitor = c.next_of_stream.new.visitor in
    let given = subst (λ (n : Next). Gives g.D.Datagrams.told n start visitor link c.loop.frames.framer) is
    (c.in-Some-Fault.ensures.reads start link (c.loop.invariant.reads start link s)) in
    stays-broken g.D.Datagrams.told start visitor link c.loop.frames.framer c.next_of_stream.new.framer c.in-Some-Fault.fault
    (c.in-Some-Fault.ensures.framer ∙ ap (λ (n : Next). without n c.loop.frames.framer) is) (sym c.loop.invariant.broken ∙ c.if-frames.true) given

pub returns-in-Some-Fault-clause-reads : goal.returns-in-Some-Fault-clause-reads
returns-in-Some-Fault-clause-reads g c = λ start link s.
    let is = c.in-Some-Fault.field-0-is in
    let visitor = c.next_of_stream.new.visitor in
    let given = subst (λ (n : Next). Gives g.D.Datagrams.told n start visitor link c.loop.frames.framer) is
    (c.in-Some-Fault.ensures.reads start link (c.loop.invariant.reads start link s)) in
    heeds-fault g.D.Datagrams.told start visitor c.visit.new.self link c.loop.frames.framer c.next_of_stream.new.framer c.in-Some-Fault.fault c.visit.result
    (c.in-Some-Fault.ensures.framer ∙ ap (λ (n : Next). without n c.loop.frames.framer) is) (sym c.loop.invariant.broken ∙ c.if-frames.false) given c.visit.ensures.visits

pub returns-then-visit-clause-reads : goal.returns-then-visit-clause-reads
returns-then-visit-clause-reads g c = λ start link s.
    let is = c.in-Some-Message.field-0-is in
    let visitor = c.next_of_stream.new.visitor in
    let given = subst (λ (n : Next). Gives g.D.Datagrams.told n start visitor link c.loop.frames.framer) is
    (c.in-Some-Message.ensures.reads start link (c.loop.invariant.reads start link s)) in
    heeds-message g.D.Datagrams.told start visitor c.visit-in-Some-Message.new.self link c.loop.frames.framer c.next_of_stream.new.framer
    c.in-Some-Message.octets true
    (c.in-Some-Message.ensures.framer ∙ ap (λ (n : Next). without n c.loop.frames.framer) is) given c.if-visit.ensures.visits

pub loop-preserved : goal.loop-preserved
loop-preserved g c =
    let is = c.in-Some-Message.field-0-is in
    let visitor = c.next_of_stream.new.visitor in
    let left = c.in-Some-Message.ensures.framer ∙ ap (λ (n : Next). without n c.loop.frames.framer) is in
    record {
      table = c.visit-in-Some-Message.ensures.table ∙ c.next_of_stream.ensures.table ∙ c.loop.invariant.table;
      broken = c.loop.invariant.broken ∙ ap (λ (f : FramerParts). is_some f.shown) (sym left);
      reads = λ start link s.
          let given = subst (λ (n : Next). Gives g.D.Datagrams.told n start visitor link c.loop.frames.framer) is
          (c.in-Some-Message.ensures.reads start link (c.loop.invariant.reads start link s)) in
          heeds-message g.D.Datagrams.told start visitor c.visit-in-Some-Message.new.self link c.loop.frames.framer c.next_of_stream.new.framer
          c.in-Some-Message.octets false left given c.if-visit.ensures.visits;
    }
