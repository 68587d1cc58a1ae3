use Rattle.std.proofs.Common.{[], inr, sym, ap, ◌∙◌, subst}
use Rattle.run_record.specs.Recordings.{IsRecorderOf}
use Rattle.agent_server.proofs.RanLemmas.{ran-with, readings-before, recorded-by, same-queue, sender-there, some-events}
use Rattle.agent_server.proofs.recorded.record.Goals as goal

pub unreachable-requires : goal.unreachable-requires
unreachable-requires g c =
    let (before, read) = readings-before (g.C.Clock.readings c.args.world.clock) in
    let (events, has) = some-events g.C.Clock.readings g.D.Datagrams.told g.L.In.LinkIn.told g.L.Out.LinkOut.told g.L.Dialer.told g.L.Dialer.made g.W.Crew.faults g.W.Crew.started
    _ before read _ _ c.serve_sending-finish.ensures.ran in
    let (s, is, queue) = sender-there c.in-Ok.ends.0 c.serve_sending-finish.result.1 events has in
    c.in_default.not-Some s is

pub finish_recording-record-requires-after_bounds : goal.finish_recording-record-requires-after_bounds
finish_recording-record-requires-after_bounds g c κs within =
    let (before, read) = readings-before (g.C.Clock.readings c.args.world.clock) in
    let (events, has) = some-events g.C.Clock.readings g.D.Datagrams.told g.L.In.LinkIn.told g.L.Out.LinkOut.told g.L.Dialer.told g.L.Dialer.made g.W.Crew.faults g.W.Crew.started
    _ before read _ _ c.serve_sending-finish.ensures.ran in
    let queue = same-queue c.in-Ok.ends.0 c.in-Some.sender c.serve_sending-finish.result.1 events c.in-Some.is has in
    subst (λ q. IsRecorderOf q c.in-Ok.ends.1) (sym queue) c.in-Ok.ensures.one_queue

pub returns-clause-ran : goal.returns-clause-ran
returns-clause-ran g c = λ base stood.
    let stands = g.E.EntryWriter.stands in
    let written = c.finish_recording-record in
    let begun = subst (λ writer. stands writer base []) (sym c.in-Ok.ensures.writer) stood in
    inr (record {
      end = c.serve_sending-finish.result.0.status;
      given = c.status_of.ensures;
      ran = ran-with g.C.Clock.readings g.D.Datagrams.told g.L.In.LinkIn.told g.L.Out.LinkOut.told g.L.Dialer.told g.L.Dialer.made g.W.Crew.faults g.W.Crew.started
          _ _ _ _
          (recorded-by stands c.in-Ok.ends.0 c.in-Some.sender c.serve_sending-finish.result.1 base written.result.writer written.result.closed
          c.in-Ok.ensures.told c.in-Some.is (written.ensures.wrote base begun))
          c.serve_sending-finish.ensures.ran;
    })

pub returns-clause-sound : goal.returns-clause-sound
returns-clause-sound g c = λ none. c.finish_recording-record.ensures.sound none ∙ ap g.E.EntryWriter.faults c.in-Ok.ensures.writer
