use Rattle.std.proofs.Common.{inl, inr, refl, ◌∙◌}
use Rattle.agent_settings.specs.declared.config.Config.{Config}
use Rattle.socket_commands.specs.Records.{IsRecordText}
use Rattle.socket_commands.specs.Serves.{with_boot}
use Rattle.record_text.specs.declared.writer.TextBase.{TextBase}
use Rattle.socket_commands.proofs.RecordLemmas.{clock-alone, failed-known, failed-sound, is-text, recorded-known, recorded-sound, recorded-wrote, settings-alone, stands-begun, unstarted-known, unstarted-sound, unstarted-wrote, why-failed, why-not}
use Rattle.socket_commands.proofs.ServeLemmas.{ran-after, ran-known, ran-sound, ran-writes, told-before}
use Rattle.socket_commands.proofs.recording.record_for.Goals as goal

pub returns-clause-recorded : goal.returns-clause-recorded
returns-clause-recorded g c =
    let written = g.T.Sink.written in
    let writer = c.begin.new.self in
    let base : TextBase = record { written = written writer.sink } in
    let none = c.begin.ensures.faults ∙ c.requires.sound in
    let head = rw c.booted-config.ensures.exact at c.in-Ok.ensures.done in
    let after = c.record-finish.result.record in
    let settings : Config = with_boot c.now-first.result c.args.config in
    elim (c.record-finish.ensures.ran base (stands-begun written writer none)) [
      | inl (not, stood) ↦ inl (record {
        first = c.now-first.result;
        same = clock-alone c.args.world c.record-finish.result.finish.world c.now-first.new.self not.same;
        none = not.none;
        unclosed = not.unclosed;
        because = why-not _ _ _ _ not.because;
        wrote = settings-alone written settings (written c.args.tape.writer.sink) base after.writer head stood;
      })
      | inr ran ↦ inr (record {
        end = ran.end;
        given = ran.given;
        run = record {
          first = c.now-first.result;
          ran = ran-after g.C.Clock.readings g.D.Datagrams.told g.L.In.LinkIn.told g.L.Out.LinkOut.told g.L.Dialer.told g.L.Dialer.made g.W.Crew.faults g.W.Crew.started
              c.args.world c.now-first.new.self c.now-first.result settings _ (record c.record-finish.result.finish { status = ran.end }) _ (IsRecordText settings (written c.args.tape.writer.sink) (written after.writer.sink) after.closed)
              (is-text written settings (written c.args.tape.writer.sink) base after.writer after.closed head (λ still. c.record-finish.ensures.sound still ∙ none)) c.now-first.ensures
              (rw (c.saturating_add-until.ensures, c.booted-config.ensures.exact) at ran.ran);
        };
      })
    ]

pub returns-in-Err-clause-recorded : goal.returns-in-Err-clause-recorded
returns-in-Err-clause-recorded g c =
    inl (rw (c.unrecorded.ensures, c.idle.ensures) (record {
      first = c.now-first.result;
      same = refl;
      none = refl;
      unclosed = refl;
      because = why-failed c.in-Err.status _ _ c.in-Err.ensures.failed;
      wrote = rw c.booted-config.ensures.exact at c.in-Err.ensures.cut;
    }))

pub returns-clause-ends : goal.returns-clause-ends
returns-clause-ends g c =
    let written = g.T.Sink.written in
    let writer = c.begin.new.self in
    let base : TextBase = record { written = written writer.sink } in
    let none = c.begin.ensures.faults ∙ c.requires.sound in
    let (before, read) = told-before (g.C.Clock.readings c.now-first.new.self) in
    elim (c.record-finish.ensures.ran base (stands-begun written writer none)) [
      | inl (not, stood) ↦ unstarted-known _ _ _ not.because
      | inr ran ↦ recorded-known _ _ _ ran.given
          (ran-known g.C.Clock.readings g.D.Datagrams.told g.L.In.LinkIn.told g.L.Out.LinkOut.told g.L.Dialer.told g.L.Dialer.made g.W.Crew.faults g.W.Crew.started
          _ _ _ before read ran.ran)
    ]

pub returns-clause-wrote : goal.returns-clause-wrote
returns-clause-wrote g c = λ whole failed.
    let written = g.T.Sink.written in
    let writer = c.begin.new.self in
    let base : TextBase = record { written = written writer.sink } in
    let none = c.begin.ensures.faults ∙ c.requires.sound in
    let (before, read) = told-before (g.C.Clock.readings c.now-first.new.self) in
    elim (c.record-finish.ensures.ran base (stands-begun written writer none)) [
      | inl (not, stood) ↦ absurd (unstarted-wrote _ _ _ not.because failed)
      | inr ran ↦ absurd (recorded-wrote _ _ _ ran.given whole
          (ran-writes g.C.Clock.readings g.D.Datagrams.told g.L.In.LinkIn.told g.L.Out.LinkOut.told g.L.Dialer.told g.L.Dialer.made g.W.Crew.faults g.W.Crew.started
          _ _ _ before read ran.ran) failed)
    ]

pub returns-clause-sound : goal.returns-clause-sound
returns-clause-sound g c = λ whole writes recorders devices.
    let written = g.T.Sink.written in
    let writer = c.begin.new.self in
    let base : TextBase = record { written = written writer.sink } in
    let none = c.begin.ensures.faults ∙ c.requires.sound in
    let (before, read) = told-before (g.C.Clock.readings c.now-first.new.self) in
    elim (c.record-finish.ensures.ran base (stands-begun written writer none)) [
      | inl (not, stood) ↦ unstarted-sound _ _ _ not.because recorders
      | inr ran ↦ recorded-sound _ _ _ ran.given whole
          (ran-sound g.C.Clock.readings g.D.Datagrams.told g.L.In.LinkIn.told g.L.Out.LinkOut.told g.L.Dialer.told g.L.Dialer.made g.W.Crew.faults g.W.Crew.started
          _ _ _ before read ran.ran devices.auth devices.acct devices.dialer devices.crew)
    ]

pub returns-in-Err-clause-ends : goal.returns-in-Err-clause-ends
returns-in-Err-clause-ends g c = rw (c.unrecorded.ensures, c.idle.ensures) (failed-known c.in-Err.status _ c.in-Err.ensures.failed)

pub returns-in-Err-clause-sound : goal.returns-in-Err-clause-sound
returns-in-Err-clause-sound g c = rw (c.unrecorded.ensures, c.idle.ensures) (λ whole writes recorders devices. failed-sound c.in-Err.status _ c.in-Err.ensures.failed writes)
