use Rattle.std.proofs.Common.{[], ◌∷◌, ◌++◌, refl}
use Rattle.socket_commands.proofs.ServeLemmas.{early-known, early-sound, early-writes, either, end-known, end-sound, end-writes, has-read-first, ran-after, reported-known, reported-sound, reported-wrote, told-before}
use Rattle.socket_commands.proofs.serving.serve_for.Goals as goal

pub returns-in_default-clause-ends : goal.returns-in_default-clause-ends
returns-in_default-clause-ends g c =
    let (before, read) = told-before (g.C.Clock.readings c.args.world.clock) in
    let later = has-read-first _ _ before c.now-first.result read c.now-first.ensures in
    early-known c.serve-end.result.status _ _ _ _ _ _ (rw c.in_default.is at (c.serve-end.ensures.ran.early (before ++ c.now-first.result ∷ []) later))

pub returns-in_default-clause-wrote : goal.returns-in_default-clause-wrote
returns-in_default-clause-wrote g c = λ same.
    let (before, read) = told-before (g.C.Clock.readings c.args.world.clock) in
    let later = has-read-first _ _ before c.now-first.result read c.now-first.ensures in
    absurd (early-writes c.serve-end.result.status _ _ _ _ _ _ (rw c.in_default.is at (c.serve-end.ensures.ran.early (before ++ c.now-first.result ∷ []) later)) same)

pub returns-in_default-clause-sound : goal.returns-in_default-clause-sound
returns-in_default-clause-sound g c = λ writes devices.
    let (before, read) = told-before (g.C.Clock.readings c.args.world.clock) in
    let later = has-read-first _ _ before c.now-first.result read c.now-first.ensures in
    early-sound c.serve-end.result.status _ _ _ _ _ _ (rw c.in_default.is at (c.serve-end.ensures.ran.early (before ++ c.now-first.result ∷ []) later))
    devices.dialer (λ twin. either devices.auth devices.acct twin) devices.crew

pub returns-in_default-clause-ran : goal.returns-in_default-clause-ran
returns-in_default-clause-ran g c = (
  c.serve-end.result.status,
  record {
    first = c.now-first.result;
    ran = rw (c.saturating_add-until.ensures, c.booted.ensures.exact) at (rw c.in_default.is at (ran-after g.C.Clock.readings g.D.Datagrams.told g.L.In.LinkIn.told g.L.Out.LinkOut.told
        g.L.Dialer.told g.L.Dialer.made g.W.Crew.faults g.W.Crew.started c.args.world c.now-first.new.self c.now-first.result _ _ c.serve-end.result _ _ (λ events has. has) c.now-first.ensures c.serve-end.ensures.ran));
  },
  tt,
  refl,
)

pub returns-clause-ran : goal.returns-clause-ran
returns-clause-ran g c = (
  c.serve-end.result.status,
  record {
    first = c.now-first.result;
    ran = rw (c.saturating_add-until.ensures, c.booted.ensures.exact) at (rw c.in-Some.is at (ran-after g.C.Clock.readings g.D.Datagrams.told g.L.In.LinkIn.told g.L.Out.LinkOut.told
        g.L.Dialer.told g.L.Dialer.made g.W.Crew.faults g.W.Crew.started c.args.world c.now-first.new.self c.now-first.result _ _ c.serve-end.result _ _ (λ events has. has) c.now-first.ensures c.serve-end.ensures.ran));
  },
  c.report-status.ensures,
  tt,
)

pub returns-clause-ends : goal.returns-clause-ends
returns-clause-ends g c =
    let (before, read) = told-before (g.C.Clock.readings c.args.world.clock) in
    let later = has-read-first _ _ before c.now-first.result read c.now-first.ensures in
    let served = rw c.in-Some.is at (c.serve-end.ensures.ran.served (before ++ c.now-first.result ∷ []) later) in
    reported-known _ _ _ _ _ _ _ c.report-status.ensures (end-known _ _ _ _ _ _ _ _ served.because)

pub returns-clause-wrote : goal.returns-clause-wrote
returns-clause-wrote g c =
    let (before, read) = told-before (g.C.Clock.readings c.args.world.clock) in
    let later = has-read-first _ _ before c.now-first.result read c.now-first.ensures in
    let served = rw c.in-Some.is at (c.serve-end.ensures.ran.served (before ++ c.now-first.result ∷ []) later) in
    reported-wrote _ _ _ _ _ _ _ c.report-status.ensures (end-writes _ _ _ _ _ _ _ _ served.because)

pub returns-clause-sound : goal.returns-clause-sound
returns-clause-sound g c = λ writes devices.
    let (before, read) = told-before (g.C.Clock.readings c.args.world.clock) in
    let later = has-read-first _ _ before c.now-first.result read c.now-first.ensures in
    let served = rw c.in-Some.is at (c.serve-end.ensures.ran.served (before ++ c.now-first.result ∷ []) later) in
    reported-sound _ _ _ _ _ _ _ c.report-status.ensures writes
    (end-sound _ _ _ _ _ _ _ _ served.because (λ row. devices.dialer (served.dials_failed row))
    (λ s. either (λ row. devices.auth (served.auth_failed row)) (λ row. devices.acct (served.acct_failed row)) s) devices.crew)
