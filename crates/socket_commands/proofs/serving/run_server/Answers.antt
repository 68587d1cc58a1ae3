use Rattle.std.proofs.Common.{inl, inr, Err, refl, ap, subst}
use Rattle.socket_commands.specs.Serves.{IsRunEnd}
use Rattle.socket_commands.proofs.ServeLemmas.{counts-read, counts-unread, sound-unread}
use Rattle.socket_commands.proofs.serving.run_server.Goals as goal

pub returns-in-Ok-clause-ended : goal.returns-in-Ok-clause-ended
returns-in-Ok-clause-ended g c =
    let (end, run, reported, unreported) = c.serve_for.ensures.ran in
    record {
      served = inr (record { config = c.in-Ok.config; settings = c.in-Ok.ensures.taken; end = end; run = run; reported = reported; unreported = unreported });
      counts = counts-read _ _ _ _ _ _ _ (λ is. subst IsRunEnd is c.serve_for.ensures.ends) c.in-Ok.ensures.ended c.serve_for.ensures.wrote;
      complete = λ has streams devices. c.serve_for.ensures.sound streams.writes devices;
    }

pub returns-in-Err-clause-ended : goal.returns-in-Err-clause-ended
returns-in-Err-clause-ended g c = rw c.idle.ensures (record {
  served = inl (c.in-Err.ensures.not, refl, refl);
  counts = counts-unread c.in-Err.status _ _ _ _ _ _ _ _ c.in-Err.ensures.not (λ is. c.in-Err.ensures.read (ap Err is))
      (λ fault is. c.in-Err.ensures.refused fault (ap Err is));
  complete = λ has streams devices. sound-unread c.in-Err.status _ c.in-Err.ensures.not (λ is. c.in-Err.ensures.read (ap Err is)) has streams.reads;
})
