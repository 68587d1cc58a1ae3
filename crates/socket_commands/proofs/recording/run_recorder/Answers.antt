use Rattle.std.proofs.Common.{inl, inr, Err, refl, ap, subst}
use Rattle.socket_commands.specs.Serves.{IsRunEnd}
use Rattle.socket_commands.proofs.ServeLemmas.{counts-read, counts-unread, sound-unread}
use Rattle.socket_commands.proofs.recording.run_recorder.Goals as goal

pub returns-in-Ok-clause-ended : goal.returns-in-Ok-clause-ended
returns-in-Ok-clause-ended g c = record {
  recorded = inr (record { config = c.in-Ok.config; settings = c.in-Ok.ensures.taken; recorded = c.record_for.ensures.recorded });
  counts = λ whole. counts-read _ _ _ _ _ _ _ (λ is. subst IsRunEnd is c.record_for.ensures.ends) c.in-Ok.ensures.ended (c.record_for.ensures.wrote whole);
  complete = λ has reads whole writes starts devices. c.record_for.ensures.sound whole writes starts devices;
}

pub returns-in-Err-clause-ended : goal.returns-in-Err-clause-ended
returns-in-Err-clause-ended g c = rw (c.unrecorded.ensures, c.idle.ensures) (record {
  recorded = inl (c.in-Err.ensures.not, refl);
  counts = λ whole. counts-unread c.in-Err.status _ _ _ _ _ _ _ _ c.in-Err.ensures.not (λ is. c.in-Err.ensures.read (ap Err is))
      (λ fault is. c.in-Err.ensures.refused fault (ap Err is));
  complete = λ has reads whole writes starts devices. sound-unread c.in-Err.status _ c.in-Err.ensures.not (λ is. c.in-Err.ensures.read (ap Err is)) has reads;
})
