use Rattle.socket_commands.proofs.peers.run_home.Goals as goal

pub returns-clause-ended : goal.returns-clause-ended
returns-clause-ended g c = record {
  ends = rw c.pair_of.ensures c.home-status.ensures.ends;
  causes = rw c.pair_of.ensures c.home-status.ensures.causes;
  counts = c.home-status.ensures.counts;
  complete = λ sound streams dialer.
      c.home-status.ensures.complete sound.input sound.users sound.is_told sound.read sound.short streams.reads streams.writes dialer
      (rw c.pair_of.ensures at sound.sound);
}
