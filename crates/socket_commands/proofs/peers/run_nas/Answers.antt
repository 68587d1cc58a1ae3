use Rattle.socket_commands.proofs.peers.run_nas.Goals as goal

pub returns-clause-ended : goal.returns-clause-ended
returns-clause-ended g c = record {
  ran = record { ends = c.nas-status.ensures.ends; failed = c.nas-status.ensures.fault; rose = c.nas-status.ensures.rose };
  counts = c.nas-status.ensures.counts;
  complete = λ takes streams socket.
      c.nas-status.ensures.complete takes.input takes.is_told takes.packets takes.short streams.reads streams.writes socket;
}
