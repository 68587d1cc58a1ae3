use Rattle.std.proofs.Common.{take, flat_map}
use Rattle.radius_packet.specs.declared.reasons.Via.TheVariants.{Auth, Acct}
use Rattle.wire_devices.specs.Telling.{Adds}
use Rattle.server_workers.specs.Entries.{reply_by}
use Rattle.server_workers.specs.LinkReading.{StayAt}
use Rattle.server_workers.proofs.link_reader.send_replies.Given as goal

-- each socket was handed its replies among the outputs so far
abbrev pub invariant-loop-output : goal.invariant-loop-output
invariant-loop-output g l = record {
  auth : Adds (g.D.Datagrams.told l.fn.auth).handed (g.D.Datagrams.told l.auth).handed (flat_map (reply_by Auth) (take l.output-index l.outputs));
  acct : Adds (g.D.Datagrams.told l.fn.acct).handed (g.D.Datagrams.told l.acct).handed (flat_map (reply_by Acct) (take l.output-index l.outputs));
  ports : StayAt (g.D.Datagrams.told l.fn.auth) (g.D.Datagrams.told l.fn.acct) (g.D.Datagrams.told l.auth) (g.D.Datagrams.told l.acct);
}
