use Rattle.std.proofs.Common.{Some, None, refl, sym, ◌∙◌}
use Rattle.radius_packet.specs.declared.reasons.Via.TheVariants.{Auth, Acct}
use Rattle.wire_devices.proofs.TellingLaws.{Adds-none}
use Rattle.server_workers.proofs.LinkTurnLemmas.{handed-by}
use Rattle.server_workers.proofs.link_reader.Visitor.visit.Goals as goal

pub returns-in-Some-clause-visits : goal.returns-in-Some-clause-visits
returns-in-Some-clause-visits g c = record {
  heard = Some c.in-Some.heard;
  went = c.in-Some.ensures.went;
  auth = handed-by Auth c.in-Some.heard c.as_slice.ensures c.send_replies.ensures.auth;
  acct = handed-by Acct c.in-Some.heard c.as_slice.ensures c.send_replies.ensures.acct;
  ports = c.send_replies.ensures.ports;
  lost = refl;
  again = refl;
  last = c.is_last.ensures;
}

pub returns-else-framed-clause-visits : goal.returns-else-framed-clause-visits
returns-else-framed-clause-visits g c = record {
  heard = None;
  went = c.in-None.ensures.went;
  auth = Adds-none (g.D.Datagrams.told c.args.self.now.auth_twin).handed;
  acct = Adds-none (g.D.Datagrams.told c.args.self.now.acct_twin).handed;
  ports = (refl, refl);
  lost = rw (sym c.is_framed-framed.ensures ∙ c.if-framed.false) refl;
  again = refl;
  last = refl;
}
