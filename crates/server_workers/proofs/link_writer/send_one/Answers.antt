use Rattle.std.proofs.Common.{false, [], ◌∷◌, sym, subst}
use Rattle.server_workers.specs.LinkWriting.{SentOn}
use Rattle.agent_events.specs.declared.events.Output.{Output}
use Rattle.wire_devices.specs.Links.{Speaks}
use Rattle.server_workers.proofs.WritingLemmas.{sent-failed}
use Rattle.server_workers.proofs.link_writer.send_one.Goals as goal

pub returns-in_default-matches : goal.returns-in_default-matches
returns-in_default-matches g c =
    let o = g.O.LinkOut.told c.args.link.now in
    let p = g.O.LinkOut.told c.send.new.self in
    subst (λ (out : Output). SentOn false (out ∷ []) o p) (sym c.in-Send.is)
    (sent-failed c.send.result c.in-Send.octets o p c.in_default-matches.not-Done
    (subst (λ os. Speaks c.send.result o p os) c.as_slice.ensures c.send.ensures))
