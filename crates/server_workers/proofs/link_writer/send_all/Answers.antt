use Rattle.std.proofs.Common.{Bool, sym, ◌∙◌, subst}
use Rattle.wire_core.specs.declared.outside.Put.{Put}
use Rattle.wire_devices.specs.Links.{Speaks}
use Rattle.server_workers.specs.Entries.{octets_in}
use Rattle.server_workers.specs.LinkWriting.{SentOn}
use Rattle.server_workers.proofs.WritingLemmas.{sent-cut, sent-whole}
use Rattle.server_workers.proofs.link_writer.send_all.Goals as goal
use Rattle.server_workers.proofs.link_writer.send_all.Goals.{in-Done, in_default-matches}

pub returns-in-Ok : goal.returns-in-Ok
returns-in-Ok g c =
    let outputs = c.args.outputs.now in
    let o = g.O.LinkOut.told c.args.link.now in
    let p = g.O.LinkOut.told c.send.new.self in
    let spoke : Speaks c.send.result o p (octets_in outputs) =
    subst (λ os. Speaks c.send.result o p os) (c.as_slice.ensures.value ∙ c.in-Ok.ensures) c.send.ensures in
    elim c.match-matches.branch [
      | in-Done w ↦
          subst (λ (whole : Bool). SentOn whole outputs o p) (sym w.matches-is)
          (sent-whole outputs o p (subst (λ (put : Put). Speaks put o p (octets_in outputs)) w.in-Done.is spoke))
      | in_default-matches w ↦
          subst (λ (whole : Bool). SentOn whole outputs o p) (sym w.matches-is)
          (sent-cut c.send.result outputs o p w.in_default-matches.not-Done spoke)
    ]
