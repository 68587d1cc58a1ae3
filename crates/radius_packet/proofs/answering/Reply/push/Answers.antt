use Rattle.std.proofs.Common.{◌++◌, ap, ◌∙◌, arith}
use Rattle.radius_packet.proofs.Drafts.{with_more, drafts_push}
use Rattle.radius_packet.proofs.answering.Reply.push.Goals as goal

pub invariant_of-self : goal.invariant_of-self
invariant_of-self c =
    let d = drafts_push c.self.inside.sealed c.self.inside.octets.items c.append-2.new.octets.items c.args.value.now c.args.code _ c.self.invariant.0
    (c.append-2.ensures.items ∙ ap (λ xs. xs ++ c.args.value.now) c.append.ensures.items) (omega arith) (omega arith) (omega arith) in
    (d.draft, omega arith)

pub returns-clause-ok : goal.returns-clause-ok
returns-clause-ok c =
    let d = drafts_push c.self.inside.sealed c.self.inside.octets.items c.append-2.new.octets.items c.args.value.now c.args.code _ c.self.invariant.0
    (c.append-2.ensures.items ∙ ap (λ xs. xs ++ c.args.value.now) c.append.ensures.items) (omega arith) (omega arith) (omega arith) in
    d.held ∙ ap (λ r. with_more r (record { code = c.args.code; value = c.args.value.now })) c.self.view_is
