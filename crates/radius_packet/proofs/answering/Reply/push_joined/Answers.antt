-- The octets are those of whole attributes, so that the draft goes on with them.
use Rattle.std.proofs.Common.{◌<◌, ℕ, List, ◌++◌, length, get_or, ap, subst, ◌∙◌, arith}
use Rattle.radius_packet.specs.Packet.{attributes_in}
use Rattle.radius_packet.proofs.Drafts.{with_joined, drafts_joined}
use Rattle.radius_packet.proofs.Reading.{values_fit}
use Rattle.radius_packet.proofs.answering.Reply.push_joined.Goals as goal

pub invariant_of-self : goal.invariant_of-self
invariant_of-self c =
    let values = values_fit (attributes_in c.args.attributes.now) (subst (λ (xs : List ℕ). (i : ℕ) → get_or xs i 0 < 256) c.requires (λ i. omega (arith, c.type_inv.attributes i))) in
    let d = drafts_joined c.self.inside.sealed c.self.inside.octets.items c.append.new.octets.items (attributes_in c.args.attributes.now) c.self.invariant.0
    (c.append.ensures.items ∙ ap (λ xs. c.self.inside.octets.items ++ xs) c.requires) values (omega (arith, ap length c.requires)) in
    (d.draft, omega arith)

pub returns-then-len-attributes-le-MOST-clause-ok : goal.returns-then-len-attributes-le-MOST-clause-ok
returns-then-len-attributes-le-MOST-clause-ok c =
    let values = values_fit (attributes_in c.args.attributes.now) (subst (λ (xs : List ℕ). (i : ℕ) → get_or xs i 0 < 256) c.requires (λ i. omega (arith, c.type_inv.attributes i))) in
    let d = drafts_joined c.self.inside.sealed c.self.inside.octets.items c.append.new.octets.items (attributes_in c.args.attributes.now) c.self.invariant.0
    (c.append.ensures.items ∙ ap (λ xs. c.self.inside.octets.items ++ xs) c.requires) values (omega (arith, ap length c.requires)) in
    d.held ∙ ap (λ r. with_joined r (attributes_in c.args.attributes.now)) c.self.view_is
