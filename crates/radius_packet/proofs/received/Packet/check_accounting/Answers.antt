use Rattle.std.proofs.Common.{ℕ, List, length, replicate, ap, sym, ◌∙◌, arith}
use Rattle.std.specs.Prelude.{nat_eq}
use Rattle.std.specs.Cmp.Lexicographic.{pointwise}
use Rattle.std.proofs.lemmas.Bool.Decides.{Decides-eqb}
use Rattle.std.proofs.lemmas.Slice.Eq.{slice_eq-Decides}
use Rattle.wire_core.specs.Numbers.{octets_at}
use Rattle.radius_packet.specs.Packet.{packet_text}
use Rattle.radius_packet.specs.Seals.{response_authenticator}
use Rattle.radius_packet.proofs.Packets.{length-packet_text, authenticator-packet_text}
use Rattle.radius_packet.proofs.received.Packet.check_accounting.Goals as goal

pub authenticator_with-right-requires : goal.authenticator_with-right-requires
authenticator_with-right-requires c =
    let p = c.whole.ensures.packet in
    omega (arith, ap length p.text, length-packet_text c.args.self.now p.authenticator)

pub returns-clause-exact : goal.returns-clause-exact
returns-clause-exact c =
    let own = c.authenticator.ensures ∙ sym (authenticator-packet_text c.args.self.now c.whole.ensures.packet.authenticator) in
    let other = c.authenticator_with-right.ensures ∙ ap (λ (xs : List ℕ). response_authenticator c.args.secret.now (replicate 16 0) xs) c.whole.ensures.value in
    c.are_equal.ensures ∙ ap (λ (xs : List ℕ). pointwise nat_eq xs c.authenticator_with-right.result) own
    ∙ ap (λ (ys : List ℕ). pointwise nat_eq (octets_at (packet_text c.args.self.now) 4 16) ys) other

pub returns-clause-right : goal.returns-clause-right
returns-clause-right c =
    slice_eq-Decides Decides-eqb (octets_at (packet_text c.args.self.now) 4 16) (response_authenticator c.args.secret.now (replicate 16 0) (packet_text c.args.self.now)) c.are_equal.result (returns-clause-exact c)
