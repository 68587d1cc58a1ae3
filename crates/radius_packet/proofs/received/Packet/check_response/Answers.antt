use Rattle.std.proofs.Common.{ℕ, List, length, ap, ◌∙◌, arith}
use Rattle.std.specs.Prelude.{nat_eq}
use Rattle.std.specs.Cmp.Lexicographic.{pointwise}
use Rattle.radius_packet.specs.Seals.{response_authenticator}
use Rattle.radius_packet.proofs.Packets.{length-packet_text}
use Rattle.radius_packet.proofs.received.Packet.check_response.Goals as goal

pub authenticator_with-right-requires : goal.authenticator_with-right-requires
authenticator_with-right-requires c =
    let p = c.whole.ensures.packet in
    omega (arith, ap length p.text, length-packet_text c.args.self.now p.authenticator)

pub returns : goal.returns
returns c =
    let other = c.authenticator_with-right.ensures ∙ ap (λ (xs : List ℕ). response_authenticator c.args.secret.now c.args.request.now xs) c.whole.ensures.value in
    c.are_equal.ensures ∙ ap (λ (xs : List ℕ). pointwise nat_eq xs c.authenticator_with-right.result) c.authenticator.ensures
    ∙ ap (λ (ys : List ℕ). pointwise nat_eq c.args.self.now.authenticator ys) other
