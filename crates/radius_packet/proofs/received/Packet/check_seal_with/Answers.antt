use Rattle.std.proofs.Common.{◌≡◌, ◌+◌, List, Some, ap, sym, refl, ◌∙◌, arith}
use Rattle.radius_packet.specs.Packet.{AttributeParts}
use Rattle.radius_packet.specs.Checks.{seal_place, SealAt, with_authenticator}
use Rattle.radius_packet.proofs.SealTests.{seal_at, room_at, absent}
use Rattle.radius_packet.proofs.received.Packet.check_seal_with.Goals as goal

-- the first seal stands there
first : (c : goal.After-whole) → SealAt c.whole.result.now c.args.self.now (20 + c.in-Some.before)
first c =
    let place : seal_place c.args.self.now.attributes 0 ≡ Some c.in-Some.before =
    ap (λ (list : List AttributeParts). seal_place list 0) (sym c.attributes.ensures.value) ∙ sym c.octets_before_seal.ensures ∙ c.in-Some.is in
    seal_at c.whole.result.now c.args.self.now c.in-Some.before (20 + c.in-Some.before) c.whole.ensures.packet place refl

pub overflow_add-before : goal.overflow_add-before
overflow_add-before c = let s = first c in omega (arith, room_at _ _ _ s, s.packet.most)

pub test_seal-requires : goal.test_seal-requires
test_seal-requires c = (c.args.self.now, first c)

pub returns-in-Some : goal.returns-in-Some
returns-in-Some c =
    let place : seal_place c.args.self.now.attributes 0 ≡ Some c.in-Some.before =
    ap (λ (list : List AttributeParts). seal_place list 0) (sym c.attributes.ensures.value) ∙ sym c.octets_before_seal.ensures ∙ c.in-Some.is in
    c.test_seal.ensures c.args.self.now (seal_at c.whole.result.now c.args.self.now c.in-Some.before (20 + c.in-Some.before) c.whole.ensures.packet place refl)

pub returns-in-None : goal.returns-in-None
returns-in-None c =
    absent c.args.secret.now (with_authenticator c.args.authenticator.now c.args.self.now)
    (ap (λ (list : List AttributeParts). seal_place list 0) (sym c.attributes.ensures.value) ∙ sym c.octets_before_seal.ensures ∙ c.in-None.is)
