use Rattle.std.proofs.Common.{ℕ, List, ap, sym, ◌∙◌}
use Rattle.radius_packet.specs.Checks.{seal_of, with_authenticator}
use Rattle.radius_packet.proofs.SealTests.{right_is, is_right}
use Rattle.radius_packet.proofs.received.Packet.check_seal.Goals as goal

pub returns-clause-exact : goal.returns-clause-exact
returns-clause-exact c =
    c.check_seal_with.ensures ∙ ap (λ (a : List ℕ). seal_of c.args.secret.now (with_authenticator a c.args.self.now)) c.authenticator.ensures

pub returns-clause-right : goal.returns-clause-right
returns-clause-right c = λ e. right_is _ _ (sym (returns-clause-exact c) ∙ e)

pub returns-clause-only : goal.returns-clause-only
returns-clause-only c = λ r. returns-clause-exact c ∙ is_right _ _ r
