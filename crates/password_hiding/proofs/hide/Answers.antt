use Rattle.std.proofs.Common.{ℕ, take, ap, ◌∙◌, arith}
use Rattle.password_hiding.proofs.BlockLemmas.{padded_is, form_is, front_hidden, moved}
use Rattle.password_hiding.proofs.hide.Goals as goal

pub returns-clause-hides : goal.returns-clause-hides
returns-clause-hides c =
    let size = c.length_with_padding-length.ensures in
    let plain = ap (λ (n : ℕ). take n c.with_zeros-octets.result) size ∙ padded_is c.args.password.now c.with_zeros-octets.result (omega arith) c.with_zeros-octets.ensures in
    let hidden = front_hidden c.args.password.now c.with_zeros-octets.result c.hide_blocks.new.octets c.length_with_padding-length.result (omega arith) c.with_zeros-octets.ensures size c.hide_blocks.ensures.same_length in
    moved _ _ _ _ _ _ plain hidden c.hide_blocks.ensures

pub returns-clause-form : goal.returns-clause-form
returns-clause-form c = form_is c.args.secret.now c.args.authenticator.now _ _ (returns-clause-hides c)
