use Rattle.std.proofs.Common.{◌*◌, refl, arith}
use Rattle.password_hiding.proofs.BlockLemmas.{masked, before_next, rest_after, hide_step}
use Rattle.password_hiding.proofs.blocks.hide_blocks.Goals as goal

pub loop-i-preserved : goal.loop-i-preserved
loop-i-preserved c =
    let w = masked c.args.secret.now c.loop-i.before c.loop-i.octets c.mask_at.new.octets c.loop-i.i (c.loop-i.i * 16) (omega arith) (omega arith) c.mask_at.ensures in
    record {
      before = before_next c.args.authenticator.now c.mask_at.new.octets _ c.loop-i.i (c.loop-i.i * 16) (omega arith) c.block_at-before.ensures;
      blocks = hide_step c.args.secret.now c.args.authenticator.now c.args.octets.now _ _ _ c.loop-i.before c.loop-i.i _ w c.loop-i.invariant.before refl c.loop-i.invariant.rest c.loop-i.invariant.blocks;
      rest = rest_after c.args.octets.now _ _ _ c.loop-i.i _ w c.loop-i.invariant.rest;
    }
