use Rattle.std.proofs.Common.{arith}
use Rattle.password_hiding.proofs.BlockLemmas.{one_more}
use Rattle.password_hiding.proofs.blocks.mask_block.Goals as goal

pub loop-i-preserved : goal.loop-i-preserved
loop-i-preserved c = one_more c.args.block.now c.finalize-mask.result c.loop-i.block c.loop-i.i (omega arith) (omega arith) c.loop-i.invariant
