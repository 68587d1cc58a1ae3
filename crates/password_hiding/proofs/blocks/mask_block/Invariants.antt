use Rattle.std.proofs.Common.{◌≡◌, ◌++◌, take, drop}
use Rattle.password_hiding.specs.Hiding.{xor_each}
use Rattle.password_hiding.proofs.blocks.mask_block.Given as goal

-- the octets so far are changed, and the others as they were
abbrev pub invariant-loop-i : goal.invariant-loop-i
invariant-loop-i l = l.block ≡ xor_each (take l.i l.initial.block) (take l.i l.y-items) ++ drop l.i l.initial.block
