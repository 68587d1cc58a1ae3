use Rattle.std.proofs.Common.{◌≡◌, ◌++◌, map, take, drop, bit_xor}
use Rattle.hmac_md5.proofs.pieces.masked.Given as goal

-- the octets so far are masked, and the others as they were
abbrev pub invariant-loop-x : goal.invariant-loop-x
invariant-loop-x l = l.x-items ≡ map (λ x. bit_xor x l.pad) (take l.x-index l.block) ++ drop l.x-index l.block
