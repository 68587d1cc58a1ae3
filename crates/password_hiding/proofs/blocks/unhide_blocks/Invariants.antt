use Rattle.std.proofs.Common.{◌≡◌, ◌*◌, ℕ, ◌<◌, drop}
use Rattle.password_hiding.specs.Hiding.{block, xor_each, before_block, mask}
use Rattle.password_hiding.proofs.blocks.unhide_blocks.Given as goal

-- the blocks so far are plain, and the octets after them are as they were
abbrev pub invariant-loop-i : goal.invariant-loop-i
invariant-loop-i l = record {
  before : l.before ≡ before_block l.authenticator l.initial.octets l.i;
  blocks : (j : ℕ) → j < l.i → block l.octets j ≡ xor_each (block l.initial.octets j) (mask l.secret l.authenticator l.initial.octets j);
  rest : drop (16 * l.i) l.octets ≡ drop (16 * l.i) l.initial.octets;
}
