use Rattle.std.proofs.Common.{◌*◌, ◌≡◌, ℕ, List, take, drop, ap, ◌∙◌, refl, arith}
use Rattle.password_hiding.proofs.BlockLemmas.{masked, before_next, rest_after, unhide_step, unhides, plain_is}
use Rattle.password_hiding.proofs.blocks.unhide_blocks.Goals as goal

-- the block before the next one is still that of the hidden octets
still : (old octets found : List ℕ) (i place : ℕ) → place ≡ 16 * i → drop (16 * i) octets ≡ drop (16 * i) old → found ≡ take 16 (drop place octets) → found ≡ take 16 (drop (16 * i) old)
still old octets found i place e rest is = is ∙ ap (λ (n : ℕ). take 16 (drop n octets)) e ∙ ap (λ (xs : List ℕ). take 16 xs) rest

pub loop-i-preserved : goal.loop-i-preserved
loop-i-preserved c =
    let w = masked c.args.secret.now c.loop-i.before c.loop-i.octets c.mask_at.new.octets c.loop-i.i (c.loop-i.i * 16) (omega arith) (omega arith) c.mask_at.ensures in
    record {
      before = before_next c.args.authenticator.now c.args.octets.now _ c.loop-i.i (16 * c.loop-i.i) refl
          (still c.args.octets.now c.loop-i.octets _ c.loop-i.i (c.loop-i.i * 16) (omega arith) c.loop-i.invariant.rest c.block_at-hidden.ensures);
      blocks = unhide_step c.args.secret.now c.args.authenticator.now c.args.octets.now _ _ _ c.loop-i.before c.loop-i.i _ w c.loop-i.invariant.before refl c.loop-i.invariant.rest c.loop-i.invariant.blocks;
      rest = rest_after c.args.octets.now _ _ _ c.loop-i.i _ w c.loop-i.invariant.rest;
    }

pub returns-clause-hides : goal.returns-clause-hides
returns-clause-hides c =
    unhides c.args.secret.now c.args.authenticator.now c.args.octets.now c.loop-i.octets c.requires (omega arith) (λ j lt. c.loop-i.invariant.blocks j (omega arith))

pub returns-clause-plain : goal.returns-clause-plain
returns-clause-plain c = plain_is c.args.secret.now c.args.authenticator.now c.loop-i.octets c.args.octets.now (returns-clause-hides c)
