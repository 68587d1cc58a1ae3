use Rattle.std.proofs.Common.{◌≡◌, ℕ, true, leb, length, refl}
use Rattle.std.proofs.lemmas.Bool.{le-leb}
use Rattle.std.proofs.lemmas.List.{drop-replicate}
use Rattle.hmac_md5.proofs.pieces.block_of.Goals as goal

pub returns-then-key-le-BLOCK : goal.returns-then-key-le-BLOCK
returns-then-key-le-BLOCK c =
    let short : leb (length c.args.key.now) 64 ≡ true = le-leb _ _ c.if-key-le-BLOCK.true in
    rw (c.copy_from_slice.ensures.after, short, drop-replicate {X = ℕ} (length c.args.key.now) 64 0) refl
