use Rattle.std.proofs.Common.{[], arith, ◌≡◌, ℕ, ◌+◌, ◌<◌, List, ◌∷◌, ◌++◌, length, get_or, set, take, drop, map, bit_xor, append_assoc, ◌∙◌, sym}
use Rattle.std.proofs.lemmas.List.{drop_more, map_more, set_at, get_or_at, length-map, length-take-le}
use Rattle.hmac_md5.proofs.pieces.masked.Goals as goal

-- one more element mapped in place
one_more : (f : ℕ → ℕ) (xs ys : List ℕ) (i : ℕ) → i < length xs → ys ≡ map f (take i xs) ++ drop i xs
    → set ys i (f (get_or ys i 0)) ≡ map f (take (i + 1) xs) ++ drop (i + 1) xs
one_more f xs ys i lt so_far =
    let front : length (map f (take i xs)) ≡ i = length-map (take i xs) f ∙ length-take-le i xs (omega arith) in
    rw (so_far, drop_more xs i 0 lt, get_or_at (map f (take i xs)) (get_or xs i 0) (drop (i + 1) xs) 0 i front, set_at (map f (take i xs)) (get_or xs i 0) (drop (i + 1) xs) (f (get_or xs i 0)) i front, map_more f xs i 0 lt)
    (sym (append_assoc (map f (take i xs)) (f (get_or xs i 0) ∷ []) (drop (i + 1) xs)))

pub loop-x-preserved : goal.loop-x-preserved
loop-x-preserved c = one_more (λ x. bit_xor x c.args.pad) c.args.block.now c.loop-x.x-items c.loop-x.x-index (omega arith) c.loop-x.invariant
