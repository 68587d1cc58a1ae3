use Rattle.std.proofs.Common.{◌≡◌, ◌==◌, ◌&&◌, length, nat_eq}
use Rattle.std.specs.Cmp.Lexicographic.{pointwise}
use Rattle.radius_packet.proofs.digests.are_equal.Given as goal

-- the digests are equal where no difference was seen and what is left of them is equal
abbrev pub invariant-loop-x : goal.invariant-loop-x
invariant-loop-x l = record {
  size : length l.x-iterator.a.rest.now ≡ length l.x-iterator.b.rest.now;
  equal : (l.difference == 0 && pointwise nat_eq l.x-iterator.a.rest.now l.x-iterator.b.rest.now) ≡ pointwise nat_eq l.fn.one l.fn.other;
}
