use Rattle.std.proofs.Common.{rules, ◌<◌, length, sym, ap, ◌∙◌, subst, arith}
use Rattle.turnstile.specs.Turns.{greatest, without}
use Rattle.turnstile.proofs.Keeping.{splits}
use Rattle.turnstile.proofs.Lists.{greatest-in, length-without}
use Rattle.turnstile.proofs.turnstile.Turnstile.split.Goals as goal

pub split_seat-seat-requires : goal.split_seat-seat-requires
split_seat-seat-requires g c = (search rules, search rules, splits g.D.Desk.stands _ _ _ c.args.pass.now.rests.0 c.requires.two)

pub invariant_of-pass : goal.invariant_of-pass
invariant_of-pass g c = let now = c.split_seat-seat.ensures.2 in let ns = c.args.pass.now.seat.me.0.known.numbers in let two : 1 < length ns = c.requires.two in
    let len = length-without (greatest ns) ns (greatest-in ns (omega arith)) in let some_left : 0 < length (without (greatest ns) ns) = omega arith in record {
      rests = (
        ap (λ m. m.0.stage) now,
        ap (λ m. m.0.told) now,
        ap (λ m. m.1) now ∙ c.args.pass.now.rests.2,
        subst (λ m. 0 < length m.0.known.numbers) (sym now) some_left,
      );
    }
