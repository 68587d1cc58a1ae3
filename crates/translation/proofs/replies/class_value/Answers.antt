-- A session of 244 octets has a Class of 253.
use Rattle.std.proofs.Common.{Err, ap, ◌∙◌, arith}
use Rattle.translation.proofs.Classes.{class_fits}
use Rattle.translation.proofs.replies.class_value.Goals as goal

pub unreachable-requires : goal.unreachable-requires
unreachable-requires c =
    let long = c.class_of.ensures.too_long.0 (c.in-Err-TooLong.is ∙ ap Err c.in-Err-TooLong.field-0-is) in
    omega (arith, long, class_fits c.args.session.now c.requires)
