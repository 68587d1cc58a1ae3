-- An image fits in an attribute.
use Rattle.std.proofs.Common.{Ok, sym, ap, ◌∙◌}
use Rattle.attribute_table.proofs.Table.{backward_images_keep_length}
use Rattle.translation.proofs.pushing.push_value.Goals as goal

pub push-requires : goal.push-requires
push-requires c =
    let made = ap Ok c.octets.ensures ∙ c.in-Ok.ensures in
    let short = backward_images_keep_length c.args.row.now c.args.body.now c.octets.result.now (sym made) in
    record { value = short.1 }
