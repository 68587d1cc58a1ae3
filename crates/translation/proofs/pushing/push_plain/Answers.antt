-- One after the other.
use Rattle.std.proofs.Common.{not, ◌&&◌}
use Rattle.diameter_avp.specs.View.{avp_view}
use Rattle.attribute_table.specs.Rows.{row_of_avp}
use Rattle.translation.specs.Reading.{is_bad_value, is_bad_timeout, is_bad_group}
use Rattle.translation.proofs.PushingLemmas.{pushes_then, pushes_stop, err_false, plain_split}
use Rattle.translation.proofs.pushing.push_plain.Goals as goal

pub returns-in_err-push_row : goal.returns-in_err-push_row
returns-in_err-push_row c =
    let a = avp_view c.args.avp.now in
    let bad = is_bad_value c.args.class (row_of_avp a.code) a.body in
    let group = is_bad_group c.args.class c.args.number a in
    rw (err_false c.from_residual-in_err-push_row.result c.from_residual-in_err-push_row.ensures.0, plain_split c.args.must (is_bad_timeout c.args.class a) bad group c.in_ok-check_timeout.ensures)
    (pushes_stop _ _ (not (c.args.must && bad)) (not (c.args.must && group)) _ _ c.in_err-push_row.ensures)

pub returns : goal.returns
returns c =
    let a = avp_view c.args.avp.now in
    let bad = is_bad_value c.args.class (row_of_avp a.code) a.body in
    let group = is_bad_group c.args.class c.args.number a in
    rw (plain_split c.args.must (is_bad_timeout c.args.class a) bad group c.in_ok-check_timeout.ensures)
    (pushes_then _ _ _ _ _ _ _ _ c.in_ok-push_row.ensures c.push_tunnel.ensures)
