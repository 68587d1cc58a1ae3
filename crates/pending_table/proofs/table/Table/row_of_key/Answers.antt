use Rattle.std.proofs.Common.{◌≡◌, ◌∙◌, sym, ap, Some, None, option_copied, option_and_then, if◌then◌else◌}
use Rattle.pending_table.specs.Stores.{is_live, by_key}
use Rattle.pending_table.proofs.Seen.{found_by_key, copied_then}
use Rattle.pending_table.proofs.table.Table.row_of_key.Goals as goal

pub returns-in-Some : goal.returns-in-Some
returns-in-Some c =
    let s = c.self.inside.stores in
    let some : by_key s c.args.key.now ≡ Some c.in-Some.row.now = sym c.by_key.ensures ∙ ap option_copied c.in-Some.is in
    let live : option_copied c.then_some.result ≡ (if is_live s c.args.moment c.in-Some.row.now then Some c.in-Some.row.now else None) =
    rw (c.then_some.ensures, c.is_live.ensures) (copied_then (is_live s c.args.moment c.in-Some.row.now) c.in-Some.row) in
    rw (← c.self.view_is)
    (live
    ∙ sym (found_by_key s c.self.invariant.0 c.self.invariant.1 c.args.key.now c.args.moment
    ∙ ap (option_and_then (λ r. if is_live s c.args.moment r then Some r else None)) some))

pub returns-in-None : goal.returns-in-None
returns-in-None c =
    let s = c.self.inside.stores in
    let none : by_key s c.args.key.now ≡ None = sym c.by_key.ensures ∙ ap option_copied c.in-None.is in
    rw (← c.self.view_is)
    (sym (found_by_key s c.self.invariant.0 c.self.invariant.1 c.args.key.now c.args.moment
    ∙ ap (option_and_then (λ r. if is_live s c.args.moment r then Some r else None)) none))
