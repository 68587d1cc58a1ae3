use Rattle.std.proofs.Common.{◌∙◌, ap}
use Rattle.pending_table.specs.Stores.{HasSameList}
use Rattle.pending_table.proofs.Preparing.{on_err, list-room, same_waits, same_all, prepared}
use Rattle.pending_table.proofs.stores.Stores.prepare.Goals as goal

pub returns-in_err-reserve-clause-err : goal.returns-in_err-reserve-clause-err
returns-in_err-reserve-clause-err c =
    on_err c.from_residual.result (list-room c.args.self.now c.reserve.new.self c.requires.whole c.reserve.ensures.rows)

pub returns-in_err-draft-clause-err : goal.returns-in_err-draft-clause-err
returns-in_err-draft-clause-err c =
    let s = c.args.self.now in
    let a = c.reserve.new.self in
    let b = c.draft.new.self in
    let left : HasSameList s b =
    record {
      whole = c.in_err-draft.ensures.err;
      rows_are =
          same_all s b (c.draft.ensures.waits ∙ same_waits s a c.reserve.ensures.rows)
          (ap (λ q. q.items) c.draft.ensures.rest.settled ∙ c.reserve.ensures.rows.settled);
    }
    in
    on_err c.from_residual-in_err-draft.result left

pub returns-clause-ok : goal.returns-clause-ok
returns-clause-ok c =
    prepared c.args.self.now c.reserve.new.self c.draft.new.self c.purge_waiting.new.self c.purge_settled.new.self c.args.moment c.args.row
    c.reserve.ensures.rows c.in_ok-reserve.ensures.room c.draft.ensures.rest c.draft.ensures.waits c.in_ok-draft.ensures.ok
    c.purge_waiting.ensures.rest c.purge_waiting.ensures.live c.purge_waiting.ensures.settled
    c.purge_settled.ensures.rest c.purge_settled.ensures.live c.purge_settled.ensures.waiting
