use Rattle.pending_table.specs.Table.{is_live_waiting}
use Rattle.pending_table.proofs.Relinking.{whole_renumbered, room_renumbered, apart_waits, kept_renumbered, rows_renumbered, settled_fails}
use Rattle.pending_table.proofs.stores.Stores.relink.Goals as goal

pub refill-requires-clause-room : goal.refill-requires-clause-room
refill-requires-clause-room c =
    let s = c.args.self.now in
    room_renumbered (is_live_waiting s.patience s.retention c.args.moment) c.args.link s c.requires.kept c.requires.whole c.renumber.new.waiting c.renumber.ensures _
    c.clear.ensures.capacity

pub refill-requires-clause-apart : goal.refill-requires-clause-apart
refill-requires-clause-apart c =
    let s = c.args.self.now in
    apart_waits (is_live_waiting s.patience s.retention c.args.moment) c.args.link s c.requires.kept c.requires.whole c.renumber.new.waiting c.renumber.ensures
    c.requires.unused

pub returns-clause-kept : goal.returns-clause-kept
returns-clause-kept c =
    let s = c.args.self.now in
    kept_renumbered (is_live_waiting s.patience s.retention c.args.moment) c.args.link s c.requires.kept c.requires.whole c.renumber.new.waiting c.renumber.ensures
    c.refill.new.numbers c.refill.ensures

pub returns-clause-whole : goal.returns-clause-whole
returns-clause-whole c =
    let s = c.args.self.now in
    whole_renumbered (is_live_waiting s.patience s.retention c.args.moment) c.args.link s c.requires.kept c.requires.whole c.renumber.new.waiting c.renumber.ensures

pub returns-clause-rows : goal.returns-clause-rows
returns-clause-rows c =
    let s = c.args.self.now in
    rows_renumbered (is_live_waiting s.patience s.retention c.args.moment) c.args.link s c.requires.kept c.requires.whole c.renumber.new.waiting c.renumber.ensures
    (settled_fails s.patience s.retention c.args.moment s.settled.items c.requires.kept.answered)
