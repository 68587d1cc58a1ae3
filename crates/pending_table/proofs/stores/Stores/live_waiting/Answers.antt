use Rattle.std.proofs.Common.{◌≡◌, ◌∙◌, sym, ap, length, arith}
use Rattle.std.specs.BTreeMap.{values, btree_map_len}
use Rattle.pending_table.proofs.Sending.{live_rest, left_behind}
use Rattle.pending_table.proofs.stores.Stores.live_waiting.Goals as goal

pub loop-preserved : goal.loop-preserved
loop-preserved c =
    let inv = c.loop.invariant in
    let left = left_behind c.loop.counter (values c.args.self.now.waiting) c.loop.rows c.next.new.self c.next.result c.next.ensures.steps inv.0 in
    (left, omega (arith, c.loop-test.true), inv.2)

pub returns : goal.returns
returns c =
    let s = c.args.self.now in
    let inv = c.loop.invariant in
    let all : length (values s.waiting) ≡ btree_map_len s.waiting = sym (ap length c.values-rows.ensures.rest) ∙ c.values-rows.ensures.len in
    let end : c.loop.counter ≡ c.dead_waiting-end.result = omega (arith, inv.1, c.loop-test.false) in
    rw (inv.0, end) (live_rest s c.args.moment (values s.waiting) c.dead_waiting-end.result c.requires (inv.2 ∙ sym all))
