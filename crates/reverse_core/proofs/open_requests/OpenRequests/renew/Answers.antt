use Rattle.std.proofs.Common.{◌≤◌, ◌++◌, ◌∙◌, map, ap, sym, subst, arith}
use Rattle.std.specs.List.{AllByRecursion}
use Rattle.std.specs.VecDeque.{deque_capacity}
use Rattle.reverse_core.specs.Requests.{renewed}
use Rattle.reverse_core.specs.Windows.{OpenParts}
use Rattle.reverse_core.proofs.WindowLemmas.{length-both}
use Rattle.reverse_core.proofs.WindowSteps.{late-moved, late-thrice, length-same, numbers-moved, renewed-list, window-renewed}
use Rattle.reverse_core.proofs.open_requests.OpenRequests.renew.Goals as goal

pub promote-requires-clause-late : goal.promote-requires-clause-late
promote-requires-clause-late c =
    let w = c.self.inside in
    late-thrice c.args.moment w.thrice.items w.twice.items w.once.items
    (subst (AllByRecursion (λ o. o.sent.last ≤ c.args.moment)) (sym (ap (λ (p : OpenParts). p.list) c.self.view_is)) c.requires)

pub promote-requires-2-clause-late : goal.promote-requires-2-clause-late
promote-requires-2-clause-late c =
    let w = c.self.inside in
    late-moved c.args.moment w.thrice.items w.twice.items w.once.items c.promote.new.to.items c.promote.new.from.items
    (subst (AllByRecursion (λ o. o.sent.last ≤ c.args.moment)) (sym (ap (λ (p : OpenParts). p.list) c.self.view_is)) c.requires) c.promote.ensures.list

pub promote-requires-2-clause-room : goal.promote-requires-2-clause-room
promote-requires-2-clause-room c =
    let w = c.self.inside in
    let a' = c.promote.new.to.items in
    let b' = c.promote.new.from.items in
    let few = c.self.invariant.few in
    omega (
      arith,
      length-same (a' ++ b') (w.thrice.items ++ w.twice.items) c.promote.ensures.numbers,
      length-both a' b',
      length-both w.thrice.items w.twice.items,
      c.promote.ensures.rooms.0,
      c.self.invariant.room_twice,
    )

pub invariant_of-self : goal.invariant_of-self
invariant_of-self c =
    let w = c.self.inside in
    let i = c.self.invariant in
    let one = c.promote in
    let two = c.promote-2 in
    let first = one.ensures.sent 2 (omega arith) i.twice_sent i.thrice_sent in
    let second = two.ensures.sent 1 (omega arith) i.once_sent first.1 in
    let list = renewed-list c.args.moment w.thrice.items w.twice.items w.once.items one.new.to.items one.new.from.items two.new.to.items two.new.from.items
    i.thrice_sent one.ensures.list two.ensures.list in
    window-renewed w.first c.args.moment w.thrice.items w.twice.items w.once.items one.new.to.items one.new.from.items two.new.to.items two.new.from.items w.count
    (deque_capacity w.thrice) (deque_capacity w.twice) (deque_capacity w.once) (deque_capacity one.new.to) (deque_capacity two.new.to) (deque_capacity two.new.from)
    i one.ensures.numbers two.ensures.numbers list first.0 second.0 second.1 one.ensures.rooms.1 (two.ensures.rooms.1 ∙ one.ensures.rooms.0) two.ensures.rooms.0

pub returns-clause-list : goal.returns-clause-list
returns-clause-list c =
    let w = c.self.inside in
    let one = c.promote in
    let two = c.promote-2 in
    renewed-list c.args.moment w.thrice.items w.twice.items w.once.items one.new.to.items one.new.from.items two.new.to.items two.new.from.items
    c.self.invariant.thrice_sent one.ensures.list two.ensures.list
    ∙ ap (λ (p : OpenParts). map (renewed c.args.moment) p.list) c.self.view_is

pub returns-clause-next : goal.returns-clause-next
returns-clause-next c =
    let w = c.self.inside in
    let one = c.promote in
    let two = c.promote-2 in
    let long = length-same (one.new.to.items ++ two.new.to.items ++ two.new.from.items) (w.thrice.items ++ w.twice.items ++ w.once.items)
    (numbers-moved w.thrice.items w.twice.items w.once.items one.new.to.items one.new.from.items two.new.to.items two.new.from.items one.ensures.numbers two.ensures.numbers) in
    omega (arith, long, ap (λ (p : OpenParts). p.next) c.self.view_is)
