use Rattle.std.proofs.Common.{◌-◌, ◌++◌, ◌∙◌, ap, arith, length, None}
use Rattle.std.specs.Prelude.{slice_set}
use Rattle.reverse_core.specs.Windows.{slot_at}
use Rattle.reverse_core.proofs.QueueLemmas.{at-second, at-third, set-first, set-second, set-third}
use Rattle.reverse_core.proofs.open_requests.take_in.Goals as goal

pub returns-then-place-slots_of-clause-items : goal.returns-then-place-slots_of-clause-items
returns-then-place-slots_of-clause-items c =
    let xs = c.args.thrice.now.items in
    let ys = c.args.twice.now.items in
    let zs = c.args.once.now.items in
    ap (λ l. l ++ ys ++ zs) c.take_at.ensures.items ∙ set-first xs ys zs c.args.place (omega (arith, c.slots_of.ensures))

pub returns-then-place-slots_of-2-clause-taken : goal.returns-then-place-slots_of-2-clause-taken
returns-then-place-slots_of-2-clause-taken c =
    let xs = c.args.thrice.now.items in
    let ys = c.args.twice.now.items in
    let zs = c.args.once.now.items in
    c.take_at-then-place-slots_of-2.ensures.taken ∙ ap (λ n. slot_at ys (c.args.place - n)) c.slots_of-2.ensures
    ∙ at-second xs ys zs c.args.place (omega (arith, c.slots_of.ensures)) (omega (arith, c.slots_of-2.ensures, c.slots_of-3.ensures))

pub returns-then-place-slots_of-2-clause-items : goal.returns-then-place-slots_of-2-clause-items
returns-then-place-slots_of-2-clause-items c =
    let xs = c.args.thrice.now.items in
    let ys = c.args.twice.now.items in
    let zs = c.args.once.now.items in
    ap (λ l. xs ++ l ++ zs) (c.take_at-then-place-slots_of-2.ensures.items ∙ ap (λ n. slice_set ys (c.args.place - n) None) c.slots_of-2.ensures)
    ∙ set-second xs ys zs c.args.place (omega (arith, c.slots_of.ensures)) (omega (arith, c.slots_of-2.ensures, c.slots_of-3.ensures))

pub returns-else-place-slots_of-2-clause-taken : goal.returns-else-place-slots_of-2-clause-taken
returns-else-place-slots_of-2-clause-taken c =
    let xs = c.args.thrice.now.items in
    let ys = c.args.twice.now.items in
    let zs = c.args.once.now.items in
    c.take_at-else-place-slots_of-2.ensures.taken
    ∙ ap (λ n. slot_at zs (c.args.place - n - c.slots_of-else-place-slots_of-2.result)) c.slots_of-2.ensures
    ∙ ap (λ n. slot_at zs (c.args.place - length xs - n)) c.slots_of-else-place-slots_of-2.ensures
    ∙ at-third xs ys zs c.args.place (omega (arith, c.slots_of.ensures)) (omega (arith, c.slots_of-2.ensures, c.slots_of-3.ensures))

pub returns-else-place-slots_of-2-clause-items : goal.returns-else-place-slots_of-2-clause-items
returns-else-place-slots_of-2-clause-items c =
    let xs = c.args.thrice.now.items in
    let ys = c.args.twice.now.items in
    let zs = c.args.once.now.items in
    ap (λ l. xs ++ ys ++ l) (c.take_at-else-place-slots_of-2.ensures.items
    ∙ ap (λ n. slice_set zs (c.args.place - n - c.slots_of-else-place-slots_of-2.result) None) c.slots_of-2.ensures
    ∙ ap (λ n. slice_set zs (c.args.place - length xs - n) None) c.slots_of-else-place-slots_of-2.ensures)
    ∙ set-third xs ys zs c.args.place (omega (arith, c.slots_of.ensures)) (omega (arith, c.slots_of-2.ensures, c.slots_of-3.ensures))
