use Rattle.std.proofs.Common.{◌≡◌, ◌-◌, ◌++◌, ◌∙◌, ap, sym, subst, arith, length, filter, not, eqb, Some, None}
use Rattle.std.specs.Prelude.{find, slice_set}
use Rattle.reverse_core.specs.History.{has_identifier}
use Rattle.reverse_core.specs.Windows.{OpenParts, filled, slot_at, TakesOut}
use Rattle.reverse_core.proofs.WindowLemmas.{count-taken, few-slots, filled-empty, find-at, takes-number, takes-out}
use Rattle.reverse_core.proofs.WindowSteps.{window-emptied}
use Rattle.reverse_core.proofs.open_requests.OpenRequests.remove.Goals as goal

pub overflow_sub-self : goal.overflow_sub-self
overflow_sub-self c =
    let w = c.self.inside in
    let slots = w.thrice.items ++ w.twice.items ++ w.once.items in
    let at : slot_at slots c.place_of-place.result ≡ Some c.in-Some.found = sym c.in-Some.ensures.taken in
    omega (arith, count-taken c.place_of-place.result slots c.in-Some.found at, c.self.invariant.counted)

pub invariant_of-self : goal.invariant_of-self
invariant_of-self c =
    let w = c.self.inside in
    let t = c.take_in in
    let j = c.place_of-place.result in
    let slots = w.thrice.items ++ w.twice.items ++ w.once.items in
    let at : slot_at slots j ≡ Some c.in-Some.found = sym c.in-Some.ensures.taken in
    window-emptied w.first j w.thrice.items w.twice.items w.once.items t.new.thrice.items t.new.twice.items t.new.once.items w.count (w.count - 1) _ _ _ _ _ _
    c.self.invariant t.ensures.items t.ensures.lengths t.ensures.thrice t.ensures.twice t.ensures.once
    (omega (arith, count-taken j slots c.in-Some.found at, c.self.invariant.counted)) t.ensures.rooms.0 t.ensures.rooms.1 t.ensures.rooms.2

pub invariant_of-self-in-None : goal.invariant_of-self-in-None
invariant_of-self-in-None c =
    let w = c.self.inside in
    let t = c.take_in in
    let j = c.place_of-place.result in
    let slots = w.thrice.items ++ w.twice.items ++ w.once.items in
    let at : slot_at slots j ≡ None = sym c.in-None.ensures.taken in
    window-emptied w.first j w.thrice.items w.twice.items w.once.items t.new.thrice.items t.new.twice.items t.new.once.items w.count w.count _ _ _ _ _ _
    c.self.invariant t.ensures.items t.ensures.lengths t.ensures.thrice t.ensures.twice t.ensures.once
    (c.self.invariant.counted ∙ sym (ap length (filled-empty j slots at))) t.ensures.rooms.0 t.ensures.rooms.1 t.ensures.rooms.2

pub returns-in-Some-clause-found : goal.returns-in-Some-clause-found
returns-in-Some-clause-found c =
    let w = c.self.inside in
    let slots = w.thrice.items ++ w.twice.items ++ w.once.items in
    c.in-Some.ensures.taken
    ∙ sym (find-at w.first c.place_of-place.result slots c.self.invariant.numbered (few-slots w.thrice.items w.twice.items w.once.items c.self.invariant.few) c.place_of-place.ensures.below)
    ∙ ap (λ id. find (has_identifier id) (filled slots)) c.place_of-place.ensures.identifier
    ∙ ap (λ (p : OpenParts). find (has_identifier c.args.id) p.list) c.self.view_is

pub returns-in-None-clause-found : goal.returns-in-None-clause-found
returns-in-None-clause-found c =
    let w = c.self.inside in
    let slots = w.thrice.items ++ w.twice.items ++ w.once.items in
    c.in-None.ensures.taken
    ∙ sym (find-at w.first c.place_of-place.result slots c.self.invariant.numbered (few-slots w.thrice.items w.twice.items w.once.items c.self.invariant.few) c.place_of-place.ensures.below)
    ∙ ap (λ id. find (has_identifier id) (filled slots)) c.place_of-place.ensures.identifier
    ∙ ap (λ (p : OpenParts). find (has_identifier c.args.id) p.list) c.self.view_is

pub returns-in-Some-clause-some : goal.returns-in-Some-clause-some
returns-in-Some-clause-some c =
    let w = c.self.inside in
    let j = c.place_of-place.result in
    let slots = w.thrice.items ++ w.twice.items ++ w.once.items in
    let at : slot_at slots j ≡ Some c.in-Some.found = sym c.in-Some.ensures.taken in
    rw c.take_in.ensures.items (subst (λ (p : OpenParts). TakesOut c.in-Some.found p.list (filled (slice_set slots j None))) c.self.view_is (takes-out j slots c.in-Some.found at))

pub returns-in-Some-clause-others : goal.returns-in-Some-clause-others
returns-in-Some-clause-others c =
    let w = c.self.inside in
    let j = c.place_of-place.result in
    let slots = w.thrice.items ++ w.twice.items ++ w.once.items in
    let at : slot_at slots j ≡ Some c.in-Some.found = sym c.in-Some.ensures.taken in
    ap filled c.take_in.ensures.items ∙ takes-number w.first j slots c.in-Some.found c.self.invariant.numbered at
    ∙ ap (λ (p : OpenParts). filter (λ x. not (eqb x.taken.number c.in-Some.found.taken.number)) p.list) c.self.view_is

pub returns-in-None-clause-none : goal.returns-in-None-clause-none
returns-in-None-clause-none c =
    let w = c.self.inside in
    let j = c.place_of-place.result in
    let slots = w.thrice.items ++ w.twice.items ++ w.once.items in
    let at : slot_at slots j ≡ None = sym c.in-None.ensures.taken in
    ap filled c.take_in.ensures.items ∙ filled-empty j slots at ∙ ap (λ (p : OpenParts). p.list) c.self.view_is
