use Rattle.std.proofs.Common.{◌≡◌, ◌&&◌, ◌∙◌, sym, ap, subst, true, is_some, All, length, filter, find, arith}
use Rattle.std.proofs.lemmas.List.Elements.{recursion_from_All}
use Rattle.pending_table.specs.Table as parts
use Rattle.pending_table.specs.Stores.{is_live, all, by_number}
use Rattle.pending_table.proofs.Lists.{length-update_first}
use Rattle.pending_table.proofs.Seen.{found_by_number, same_parts}
use Rattle.pending_table.proofs.Answering.{settled_last, settled_same, is_found}
use Rattle.pending_table.proofs.table.Table.settle.Goals as goal

pub settle-requires-clause-found : goal.settle-requires-clause-found
settle-requires-clause-found c =
    let s = c.self.inside.stores in
    let awaited : is_some (find (λ r. parts.has_number c.args.link c.args.number r.1) (filter (λ r. parts.is_live_waiting s.patience s.retention c.args.moment r.1) (all s))) ≡ true =
    subst (λ t. is_some (parts.find_number t c.args.link c.args.number c.args.moment) ≡ true) (sym c.self.view_is) c.requires.awaited in
    is_found s c.args.moment (by_number s c.args.link c.args.number)
    (sym (ap is_some (found_by_number s c.self.invariant.0 c.self.invariant.1 c.args.link c.args.number c.args.moment)) ∙ awaited)

pub settle-requires-clause-last : goal.settle-requires-clause-last
settle-requires-clause-last c =
    let s = c.self.inside.stores in
    let in_order : All (λ r. parts.IsBy c.args.moment r.1) (filter (is_live s c.args.moment) (all s)) =
    subst (λ t. All (λ r. parts.IsBy c.args.moment r.1) (parts.live t c.args.moment)) (sym c.self.view_is) c.requires.in_order in
    rw c.given-answer.ensures
    (settled_last s c.self.invariant.0 c.args.moment c.args.reply
    (recursion_from_All (λ r. parts.IsBy c.args.moment r.1) (filter (is_live s c.args.moment) (all s)) in_order))

pub invariant_of-self : goal.invariant_of-self
invariant_of-self c =
    let s = c.self.inside.stores in
    let same : length (all c.settle.new.self) ≡ length (all s) =
    ap length c.settle.ensures.rows
    ∙ length-update_first (λ e. parts.is_waiting e.answer && parts.has_number c.args.link c.args.number e) (λ e. record e { answer = c.given-answer.result }) (all s) in
    (c.settle.ensures.kept, c.settle.ensures.whole, omega (arith, same, c.self.invariant.2), c.self.invariant.3)

pub returns : goal.returns
returns c =
    let s = c.self.inside.stores in
    let test = parts.awaits s.patience s.retention c.args.moment c.args.link c.args.number in
    let awaited : is_some (find (λ r. parts.has_number c.args.link c.args.number r.1) (filter (λ r. parts.is_live_waiting s.patience s.retention c.args.moment r.1) (all s))) ≡ true =
    subst (λ t. is_some (parts.find_number t c.args.link c.args.number c.args.moment) ≡ true) (sym c.self.view_is) c.requires.awaited in
    rw (← c.self.view_is)
    (same_parts s c.settle.new.self c.self.inside.capacity
    (parts.update_first test (λ e. record e { answer = parts.answer_of c.args.moment c.args.reply }) (all s))
    c.settle.ensures.times
    (c.settle.ensures.rows
    ∙ settled_same s c.self.invariant.0 c.self.invariant.1 c.args.link c.args.number c.args.moment c.given-answer.result awaited
    ∙ ap (λ a. parts.update_first test (λ e. record e { answer = a }) (all s)) c.given-answer.ensures))
