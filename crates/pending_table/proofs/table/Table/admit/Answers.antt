use Rattle.std.proofs.Common.{◌≡◌, ◌≤◌, ◌+◌, ◌++◌, ◌∷◌, [], sym, ap, subst, false, None, All, length, filter, arith}
use Rattle.std.proofs.lemmas.List.{length_push}
use Rattle.std.proofs.lemmas.List.Elements.{recursion_from_All}
use Rattle.pending_table.specs.Table as parts
use Rattle.pending_table.specs.Stores.{is_live, all}
use Rattle.pending_table.proofs.Joining.{can_join, either_way}
use Rattle.pending_table.proofs.table.Table.admit.Goals as goal

pub admit-requires-clause-fits : goal.admit-requires-clause-fits
admit-requires-clause-fits c =
    let s = c.self.inside.stores in
    let live = filter (is_live s c.args.moment) (all s) in
    let unused : All (λ r. parts.has_number c.args.link c.args.number r.1 ≡ false) live =
    subst (λ t. All (λ r. parts.has_number c.args.link c.args.number r.1 ≡ false) (parts.live t c.args.moment)) (sym c.self.view_is) c.requires.unused in
    let in_order : All (λ r. parts.IsBy c.args.moment r.1) live =
    subst (λ t. All (λ r. parts.IsBy c.args.moment r.1) (parts.live t c.args.moment)) (sym c.self.view_is) c.requires.in_order in
    rw c.waiting-entry.ensures
    (can_join s c.self.invariant.0 c.args.key c.args.link c.args.number c.args.kept c.args.sent c.args.moment
    (subst (λ t. parts.find_key t c.args.key c.args.moment ≡ None) (sym c.self.view_is) c.requires.unknown)
    (recursion_from_All (λ r. parts.has_number c.args.link c.args.number r.1 ≡ false) live unused)
    (recursion_from_All (λ r. parts.IsBy c.args.moment r.1) live in_order))

pub invariant_of-self : goal.invariant_of-self
invariant_of-self c =
    let s = c.self.inside.stores in
    let live = filter (is_live s c.args.moment) (all s) in
    let room : length live + 1 ≤ c.self.inside.capacity =
    subst (λ t. length (parts.live t c.args.moment) + 1 ≤ t.capacity) (sym c.self.view_is) (omega (arith, c.requires.room)) in
    let fits : length (all c.admit.new.self) ≤ c.self.inside.capacity =
    either_way c.admit.result (all c.admit.new.self ≡ live ++ (c.args.key, c.waiting-entry.result) ∷ []) (all c.admit.new.self ≡ all s)
    (length (all c.admit.new.self) ≤ c.self.inside.capacity) c.admit.ensures.ok c.admit.ensures.err
    (λ e. omega (arith, ap length e, length_push live (c.args.key, c.waiting-entry.result), room))
    (λ e. omega (arith, ap length e, c.self.invariant.2)) in
    (c.admit.ensures.kept, c.admit.ensures.whole, fits, c.self.invariant.3)
