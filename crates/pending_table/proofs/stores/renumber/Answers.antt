use Rattle.std.proofs.Common.{rules, ◌≡◌, ◌+◌, arith, refl, if◌then◌else◌, ◌%◌, ◌^◌}
use Rattle.pending_table.specs.contracts.stores.fn.renumber.retain as closure
use Rattle.pending_table.specs.Table as parts
use Rattle.pending_table.specs.Relinked.{with_number}
use Rattle.pending_table.proofs.Renumbering.{renumbered_from_retain}
use Rattle.pending_table.proofs.stores.renumber.Goals as goal

pub returns : goal.returns
returns c =
    renumbered_from_retain _
    (λ f. (closure.captures f).next)
    (λ f. let l = closure.captures f in
    (l.patience ≡ c.args.patience) × (l.retention ≡ c.args.retention) × (l.moment ≡ c.args.moment) × (l.link ≡ c.args.link))
    (parts.is_live_waiting c.args.patience c.args.retention c.args.moment) c.args.link
    (λ f k v b w g stays t. record {
      keeps = search rules;
      row =
          let l = closure.captures f in
          let told : w ≡ (if parts.is_live_waiting l.patience l.retention l.moment v.1 then with_number v l.link l.next else v) = search rules in
          rw (stays.0, stays.1, stays.2, stays.3) at told;
      next =
          let l = closure.captures f in
          let told : (closure.captures g).next ≡ (if parts.is_live_waiting l.patience l.retention l.moment v.1 then (l.next + 1) % 2 ^ 32 else l.next) = search rules in
          rw (stays.0, stays.1, stays.2) at told;
      stays = search rules;
    })
    _ c.args.waiting.now.entries c.retain.new.self.entries (refl, refl, refl, refl) (omega (arith, c.requires)) c.retain.ensures.filtered
