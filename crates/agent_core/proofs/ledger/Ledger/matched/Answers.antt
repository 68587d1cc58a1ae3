-- What is found among the live entries is fit for a map.
use Rattle.std.proofs.Common.{ℕ, option_map, ap, sym, ◌∙◌}
use Rattle.pending_table.specs.Table as table
use Rattle.pending_table.specs.Table.{Row}
use Rattle.agent_core.proofs.StandingLemmas.Rows.{found-kept}
use Rattle.agent_core.proofs.ledger.Ledger.matched.Goals as goal

pub answered-requires-clause-kept : goal.answered-requires-clause-kept
answered-requires-clause-kept c =
    let S = c.args.self.now in
    let hop = c.args.message.now.header.hop in
    let linked = ap (λ (n : ℕ). option_map (λ (r : Row). r.1) (table.find_number S.table n hop S.moment)) (sym c.link.ensures) in
    found-kept S hop c.in-Some.entry.now c.requires (linked ∙ sym c.in-Some.ensures.entry)
