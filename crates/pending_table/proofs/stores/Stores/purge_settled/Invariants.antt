use Rattle.std.proofs.Common.{◌≡◌, filter, length}
use Rattle.pending_table.specs.Stores.{IsKept, KeepsRest, is_live, waits}
use Rattle.pending_table.proofs.stores.Stores.purge_settled.Given as goal

abbrev pub decreases-loop-self : goal.decreases-loop-self
decreases-loop-self l = length (l.self.settled.items)

-- the live ones are those of the beginning
abbrev pub invariant-loop-self : goal.invariant-loop-self
invariant-loop-self l =
    IsKept l.self
    × KeepsRest l.fn.self l.self
    × (filter (λ p. is_live l.fn.self l.moment p.1) (l.self.settled.items) ≡ filter (λ p. is_live l.fn.self l.moment p.1) (l.fn.self.settled.items))
    × (waits l.self ≡ waits l.fn.self)
