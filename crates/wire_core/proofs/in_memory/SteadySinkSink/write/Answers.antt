use Rattle.std.proofs.Common.{◌≡◌, ◌++◌, take, ap, ◌∙◌, rules}
use Rattle.wire_core.proofs.MemoryLaws.{fitting}
use Rattle.wire_core.proofs.in_memory.SteadySinkSink.write.Goals as goal

pub returns-clause-keeps : goal.returns-clause-keeps
returns-clause-keeps c =
    let items : c.extend_from_slice.new.self.items ≡ c.self.inside.octets.items ++ take c.min-count.result c.args.piece.now = search rules in
    rw (← c.self.view_is) (ap (λ xs. record { octets = xs; room = c.self.inside.room }) (items ∙ fitting c.self.inside.octets.items c.args.piece.now c.self.inside.room c.min-count.result (search rules) (search rules)))
