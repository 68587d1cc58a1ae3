use Rattle.std.proofs.Common.{◌≡◌, ◌+◌, ◌-◌, take, drop, ap, ◌∙◌, rules, arith}
use Rattle.wire_core.proofs.MemoryLaws.{copied}
use Rattle.wire_core.proofs.in_memory.SteadySourceSource.read.Goals as goal

pub returns-clause-reads : goal.returns-clause-reads
returns-clause-reads c =
    let place = c.self.inside.place in
    let n = c.min-count.result in
    let exact : place + n - place ≡ n = omega arith in
    let front = c.copy_from_slice.ensures.after ∙ ap (λ m. take m (drop place c.deref.result.now)) exact ∙ ap (λ xs. take n (drop place xs)) c.deref.ensures.value in
    rw (← c.self.view_is) (copied c.self.inside.octets.items c.args.buf.now c.copy_from_slice.new.self place n (search rules) (search rules) front)
