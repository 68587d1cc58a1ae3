use Rattle.std.proofs.Common.{◌-◌, length, drop, ap, ◌∙◌, arith}
use Rattle.std.proofs.lemmas.List.{length-take}
use Rattle.text_lines.specs.Streams.{Held}
use Rattle.text_lines.proofs.StreamLemmas.{drop-range}
use Rattle.text_lines.proofs.intake.Intake.pass.Goals as goal

pub returns-clause-octets : goal.returns-clause-octets
returns-clause-octets c =
    let i = c.self.inside in
    let held = ap (λ (h : Held). h.octets) c.self.view_is in
    let size = length-take (i.end - i.start) (drop i.start i.chunk.items) in
    drop-range i.chunk.items i.start i.end c.args.count (omega (arith, ap length held, size)) ∙ ap (drop c.args.count) held
