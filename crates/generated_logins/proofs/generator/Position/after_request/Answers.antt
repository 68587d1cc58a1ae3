use Rattle.std.proofs.Common.{◌∷◌, ap, sym, ◌∙◌}
use Rattle.generated_logins.specs.Generator.{request_line}
use Rattle.generated_logins.proofs.GeneratorLemmas.{request-alone, request-repeated}
use Rattle.generated_logins.proofs.generator.Position.after_request.Goals as goal

pub returns-then-has_bit : goal.returns-then-has_bit
returns-then-has_bit c =
    request-repeated c.args.self.number c.args.self.left c.args.self.drawn (sym c.if-has_bit.ensures)
    ∙ ap (λ lines. request_line c.args.self.number ∷ lines) (sym c.at.ensures)

pub returns-else-has_bit : goal.returns-else-has_bit
returns-else-has_bit c =
    request-alone c.args.self.number c.args.self.left c.args.self.drawn (sym c.if-has_bit.ensures)
    ∙ ap (λ lines. request_line c.args.self.number ∷ lines) (sym c.at-else-has_bit.ensures)
