use Rattle.std.proofs.Common.{◌++◌, ◌∷◌, [], ap, ◌∙◌, append_assoc}
use Rattle.printed_lines.specs.Text.{hex_text}
use Rattle.printed_lines.proofs.PrintLemmas.{IfOk-line}
use Rattle.printed_lines.proofs.showing.avp_line.Goals as goal

pub returns : goal.returns
returns c =
    IfOk-line c.with_hex.result _ c.args.avp.now.body.now _ c.with_hex.ensures
    (ap (λ start. start ++ hex_text c.args.avp.now.body.now ++ 10 ∷ []) c.in_ok-format.ensures.ok
    ∙ simp (append_assoc, c.in_ok-flags.ensures, c.unwrap_or-vendor.ensures))
