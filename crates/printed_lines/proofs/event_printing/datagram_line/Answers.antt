use Rattle.std.proofs.Common.{◌++◌, ◌∷◌, [], ap, ◌∙◌, append_assoc}
use Rattle.wire_core.specs.Numbers.{u32}
use Rattle.printed_lines.specs.Text.{hex_text}
use Rattle.printed_lines.proofs.PrintLemmas.{IfOk-line}
use Rattle.printed_lines.proofs.event_printing.datagram_line.Goals as goal

pub returns : goal.returns
unfolding u32
returns c =
    IfOk-line c.with_hex.result _ c.args.octets.now _ c.with_hex.ensures
    (ap (λ start. start ++ hex_text c.args.octets.now ++ 10 ∷ []) c.in_ok-format.ensures.ok
    ∙ simp (append_assoc, c.via_name-via.ensures, c.to_be_bytes.ensures))
