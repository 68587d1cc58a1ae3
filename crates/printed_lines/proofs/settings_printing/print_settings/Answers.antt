use Rattle.std.proofs.Common.{sym, ◌∙◌}
use Rattle.printed_lines.specs.SettingsText.{client_text}
use Rattle.printed_lines.proofs.SettingsTextLemmas.{next_line}
use Rattle.printed_lines.proofs.settings_printing.print_settings.Goals as goal

pub loop-place-preserved : goal.loop-place-preserved
loop-place-preserved c =
    next_line client_text c.args.config.now.clients c.loop-place.place c.at-client.result.now _ _ c.as_slice.result.now _
    (sym c.at-client.ensures) c.in_ok-extend_from_slice.ensures.items
    (c.as_slice.ensures.value ∙ c.in_ok-client_line.ensures) c.loop-place.invariant
