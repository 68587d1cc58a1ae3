use Rattle.std.proofs.Common.{◌≡◌, ◌++◌, drop}
use Rattle.std.specs.List.{flat_map}
use Rattle.printed_lines.specs.SettingsText.{client_text}
use Rattle.printed_lines.proofs.settings_printing.print_settings.Given as goal

-- the lines of the clients that are left complete those that were written
abbrev pub invariant-loop-place : goal.invariant-loop-place
invariant-loop-place l =
    l.lines.items ++ flat_map client_text (drop l.place l.config.clients)
    ≡ l.initial.lines.items ++ flat_map client_text l.config.clients
