-- Internal: entries by address.
use Rattle.std.specs.Prelude.{◌≡◌, ℕ, List, [], ◌∷◌}
use Rattle.agent_settings.specs.declared.client.Client.{Client}

-- each key is the address of its client
abbrev pub IsKeyed : List (ℕ × Client) → Type 0
IsKeyed [] = Unit {0}
IsKeyed (e ∷ es) = (e.0 ≡ e.1.address) × IsKeyed es
