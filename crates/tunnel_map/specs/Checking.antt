-- Internal: one member in the search for a fault.
use Rattle.std.specs.Prelude.{ℕ, Bool, ◌&&◌, Option, Some, None, if◌then◌else◌}
use Rattle.diameter_avp.specs.Avps.{AvpParts, is_mandatory}

-- the code of a member with M set of which something holds
abbrev pub own_code : Bool → AvpParts → Option ℕ
own_code holds a = if is_mandatory a && holds then Some a.code else None
