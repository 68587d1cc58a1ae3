-- The AVPs that messages of the agent's own have in common.
use Rattle.std.specs.Prelude.{ℕ, true, List, [], ◌∷◌, None}
use Rattle.diameter_avp.specs.Avps.{AvpParts, made}

-- M set, V clear (RFC 6733, section 4.1)
abbrev pub plain_avp : ℕ → List ℕ → AvpParts
plain_avp code body = made code None true body

-- Origin-Host, Origin-Realm
abbrev pub origin_avps : List ℕ → List ℕ → List AvpParts
origin_avps host realm = plain_avp 264 host ∷ plain_avp 296 realm ∷ []
