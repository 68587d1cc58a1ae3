-- The names in a request: of its session, of where it comes from and of where it goes (RFC 6733, sections 6 and 8; the
-- order of the AVPs is this profile's).
use Rattle.std.specs.Prelude.{ℕ, List, [], ◌∷◌, ◌++◌, Option, Some, None}
use Rattle.diameter_avp.specs.Avps.{AvpParts}
use Rattle.diameter_message.specs.PlainAvps.{origin_avps, plain_avp}
use Rattle.agent_settings.specs.declared.client.Client.{Client}

-- Session-Id, Origin-Host, Origin-Realm, Destination-Realm
abbrev pub names : Client → List ℕ → List ℕ → List AvpParts
names client session realm =
    plain_avp 263 session ∷ origin_avps client.origin_host client.origin_realm ++ plain_avp 283 realm ∷ []

-- Destination-Host, where there is one
abbrev pub host_avps : Option (List ℕ) → List AvpParts
host_avps None = []
host_avps (Some host) = plain_avp 293 host ∷ []
