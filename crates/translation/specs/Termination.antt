-- The request that ends a session (RFC 6733, section 8.4.1; the order of the AVPs is this profile's).
use Rattle.std.specs.Prelude.{ℕ, List, ◌∷◌, ◌++◌, Option}
use Rattle.wire_core.specs.Numbers.{u32}
use Rattle.diameter_avp.specs.Avps.{AvpParts, avps_text}
use Rattle.diameter_message.specs.declared.header.Header.{Header}
use Rattle.diameter_message.specs.Message.{message_text}
use Rattle.diameter_message.specs.PlainAvps.{plain_avp}
use Rattle.session_carrier.specs.declared.kept.Kept.{Kept}
use Rattle.session_carrier.specs.declared.kept.Numbers.{Numbers}
use Rattle.agent_settings.specs.declared.client.Client.{Client}
use Rattle.translation.specs.Names.{names, host_avps}

-- the names, Auth-Application-Id, Termination-Cause, Destination-Host where there is one
abbrev pub termination_avps : Client → Kept → ℕ → ℕ → Option (List ℕ) → List AvpParts
termination_avps client kept application cause host =
    names client kept.session kept.realm ++ plain_avp 258 (u32 application) ∷ plain_avp 295 (u32 cause) ∷ host_avps host

abbrev pub termination_header : ℕ → Numbers → Header
termination_header application numbers =
    record { flags = 192; command = 275; application = application; hop = numbers.hop; end = numbers.end }

-- the Session-Termination-Request for the session that is kept
unfoldable pub termination_text : Client → Kept → ℕ → ℕ → Option (List ℕ) → Numbers → List ℕ
termination_text client kept application cause host numbers =
    message_text (termination_header application numbers) (avps_text (termination_avps client kept application cause host))
