-- What an Accounting-Answer causes (RFC 4005, section 9; RFC 2866, section 4.2).
use Rattle.std.specs.Prelude.{ℕ, Bool, true, false, List, Option, Some, None}
use Rattle.diameter_message.specs.Message.{MessageParts}
use Rattle.session_carrier.specs.declared.kept.Kept.{Kept}
use Rattle.session_carrier.specs.declared.kept.Kind2.{Kind2}
use Rattle.session_carrier.specs.declared.kept.Kind2.TheVariants.{Access, Eap, Start, Interim, Stop}
use Rattle.session_carrier.specs.declared.kept.Numbers.{Numbers}
use Rattle.session_carrier.specs.declared.kept.Outcome.{Outcome}
use Rattle.agent_settings.specs.declared.client.Client.{Client}
use Rattle.translation.specs.Acceptance.{is_accepted}
use Rattle.translation.specs.Replies.{bare_reply}
use Rattle.translation.specs.Termination.{termination_text}

-- an Accounting-Response, where the record was taken; else the client sends it again
abbrev pub reply_if : Bool → Client → Kept → Option (List ℕ)
reply_if true client kept = Some (bare_reply client kept 5 false)
reply_if false client kept = None

-- behind a Stop the session ends, whether or not the record was taken (profile)
abbrev pub follow_of : Kind2 → Client → Kept → Numbers → Option (List ℕ)
follow_of Stop client kept numbers = Some (termination_text client kept 1 kept.cause None numbers)
follow_of Start client kept numbers = None
follow_of Interim client kept numbers = None
follow_of Access client kept numbers = None
follow_of Eap client kept numbers = None

unfoldable pub outcome : Client → Kept → MessageParts → Numbers → Outcome
outcome client kept message numbers =
    record { reply = reply_if (is_accepted kept message) client kept; follow = follow_of kept.kind client kept numbers }
