-- Internal: what an Access-Request has to authenticate by, found in one pass.
use Rattle.std.specs.Prelude.{◌+◌, nat_lt, false, ◌&&◌, ◌||◌, List, Option, count_by, if◌then◌else◌}
use Rattle.std.specs.Option.{option_or}
use Rattle.std.specs.List.{list_any}
use Rattle.radius_packet.specs.Packet.{AttributeParts}
use Rattle.radius_packet.specs.declared.reasons.Reason.{Reason}
use Rattle.radius_packet.specs.declared.reasons.Reason.TheVariants.{BothPasswords, BadPassword}
use Rattle.translation.specs.Heads.{is_eap}
use Rattle.translation.specs.Judging.{reason_if}
use Rattle.access_map.specs.Verdict.{is_password, is_bad_password}
use Rattle.access_map.specs.declared.judging.Credentials.{Credentials}

abbrev pub credentials_in : List AttributeParts → Credentials
credentials_in attributes = record {
  eap = list_any is_eap attributes;
  passwords = count_by is_password attributes;
  bad = list_any is_bad_password attributes;
}

abbrev pub no_credentials : Credentials
no_credentials = record { eap = false; passwords = 0; bad = false }

-- with one attribute more
abbrev pub credentials_with : Credentials → AttributeParts → Credentials
credentials_with before a = record {
  eap = before.eap || is_eap a;
  passwords = before.passwords + (if is_password a then 1 else 0);
  bad = before.bad || is_bad_password a;
}

-- what speaks against the passwords
abbrev pub credentials_reason : Credentials → Option Reason
credentials_reason c =
    option_or (reason_if (nat_lt 1 c.passwords || (nat_lt 0 c.passwords && c.eap)) BothPasswords) (reason_if c.bad BadPassword)
