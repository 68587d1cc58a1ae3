-- What one pass over the attributes of a packet finds.
use Rattle.std.specs.Prelude.{ℕ, ◌+◌, false, nat_lt, ◌||◌, List, length, Option, Some, None, option_map, if◌then◌else◌}
use Rattle.std.specs.Option.{option_or}
use Rattle.std.specs.List.{list_any}
use Rattle.radius_packet.specs.Packet.{AttributeParts, attributes_text}
use Rattle.radius_packet.specs.declared.reasons.Reason.{Reason}
use Rattle.radius_packet.specs.declared.reasons.Reason.TheVariants.{KeyAttribute, BadValue, ProxyStateTooLong}
use Rattle.agent_settings.specs.declared.client.Client.{Client}
use Rattle.translation.specs.declared.direction.Direction.{Direction}
use Rattle.translation.specs.declared.judging.Faults.{Faults}
use Rattle.translation.specs.Values.{is_good, first_bad}
use Rattle.translation.specs.Judging.{is_foreign, is_key_attribute, is_proxy_state, proxy_states, reason_if}

-- what is found in all of these
abbrev pub faults_in : Client → ℕ → Direction → List AttributeParts → Faults
faults_in client source direction attributes = record {
  foreign = list_any (is_foreign client source) attributes;
  key = list_any is_key_attribute attributes;
  bad = option_map (λ a. a.code) (first_bad direction attributes);
  proxy = length (attributes_text (proxy_states attributes));
}

abbrev pub none : Faults
none = record { foreign = false; key = false; bad = None; proxy = 0 }

-- ---- one attribute more

abbrev pub bad_code : Direction → AttributeParts → Option ℕ
bad_code direction a = if is_good direction a then None else Some a.code

abbrev pub proxy_size : AttributeParts → ℕ
proxy_size a = if is_proxy_state a then length a.value + 2 else 0

abbrev pub faults_with : Client → ℕ → Direction → Faults → AttributeParts → Faults
faults_with client source direction found a = record {
  foreign = found.foreign || is_foreign client source a;
  key = found.key || is_key_attribute a;
  bad = option_or found.bad (bad_code direction a);
  proxy = found.proxy + proxy_size a;
}

-- ---- what follows

-- the first reason that lies in the attributes
abbrev pub reason_of : Faults → Option Reason
reason_of found =
    option_or (reason_if found.key KeyAttribute)
    (option_or (option_map (λ code. BadValue code) found.bad) (reason_if (nat_lt 2048 found.proxy) ProxyStateTooLong))
