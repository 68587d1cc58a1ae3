-- What follows where there is no reason against a packet.
use Rattle.std.proofs.Common.{◌≡◌, ◌≤◌, Bool, true, false, List, length, Option, Some, None, Ok, refl}
use Rattle.std.specs.Prelude.{option_map}
use Rattle.std.specs.Option.{option_or}
use Rattle.std.specs.List.{list_any}
use Rattle.std.proofs.lemmas.Bool.{ltb-false}
use Rattle.radius_packet.specs.Packet.{AttributeParts, attributes_text}
use Rattle.radius_packet.specs.declared.reasons.Reason.{Reason}
use Rattle.radius_packet.specs.declared.reasons.Reason.TheVariants.{BadValue}
use Rattle.session_carrier.specs.declared.kept.Kind2.{Kind2}
use Rattle.translation.specs.declared.direction.Direction.{Direction}
use Rattle.translation.specs.Values.{first_bad}
use Rattle.translation.specs.Judging.{is_key_attribute, proxy_states, reason_if, value_reason, kind_unless}

pub neither : (r s : Option Reason) → option_or r s ≡ None → (r ≡ None) × (s ≡ None)
neither None s e = (refl, e)
neither (Some reason) s e = absurd (cc)

pub stands_not : (stands : Bool) (reason : Reason) → reason_if stands reason ≡ None → stands ≡ false
stands_not true reason e = absurd (cc)
stands_not false reason e = refl

pub kind_unless-ok : (r : Option Reason) (kind got : Kind2) → kind_unless r kind ≡ Ok got → (r ≡ None) × (kind ≡ got)
kind_unless-ok None kind got e = (refl, cc)
kind_unless-ok (Some reason) kind got e = absurd (cc)

none_bad : (bad : Option AttributeParts) → option_map (λ (a : AttributeParts). BadValue a.code) bad ≡ None → bad ≡ None
none_bad None e = refl
none_bad (Some a) e = absurd (cc)

pub no_keys : (direction : Direction) (attributes : List AttributeParts) → value_reason direction attributes ≡ None → list_any is_key_attribute attributes ≡ false
no_keys direction attributes e = stands_not _ _ (neither _ _ e).0

pub values_are_good : (direction : Direction) (attributes : List AttributeParts) → value_reason direction attributes ≡ None → first_bad direction attributes ≡ None
values_are_good direction attributes e = none_bad _ (neither _ _ (neither _ _ e).1).0

pub proxy_states_are_short : (direction : Direction) (attributes : List AttributeParts) → value_reason direction attributes ≡ None → length (attributes_text (proxy_states attributes)) ≤ 2048
proxy_states_are_short direction attributes e = ltb-false _ _ (stands_not _ _ (neither _ _ (neither _ _ e).1).1)
