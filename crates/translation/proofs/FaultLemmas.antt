-- What one pass finds is what the whole list says.
use Rattle.std.proofs.Common.{◌≡◌, ℕ, ◌+◌, Bool, true, false, cond, ◌||◌, List, [], ◌∷◌, length, Option, Some, None, not, refl, sym, ap, ◌∙◌, arith, fold}
use Rattle.std.proofs.Math.Bool.{or_assoc, or-false}
use Rattle.std.proofs.lemmas.List.{length-append}
use Rattle.std.specs.Prelude.{option_map}
use Rattle.std.specs.Option.{option_or}
use Rattle.std.specs.List.{list_any}
use Rattle.radius_packet.specs.Packet.{AttributeParts, attribute_text, attributes_text}
use Rattle.radius_packet.specs.declared.reasons.Reason.TheVariants.{BadValue}
use Rattle.agent_settings.specs.declared.client.Client.{Client}
use Rattle.translation.specs.declared.direction.Direction.{Direction}
use Rattle.translation.specs.declared.judging.Faults.{Faults}
use Rattle.translation.specs.Values.{is_good, first_bad}
use Rattle.translation.specs.Judging.{is_foreign, is_key_attribute, is_proxy_state, proxy_states, value_reason}
use Rattle.translation.specs.Faults.{faults_in, none, faults_with, reason_of}

foreign-fold : (client : Client) (source : ℕ) (direction : Direction) (found : Faults) (attributes : List AttributeParts)
    → (fold (faults_with client source direction) found attributes).foreign ≡ (found.foreign || list_any (is_foreign client source) attributes)
foreign-fold client source direction found [] = sym (or-false found.foreign)
foreign-fold client source direction found (a ∷ attributes) =
    foreign-fold client source direction (faults_with client source direction found a) attributes
    ∙ or_assoc found.foreign (is_foreign client source a) (list_any (is_foreign client source) attributes)

key-fold : (client : Client) (source : ℕ) (direction : Direction) (found : Faults) (attributes : List AttributeParts)
    → (fold (faults_with client source direction) found attributes).key ≡ (found.key || list_any is_key_attribute attributes)
key-fold client source direction found [] = sym (or-false found.key)
key-fold client source direction found (a ∷ attributes) =
    key-fold client source direction (faults_with client source direction found a) attributes
    ∙ or_assoc found.key (is_key_attribute a) (list_any is_key_attribute attributes)

or-none : (code : Option ℕ) → option_or code None ≡ code
or-none None = refl
or-none (Some code) = refl

bad-step : (before : Option ℕ) (a : AttributeParts) (good : Bool) (rest : Option AttributeParts)
    → option_or (option_or before (cond good None (Some a.code))) (option_map (λ (a : AttributeParts). a.code) rest)
    ≡ option_or before (option_map (λ (a : AttributeParts). a.code) (cond (not good) (Some a) rest))
bad-step None a true rest = refl
bad-step None a false rest = refl
bad-step (Some code) a good rest = refl

bad-fold : (client : Client) (source : ℕ) (direction : Direction) (found : Faults) (attributes : List AttributeParts)
    → (fold (faults_with client source direction) found attributes).bad ≡ option_or found.bad (option_map (λ (a : AttributeParts). a.code) (first_bad direction attributes))
bad-fold client source direction found [] = sym (or-none found.bad)
bad-fold client source direction found (a ∷ attributes) =
    bad-fold client source direction (faults_with client source direction found a) attributes
    ∙ bad-step found.bad a (is_good direction a) (first_bad direction attributes)

proxy-step : (before : ℕ) (a : AttributeParts) (is : Bool) (rest : List AttributeParts)
    → before + cond is (length a.value + 2) 0 + length (attributes_text rest) ≡ before + length (attributes_text (cond is (a ∷ rest) rest))
proxy-step before a true rest = omega (arith, length-append (attribute_text a) (attributes_text rest))
proxy-step before a false rest = omega arith

proxy-fold : (client : Client) (source : ℕ) (direction : Direction) (found : Faults) (attributes : List AttributeParts)
    → (fold (faults_with client source direction) found attributes).proxy ≡ found.proxy + length (attributes_text (proxy_states attributes))
proxy-fold client source direction found [] = omega arith
proxy-fold client source direction found (a ∷ attributes) =
    proxy-fold client source direction (faults_with client source direction found a) attributes
    ∙ proxy-step found.proxy a (is_proxy_state a) (proxy_states attributes)

abbrev made : Bool → Bool → Option ℕ → ℕ → Faults
made foreign key bad proxy = record { foreign = foreign; key = key; bad = bad; proxy = proxy }

same_faults : (f g : Faults) → f.foreign ≡ g.foreign → f.key ≡ g.key → f.bad ≡ g.bad → f.proxy ≡ g.proxy → f ≡ g
same_faults f g foreign key bad proxy =
    ap (λ (x : Bool). made x f.key f.bad f.proxy) foreign
    ∙ ap (λ (x : Bool). made g.foreign x f.bad f.proxy) key
    ∙ ap (λ (x : Option ℕ). made g.foreign g.key x f.proxy) bad
    ∙ ap (λ (x : ℕ). made g.foreign g.key g.bad x) proxy

-- what the loop comes to
pub faults_in-fold : (client : Client) (source : ℕ) (direction : Direction) (attributes : List AttributeParts)
    → fold (faults_with client source direction) none attributes ≡ faults_in client source direction attributes
faults_in-fold client source direction attributes =
    same_faults (fold (faults_with client source direction) none attributes) (faults_in client source direction attributes)
    (foreign-fold client source direction none attributes)
    (key-fold client source direction none attributes)
    (bad-fold client source direction none attributes)
    (omega (arith, proxy-fold client source direction none attributes))

bad_value : (bad : Option AttributeParts)
    → option_map (λ (code : ℕ). BadValue code) (option_map (λ (a : AttributeParts). a.code) bad) ≡ option_map (λ (a : AttributeParts). BadValue a.code) bad
bad_value None = refl
bad_value (Some a) = refl

-- and the reason in it is the one that lies in the attributes
pub reason_of_faults_in : (client : Client) (source : ℕ) (direction : Direction) (attributes : List AttributeParts)
    → reason_of (faults_in client source direction attributes) ≡ value_reason direction attributes
reason_of_faults_in client source direction attributes = rw bad_value refl
