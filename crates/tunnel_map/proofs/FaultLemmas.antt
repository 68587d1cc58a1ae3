-- What the pass over a group's members finds.
use Rattle.std.proofs.Common.{◌≡◌, ℕ, Bool, true, false, cond, List, [], ◌∷◌, Option, Some, None, refl, sym, ap, ◌∙◌}
use Rattle.std.specs.Prelude.{find, option_map}
use Rattle.std.specs.Option.{option_or}
use Rattle.diameter_avp.specs.declared.fault.AvpFault.{AvpFault}
use Rattle.diameter_avp.specs.Avps.{AvpParts, avps_fault, readable_avps, read_avps}
use Rattle.diameter_avp.proofs.CallerLemmas.{read_avps-none, read_avps-some}
use Rattle.tunnel_map.specs.declared.fault.TunnelFault.{TunnelFault}
use Rattle.tunnel_map.specs.declared.fault.TunnelFault.TheVariants.{Rotten, Unknown, BadSize, TooMany}
use Rattle.tunnel_map.specs.Groups.{first_code, is_unknown, has_bad_size, list_fault, group_fault}
use Rattle.tunnel_map.specs.Checking.{own_code}

step-by : (found : Option ℕ) (a : AvpParts) (b : Bool) (rest : Option AvpParts)
    → option_or (option_or found (cond b (Some a.code) None)) (option_map (λ (x : AvpParts). x.code) rest) ≡ option_or found (option_map (λ (x : AvpParts). x.code) (cond b (Some a) rest))
step-by None a true rest = refl
step-by None a false rest = refl
step-by (Some n) a b rest = refl

step : (found : Option ℕ) (holds : AvpParts → Bool) (a : AvpParts) (rest : List AvpParts) → option_or (option_or found (own_code (holds a) a)) (first_code holds rest) ≡ option_or found (first_code holds (a ∷ rest))
step found holds a rest = step-by found a _ (find _ rest)

-- one member more: what was found, or else is first in what is left
pub next_code : (holds : AvpParts → Bool) (old new : Option ℕ) (a : AvpParts) (before after avps : List AvpParts) (b : Bool) (own : Option ℕ) → new ≡ option_or old own → own ≡ own_code b a → b ≡ holds a → before ≡ a ∷ after → option_or old (first_code holds before) ≡ first_code holds avps → option_or new (first_code holds after) ≡ first_code holds avps
next_code holds old new a before after avps b own e f g split found =
    rw (e, f, g) (step old holds a after ∙ ap (λ (rest : List AvpParts). option_or old (first_code holds rest)) (sym split) ∙ found)

-- ---- the end

pub fault-rotten : (octets : List ℕ) (fault : AvpFault) → avps_fault octets ≡ Some fault → Some Rotten ≡ list_fault (read_avps octets)
fault-rotten octets fault e = sym (ap list_fault (read_avps-some octets fault e))

abbrev pub found_fault : Option ℕ → Option ℕ → Option TunnelFault
found_fault unknown bad_size = option_or (option_map (λ code. Unknown code) unknown) (option_map (λ code. BadSize code) bad_size)

or-none : (found : Option ℕ) → option_or found None ≡ found
or-none None = refl
or-none (Some n) = refl

-- nothing is left, so that what was found is first in the list
pub fault-found : (octets : List ℕ) (left : List AvpParts) (unknown bad_size : Option ℕ) → avps_fault octets ≡ None → left ≡ [] → option_or unknown (first_code is_unknown left) ≡ first_code is_unknown (readable_avps octets) → option_or bad_size (first_code has_bad_size left) ≡ first_code has_bad_size (readable_avps octets)
    → found_fault unknown bad_size ≡ list_fault (read_avps octets)
fault-found octets left unknown bad_size whole none e f =
    let u = sym (or-none unknown) ∙ rw none at e in
    let s = sym (or-none bad_size) ∙ rw none at f in
    rw (u, s) (sym (ap list_fault (read_avps-none octets whole)))

-- ---- a group without a fault

no_fault : (many : Bool) (rest : Option TunnelFault) → cond many (Some TooMany) rest ≡ None → (many ≡ false) × (rest ≡ None)
no_fault true rest e = absurd cc
no_fault false rest e = (refl, e)

some≢none : (let rotten : Option TunnelFault = Some Rotten in let none : Option TunnelFault = None in rotten ≡ none) → ⊥
some≢none e = cc

whole-by : (octets : List ℕ) (fault : Option AvpFault) → avps_fault octets ≡ fault → list_fault (read_avps octets) ≡ None → avps_fault octets ≡ None
whole-by octets None e none = e
whole-by octets (Some fault) e none =
    let rotten = fault-rotten octets fault e in
    absurd (some≢none (rotten ∙ none))

-- its body is a list of AVPs
pub whole-accepted : (tag : ℕ) (octets : List ℕ) → group_fault tag octets ≡ None → avps_fault octets ≡ None
whole-accepted tag octets e = whole-by octets (avps_fault octets) refl (no_fault _ _ e).1
