-- What one pass finds is what the whole list says.
use Rattle.std.proofs.Common.{◌≡◌, ℕ, ◌+◌, Bool, true, false, cond, ◌||◌, List, [], ◌∷◌, sym, ap, ◌∙◌, arith, fold}
use Rattle.std.proofs.Math.Bool.{or_assoc, or-false}
use Rattle.std.proofs.lemmas.List.Sums.{sum_by-cons}
use Rattle.std.specs.Prelude.{count_by}
use Rattle.std.specs.List.{list_any}
use Rattle.radius_packet.specs.Packet.{AttributeParts}
use Rattle.access_map.specs.declared.judging.Credentials.{Credentials}
use Rattle.translation.specs.Heads.{is_eap}
use Rattle.access_map.specs.Verdict.{is_password, is_bad_password}
use Rattle.access_map.specs.Credentials.{credentials_in, no_credentials, credentials_with}

eap-fold : (before : Credentials) (attributes : List AttributeParts) → (fold credentials_with before attributes).eap ≡ (before.eap || list_any is_eap attributes)
eap-fold before [] = sym (or-false before.eap)
eap-fold before (a ∷ attributes) = eap-fold (credentials_with before a) attributes ∙ or_assoc before.eap (is_eap a) (list_any is_eap attributes)

passwords-step : (before : ℕ) (is : Bool) (rest : ℕ) → before + cond is 1 0 + rest ≡ before + (cond is 1 0 + rest)
passwords-step before true rest = omega arith
passwords-step before false rest = omega arith

passwords-fold : (before : Credentials) (attributes : List AttributeParts) → (fold credentials_with before attributes).passwords ≡ before.passwords + count_by is_password attributes
passwords-fold before [] = omega arith
passwords-fold before (a ∷ attributes) =
    passwords-fold (credentials_with before a) attributes ∙ passwords-step before.passwords (is_password a) (count_by is_password attributes)
    ∙ ap (λ count. before.passwords + count) (sym (sum_by-cons (λ (a : AttributeParts). cond (is_password a) 1 0) a attributes))

bad-fold : (before : Credentials) (attributes : List AttributeParts) → (fold credentials_with before attributes).bad ≡ (before.bad || list_any is_bad_password attributes)
bad-fold before [] = sym (or-false before.bad)
bad-fold before (a ∷ attributes) =
    bad-fold (credentials_with before a) attributes ∙ or_assoc before.bad (is_bad_password a) (list_any is_bad_password attributes)

abbrev made : Bool → ℕ → Bool → Credentials
made eap passwords bad = record { eap = eap; passwords = passwords; bad = bad }

same_credentials : (c d : Credentials) → c.eap ≡ d.eap → c.passwords ≡ d.passwords → c.bad ≡ d.bad → c ≡ d
same_credentials c d eap passwords bad =
    ap (λ (x : Bool). made x c.passwords c.bad) eap
    ∙ ap (λ (x : ℕ). made d.eap x c.bad) passwords
    ∙ ap (λ (x : Bool). made d.eap d.passwords x) bad

-- what the loop comes to
pub credentials_in-fold : (attributes : List AttributeParts) → fold credentials_with no_credentials attributes ≡ credentials_in attributes
credentials_in-fold attributes =
    same_credentials (fold credentials_with no_credentials attributes) (credentials_in attributes)
    (eap-fold no_credentials attributes)
    (omega (arith, passwords-fold no_credentials attributes))
    (bad-fold no_credentials attributes)
