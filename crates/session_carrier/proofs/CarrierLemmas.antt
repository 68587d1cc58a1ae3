-- What a carrier holds, and in how many ways.
use Rattle.std.proofs.Common.{◌≡◌, ℕ, ◌+◌, ◌<◌, Bool, true, false, ◌&&◌, cond, eqb, Bor, List, [], ◌∷◌, ◌++◌, length, take, drop, get_or, Option, Some, None, refl, sym, ap, ◌∙◌, subst, arith, append_assoc, add-one}
use Rattle.std.specs.Prelude.{codes, IfSome, nat_eq, option_map, option_copied}
use Rattle.std.specs.List.{list_all, position_or_len}
use Rattle.std.specs.Cmp.Lexicographic.{pointwise}
use Rattle.std.proofs.lemmas.Bool.{and_from, and_parts, eqb-true, lt-ltb}
use Rattle.std.proofs.lemmas.Bool.Decides.{nat_tests}
use Rattle.std.proofs.lemmas.List.{length-append, take-append-drop}
use Rattle.std.proofs.lemmas.List.Quantifiers.{position-Some}
use Rattle.std.proofs.lemmas.Option.{option_and_then_some}
use Rattle.std.proofs.Math.Seq.{drop-append-add, take-append_seam, drop-cons}
use Rattle.wire_core.specs.Words.{is_identity_octet, is_identity, is_session_text}
use Rattle.session_carrier.specs.Session.{class_text, state_text}
use Rattle.session_carrier.specs.declared.reading.Carried.{Carried}
use Rattle.session_carrier.specs.Carriers.{CarriedParts, carried_view, IsState, IsClass, behind_prefix, slash_place, cut, checked, read_state, checked_session, read_class, StatesAreReadBack, ClassesAreReadBack, StatesHaveOneReading, ClassesHaveOneReading, StatesHaveLength, ClassesHaveLength}

-- ---- the prefix

behind_prefix-append : (text : List ℕ) → behind_prefix (codes "Diameter/" ++ text) ≡ Some text
unfolding behind_prefix
behind_prefix-append text = refl

pointwise_same : (xs ys : List ℕ) → pointwise nat_eq xs ys ≡ true → xs ≡ ys
pointwise_same [] [] h = refl
pointwise_same [] (y ∷ ys) h = absurd cc
pointwise_same (x ∷ xs) [] h = absurd cc
pointwise_same (x ∷ xs) (y ∷ ys) h =
    let parts = and_parts (nat_eq x y) (pointwise nat_eq xs ys) h in
    let first = eqb-true x y parts.0 in
    let rest = pointwise_same xs ys parts.1 in
    cc

-- what a choice gives that gives something
chosen : {A : Type 0} (b : Bool) (x y : A) → cond b (Some x) None ≡ Some y → (b ≡ true) × (x ≡ y)
chosen true x y e = (refl, cc)
chosen false x y e = absurd cc

behind_prefix-is : (value text : List ℕ) → behind_prefix value ≡ Some text → value ≡ codes "Diameter/" ++ text
unfolding behind_prefix
behind_prefix-is value text e =
    let is = chosen (pointwise nat_eq (take 9 value) (codes "Diameter/")) (drop 9 value) text e in
    let front = pointwise_same (take 9 value) (codes "Diameter/") is.0 in
    sym (take-append-drop 9 value) ∙ ap (λ (xs : List ℕ). xs ++ drop 9 value) front ∙ ap (λ (xs : List ℕ). codes "Diameter/" ++ xs) is.1

-- ---- the cut

-- a name holds no '/'
slash_free : (c : ℕ) → is_identity_octet c ≡ true → eqb c 47 ≡ false
slash_free c h = grind (arith, nat_tests)

position_or_len-name : (name rest : List ℕ) → list_all is_identity_octet name ≡ true → position_or_len (λ c. eqb c 47) (name ++ 47 ∷ rest) ≡ length name
position_or_len-name [] rest h = refl
position_or_len-name (c ∷ name) rest h =
    let parts = and_parts (is_identity_octet c) (list_all is_identity_octet name) h in
    let later = position_or_len-name name rest parts.1 in
    rw (slash_free c parts.0) (omega arith)

slash_place-name : (name rest : List ℕ) → list_all is_identity_octet name ≡ true → slash_place (name ++ 47 ∷ rest) ≡ Some (length name)
slash_place-name name rest h =
    let place = position_or_len-name name rest h in
    let inside : length name < length (name ++ 47 ∷ rest) = simp length-append (omega arith) in
    rw (place, lt-ltb _ _ inside) refl

cut-name : (name rest : List ℕ) → list_all is_identity_octet name ≡ true → cut (name ++ 47 ∷ rest) ≡ Some (name, rest)
unfolding cut
cut-name name rest h =
    let octets : List ℕ = name ++ 47 ∷ rest in
    let parts_at : ℕ → List ℕ × List ℕ = λ place. (take place octets, drop (place + 1) octets) in
    let front : take (length name) octets ≡ name = take-append_seam name (47 ∷ rest) in
    let back : drop (length name + 1) octets ≡ rest = drop-append-add name (47 ∷ rest) 1 in
    ap (option_map parts_at) (slash_place-name name rest h)
    ∙ ap (λ (a : List ℕ). Some (a, drop (length name + 1) octets)) front
    ∙ ap (λ (b : List ℕ). Some (name, b)) back

-- a list is what stands before a place, what stands there, and what stands behind it
parted : (octets : List ℕ) (place : ℕ) → place < length octets → get_or octets place 0 ≡ 47 → octets ≡ take place octets ++ 47 ∷ drop (place + 1) octets
parted octets place inside slash =
    let there = drop-cons octets place 0 inside in
    sym (take-append-drop place octets) ∙ ap (λ (xs : List ℕ). take place octets ++ xs) (there ∙ rw (slash, add-one) refl)

option_map_some : {A B : Type 0} (f : A → B) (o : Option A) (y : B) → option_map f o ≡ Some y → (x : A) × (o ≡ Some x) × (f x ≡ y)
option_map_some f None y e = absurd cc
option_map_some f (Some x) y e = (x, refl, cc)

cut-is : (octets front back : List ℕ) → cut octets ≡ Some (front, back) → octets ≡ front ++ 47 ∷ back
unfolding cut
cut-is octets front back e =
    let found = option_map_some (λ (place : ℕ). (take place octets, drop (place + 1) octets)) (slash_place octets) (front, back) e in
    let there = position-Some (λ c. eqb c 47) octets found.0 0 found.1 in
    let same : ◌≡◌ {A = List ℕ × List ℕ} (take found.0 octets, drop (found.0 + 1) octets) (front, back) = found.2 in
    parted octets found.0 there.0 (eqb-true _ _ there.1)
    ∙ ap (λ (p : List ℕ × List ℕ). p.0 ++ 47 ∷ p.1) same

-- ---- states

state_text-nested : (host realm session : List ℕ) → state_text host realm session ≡ codes "Diameter/" ++ (host ++ 47 ∷ (realm ++ 47 ∷ session))
unfolding state_text
state_text-nested host realm session = simp append_assoc

pub read_state-none : (value : List ℕ) → behind_prefix value ≡ None → read_state value ≡ None
unfolding read_state
read_state-none value none = rw none refl

pub read_state-uncut : (value text : List ℕ) → behind_prefix value ≡ Some text → cut text ≡ None → read_state value ≡ None
unfolding read_state
read_state-uncut value text behind none = rw (behind, none) refl

pub read_state-half : (value text host rest : List ℕ) → behind_prefix value ≡ Some text → cut text ≡ Some (host, rest) → cut rest ≡ None → read_state value ≡ None
unfolding read_state
read_state-half value text host rest behind first none = rw (behind, first, none) refl

pub read_state-cut : (value text host rest realm session : List ℕ) → behind_prefix value ≡ Some text → cut text ≡ Some (host, rest) → cut rest ≡ Some (realm, session) → read_state value ≡ checked host realm session
unfolding read_state
read_state-cut value text host rest realm session behind first second = rw (behind, first, second) refl

name_octets : (name : List ℕ) → is_identity name ≡ true → list_all is_identity_octet name ≡ true
name_octets name h = (and_parts _ (list_all is_identity_octet name) h).1

pub states_are_read_back : StatesAreReadBack
states_are_read_back host realm session host_is realm_is session_is =
    let parts : CarriedParts = record { host = host; realm = realm; session = session } in
    let nested = state_text-nested host realm session in
    let behind = ap behind_prefix nested ∙ behind_prefix-append (host ++ 47 ∷ (realm ++ 47 ∷ session)) in
    let first = cut-name host (realm ++ 47 ∷ session) (name_octets host host_is) in
    let second = cut-name realm session (name_octets realm realm_is) in
    let tests = and_from (is_identity host && is_identity realm) (is_session_text session) (and_from (is_identity host) (is_identity realm) host_is realm_is) session_is in
    read_state-cut (state_text host realm session) _ host _ realm session behind first second
    ∙ ap (λ (b : Bool). cond b (Some parts) None) tests

pub read_state-only : (value host realm session : List ℕ) → IsState value host realm session → read_state value ≡ Some (record { host = host; realm = realm; session = session })
read_state-only value host realm session is =
    ap read_state is.text ∙ states_are_read_back host realm session is.named_host is.named_realm is.visible

-- what was cut and checked is a State
checked_state : (value text : List ℕ) (c : CarriedParts) (front back : List ℕ × List ℕ) → behind_prefix value ≡ Some text → cut text ≡ Some front → cut front.1 ≡ Some back → checked front.0 back.0 back.1 ≡ Some c → IsState value c.host c.realm c.session
checked_state value text c front back behind first second passed =
    let parts : CarriedParts = record { host = front.0; realm = back.0; session = back.1 } in
    let is = chosen (is_identity front.0 && is_identity back.0 && is_session_text back.1) parts c passed in
    let names = and_parts (is_identity front.0 && is_identity back.0) (is_session_text back.1) is.0 in
    let each = and_parts (is_identity front.0) (is_identity back.0) names.0 in
    let state : IsState value front.0 back.0 back.1 = record {
      text = behind_prefix-is value text behind
          ∙ ap (λ (xs : List ℕ). codes "Diameter/" ++ xs) (cut-is text front.0 front.1 first ∙ ap (λ (xs : List ℕ). front.0 ++ 47 ∷ xs) (cut-is front.1 back.0 back.1 second))
          ∙ sym (state_text-nested front.0 back.0 back.1);
      named_host = each.0;
      named_realm = each.1;
      visible = names.1;
    } in
    subst (λ (p : CarriedParts). IsState value p.host p.realm p.session) is.1 state

pub read_state-is : (value : List ℕ) (c : CarriedParts) → read_state value ≡ Some c → IsState value c.host c.realm c.session
unfolding read_state
read_state-is value c e =
    option_and_then_some {A = List ℕ} _ _ c e (λ text behind d.
    option_and_then_some {A = List ℕ × List ℕ} _ _ c d (λ front first g.
    option_and_then_some {A = List ℕ × List ℕ} _ _ c g (λ back second k.
    checked_state value text c front back behind first second k)))

state_found : (r : Option Carried) (value : List ℕ) → option_map carried_view r ≡ read_state value → IfSome r (λ c. IsState value c.host.now c.realm.now c.session.now)
state_found None value e = tt
state_found (Some c) value e = read_state-is value (carried_view c) (sym e)

-- what a reader keeps that gives exactly this
pub record ReadsState (r : Option Carried) (value : List ℕ) : Type 0 where
  pub exact : option_map carried_view r ≡ read_state value
  pub found : IfSome r (λ c. IsState value c.host.now c.realm.now c.session.now)
  pub only : (h s t : List ℕ) → IsState value h s t → option_map carried_view r ≡ Some (record { host = h; realm = s; session = t })

pub reads_state : (r : Option Carried) (value : List ℕ) → option_map carried_view r ≡ read_state value → ReadsState r value
reads_state r value e = record { exact = e; found = state_found r value e; only = λ h s t is. e ∙ read_state-only value h s t is }

same_value : (c d : CarriedParts) → ◌≡◌ {A = Option CarriedParts} (Some c) (Some d) → c ≡ d
same_value c d e = cc

pub states_have_one_reading : StatesHaveOneReading
states_have_one_reading value h r s h' r' s' one other =
    let same = same_value _ _ (sym (read_state-only value h r s one) ∙ read_state-only value h' r' s' other) in
    (ap (λ (c : CarriedParts). c.host) same, ap (λ (c : CarriedParts). c.realm) same, ap (λ (c : CarriedParts). c.session) same)

-- ---- classes

pub read_class-none : (value : List ℕ) → behind_prefix value ≡ None → read_class value ≡ None
unfolding read_class
read_class-none value none = rw none refl

pub read_class-behind : (value session : List ℕ) → behind_prefix value ≡ Some session → read_class value ≡ checked_session session
unfolding read_class
read_class-behind value session behind = rw behind refl

pub classes_are_read_back : ClassesAreReadBack
unfolding class_text
classes_are_read_back session visible =
    read_class-behind (class_text session) session (behind_prefix-append session)
    ∙ ap (λ (b : Bool). cond b (Some session) None) visible

pub read_class-only : (value session : List ℕ) → IsClass value session → read_class value ≡ Some session
read_class-only value session is = ap read_class is.text ∙ classes_are_read_back session is.visible

pub read_class-is : (value session : List ℕ) → read_class value ≡ Some session → IsClass value session
unfolding read_class class_text
read_class-is value session e =
    option_and_then_some {A = List ℕ} _ _ session e (λ text behind passed.
    let is = chosen (is_session_text text) text session passed in
    let one : IsClass value text = record { text = behind_prefix-is value text behind; visible = is.0 } in
    subst (λ (s : List ℕ). IsClass value s) is.1 one)

class_found : (r : Option (Bor (List ℕ))) (value : List ℕ) → option_copied r ≡ read_class value → IfSome r (λ s. IsClass value s.now)
class_found None value e = tt
class_found (Some s) value e = read_class-is value s.now (sym e)

pub record ReadsClass (r : Option (Bor (List ℕ))) (value : List ℕ) : Type 0 where
  pub exact : option_copied r ≡ read_class value
  pub found : IfSome r (λ s. IsClass value s.now)
  pub only : (session : List ℕ) → IsClass value session → option_copied r ≡ Some session

pub reads_class : (r : Option (Bor (List ℕ))) (value : List ℕ) → option_copied r ≡ read_class value → ReadsClass r value
reads_class r value e = record { exact = e; found = class_found r value e; only = λ session is. e ∙ read_class-only value session is }

pub classes_have_one_reading : ClassesHaveOneReading
classes_have_one_reading value s s' one other =
    let same : ◌≡◌ {A = Option (List ℕ)} (Some s) (Some s') = sym (read_class-only value s one) ∙ read_class-only value s' other in
    cc

-- ---- lengths

length-state_text : (host realm session : List ℕ) → length (state_text host realm session) ≡ 9 + length host + 1 + length realm + 1 + length session
unfolding state_text
length-state_text host realm session = simp length-append (omega arith)

pub states_have_length : StatesHaveLength
states_have_length value host realm session is = ap length is.text ∙ length-state_text host realm session

pub classes_have_length : ClassesHaveLength
unfolding class_text
classes_have_length value session is = ap length is.text ∙ length-append (codes "Diameter/") session
