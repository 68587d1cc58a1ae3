-- The class that the code comes to is that of the cases.
use Rattle.std.proofs.Common.{◌≡◌, ℕ, ◌≤◌, Bool, true, false, cond, ◌&&◌, not, List, [], ◌∷◌, ◌++◌, length, Option, Some, None, Result, Ok, Err, IfSome, refl, sym, ap, subst, ◌∙◌, arith}
use Rattle.std.specs.Prelude.{nat_le, codes, is_none}
use Rattle.std.specs.List.{flat_map, enumerate_from}
use Rattle.std.specs.Result.{result_ok}
use Rattle.std.proofs.lemmas.Bool.{leb-true}
use Rattle.std.proofs.lemmas.List.{length-append}
use Rattle.radius_packet.specs.Packet.{AttributeParts, attributes_in}
use Rattle.radius_packet.specs.Seals.{ReplyParts, reply_text}
use Rattle.diameter_avp.specs.Avps.{AvpParts}
use Rattle.diameter_avp.specs.declared.fault.AvpFault.{AvpFault}
use Rattle.diameter_message.specs.declared.header.Header.{Header}
use Rattle.diameter_message.specs.Results.{result_code}
use Rattle.attribute_table.specs.declared.row.Row.{Row}
use Rattle.attribute_table.specs.Rows.{row_of_avp}
use Rattle.session_carrier.specs.Session.{class_text, state_text}
use Rattle.session_carrier.specs.declared.kept.Kept.{Kept}
use Rattle.session_carrier.specs.declared.kept.Numbers.{Numbers}
use Rattle.agent_settings.specs.declared.client.Client.{Client}
use Rattle.translation.specs.declared.service.Service.{Service}
use Rattle.translation.specs.declared.service.Service.TheVariants.{Nasreq, Eap}
use Rattle.translation.specs.declared.class.Class.{Class}
use Rattle.translation.specs.declared.class.Class.TheVariants.{Bad, Refusal, Challenge, Success}
use Rattle.translation.specs.Reading.{group_number, has_fault, has_unknown, has_bad_payload, is_challenge, result_class, state_by, first_identity}
use Rattle.translation.specs.Replies.{optional, session_code, carrier_value, image, image_of, images, reply_code, timeouts, eap_messages, reply_attributes, fits_packet, access_reply, bare_reply}
use Rattle.translation.specs.Pushing.{Pushes}
use Rattle.translation.specs.Answers.{is_error, is_of_other_session, has_refused_key, is_stateless, class_of, class_of_kind, outcome_of, outcome_in}
use Rattle.translation.specs.Attempts.{reply_in, first_kind, first_class, unless_bad}

-- ---- what carries the session fits in an attribute

short_value_fits : (b : Bool) (value : List ℕ) → nat_le (length value) 253 ≡ b → IfSome (cond b (Some value) None) (λ v. length v ≤ 253)
short_value_fits true value e = leb-true _ _ e
short_value_fits false value e = tt

state_fits : (host realm : Option (List ℕ)) (session : List ℕ) → IfSome (state_by host realm session) (λ v. length v ≤ 253)
state_fits None realm session = tt
state_fits (Some host) None session = tt
state_fits (Some host) (Some realm) session =
    short_value_fits (nat_le (length (state_text host realm session)) 253) (state_text host realm session) refl

pub class_fits : (session : List ℕ) → length session ≤ 244 → length (class_text session) ≤ 253
unfolding class_text
class_fits session short = omega (arith, length-append (codes "Diameter/") session)

carrier_fits-by : (class : Class) (session : List ℕ) (avps : List AvpParts) → length session ≤ 244 → IfSome (carrier_value class session avps) (λ v. length v ≤ 253)
carrier_fits-by Success session avps short = class_fits session short
carrier_fits-by Challenge session avps short = state_fits (first_identity 264 avps) (first_identity 296 avps) session
carrier_fits-by Refusal session avps short = tt
carrier_fits-by Bad session avps short = tt

pub carrier_fits : (class : Class) (session : List ℕ) (avps : List AvpParts) (carrier : Option (List ℕ)) → carrier ≡ carrier_value class session avps → length session ≤ 244 → IfSome carrier (λ v. length v ≤ 253)
carrier_fits class session avps carrier e short = rw e (carrier_fits-by class session avps short)

-- ---- a reply that was written

pub reply_written : (service : Service) (class : Class) (client : Client) (kept : Kept) (avps : List AvpParts) (strict : Bool) (carrier : Option (List ℕ)) (old new : ReplyParts) (octets : List ℕ)
    → carrier ≡ carrier_value class kept.session avps
    → old ≡ record { code = reply_code class; id = kept.id; request = kept.authenticator; sealed = true; attributes = [] }
    → Pushes old new true (not (strict && has_fault class avps)) (optional (session_code class) carrier ++ images class avps ++ timeouts class avps ++ eap_messages service class avps ++ attributes_in kept.proxy)
    → octets ≡ reply_text client.secret new.request new.code new.id new.sealed new.attributes
    → is_stateless class kept avps ≡ false
    → Some octets ≡ reply_in service class client kept avps strict
unfolding access_reply
reply_written service class client kept avps strict carrier old new octets ce oe pushed text stated =
    let whole = rw (ce, oe) at pushed in
    let made : new ≡ record { code = reply_code class; id = kept.id; request = kept.authenticator; sealed = true; attributes = reply_attributes service class kept avps } = whole.pushed refl in
    let sound : (not (strict && has_fault class avps) && fits_packet (reply_attributes service class kept avps)) ≡ true = sym whole.succeeds in
    rw (stated, sound) (ap (λ (o : List ℕ). Some o) (text ∙ ap (λ (r : ReplyParts). reply_text client.secret r.request r.code r.id r.sealed r.attributes) made))

pub reply_made : (service : Service) (class : Class) (client : Client) (kept : Kept) (avps : List AvpParts) (strict : Bool) (carrier : Option (List ℕ)) (old new : ReplyParts) (octets session proxy secret : List ℕ) (code : ℕ) (stateless : Bool)
    → session ≡ kept.session → proxy ≡ kept.proxy → secret ≡ client.secret → code ≡ reply_code class
    → carrier ≡ carrier_value class session avps
    → old ≡ record { code = code; id = kept.id; request = kept.authenticator; sealed = true; attributes = [] }
    → Pushes old new true (not (strict && has_fault class avps)) (optional (session_code class) carrier ++ images class avps ++ timeouts class avps ++ eap_messages service class avps ++ attributes_in proxy)
    → octets ≡ reply_text secret new.request new.code new.id new.sealed new.attributes
    → stateless ≡ (is_challenge class && is_none carrier) → stateless ≡ false
    → Some octets ≡ reply_in service class client kept avps strict
reply_made service class client kept avps strict carrier old new octets session proxy secret code stateless se pe xe ke ce oe pushed text st sf =
    let whole = ce ∙ ap (λ (s : List ℕ). carrier_value class s avps) se in
    let begun = oe ∙ ap (λ (n : ℕ). let r : ReplyParts = record { code = n; id = kept.id; request = kept.authenticator; sealed = true; attributes = [] } in r) ke in
    let joined = subst (λ (p : List ℕ). Pushes old new true (not (strict && has_fault class avps)) (optional (session_code class) carrier ++ images class avps ++ timeouts class avps ++ eap_messages service class avps ++ attributes_in p)) pe pushed in
    let written = text ∙ ap (λ (s : List ℕ). reply_text s new.request new.code new.id new.sealed new.attributes) xe in
    let stated = ap (λ (v : Option (List ℕ)). is_challenge class && is_none v) (sym whole) ∙ sym st ∙ sf in
    reply_written service class client kept avps strict carrier old new octets whole begun joined written stated

-- ---- the cases

abbrev fit : (Class → Bool) → Class → Class
fit F class = cond (F class) class Bad

bad_fit : (F : Class → Bool) (T : Class → List ℕ) (b : Bool) → None ≡ unless_bad (cond b Bad Bad) (T (cond b Bad Bad))
bad_fit F T true = refl
bad_fit F T false = refl

kind_fit : (T : Class → List ℕ) (kind : Class) (b : Bool) → (kind ≡ Bad → ⊥) → cond b (Some (T kind)) None ≡ unless_bad (cond b kind Bad) (T (cond b kind Bad))
kind_fit T Bad b sound = absurd (sound refl)
kind_fit T Refusal true sound = refl
kind_fit T Refusal false sound = refl
kind_fit T Challenge true sound = refl
kind_fit T Challenge false sound = refl
kind_fit T Success true sound = refl
kind_fit T Success false sound = refl

last_cases : (F : Class → Bool) (T : Class → List ℕ) (kind : Class) (h s : Bool) → (kind ≡ Bad → ⊥) → cond s None (cond (not h && F kind) (Some (T kind)) None) ≡ unless_bad (fit F (cond h Bad (cond s Bad kind))) (T (fit F (cond h Bad (cond s Bad kind))))
last_cases F T kind true true sound = bad_fit F T (F Bad)
last_cases F T kind true false sound = bad_fit F T (F Bad)
last_cases F T kind false true sound = bad_fit F T (F Bad)
last_cases F T kind false false sound = kind_fit T kind (F kind) sound

abbrev sorted : Bool → Bool → Bool → Bool → Class → Class
sorted other unknown key payload kind = cond other Bad (cond unknown Bad (cond key Bad (cond payload Bad kind)))

abbrev by_cases : Bool → Bool → Bool → Bool → Bool → Bool → Class → Class
by_cases other unknown key fault payload stateless kind =
    cond other Bad (cond unknown Bad (cond key Bad (cond fault Bad (cond payload Bad (cond stateless Bad kind)))))

sound_cases : (F H S : Class → Bool) (T : Class → List ℕ) (kind : Class) (other unknown key payload : Bool) → (kind ≡ Bad → ⊥) → (sorted other unknown key payload kind ≡ Bad → ⊥)
    → cond (S (sorted other unknown key payload kind)) None (cond (not (H (sorted other unknown key payload kind)) && F (sorted other unknown key payload kind)) (Some (T (sorted other unknown key payload kind))) None)
    ≡ unless_bad (fit F (by_cases other unknown key (H kind) payload (S kind) kind)) (T (fit F (by_cases other unknown key (H kind) payload (S kind) kind)))
sound_cases F H S T kind true unknown key payload sound first = absurd (first refl)
sound_cases F H S T kind false true key payload sound first = absurd (first refl)
sound_cases F H S T kind false false true payload sound first = absurd (first refl)
sound_cases F H S T kind false false false true sound first = absurd (first refl)
sound_cases F H S T kind false false false false sound first = last_cases F T kind (H kind) (S kind) sound

bad_last : (F : Class → Bool) (T : Class → List ℕ) (fault : Bool) → None ≡ unless_bad (fit F (cond fault Bad Bad)) (T (fit F (cond fault Bad Bad)))
bad_last F T true = bad_fit F T (F Bad)
bad_last F T false = bad_fit F T (F Bad)

bad_cases : (F : Class → Bool) (T : Class → List ℕ) (kind : Class) (other unknown key fault payload stateless : Bool) → (kind ≡ Bad → ⊥) → sorted other unknown key payload kind ≡ Bad
    → None ≡ unless_bad (fit F (by_cases other unknown key fault payload stateless kind)) (T (fit F (by_cases other unknown key fault payload stateless kind)))
bad_cases F T kind true unknown key fault payload stateless sound first = bad_fit F T (F Bad)
bad_cases F T kind false true key fault payload stateless sound first = bad_fit F T (F Bad)
bad_cases F T kind false false true fault payload stateless sound first = bad_fit F T (F Bad)
bad_cases F T kind false false false fault true stateless sound first = bad_last F T fault
bad_cases F T kind false false false fault false stateless sound first = absurd (sound first)

kind-by : (a b : Bool) → cond a Challenge (cond b Success Refusal) ≡ Bad → ⊥
kind-by true b e = cc
kind-by false true e = cc
kind-by false false e = cc

kind_sound : (result : ℕ) → result_class result ≡ Bad → ⊥
kind_sound result e = kind-by _ _ e

-- ---- with flag E or without

sound-by : (error : Bool) (service : Service) (client : Client) (kept : Kept) (avps : List AvpParts) → let kind = result_class (result_code avps) in let first = cond error Refusal (first_kind kind service client kept avps) in let class = cond error Refusal (class_of_kind kind service client kept avps) in let F = λ (c : Class). fits_packet (reply_attributes service c kept avps) in (first ≡ Bad → ⊥) → reply_in service first client kept avps (not error) ≡ unless_bad (fit F class) (access_reply service (fit F class) client kept avps)
sound-by true service client kept avps first =
    kind_fit (λ c. access_reply service c client kept avps) Refusal (fits_packet (reply_attributes service Refusal kept avps)) (λ e. cc)
sound-by false service client kept avps first =
    sound_cases (λ c. fits_packet (reply_attributes service c kept avps)) (λ c. has_fault c avps) (λ c. is_stateless c kept avps) (λ c. access_reply service c client kept avps) (result_class (result_code avps)) (is_of_other_session kept avps) (has_unknown avps) (has_refused_key client avps) (has_bad_payload service (result_class (result_code avps)) avps) (kind_sound (result_code avps)) first

bad-by : (error : Bool) (service : Service) (client : Client) (kept : Kept) (avps : List AvpParts) → let kind = result_class (result_code avps) in let first = cond error Refusal (first_kind kind service client kept avps) in let class = cond error Refusal (class_of_kind kind service client kept avps) in let F = λ (c : Class). fits_packet (reply_attributes service c kept avps) in first ≡ Bad → None ≡ unless_bad (fit F class) (access_reply service (fit F class) client kept avps)
bad-by true service client kept avps first = absurd cc
bad-by false service client kept avps first =
    bad_cases (λ c. fits_packet (reply_attributes service c kept avps)) (λ c. access_reply service c client kept avps) (result_class (result_code avps)) (is_of_other_session kept avps) (has_unknown avps) (has_refused_key client avps) (has_fault (result_class (result_code avps)) avps) (has_bad_payload service (result_class (result_code avps)) avps) (is_stateless (result_class (result_code avps)) kept avps) (kind_sound (result_code avps)) first

pub first_sound : (service : Service) (client : Client) (kept : Kept) (header : Header) (avps : List AvpParts) → (first_class service client kept header avps ≡ Bad → ⊥) → reply_in service (first_class service client kept header avps) client kept avps (not (is_error header)) ≡ unless_bad (class_of service client kept header avps) (access_reply service (class_of service client kept header avps) client kept avps)
unfolding class_of
first_sound service client kept header avps first = sound-by (is_error header) service client kept avps first

pub first_bad : (service : Service) (client : Client) (kept : Kept) (header : Header) (avps : List AvpParts) → first_class service client kept header avps ≡ Bad → None ≡ unless_bad (class_of service client kept header avps) (access_reply service (class_of service client kept header avps) client kept avps)
unfolding class_of
first_bad service client kept header avps first = bad-by (is_error header) service client kept avps first

-- ---- a bad answer's reply

image_bad-by : (vendor : Option ℕ) (row : Option Row) (number : ℕ) (a : AvpParts) → row ≡ row_of_avp a.code → image_of vendor Bad number a ≡ []
image_bad-by None None number a e = rw (← e) refl
image_bad-by None (Some row) number a e = rw (← e) refl
image_bad-by (Some vendor) row number a e = refl

images_bad-by : (all : List AvpParts) (list : List (ℕ × AvpParts)) → flat_map (λ p. image Bad (group_number all p.0) p.1) list ≡ []
images_bad-by all [] = refl
images_bad-by all (p ∷ list) =
    rw (image_bad-by p.1.vendor (row_of_avp p.1.code) (group_number all p.0) p.1 refl) (images_bad-by all list)

eap_bad : (service : Service) (avps : List AvpParts) → eap_messages service Bad avps ≡ []
eap_bad Nasreq avps = refl
eap_bad Eap avps = refl

pub bad_reply : (service : Service) (client : Client) (kept : Kept) (avps : List AvpParts) → bare_reply client kept 3 true ≡ access_reply service Bad client kept avps
unfolding bare_reply access_reply
bad_reply service client kept avps =
    let images : images Bad avps ≡ [] = images_bad-by avps (enumerate_from 0 avps) in
    let eap = eap_bad service avps in
    let alone : attributes_in kept.proxy ≡ reply_attributes service Bad kept avps = rw (images, eap) refl in
    ap (λ (list : List AttributeParts). reply_text client.secret kept.authenticator 3 kept.id true list) alone

-- ---- the outcome

pub outcome_rotten : (service : Service) (client : Client) (kept : Kept) (header : Header) (read : Result (List AvpParts) AvpFault) (numbers : Numbers) → None ≡ result_ok read → outcome_of Bad service client kept [] numbers ≡ outcome_in service client kept header read numbers
outcome_rotten service client kept header (Ok avps) numbers e = absurd cc
outcome_rotten service client kept header (Err fault) numbers e = refl

outcome-by : (class : Class) (service : Service) (client : Client) (kept : Kept) (avps : List AvpParts) (numbers : Numbers) (reply : List ℕ) → Some reply ≡ unless_bad class (access_reply service class client kept avps) → record { reply = Some reply; follow = None } ≡ outcome_of class service client kept avps numbers
outcome-by Bad service client kept avps numbers reply e = absurd cc
outcome-by Refusal service client kept avps numbers reply e = rw e refl
outcome-by Challenge service client kept avps numbers reply e = rw e refl
outcome-by Success service client kept avps numbers reply e = rw e refl

pub outcome_sound : (service : Service) (client : Client) (kept : Kept) (header : Header) (read : Result (List AvpParts) AvpFault) (avps : List AvpParts) (numbers : Numbers) (reply : List ℕ) → Some avps ≡ result_ok read → Some reply ≡ unless_bad (class_of service client kept header avps) (access_reply service (class_of service client kept header avps) client kept avps) → record { reply = Some reply; follow = None } ≡ outcome_in service client kept header read numbers
outcome_sound service client kept header (Ok all) avps numbers reply r e =
    let same : avps ≡ all = cc in
    outcome-by (class_of service client kept header all) service client kept all numbers reply (rw same at e)
outcome_sound service client kept header (Err fault) avps numbers reply r e = absurd cc

bad-class : (class : Class) (text : List ℕ) → None ≡ unless_bad class text → class ≡ Bad
bad-class Bad text e = refl
bad-class Refusal text e = absurd cc
bad-class Challenge text e = absurd cc
bad-class Success text e = absurd cc

pub outcome_bad : (service : Service) (client : Client) (kept : Kept) (header : Header) (read : Result (List AvpParts) AvpFault) (avps : List AvpParts) (numbers : Numbers) → Some avps ≡ result_ok read → None ≡ unless_bad (class_of service client kept header avps) (access_reply service (class_of service client kept header avps) client kept avps) → outcome_of Bad service client kept avps numbers ≡ outcome_in service client kept header read numbers
outcome_bad service client kept header (Ok all) avps numbers r e =
    let same : avps ≡ all = cc in
    let bad = bad-class (class_of service client kept header avps) _ e in
    rw (← same, bad) refl
outcome_bad service client kept header (Err fault) avps numbers r e = absurd cc
