-- What a reply and a Tick lead to.
use Rattle.std.proofs.Common.{◌≡◌, ℕ, ◌≤◌, Bool, true, false, cond, ◌&&◌, List, [], ◌∷◌, length, map, Option, Some, None, Result, Ok, Err, refl, sym, ap, ◌∙◌, subst, arith}
use Rattle.std.specs.Prelude.{nat_le, IfOk, OnOk}
use Rattle.std.specs.List.{AllByRecursion, flat_map}
use Rattle.diameter_message.specs.declared.header.Header.{Header}
use Rattle.diameter_message.specs.Message.{IsMessage, MessageParts}
use Rattle.diameter_message.proofs.MessageLemmas.{length-message_text}
use Rattle.radius_packet.specs.Packet.{PacketParts}
use Rattle.radius_packet.specs.Checks.{is_reply_right}
use Rattle.diameter_avp.specs.Avps.{AvpParts}
use Rattle.diameter_avp.specs.declared.fault.AvpFault.{AvpFault}
use Rattle.diameter_avp.specs.Avps.{read_avps}
use Rattle.diameter_message.specs.Finding.{only_in}
use Rattle.reverse_map.specs.declared.own.Reverse.{Reverse}
use Rattle.reverse_map.specs.Asked.{AskedParts, asked_by, asked_in, asked_of, asked_with, is_served}
use Rattle.reverse_map.specs.Answers.{answer_of, is_reply_code}
use Rattle.reverse_core.specs.declared.events.ReverseOutput.{ReverseOutput}
use Rattle.reverse_core.specs.declared.events.ReverseOutput.TheVariants.{Answer, Dropped}
use Rattle.reverse_core.specs.declared.events.ReverseReason.TheVariants.{StrangeReply}
use Rattle.reverse_core.specs.declared.requests.Taken.{Taken}
use Rattle.reverse_core.specs.declared.requests.OpenRequest.{OpenRequest}
use Rattle.reverse_core.specs.Requests.{Closes, Nothing, is_due, silence}
use Rattle.reverse_core.specs.History.{Outcome, says, answered, authenticator_of, overdue}
use Rattle.reverse_core.specs.Standing.{ReverseState}
use Rattle.reverse_core.specs.State.{Does, Leads}
use Rattle.reverse_core.specs.Ticking.{Matches, silences}
use Rattle.reverse_core.proofs.QueueLemmas.{none-spent}

-- ---- answers

pub message-long : {octets avps : List ℕ} {h : Header} → IsMessage octets h avps → 20 ≤ length octets
message-long {octets} {avps} {h} is = omega (arith, ap length is.text, length-message_text h avps)

-- a request has its message's header

header-of : (h : Header) (avps : List AvpParts) (session host : Option (List ℕ)) (q : AskedParts) → asked_with h avps session host ≡ Some q → q.header ≡ h
header-of h avps None host q e = absurd (cc)
header-of h avps (Some session) None q e = absurd (cc)
header-of h avps (Some session) (Some host) q e = by (nat_le (length session) 4096) e
  where
    by : (b : Bool) → cond b (Some (record { header = h; avps = avps; session = session; host = host })) None ≡ Some q → q.header ≡ h
    by true f = (let is : record { header = h; avps = avps; session = session; host = host } ≡ q = cc in sym (ap (λ (x : AskedParts). x.header) is))
    by false f = absurd (cc)

header-by : (h : Header) (r : Result (List AvpParts) AvpFault) (q : AskedParts) → asked_by h r ≡ Some q → q.header ≡ h
header-by h (Ok avps) q e = header-of h avps (only_in 263 (Ok avps)) (only_in 264 (Ok avps)) q e
header-by h (Err fault) q e = absurd (cc)

pub asked-header : (m : MessageParts) (q : AskedParts) → asked_of (Ok m) ≡ Some q → q.header ≡ m.header
asked-header m q e =
    elim (is_served m.header) as (λ b. cond b (asked_in m) None ≡ Some q → q.header ≡ m.header) [
      | true ↦ (λ f. header-by m.header (read_avps m.avps) q f)
      | false ↦ (λ f. absurd (cc))
    ] e

pub answered-yes : (own : Reverse) (t : Taken) (p : PacketParts) (o : Option AskedParts) (q : AskedParts) (answer : List ℕ) → o ≡ Some q
    → is_reply_right own.secret (authenticator_of t.sent) p ≡ true → is_reply_code q.header p.code ≡ true → answer ≡ answer_of own q p
    → answered own t p o ≡ record { deed = Closes t answer; outputs = Answer answer ∷ [] }
answered-yes own t p o q answer is right code same =
    ap (answered own t p) is
    ∙ ap (λ b. cond b (record { deed = Closes t (answer_of own q p); outputs = Answer (answer_of own q p) ∷ [] }) (says (Dropped StrangeReply))) (ap (λ b. b && is_reply_code q.header p.code) right ∙ code)
    ∙ ap (λ (a : List ℕ). record { deed = Closes t a; outputs = Answer a ∷ [] }) (sym same)

-- ---- what goes out

pub matches-none : (o : Outcome) (found : Option OpenRequest) → Matches o found None → o ≡ says (Dropped StrangeReply)
matches-none o None is = is
matches-none o (Some f) is = is

pub record Found (o : Outcome) (found : Option OpenRequest) (answer : List ℕ) : Type 0 where
  pub request : OpenRequest
  pub found_is : found ≡ Some request
  pub outcome_is : o ≡ record { deed = Closes request.taken answer; outputs = Answer answer ∷ [] }
  pub long : 20 ≤ length answer

pub matches-some : (o : Outcome) (found : Option OpenRequest) (answer : List ℕ) → Matches o found (Some answer) → Found o found answer
matches-some o None answer is = absurd is
matches-some o (Some f) answer is = record { request = f; found_is = refl; outcome_is = is.0; long = is.1 }

pub leads-said : {E : Type 0} → (r : Result (List ReverseOutput) E) (at : ℕ) (o : Outcome) (output : ReverseOutput) (S T : ReverseState) → o ≡ says output
    → IfOk r (λ x. x ≡ output ∷ []) → OnOk r (Does at Nothing S T) → IfOk r (Leads at o S T)
leads-said (Ok outs) at o output S T is e done =
    subst (λ (x : Outcome). Leads at x S T outs) (sym is) (let l : Leads at (says output) S T outs = record { outputs = e; done = done } in l)
leads-said (Err x) at o output S T is e done = tt

-- ---- a Tick

pub none-overdue : (own : Reverse) (m : ℕ) (os : List OpenRequest) → AllByRecursion (λ x. is_due m x.sent ≡ false) os → flat_map (overdue own m) os ≡ []
none-overdue own m [] h = refl
none-overdue own m (o ∷ os) h = let e : is_due m o.sent ≡ false = h.0 in rw e (none-overdue own m os h.1)

pub no-silences : (own : Reverse) (m : ℕ) (os : List OpenRequest) → AllByRecursion (λ x. is_due m x.sent ≡ false) os → silences own m os ≡ []
no-silences own m os h = ap (map (λ o. silence own o.taken)) (none-spent m os h)
