-- What a request asks is what its message holds.
use Rattle.std.proofs.Common.{◌≡◌, ℕ, ◌≤◌, Bool, true, false, cond, List, length, Option, Some, None, Result, Ok, Err, refl, ap, subst, inl, inr}
use Rattle.std.specs.Prelude.{nat_le}
use Rattle.std.proofs.lemmas.Bool.{cases_Bool, leb-true}
use Rattle.diameter_avp.specs.Avps.{AvpParts, read_avps}
use Rattle.diameter_avp.specs.declared.fault.AvpFault.{AvpFault}
use Rattle.diameter_message.specs.declared.header.Header.{Header}
use Rattle.diameter_message.specs.declared.fault.MessageFault.{MessageFault}
use Rattle.diameter_message.specs.Message.{MessageParts, read_message}
use Rattle.diameter_message.specs.Finding.{only_in}
use Rattle.reverse_map.specs.Asked.{AskedParts, is_served, asked_with, asked_by, asked_in, asked_of, request_in}

-- the request is the message's
pub record Tells (m : MessageParts) (q : AskedParts) : Type 0 where
  pub header : q.header ≡ m.header
  pub avps : read_avps m.avps ≡ Ok q.avps
  pub session : only_in 263 (read_avps m.avps) ≡ Some q.session
  pub short : length q.session ≤ 4096

told_with : (header : Header) (avps : List AvpParts) (session host : Option (List ℕ)) (q : AskedParts) → asked_with header avps session host ≡ Some q
    → (q.header ≡ header) × (avps ≡ q.avps) × (session ≡ Some q.session) × (length q.session ≤ 4096)
told_with header avps None host q e = absurd cc
told_with header avps (Some session) None q e = absurd cc
told_with header avps (Some session) (Some host) q e =
    elim (cases_Bool (nat_le (length session) 4096)) [
      | inl short ↦ (let p : AskedParts = record { header = header; avps = avps; session = session; host = host } in
          let here : Some p ≡ Some q = rw short at e in
          let same : p ≡ q = cc in
          subst (λ (x : AskedParts). (x.header ≡ header) × (avps ≡ x.avps) × (Some session ≡ Some x.session) × (length x.session ≤ 4096)) same
          (refl, refl, refl, leb-true _ _ short))
      | inr long ↦ absurd (let h = rw long at e in cc)
    ]

told_by : (header : Header) (read : Result (List AvpParts) AvpFault) (q : AskedParts) → asked_by header read ≡ Some q
    → (q.header ≡ header) × (read ≡ Ok q.avps) × (only_in 263 read ≡ Some q.session) × (length q.session ≤ 4096)
told_by header (Ok avps) q e =
    let t = told_with header avps (only_in 263 (Ok avps)) (only_in 264 (Ok avps)) q e in
    (t.0, ap Ok t.1, t.2, t.3)
told_by header (Err fault) q e = absurd cc

pub tells : (m : MessageParts) (q : AskedParts) → asked_in m ≡ Some q → Tells m q
tells m q e =
    let t = told_by m.header (read_avps m.avps) q e in
    record { header = t.0; avps = t.1; session = t.2; short = t.3 }

-- ---- in octets

found : (served : Bool) (o : Option AskedParts) (q : AskedParts) → cond served o None ≡ Some q → o ≡ Some q
found true o q e = e
found false o q e = absurd cc

asked_by_message : (m : MessageParts) (r : Result MessageParts MessageFault) (q : AskedParts) → Ok m ≡ r → asked_of r ≡ Some q → asked_in m ≡ Some q
asked_by_message m (Ok n) q e asked = let same : m ≡ n = cc in rw same (found (is_served n.header) (asked_in n) q asked)
asked_by_message m (Err fault) q e asked = absurd cc

-- octets ask what their message asks
pub asked-message : (octets : List ℕ) (m : MessageParts) (q : AskedParts) → Ok m ≡ read_message octets → request_in octets ≡ Some q → asked_in m ≡ Some q
asked-message octets m q e asked = asked_by_message m (read_message octets) q e asked
