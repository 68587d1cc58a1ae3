-- When a request is taken up.
use Rattle.std.proofs.Common.{◌≡◌, ℕ, ◌+◌, ◌%◌, Bool, true, false, cond, ◌||◌, List, [], ◌∷◌, length, Option, Some, None, Result, Ok, Err, refl, sym, ap, ◌∙◌, arith}
use Rattle.std.specs.Prelude.{find, is_some, nat_le}
use Rattle.std.specs.List.{list_any}
use Rattle.diameter_message.specs.Message.{MessageParts, read_message}
use Rattle.diameter_message.specs.declared.fault.MessageFault.{MessageFault}
use Rattle.radius_packet.specs.Packet.{PacketParts, read_packet}
use Rattle.radius_packet.specs.declared.fault.PacketFault.{PacketFault}
use Rattle.reverse_map.specs.declared.own.Reverse.{Reverse}
use Rattle.reverse_map.specs.declared.fault.ReverseFault.{ReverseFault}
use Rattle.reverse_map.specs.Asked.{AskedParts, asked_in, asked_of, direction_of, is_served, request_in}
use Rattle.reverse_map.specs.Answers.{answer_of, refusal}
use Rattle.reverse_map.specs.Requests.{request_image}
use Rattle.reverse_core.specs.declared.key.Key.{Key}
use Rattle.reverse_core.specs.declared.events.ReverseInput.{ReverseInput}
use Rattle.reverse_core.specs.declared.events.ReverseInput.TheVariants as inputs
use Rattle.reverse_core.specs.declared.events.ReverseOutput.TheVariants.{Answer, Dropped}
use Rattle.reverse_core.specs.declared.events.ReverseReason.TheVariants.{NotRequest, StrangeReply}
use Rattle.reverse_core.specs.declared.requests.Taken.{Taken}
use Rattle.reverse_core.specs.declared.requests.OpenRequest.{OpenRequest}
use Rattle.reverse_core.specs.declared.requests.KeptAnswer.{KeptAnswer}
use Rattle.reverse_core.specs.Keys.{same_key, key_of}
use Rattle.reverse_core.specs.Requests.{Deed, Nothing, Takes, Repeats, Closes, Ticks}
use Rattle.reverse_core.specs.History.{Known, Unknown, IsOpen, IsKept, says, known, known_kept, has_identifier, is_full, taken, translated, on_unknown, on_known, on_asked, on_message, on_request, is_authentic_reply, answered, matched, on_packet, on_reply, on_input}
use Rattle.reverse_core.specs.State.{count_open, count_kept, MayTake}
use Rattle.reverse_core.proofs.KnownLemmas.{find-any}
use Rattle.reverse_core.proofs.Opening.{IsFresh}

-- the request of these octets was taken up
pub record TakesUp (own : Reverse) (os : List OpenRequest) (ks : List KeptAnswer) (n : ℕ) (octets random : List ℕ) (t : Taken) : Type 0 where
  pub q : AskedParts
  pub asked : request_in octets ≡ Some q
  pub taken_is : t ≡ taken n octets q t.sent
  pub image : request_image (direction_of q.header) (n % 256) random own.secret q.avps ≡ Ok t.sent
  pub unknown_is : known (key_of q) os ks ≡ Unknown
  pub room : is_full os ks n ≡ false

record TakesImage (own : Reverse) (n : ℕ) (octets : List ℕ) (q : AskedParts) (r : Result (List ℕ) ReverseFault) (t : Taken) : Type 0 where
  taken_is : t ≡ taken n octets q t.sent
  image : r ≡ Ok t.sent

takes-image : (own : Reverse) (n : ℕ) (octets : List ℕ) (q : AskedParts) (r : Result (List ℕ) ReverseFault) (t : Taken) → (translated own n octets q r).deed ≡ Takes t → TakesImage own n octets q r t
takes-image own n octets q (Ok sent) t e =
    let is : taken n octets q sent ≡ t = cc in
    let same : sent ≡ t.sent = ap (λ (x : Taken). x.sent) is in
    record { taken_is = sym is ∙ ap (taken n octets q) same; image = ap (λ (s : List ℕ). Ok s) same }
takes-image own n octets q (Err fault) t e = absurd (cc)

takes-unknown : (own : Reverse) (os : List OpenRequest) (ks : List KeptAnswer) (n : ℕ) (octets random : List ℕ) (q : AskedParts) (t : Taken)
    → (on_unknown own os ks n octets random q).deed ≡ Takes t → request_in octets ≡ Some q → known (key_of q) os ks ≡ Unknown → TakesUp own os ks n octets random t
takes-unknown own os ks n octets random q t e asked new = by (is_full os ks n) refl e
  where
    image : Result (List ℕ) ReverseFault
    image = request_image (direction_of q.header) (n % 256) random own.secret q.avps

    by : (b : Bool) → is_full os ks n ≡ b → (cond b (says (Answer (refusal own q 3004))) (translated own n octets q image)).deed ≡ Takes t → TakesUp own os ks n octets random t
    by true f e = absurd (cc)
    by false f e =
        let i = takes-image own n octets q image t e in
        record { q = q; asked = asked; taken_is = i.taken_is; image = i.image; unknown_is = new; room = f }

takes-known : (own : Reverse) (os : List OpenRequest) (ks : List KeptAnswer) (n : ℕ) (octets random : List ℕ) (q : AskedParts) (k : Known) (t : Taken)
    → (on_known own os ks n octets random q k).deed ≡ Takes t → request_in octets ≡ Some q → known (key_of q) os ks ≡ k → TakesUp own os ks n octets random t
takes-known own os ks n octets random q Unknown t e asked new = takes-unknown own os ks n octets random q t e asked new
takes-known own os ks n octets random q IsOpen t e asked new = absurd (cc)
takes-known own os ks n octets random q (IsKept k) t e asked new = absurd (cc)

takes-asked : (own : Reverse) (os : List OpenRequest) (ks : List KeptAnswer) (n : ℕ) (octets random : List ℕ) (o : Option AskedParts) (t : Taken)
    → (on_asked own os ks n octets random o).deed ≡ Takes t → request_in octets ≡ o → TakesUp own os ks n octets random t
takes-asked own os ks n octets random None t e asked = absurd (cc)
takes-asked own os ks n octets random (Some q) t e asked = takes-known own os ks n octets random q (known (key_of q) os ks) t e asked refl

takes-message : (own : Reverse) (os : List OpenRequest) (ks : List KeptAnswer) (n : ℕ) (octets random : List ℕ) (r : Result MessageParts MessageFault) (t : Taken)
    → (on_message own os ks n octets random r).deed ≡ Takes t → read_message octets ≡ r → TakesUp own os ks n octets random t
takes-message own os ks n octets random (Err fault) t e read = absurd (cc)
takes-message own os ks n octets random (Ok m) t e read = by (is_served m.header) refl e
  where
    by : (b : Bool) → is_served m.header ≡ b → (cond b (on_asked own os ks n octets random (asked_in m)) (says (Dropped NotRequest))).deed ≡ Takes t → TakesUp own os ks n octets random t
    by true f e = takes-asked own os ks n octets random (asked_in m) t e (ap asked_of read ∙ ap (λ b. cond b (asked_in m) None) f)
    by false f e = absurd (cc)

pub takes-request : (own : Reverse) (os : List OpenRequest) (ks : List KeptAnswer) (n : ℕ) (octets random : List ℕ) (t : Taken)
    → (on_request own os ks n octets random).deed ≡ Takes t → TakesUp own os ks n octets random t
takes-request own os ks n octets random t e = takes-message own os ks n octets random (read_message octets) t e refl

-- ---- what isn't known

no-open : (q : Key) (os : List OpenRequest) → list_any (λ o. same_key o.taken.key q) os ≡ false → count_open q os ≡ 0
no-open q [] e = refl
no-open q (o ∷ os) e =
    elim (same_key o.taken.key q) as (λ b. (b || list_any (λ x. same_key x.taken.key q) os) ≡ false → count_open q os + cond b 1 0 ≡ 0) [
      | true ↦ (λ f. absurd (cc))
      | false ↦ (λ f. omega (arith, no-open q os f))
    ] e

no-kept : (q : Key) (ks : List KeptAnswer) → find (λ k. same_key k.key q) ks ≡ None → count_kept q ks ≡ 0
no-kept q [] e = refl
no-kept q (k ∷ ks) e =
    elim (same_key k.key q) as (λ b. cond b (Some k) (find (λ x. same_key x.key q) ks) ≡ None → count_kept q ks + cond b 1 0 ≡ 0) [
      | true ↦ (λ f. absurd (cc))
      | false ↦ (λ f. omega (arith, no-kept q ks f))
    ] e

pub record IsNew (q : Key) (os : List OpenRequest) (ks : List KeptAnswer) : Type 0 where
  pub open_none : list_any (λ o. same_key o.taken.key q) os ≡ false
  pub kept_none : find (λ k. same_key k.key q) ks ≡ None

pub new-unknown : (q : Key) (os : List OpenRequest) (ks : List KeptAnswer) → known q os ks ≡ Unknown → IsNew q os ks
new-unknown q os ks e = by (list_any (λ o. same_key o.taken.key q) os) refl e
  where
    kept : (o : Option KeptAnswer) → known_kept o ≡ Unknown → o ≡ None
    kept None f = refl
    kept (Some k) f = absurd (cc)

    by : (b : Bool) → list_any (λ o. same_key o.taken.key q) os ≡ b → cond b IsOpen (known_kept (find (λ k. same_key k.key q) ks)) ≡ Unknown → IsNew q os ks
    by true f g = absurd (cc)
    by false f g = record { open_none = f; kept_none = kept (find (λ k. same_key k.key q) ks) g }

pub may-take : (own : Reverse) (os : List OpenRequest) (ks : List KeptAnswer) (n : ℕ) (octets random : List ℕ) (t : Taken)
    → (on_request own os ks n octets random).deed ≡ Takes t → MayTake os ks n t
may-take own os ks n octets random t e =
    let u = takes-request own os ks n octets random t e in
    let new = new-unknown (key_of u.q) os ks u.unknown_is in
    let key : t.key ≡ key_of u.q = ap (λ (x : Taken). x.key) u.taken_is in
    let none : count_open (key_of u.q) os + count_kept (key_of u.q) ks ≡ 0 =
    omega (arith, no-open (key_of u.q) os new.open_none, no-kept (key_of u.q) ks new.kept_none) in
    by (nat_le 4096 (length os + length ks)) refl u key none u.room
  where
    none-found : (o : Option OpenRequest) → is_some o ≡ false → o ≡ None
    none-found None f = refl
    none-found (Some x) f = absurd (cc)

    by : (b : Bool) → nat_le 4096 (length os + length ks) ≡ b → (u : TakesUp own os ks n octets random t) → t.key ≡ key_of u.q
        → count_open (key_of u.q) os + count_kept (key_of u.q) ks ≡ 0 → (b || list_any (has_identifier (n % 256)) os) ≡ false → MayTake os ks n t
    by true f u key none room = absurd (cc)
    by false f u key none room = record {
      number = ap (λ (x : Taken). x.number) u.taken_is;
      key = ap (λ k. count_open k os + count_kept k ks) key ∙ none;
      few = grind arith;
      free = none-found (find (has_identifier (n % 256)) os) (find-any (has_identifier (n % 256)) os ∙ room);
    }

-- ---- what is taken up has the next number

fresh-by : (d : Deed) (n : ℕ) → ((t : Taken) → d ≡ Takes t → t.number ≡ n) → IsFresh d n
fresh-by Nothing n f = tt
fresh-by (Takes t) n f = f t refl
fresh-by (Repeats k hop) n f = tt
fresh-by (Closes t answer) n f = tt
fresh-by Ticks n f = tt

-- a reply takes none up

abbrev pub IsNoTake : Deed → Type 0
IsNoTake Nothing = Unit {0}
IsNoTake (Takes t) = ⊥
IsNoTake (Repeats k hop) = Unit {0}
IsNoTake (Closes t answer) = Unit {0}
IsNoTake Ticks = Unit {0}

fresh-none : (d : Deed) (n : ℕ) → IsNoTake d → IsFresh d n
fresh-none Nothing n is = tt
fresh-none (Takes t) n is = absurd is
fresh-none (Repeats k hop) n is = tt
fresh-none (Closes t answer) n is = tt
fresh-none Ticks n is = tt

none-answered : (own : Reverse) (t : Taken) (p : PacketParts) (o : Option AskedParts) → IsNoTake (answered own t p o).deed
none-answered own t p None = tt
none-answered own t p (Some q) =
    elim (is_authentic_reply own t q p) as (λ b. IsNoTake (cond b (record { deed = Closes t (answer_of own q p); outputs = Answer (answer_of own q p) ∷ [] }) (says (Dropped StrangeReply))).deed) [
      | true ↦ tt
      | false ↦ tt
    ]

none-matched : (own : Reverse) (p : PacketParts) (o : Option OpenRequest) → IsNoTake (matched own p o).deed
none-matched own p None = tt
none-matched own p (Some o) = none-answered own o.taken p (request_in o.taken.request)

none-packet : (own : Reverse) (os : List OpenRequest) (r : Result PacketParts PacketFault) → IsNoTake (on_packet own os r).deed
none-packet own os (Err fault) = tt
none-packet own os (Ok p) = none-matched own p (find (has_identifier p.id) os)

pub none-reply : (own : Reverse) (os : List OpenRequest) (octets : List ℕ) → IsNoTake (on_reply own os octets).deed
none-reply own os octets = none-packet own os (read_packet octets)

pub fresh-input : (own : Reverse) (os : List OpenRequest) (ks : List KeptAnswer) (n at : ℕ) (input : ReverseInput) → IsFresh (on_input own os ks n at input).deed n
fresh-input own os ks n at (inputs.Request octets random) =
    fresh-by (on_request own os ks n octets random).deed n (λ t e. (may-take own os ks n octets random t e).number)
fresh-input own os ks n at (inputs.Reply octets) = fresh-none (on_reply own os octets).deed n (none-reply own os octets)
fresh-input own os ks n at inputs.Tick = tt
