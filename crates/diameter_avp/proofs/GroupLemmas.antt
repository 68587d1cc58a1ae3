-- What ending a group makes of a writer's octets.
use Rattle.std.proofs.Common.{◌≡◌, ℕ, ◌+◌, ◌-◌, ◌^◌, ◌<◌, Bool, List, [], ◌∷◌, ◌++◌, length, take, drop, replicate, None, refl, sym, ap, ap₂, ◌∙◌, append_assoc, arith}
use Rattle.std.proofs.Math.Seq.{take-append-add, drop-append-add}
use Rattle.std.proofs.lemmas.List.{append-nil, length-append, length-replicate, take_at, drop_at, take-append-drop, length-take-le}
use Rattle.wire_core.specs.Numbers.{u24, u32}
use Rattle.diameter_avp.specs.Avps.{AvpParts, padding, bare_text, avp_text, avps_text, IsAvp, BeginsWith, IsAvps, made}
use Rattle.diameter_avp.specs.Writer.{WriterParts, with_avp, GroupParts, while_open, once_ended, IsOpen, list_behind, written, IsWritten}
use Rattle.diameter_avp.proofs.TextLemmas.{readable_avps-IsAvps}
use Rattle.diameter_avp.proofs.CallerLemmas.{avps_text-append, avps_text-push, length-avps_text}
use Rattle.diameter_avp.proofs.WriterLemmas.{IsAvps-append, IsAvps-one}

-- the octets of a group's header that say this length
abbrev header : GroupParts → ℕ → List ℕ
header g n = u32 g.code ++ (made g.code None g.mandatory []).flags ∷ u24 n

text-open : (g : GroupParts) → avps_text (while_open g) ≡ avps_text g.before ++ (header g 8 ++ avps_text g.members)
unfolding avps_text avp_text bare_text u32 u24
text-open g = avps_text-append g.before (made g.code None g.mandatory [] ∷ g.members)

text-ended-by : (g : GroupParts) (pad : ℕ) → pad ≡ 0 → header g (8 + length (avps_text g.members)) ++ avps_text g.members ++ replicate pad 0 ≡ header g (8 + length (avps_text g.members)) ++ avps_text g.members
text-ended-by g pad e = rw e (append-nil (header g (8 + length (avps_text g.members)) ++ avps_text g.members))

text-ended : (g : GroupParts) → avps_text (once_ended g) ≡ avps_text g.before ++ (header g (8 + length (avps_text g.members)) ++ avps_text g.members)
unfolding avps_text avp_text bare_text u32 u24
text-ended g =
    let none : padding (length (avps_text g.members)) ≡ 0 = omega (arith, length-avps_text g.members) in
    avps_text-append g.before (made g.code None g.mandatory (avps_text g.members) ∷ [])
    ∙ ap (λ (t : List ℕ). avps_text g.before ++ t) (append-nil _ ∙ text-ended-by g _ none)

-- the length of a header is overwritten
patched : (g : GroupParts) (first last : List ℕ) (m n q : ℕ) → q ≡ length first + 5 → take q (first ++ (header g m ++ last)) ++ u24 n ++ drop (q + 3) (first ++ (header g m ++ last)) ≡ first ++ (header g n ++ last)
unfolding u32 u24
patched g first last m n q e =
    let tail = header g m ++ last in
    let front : take q (first ++ tail) ≡ first ++ take 5 tail = rw e (take-append-add first tail 5) in
    let behind : drop (q + 3) (first ++ tail) ≡ drop 8 tail = ap (λ (i : ℕ). drop i (first ++ tail)) (omega arith) ∙ drop-append-add first tail 8 in
    rw (front, behind) (append_assoc (first ++ take 5 tail) (u24 n) last ∙ append_assoc first (take 5 tail) (u24 n ++ last))

-- ---- the lists

-- the AVPs before others, with zeros as their padding, and the others
IsAvps-split : (octets : List ℕ) (xs ys : List AvpParts) → IsAvps octets (xs ++ ys) → (second : List ℕ) × IsAvps (avps_text xs) xs × IsAvps second ys
unfolding IsAvps avps_text avp_text
IsAvps-split octets [] ys is = (octets, refl, is)
IsAvps-split octets (a ∷ xs) ys is =
    let more = IsAvps-split is.0 xs ys is.2 in
    let pad : List ℕ = replicate (padding (length a.body)) 0 in
    let begins : BeginsWith (avp_text a ++ avps_text xs) a (avps_text xs) = record { avp = is.1.avp; pad = pad; padded = length-replicate (padding (length a.body)) 0; text = refl } in
    (more.0, (avps_text xs, begins, more.1), more.2)

-- a group with a body is an AVP as the empty one is
IsAvp-ended : (g : GroupParts) → IsAvp (made g.code None g.mandatory []) → 8 + length (avps_text g.members) < 2 ^ 24 → IsAvp (made g.code None g.mandatory (avps_text g.members))
IsAvp-ended g is counted = record { code = is.code; flags = is.flags; vendor_flag = is.vendor_flag; vendor = tt; counted = counted }

IsAvps-ended : (octets : List ℕ) (g : GroupParts) → IsAvps octets (while_open g) → 8 + length (avps_text g.members) < 2 ^ 24 → IsAvps (avps_text (once_ended g)) (once_ended g)
unfolding IsAvps
IsAvps-ended octets g is counted =
    let parts = IsAvps-split octets g.before (made g.code None g.mandatory [] ∷ g.members) is in
    let ended = made g.code None g.mandatory (avps_text g.members) in
    let one = IsAvps-one ended (IsAvp-ended g parts.2.1.avp counted) in
    rw (avps_text-push g.before ended) (IsAvps-append _ _ _ _ parts.1 one)

-- ---- the writer

length-header : (g : GroupParts) (n : ℕ) → length (header g n) ≡ 8
unfolding u32 u24
length-header g n = refl

module _ (front : ℕ) (octets : List ℕ) (w : WriterParts) (place : ℕ) (g : GroupParts) (is : IsWritten front octets) (view : written front octets ≡ w) (stands : IsOpen w.list place g) where
  abbrev first : List ℕ
  first = take front octets ++ avps_text g.before

  list : list_behind front octets ≡ while_open g
  list = ap (λ (x : WriterParts). x.list) view ∙ stands.list

  split : octets ≡ first ++ (header g 8 ++ avps_text g.members)
  split =
      sym (take-append-drop front octets)
      ∙ ap (λ (t : List ℕ). take front octets ++ t) (is.text ∙ ap avps_text list ∙ text-open g)
      ∙ sym (append_assoc (take front octets) (avps_text g.before) (header g 8 ++ avps_text g.members))

  length-front : length (take front octets) ≡ front
  length-front = length-take-le front octets is.begun

  length-first : length first ≡ front + place
  length-first = omega (arith, length-append (take front octets) (avps_text g.before), length-front, stands.place)

  -- the group's header, and its members, are inside
  pub length-open : length octets ≡ front + place + 8 + length (avps_text g.members)
  length-open =
      omega (arith, ap length split, length-append first (header g 8 ++ avps_text g.members), length-append (header g 8) (avps_text g.members), length-header g 8, length-first)

  text : (new : List ℕ) (n q : ℕ) → q ≡ front + place + 5 → n ≡ length octets - (front + place) → new ≡ take q octets ++ u24 n ++ drop (q + 3) octets → new ≡ take front octets ++ avps_text (once_ended g)
  text new n q at counts e =
      let body = avps_text g.members in
      let long : n ≡ 8 + length body = omega (arith, length-open) in
      e
      ∙ ap (λ (t : List ℕ). take q t ++ u24 n ++ drop (q + 3) t) split
      ∙ patched g first body 8 n q (omega (arith, length-first))
      ∙ ap (λ (k : ℕ). first ++ (header g k ++ body)) long
      ∙ append_assoc (take front octets) (avps_text g.before) (header g (8 + length body) ++ body)
      ∙ ap (λ (t : List ℕ). take front octets ++ t) (sym (text-ended g))

  -- a group that is ended is written
  pub IsWritten-ended : (new : List ℕ) (n q : ℕ) → q ≡ front + place + 5 → n ≡ length octets - (front + place) → new ≡ take q octets ++ u24 n ++ drop (q + 3) octets → IsWritten front new × (written front new ≡ record w { list = once_ended g })
  IsWritten-ended new n q at counts e =
      let is-text = text new n q at counts e in
      let behind : drop front new ≡ avps_text (once_ended g) = rw is-text (drop_at (take front octets) (avps_text (once_ended g)) front length-front) in
      let begin : take front new ≡ w.front = rw is-text (take_at (take front octets) (avps_text (once_ended g)) front length-front) ∙ ap (λ (x : WriterParts). x.front) view in
      let avps : IsAvps (avps_text (once_ended g)) (once_ended g) = IsAvps-ended (drop front octets) g (rw list at is.avps) (omega (arith, length-open, is.short, is.low)) in
      let ended : list_behind front new ≡ once_ended g = rw behind (readable_avps-IsAvps _ _ avps) in
      let long : length new ≡ length octets =
      omega (arith, ap length is-text, length-append (take front octets) (avps_text (once_ended g)), length-front, ap length (text-ended g), length-append (avps_text g.before) (header g (8 + length (avps_text g.members)) ++ avps_text g.members), length-append (header g (8 + length (avps_text g.members))) (avps_text g.members), length-header g (8 + length (avps_text g.members)), length-open, stands.place) in (
        record { begun = omega (arith, is.begun); low = is.low; short = omega (arith, is.short); avps = rw (ended, behind) avps; text = rw ended behind },
        ap₂ (λ (f : List ℕ) (l : List AvpParts). let x : WriterParts = record { front = f; list = l } in x) begin ended,
      )

-- ---- for callers: a group that is begun, what is put into it, and a group inside it that is ended

abbrev pub begun_group : List AvpParts → ℕ → Bool → GroupParts
begun_group before code mandatory = record { before = before; code = code; mandatory = mandatory; members = [] }

abbrev pub with_member : GroupParts → AvpParts → GroupParts
with_member g a = record g { members = g.members ++ a ∷ [] }

pub IsOpen-begun : (old new : WriterParts) (code : ℕ) (mandatory : Bool) (place : ℕ) → new ≡ with_avp old (made code None mandatory []) → place ≡ length (avps_text old.list) → IsOpen new.list place (begun_group old.list code mandatory)
IsOpen-begun old new code mandatory place e at = record { list = ap (λ (w : WriterParts). w.list) e; place = at }

pub IsOpen-put : (old new : WriterParts) (a : AvpParts) (place : ℕ) (g : GroupParts) → new ≡ with_avp old a → IsOpen old.list place g → IsOpen new.list place (with_member g a)
IsOpen-put old new a place g e is =
    record {
      list =
          ap (λ (w : WriterParts). w.list) e
          ∙ ap (λ (l : List AvpParts). l ++ a ∷ []) is.list
          ∙ append_assoc g.before (made g.code None g.mandatory [] ∷ g.members) (a ∷ []);
      place = is.place;
    }

pub IsOpen-ended : (old new : WriterParts) (place : ℕ) (g inner : GroupParts) → new ≡ record old { list = once_ended inner } → inner.before ≡ while_open g → place ≡ length (avps_text g.before) → IsOpen new.list place (with_member g (made inner.code None inner.mandatory (avps_text inner.members)))
IsOpen-ended old new place g inner e inside at =
    let a = made inner.code None inner.mandatory (avps_text inner.members) in
    record {
      list =
          ap (λ (w : WriterParts). w.list) e
          ∙ ap (λ (l : List AvpParts). l ++ a ∷ []) inside
          ∙ append_assoc g.before (made g.code None g.mandatory [] ∷ g.members) (a ∷ []);
      place = at;
    }
