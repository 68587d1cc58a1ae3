-- A group of three members that is written, and has room.
use Rattle.std.proofs.Common.{◌≡◌, ℕ, ◌+◌, ◌≤◌, true, List, [], ◌∷◌, ◌++◌, length, take, drop, None, refl, ap, ◌∙◌, append_assoc, arith}
use Rattle.std.proofs.lemmas.List.{length-take}
use Rattle.wire_core.specs.Numbers.{u32}
use Rattle.diameter_avp.specs.Avps.{AvpParts, avp_text, avps_text, made}
use Rattle.diameter_avp.specs.Writer.{WriterParts, GroupParts, once_ended, IsOpen}
use Rattle.diameter_avp.proofs.CallerLemmas.{length-avp_text}
use Rattle.diameter_message.specs.Writer.{MessageWriterParts, list_length, with_avps}
use Rattle.diameter_message.specs.PlainAvps.{plain_avp}
use Rattle.translation.proofs.SizeLemmas.{size, size-cons, size-nil, size-append}
use Rattle.access_map.specs.Requests.{chap_members, chap_avp}

abbrev empty_group : AvpParts
empty_group = made 402 None true []

-- ---- room

-- the first members, behind the group that is open, are no longer than the group that is ended
pub room-open : (list some rest : List AvpParts) → size (list ++ made 402 None true (avps_text (some ++ rest)) ∷ []) ≤ 65516 → size list + 8 + size some ≤ 65516
room-open list some rest room =
    let whole : AvpParts = made 402 None true (avps_text (some ++ rest)) in
    omega (arith, room, size-append list (whole ∷ []), size-cons whole [], size-nil, length-avp_text whole, size-append some rest)

pub opened-size : (list : List AvpParts) → size (list ++ empty_group ∷ []) ≡ size list + 8
opened-size list = omega (arith, size-append list (empty_group ∷ []), size-cons empty_group [], size-nil, length-avp_text empty_group)

four : length (u32 5) ≡ 4
unfolding u32
four = refl

number-size : length (avp_text (plain_avp 403 (u32 5))) ≡ 12
number-size = omega (arith, length-avp_text (plain_avp 403 (u32 5)), four)

pub begin-room : (list : List AvpParts) (value : List ℕ) → size (list ++ chap_avp value ∷ []) ≤ 65516 → size (list ++ empty_group ∷ []) ≤ 65516
begin-room list value room = omega (arith, room-open list [] (chap_members value) room, opened-size list)

pub number-room : (list : List AvpParts) (value : List ℕ) → 1 ≤ length value → size (list ++ chap_avp value ∷ []) ≤ 65516 → size (list ++ empty_group ∷ []) + 15 ≤ 65516
number-room list value some room =
    let number = plain_avp 403 (u32 5) in
    let ident = plain_avp 404 (take 1 value) in
    omega (
      arith,
      room-open list (number ∷ ident ∷ []) (plain_avp 405 (drop 1 value) ∷ []) room,
      opened-size list,
      size-cons number (ident ∷ []),
      size-cons ident [],
      number-size,
      length-avp_text ident,
      length-take 1 value,
    )

-- ---- what is put

pub more : (v w new : MessageWriterParts) (some others : List AvpParts) → w ≡ with_avps v some → new ≡ with_avps w others → new ≡ with_avps v (some ++ others)
more v w new some others first second =
    second ∙ ap (λ x. with_avps x others) first
    ∙ ap (λ (list : List AvpParts). with_avps (record v { avps = record v.avps { list = [] } }) list) (append_assoc v.avps.list some others)

pub room-at : (w new : MessageWriterParts) (value : List ℕ) (some more rest : List AvpParts) → new ≡ with_avps w (empty_group ∷ some) → some ++ more ++ rest ≡ chap_members value → size (w.avps.list ++ chap_avp value ∷ []) ≤ 65516 → size (new.avps.list ++ more) ≤ 65516
room-at w new value some more rest put parts room =
    let room' : size (w.avps.list ++ made 402 None true (avps_text ((some ++ more) ++ rest)) ∷ []) ≤ 65516 = rw parts room in
    omega (
      arith,
      room-open w.avps.list (some ++ more) rest room',
      size-append some more,
      size-append new.avps.list more,
      ap (λ (x : MessageWriterParts). size x.avps.list) put,
      size-append w.avps.list (empty_group ∷ some),
      size-cons empty_group some,
      length-avp_text empty_group,
    )

abbrev pub group_of : MessageWriterParts → List AvpParts → GroupParts
group_of w members = record { before = w.avps.list; code = 402; mandatory = true; members = members }

pub IsOpen-filled : (w mid : MessageWriterParts) (out : WriterParts) (members : List AvpParts) (place : ℕ) → mid ≡ with_avps w (empty_group ∷ members) → out ≡ mid.avps → place ≡ list_length w → IsOpen out.list place (group_of w members)
IsOpen-filled w mid out members place put lent at =
    record { list = ap (λ (x : WriterParts). x.list) lent ∙ ap (λ (x : MessageWriterParts). x.avps.list) put; place = at }

pub ended : (w mid new : MessageWriterParts) (out out' : WriterParts) (members : List AvpParts) → mid ≡ with_avps w (empty_group ∷ members) → out ≡ mid.avps → out' ≡ record out { list = once_ended (group_of w members) } → new ≡ record mid { avps = out' }
    → new ≡ with_avps w (made 402 None true (avps_text members) ∷ [])
ended w mid new out out' members put lent closed is =
    let front : out.front ≡ w.avps.front = ap (λ (x : WriterParts). x.front) lent ∙ ap (λ (x : MessageWriterParts). x.avps.front) put in
    let header : mid.header ≡ w.header = ap (λ (x : MessageWriterParts). x.header) put in
    rw (is, closed, front, header) refl
