-- A group that is written.
use Rattle.std.proofs.Common.{◌≡◌, ℕ, ◌<◌, ◌≤◌, true, List, [], ◌∷◌, ◌++◌, length, None, sym, ap, ◌∙◌, append_assoc, arith}
use Rattle.std.specs.Prelude.{map, filter}
use Rattle.std.proofs.lemmas.List.{length-append, append-nil, map-append}
use Rattle.std.proofs.lemmas.List.Elements.{filter-append, filter_map-append}
use Rattle.radius_packet.specs.Packet.{AttributeParts}
use Rattle.diameter_avp.specs.Avps.{AvpParts, made, avp_text, avps_text}
use Rattle.diameter_avp.specs.Writer.{WriterParts, with_avp, GroupParts, once_ended, IsOpen}
use Rattle.diameter_avp.proofs.CallerLemmas.{avps_text-append, avps_text-push, length-avp_text, length-avps_text}
use Rattle.tunnel_map.specs.Tagged.{TaggedParts, reading, tagged_in}
use Rattle.tunnel_map.specs.Groups.{member, has_tag, members}
use Rattle.tunnel_map.specs.Writing.{with_avps}

-- the empty group, which is open
abbrev pub opened : WriterParts → WriterParts
opened w = with_avp w (made 401 None true [])

abbrev of_list : WriterParts → List AvpParts → WriterParts
of_list w list = record w { list = list }

-- a list isn't shorter for what is put behind it
pub longer : (first second : List AvpParts) → length (avps_text first) ≤ length (avps_text (first ++ second))
longer first second =
    omega (arith, ap length (avps_text-append first second), length-append (avps_text first) (avps_text second))

-- the group is as long while it is open as once it is ended
pub length-opened : (w : WriterParts) (avps : List AvpParts) → length (avps_text (with_avps (opened w) avps).list) ≡ length (avps_text (with_avp w (made 401 None true (avps_text avps))).list)
length-opened w avps =
    let empty : AvpParts = made 401 None true [] in
    let whole : AvpParts = made 401 None true (avps_text avps) in
    omega (
      arith,
      ap length (avps_text-append (w.list ++ empty ∷ []) avps),
      length-append (avps_text (w.list ++ empty ∷ [])) (avps_text avps),
      ap length (avps_text-push w.list empty),
      length-append (avps_text w.list) (avp_text empty),
      length-avp_text empty,
      ap length (avps_text-push w.list whole),
      length-append (avps_text w.list) (avp_text whole),
      length-avp_text whole,
      length-avps_text avps,
    )

-- what is too long already with some of its members is too long with all
pub too_long-part : (w mid : WriterParts) (some rest avps : List AvpParts) → with_avps mid (some ++ rest) ≡ with_avps (opened w) avps → 65516 < length (avps_text (with_avps mid some).list) → 65516 < length (avps_text (with_avp w (made 401 None true (avps_text avps))).list)
too_long-part w mid some rest avps e long =
    omega (arith, longer (mid.list ++ some) rest, ap (λ (list : List AvpParts). length (avps_text list)) (append_assoc mid.list some rest), ap (λ (x : WriterParts). length (avps_text x.list)) e, length-opened w avps)

abbrev pub group_of : WriterParts → List AvpParts → GroupParts
group_of w avps = record { before = w.list; code = 401; mandatory = true; members = avps }

-- all members were put into the group
pub IsOpen-filled : (w mid : WriterParts) (avps : List AvpParts) (place : ℕ) → with_avps mid [] ≡ with_avps (opened w) avps → place ≡ length (avps_text w.list) → IsOpen mid.list place (group_of w avps)
IsOpen-filled w mid avps place e at =
    record {
      list = sym (append-nil mid.list) ∙ ap (λ (x : WriterParts). x.list) e ∙ append_assoc w.list (made 401 None true [] ∷ []) avps;
      place = at;
    }

-- nothing is left, so that all members were put
pub all-put : (w begun mid : WriterParts) (tag : ℕ) (attributes left : List AttributeParts) → with_avps mid (members tag left) ≡ with_avps begun (members tag attributes) → left ≡ [] → begun ≡ opened w → with_avps mid [] ≡ with_avps (opened w) (members tag attributes)
all-put w begun mid tag attributes left e none is =
    ap (λ (rest : List AttributeParts). with_avps mid (members tag rest)) (sym none) ∙ e ∙ ap (λ (x : WriterParts). with_avps x (members tag attributes)) is

-- the empty group alone is too long already
pub too_long-opened : (w : WriterParts) (avps : List AvpParts) → 65516 < length (avps_text (opened w).list) → 65516 < length (avps_text (with_avp w (made 401 None true (avps_text avps))).list)
too_long-opened w avps long = omega (arith, longer (opened w).list avps, length-opened w avps)

-- the list once the group is ended
pub ended-filled : (w mid new : WriterParts) (avps : List AvpParts) → with_avps mid [] ≡ with_avps (opened w) avps → new ≡ record mid { list = once_ended (group_of w avps) } → new ≡ with_avp w (made 401 None true (avps_text avps))
ended-filled w mid new avps e ended =
    ended ∙ ap (λ (f : List ℕ). let x : WriterParts = record { front = f; list = once_ended (group_of w avps) } in x) (ap (λ (x : WriterParts). x.front) e)

pub short-filled : (w mid new : WriterParts) (avps : List AvpParts) → with_avps mid [] ≡ with_avps (opened w) avps → new ≡ with_avp w (made 401 None true (avps_text avps)) → length (avps_text mid.list) ≤ 65516 → length (avps_text new.list) ≤ 65516
short-filled w mid new avps e ended short =
    omega (arith, ap (λ (list : List AvpParts). length (avps_text list)) (append-nil mid.list), ap (λ (x : WriterParts). length (avps_text x.list)) e, length-opened w avps, ap (λ (x : WriterParts). length (avps_text x.list)) ended)

-- the member of the first attribute, and those of the others
pub members-first : (tag : ℕ) (a : AttributeParts) (rest : List AttributeParts) → members tag (a ∷ rest) ≡ members tag (a ∷ []) ++ members tag rest
members-first tag a rest =
    ap (λ (list : List TaggedParts). map member (filter (has_tag tag) list)) (filter_map-append (λ (x : AttributeParts). reading x.code x.value) (a ∷ []) rest)
    ∙ ap (map member) (filter-append (has_tag tag) (tagged_in (a ∷ [])) (tagged_in rest))
    ∙ map-append member (filter (has_tag tag) (tagged_in (a ∷ []))) (filter (has_tag tag) (tagged_in rest))
