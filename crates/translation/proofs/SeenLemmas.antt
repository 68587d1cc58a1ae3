-- What a pass over the attributes has seen is what stands before.
use Rattle.std.proofs.Common.{◌≡◌, ℕ, ◌≤◌, ◌<◌, ◌≢◌, Bool, true, false, eqb, ◌&&◌, ◌||◌, inl, inr, List, [], ◌∷◌, ◌++◌, length, get_or, set, take, replicate, Option, Some, None, refl, sym, ap, subst, ◌∙◌, arith, get_or-set_same, get_or-set_other}
use Rattle.std.specs.List.{list_any}
use Rattle.std.proofs.lemmas.Bool.{cases_Bool, cases_lt}
use Rattle.std.proofs.lemmas.Bool.Decides.{eqb_tells}
use Rattle.std.proofs.lemmas.List.{get_or-replicate, get_or_past}
use Rattle.radius_packet.specs.Packet.{AttributeParts}
use Rattle.tunnel_map.specs.Tagged.{TaggedParts, reading}
use Rattle.tunnel_map.specs.Groups.{group}
use Rattle.translation.specs.declared.direction.Direction.{Direction}
use Rattle.translation.specs.declared.seen.Seen.{Seen}
use Rattle.translation.proofs.PlaceLemmas.{any-push, any-here, any-before, take-before, first-alone}
use Rattle.translation.proofs.TagLemmas.{tags-size, reading-tag, reading-carrier, reading-vendor}
use Rattle.translation.specs.Images.{carrier_code, carries_session, is_carrier, is_some_tagged, is_tagged, tunnel_or_row, common_piece}
use Rattle.translation.specs.Passing.{has_seen, tunnel_or_row_after, common_after, tags_with, nothing, noted}

-- ---- what was seen

-- What stood before is what was seen.
pub record Saw (direction : Direction) (seen : Seen) (before : List AttributeParts) : Type 0 where
  pub carrier : seen.carrier ≡ list_any (is_carrier direction) before
  pub size : length seen.tags ≡ 32
  pub tags : (tag : ℕ) → tag ≤ 31 → has_seen seen.tags tag ≡ list_any (is_tagged tag) before

none-seen : (tag : ℕ) → get_or (replicate 32 false) tag false ≡ false
none-seen tag =
    elim (cases_lt tag 32) [
      | inl inside ↦ get_or-replicate 32 tag false false inside
      | inr past ↦ get_or_past (replicate 32 false) tag false past
    ]

pub Saw-nothing : (direction : Direction) → Saw direction nothing []
Saw-nothing direction = record { carrier = refl; size = refl; tags = λ tag small. none-seen tag }

carrier-more : (direction : Direction) (before : List AttributeParts) (a : AttributeParts) (b : Bool) → b ≡ list_any (is_carrier direction) before → eqb a.code (carrier_code direction) ≡ true
    → (b || carries_session direction a.value) ≡ list_any (is_carrier direction) (before ++ a ∷ [])
carrier-more direction before a b e is =
    ap (λ (x : Bool). x || carries_session direction a.value) e
    ∙ ap (λ (x : Bool). list_any (is_carrier direction) before || (x && carries_session direction a.value)) (sym is)
    ∙ sym (any-push (is_carrier direction) before a)

tags-next : (tags : List Bool) (r : Option TaggedParts) (before : List AttributeParts) (a : AttributeParts) → reading a.code a.value ≡ r → length tags ≡ 32
    → ((tag : ℕ) → tag ≤ 31 → has_seen tags tag ≡ list_any (is_tagged tag) before)
    → (tag : ℕ) → tag ≤ 31 → has_seen (tags_with tags r) tag ≡ list_any (is_tagged tag) (before ++ a ∷ [])
tags-next tags None before a read size saw tag small = any-before (is_tagged tag) before a (has_seen tags tag) (saw tag small) (ap (is_some_tagged tag) read)
tags-next tags (Some t) before a read size saw tag small =
    let inside : t.tag < length tags = omega (arith, reading-tag a.code a.value t read) in
    elim (eqb_tells t.tag tag) [
      | inl same ↦ subst (λ (n : ℕ). get_or (set tags n true) tag false ≡ list_any (is_tagged tag) (before ++ a ∷ [])) (sym same.1)
          (let within : tag < length tags = omega (arith, same.1) in
          get_or-set_same tags tag true false within ∙ any-here (is_tagged tag) before a (ap (is_some_tagged tag) read ∙ same.0))
      | inr differs ↦ (let other : tag ≢ t.tag = λ e. differs.1 (sym e) in
          get_or-set_other tags t.tag tag true false other ∙ any-before (is_tagged tag) before a (has_seen tags tag) (saw tag small) (ap (is_some_tagged tag) read ∙ differs.0))
    ]

untagged : (tag : ℕ) (a : AttributeParts) → reading a.code a.value ≡ None → is_tagged tag a ≡ false
untagged tag a e = ap (is_some_tagged tag) e

-- an attribute that neither carries a session nor is tagged
pub Saw-passed : (direction : Direction) (seen : Seen) (before : List AttributeParts) (a : AttributeParts) → eqb a.code (carrier_code direction) ≡ false → reading a.code a.value ≡ None
    → Saw direction seen before → Saw direction seen (before ++ a ∷ [])
Saw-passed direction seen before a plain read saw = record {
  carrier = any-before (is_carrier direction) before a seen.carrier saw.carrier (rw plain refl);
  size = saw.size;
  tags = λ tag small. any-before (is_tagged tag) before a (has_seen seen.tags tag) (saw.tags tag small) (untagged tag a read);
}

pub Saw-next : (direction : Direction) (seen : Seen) (before : List AttributeParts) (a : AttributeParts) → Saw direction seen before → Saw direction (noted direction seen a) (before ++ a ∷ [])
unfolding noted
Saw-next direction seen before a saw =
    elim (cases_Bool (eqb a.code (carrier_code direction))) [
      | inl carrier ↦ rw carrier (record {
        carrier = carrier-more direction before a seen.carrier saw.carrier carrier;
        size = saw.size;
        tags = λ tag small. any-before (is_tagged tag) before a (has_seen seen.tags tag) (saw.tags tag small) (untagged tag a (reading-carrier direction a.code a.value carrier));
      })
      | inr plain ↦
          elim (cases_Bool (eqb a.code 26)) [
            | inl vendor ↦ rw (plain, vendor) (record {
              carrier = any-before (is_carrier direction) before a seen.carrier saw.carrier (rw plain refl);
              size = saw.size;
              tags = λ tag small. any-before (is_tagged tag) before a (has_seen seen.tags tag) (saw.tags tag small) (untagged tag a (reading-vendor a.code a.value vendor));
            })
            | inr other ↦ rw (plain, other) (record {
              carrier = any-before (is_carrier direction) before a seen.carrier saw.carrier (rw plain refl);
              size = tags-size seen.tags (reading a.code a.value) ∙ saw.size;
              tags = tags-next seen.tags (reading a.code a.value) before a refl saw.size saw.tags;
            })
          ]
    ]

-- ---- the same pieces

tunnel_or_row-same : (direction : Direction) (all : List AttributeParts) (tags : List Bool) (k : ℕ) (a : AttributeParts) (r : Option TaggedParts) → reading a.code a.value ≡ r
    → ((tag : ℕ) → tag ≤ 31 → has_seen tags tag ≡ list_any (is_tagged tag) (take k all))
    → tunnel_or_row_after direction all tags a r ≡ tunnel_or_row direction all k a r
tunnel_or_row-same direction all tags k a None read saw = refl
tunnel_or_row-same direction all tags k a (Some t) read saw = first-alone _ _ (group t.tag all ∷ []) (saw t.tag (reading-tag a.code a.value t read))

pub Saw-same : (direction : Direction) (all : List AttributeParts) (seen : Seen) (before rest : List AttributeParts) (a : AttributeParts) → Saw direction seen before → before ++ a ∷ rest ≡ all
    → common_after direction all seen a ≡ common_piece direction all (length before) a
unfolding common_after common_piece
Saw-same direction all seen before rest a saw e =
    let stood : before ≡ take (length before) all = take-before all before rest a e in
    let carrier : seen.carrier ≡ list_any (is_carrier direction) (take (length before) all) = saw.carrier ∙ ap (list_any (is_carrier direction)) stood in
    elim (cases_Bool (eqb a.code (carrier_code direction))) [
      | inl is ↦ rw (is, carrier) refl
      | inr plain ↦
          elim (cases_Bool (eqb a.code 26)) [
            | inl vendor ↦ rw (plain, vendor) refl
            | inr other ↦ rw (plain, other) (tunnel_or_row-same direction all seen.tags (length before) a _ refl (λ tag small. saw.tags tag small ∙ ap (list_any (is_tagged tag)) stood))
          ]
    ]
