-- The images of AVPs by place, and one after the other.
use Rattle.std.proofs.Common.{◌≡◌, ℕ, ◌+◌, ◌<◌, ◌⊎◌, inl, inr, Bool, true, false, cond, ◌&&◌, ◌||◌, List, [], ◌∷◌, ◌++◌, length, not, refl, sym, ap, subst, ◌∙◌, append_assoc, arith}
use Rattle.std.specs.Prelude.{min, nat_le, nat_lt, count_by, Option, Some, None}
use Rattle.std.specs.List.{flat_map, list_any, enumerate_from}
use Rattle.std.proofs.lemmas.List.{take_at, length-append}
use Rattle.std.proofs.lemmas.List.Sums.{sum_by-append}
use Rattle.std.proofs.lemmas.Bool.{lt-ltb, leb-true, leb-false}
use Rattle.radius_packet.specs.Packet.{AttributeParts}
use Rattle.radius_packet.specs.Seals.{ReplyParts}
use Rattle.diameter_avp.specs.Avps.{AvpParts, is_mandatory}
use Rattle.attribute_table.specs.Rows.{row_of_avp}
use Rattle.tunnel_map.specs.Groups.{group_fault}
use Rattle.tunnel_map.specs.declared.fault.TunnelFault.{TunnelFault}
use Rattle.tunnel_map.specs.RoundTrip.{is_group}
use Rattle.translation.specs.declared.class.Class.{Class}
use Rattle.translation.specs.Reading.{group_number, takes_groups, is_faulty}
use Rattle.translation.specs.Replies.{image, image_of, row_attributes, sound_group}
use Rattle.translation.specs.Pushing.{next_number, images_from, fault_from}
use Rattle.translation.proofs.PushingLemmas.{Leads, strict_split}

-- the number of a group behind these AVPs, where numbers past 255 count as 255
abbrev pub number_behind : List AvpParts → ℕ
number_behind before = min (count_by is_group before + 1) 255

-- ---- numbers past 255

-- past 31 all groups are one too many
too_many : (n : ℕ) (body : List ℕ) → 31 < n → group_fault n body ≡ group_fault 32 body
too_many n body h = let e : nat_lt 31 n ≡ true = lt-ltb _ _ h in rw e refl

same_fault-by : (n m : ℕ) (body : List ℕ) → (m ≡ n) ⊎ ((31 < n) × (31 < m)) → group_fault m body ≡ group_fault n body
same_fault-by n m body (inl e) = ap (λ (k : ℕ). group_fault k body) e
same_fault-by n m body (inr h) = too_many m body h.1 ∙ sym (too_many n body h.0)

-- a number below 256 is its own, and others are past 31 both ways
capped : (n : ℕ) → (min n 255 ≡ n) ⊎ ((31 < n) × (31 < min n 255))
capped n = capped-by n (nat_le n 255) refl
  where
    capped-by : (n : ℕ) (b : Bool) → nat_le n 255 ≡ b → (min n 255 ≡ n) ⊎ ((31 < n) × (31 < min n 255))
    capped-by n true e = let h = leb-true _ _ e in inl (omega arith)
    capped-by n false e = let h = leb-false _ _ e in inr (omega arith, omega arith)

sound_group-by : (n m : ℕ) (body : List ℕ) → (m ≡ n) ⊎ ((31 < n) × (31 < m)) → sound_group (group_fault m body) m body ≡ sound_group (group_fault n body) n body
sound_group-by n m body (inl e) = ap (λ (k : ℕ). sound_group (group_fault k body) k body) e
sound_group-by n m body (inr h) =
    ap (λ (f : Option TunnelFault). sound_group f m body) (too_many m body h.1)
    ∙ sym (ap (λ (f : Option TunnelFault). sound_group f n body) (too_many n body h.0))

same_image-by : (vendor : Option ℕ) (class : Class) (n : ℕ) (a : AvpParts) → image_of vendor class (min n 255) a ≡ image_of vendor class n a
same_image-by None class n a =
    ap (λ (list : List AttributeParts). row_attributes class (row_of_avp a.code) a.body ++ cond (takes_groups class && is_group a) list []) (sound_group-by n (min n 255) a.body (capped n))
same_image-by (Some vendor) class n a = refl

pub same_image : (class : Class) (n : ℕ) (a : AvpParts) → image class (min n 255) a ≡ image class n a
same_image class n a = same_image-by a.vendor class n a

pub same_faulty : (class : Class) (n : ℕ) (a : AvpParts) → is_faulty class (min n 255) a ≡ is_faulty class n a
same_faulty class n a = rw (same_fault-by n (min n 255) a.body (capped n)) refl

-- ---- one AVP more

group_number_at : (before rest : List AvpParts) → group_number (before ++ rest) (length before) ≡ count_by is_group before + 1
group_number_at before rest = ap (λ (avps : List AvpParts). count_by is_group avps + 1) (take_at before rest (length before) refl)

zero_or_one : (b : Bool) → 0 + cond b 1 0 ≡ cond b 1 0
zero_or_one true = refl
zero_or_one false = refl

count_more : (before : List AvpParts) (a : AvpParts) → count_by is_group (before ++ a ∷ []) ≡ count_by is_group before + cond (is_group a) 1 0
count_more before a =
    sum_by-append (λ x. cond (is_group x) 1 0) before (a ∷ []) ∙ ap (λ (n : ℕ). count_by is_group before + n) (zero_or_one (is_group a))

number_more-by : (n : ℕ) (b : Bool) → min (n + cond b 1 0 + 1) 255 ≡ cond b (min (min (n + 1) 255 + 1) 255) (min (n + 1) 255)
number_more-by n true = omega arith
number_more-by n false = omega arith

number_more : (before : List AvpParts) (a : AvpParts) → number_behind (before ++ a ∷ []) ≡ next_number (number_behind before) a
number_more before a =
    ap (λ (n : ℕ). min (n + 1) 255) (count_more before a) ∙ number_more-by (count_by is_group before) (is_group a)

-- ---- by place

all_again : (before rest : List AvpParts) (a : AvpParts) → (before ++ a ∷ []) ++ rest ≡ before ++ a ∷ rest
all_again before rest a = append_assoc before (a ∷ []) rest

length_more : (before : List AvpParts) (a : AvpParts) → length (before ++ a ∷ []) ≡ length before + 1
length_more before a = length-append before (a ∷ [])

pub images_by_place : (class : Class) (before rest : List AvpParts) → images_from class (number_behind before) rest ≡ flat_map (λ p. image class (group_number (before ++ rest) p.0) p.1) (enumerate_from (length before) rest)
images_by_place class before [] = refl
images_by_place class before (a ∷ rest) =
    let here : image class (number_behind before) a ≡ image class (group_number (before ++ a ∷ rest) (length before)) a =
    same_image class (count_by is_group before + 1) a ∙ ap (λ (n : ℕ). image class n a) (sym (group_number_at before (a ∷ rest))) in
    let further = images_by_place class (before ++ a ∷ []) rest in
    let there : images_from class (next_number (number_behind before) a) rest ≡ flat_map (λ p. image class (group_number (before ++ a ∷ rest) p.0) p.1) (enumerate_from (length before + 1) rest) =
    ap (λ (n : ℕ). images_from class n rest) (sym (number_more before a))
    ∙ further
    ∙ ap (λ (avps : List AvpParts). flat_map (λ p. image class (group_number avps p.0) p.1) (enumerate_from (length (before ++ a ∷ [])) rest)) (all_again before rest a)
    ∙ ap (λ (k : ℕ). flat_map (λ p. image class (group_number (before ++ a ∷ rest) p.0) p.1) (enumerate_from k rest)) (length_more before a) in
    ap (λ (list : List AttributeParts). list ++ images_from class (next_number (number_behind before) a) rest) here
    ∙ ap (λ (list : List AttributeParts). image class (group_number (before ++ a ∷ rest) (length before)) a ++ list) there

pub fault_by_place : (class : Class) (before rest : List AvpParts) → fault_from class (number_behind before) rest ≡ list_any (λ p. is_mandatory p.1 && is_faulty class (group_number (before ++ rest) p.0) p.1) (enumerate_from (length before) rest)
fault_by_place class before [] = refl
fault_by_place class before (a ∷ rest) =
    let here : is_faulty class (number_behind before) a ≡ is_faulty class (group_number (before ++ a ∷ rest) (length before)) a =
    same_faulty class (count_by is_group before + 1) a ∙ ap (λ (n : ℕ). is_faulty class n a) (sym (group_number_at before (a ∷ rest))) in
    let further = fault_by_place class (before ++ a ∷ []) rest in
    let there : fault_from class (next_number (number_behind before) a) rest ≡ list_any (λ p. is_mandatory p.1 && is_faulty class (group_number (before ++ a ∷ rest) p.0) p.1) (enumerate_from (length before + 1) rest) =
    ap (λ (n : ℕ). fault_from class n rest) (sym (number_more before a))
    ∙ further
    ∙ ap (λ (avps : List AvpParts). list_any (λ p. is_mandatory p.1 && is_faulty class (group_number avps p.0) p.1) (enumerate_from (length (before ++ a ∷ [])) rest)) (all_again before rest a)
    ∙ ap (λ (k : ℕ). list_any (λ p. is_mandatory p.1 && is_faulty class (group_number (before ++ a ∷ rest) p.0) p.1) (enumerate_from k rest)) (length_more before a) in
    ap (λ (b : Bool). (is_mandatory a && b) || fault_from class (next_number (number_behind before) a) rest) here
    ∙ ap (λ (b : Bool). (is_mandatory a && is_faulty class (group_number (before ++ a ∷ rest) (length before)) a) || b) there

-- ---- one turn of the loop

pub images_turn : (old mid : ReplyParts) (good strict : Bool) (class : Class) (number : ℕ) (all : List AttributeParts) (list rest : List AvpParts) (a : AvpParts) → Leads old mid good (not (strict && fault_from class number list)) all (images_from class number list) → list ≡ a ∷ rest
    → Leads old mid good (not ((strict && is_mandatory a) && is_faulty class number a) && not (strict && fault_from class (next_number number a) rest)) all (image class number a ++ images_from class (next_number number a) rest)
images_turn old mid good strict class number all list rest a l e =
    let turned = subst (λ (avps : List AvpParts). Leads old mid good (not (strict && fault_from class number avps)) all (images_from class number avps)) e l in
    subst (λ (b : Bool). Leads old mid good b all (image class number a ++ images_from class (next_number number a) rest))
    (strict_split strict (is_mandatory a) (is_faulty class number a) (fault_from class (next_number number a) rest)) turned
