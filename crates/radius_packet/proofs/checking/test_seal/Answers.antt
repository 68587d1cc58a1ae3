use Rattle.std.proofs.Common.{◌≡◌, ℕ, ◌+◌, ◌-◌, Bool, false, cond, List, ◌++◌, length, take, drop, replicate, ap, sym, ◌∙◌, refl, arith}
use Rattle.std.specs.Prelude.{nat_eq}
use Rattle.std.specs.List.{list_any}
use Rattle.std.specs.Cmp.Lexicographic.{pointwise}
use Rattle.std.proofs.lemmas.List.{take_rest}
use Rattle.hmac_md5.specs.Hmac.{hmac_of}
use Rattle.wire_core.specs.Numbers.{octets_at}
use Rattle.radius_packet.specs.Packet.{AttributeParts, PacketParts, attributes_text, attributes_in}
use Rattle.radius_packet.specs.Checks.{is_seal, seal_of, SealAt, with_authenticator}
use Rattle.radius_packet.specs.declared.checking.Seal.TheVariants.{Right, Wrong}
use Rattle.radius_packet.proofs.Reading.{attributes_in-text}
use Rattle.radius_packet.proofs.SealTests.{size_at, room_at, after_at, wrong_size, another, alone}
use Rattle.radius_packet.proofs.checking.test_seal.Goals as goal
use Rattle.radius_packet.proofs.checking.test_seal.Goals.{then-end-place-via-then-end-place, then-end-place-via-else-end-place+then-has_seal}

pub overflow_add-end : goal.overflow_add-end
overflow_add-end c =
    let s = c.requires.1 in
    omega (arith, room_at _ _ _ s, size_at _ _ _ s, s.packet.most)

pub bounds-octets-place : goal.bounds-octets-place
bounds-octets-place c = omega (arith, room_at _ _ _ c.requires.1)

pub overflow_add-place : goal.overflow_add-place
overflow_add-place c =
    let s = c.requires.1 in
    omega (arith, room_at _ _ _ s, size_at _ _ _ s, s.packet.most)

pub slice_bounds-has_seal-count : goal.slice_bounds-has_seal-count
slice_bounds-has_seal-count c =
    let s = c.requires.1 in
    omega (arith, room_at _ _ _ s, size_at _ _ _ s, s.packet.most)

pub slice_bounds-has_seal-start : goal.slice_bounds-has_seal-start
slice_bounds-has_seal-start c =
    let s = c.requires.1 in
    omega (arith, room_at _ _ _ s, size_at _ _ _ s, s.packet.most)

pub has_seal-requires : goal.has_seal-requires
has_seal-requires c =
    let s = c.requires.1 in
    let text = after_at _ _ _ _ s (ap (λ n. c.args.place + n) (size_at _ _ _ s)) in
    rw take_rest (text ∙ ap attributes_text (sym (ap attributes_in text ∙ attributes_in-text s.after)))

pub returns-then-end-place : goal.returns-then-end-place
returns-then-end-place c = λ p s.
    elim c.then-end-place.branch [
      | then-end-place-via-then-end-place w ↦ wrong_size _ _ _ p _ s (λ e. w.if-end-place.true (ap (λ n. c.args.place + n) (size_at _ _ _ s ∙ ap (λ n. n + 2) e)))
      | then-end-place-via-else-end-place+then-has_seal w ↦
          let text = after_at _ _ _ _ s (ap (λ n. c.args.place + n) (size_at _ _ _ s)) in
          another _ _ _ p _ s (ap (λ xs. list_any is_seal xs) (sym (ap attributes_in text ∙ attributes_in-text s.after)) ∙ rw take_rest at (sym w.has_seal.ensures) ∙ w.if-has_seal.true)
    ]

pub seal_with_zeros-requires : goal.seal_with_zeros-requires
seal_with_zeros-requires c =
    let s = c.requires.1 in
    record {
      behind = omega (arith, s.place_is);
      inside = omega (arith, room_at _ _ _ s, size_at _ _ _ s);
    }

pub slice_bounds-value-end : goal.slice_bounds-value-end
slice_bounds-value-end c =
    let s = c.requires.1 in
    omega (arith, room_at _ _ _ s, size_at _ _ _ s, s.packet.most)

-- the value has sixteen octets
sixteen : (place size octet : ℕ) → octet ≡ size + 2 → place + octet ≡ place + 18 → size ≡ 16
sixteen place size octet e f = omega arith

-- no other seal follows
none_after : (octets : List ℕ) (p : PacketParts) (place octet : ℕ) (s : SealAt octets p place) → octet ≡ length s.value + 2
    → (b : Bool) → b ≡ false → b ≡ list_any is_seal (attributes_in (take (length octets - (place + octet)) (drop (place + octet) octets))) → list_any is_seal s.after ≡ false
none_after octets p place octet s e b is found =
    let text : drop (place + octet) octets ≡ attributes_text s.after = after_at octets p place (place + octet) s (ap (λ (n : ℕ). place + n) e) in
    ap (λ (xs : List AttributeParts). list_any is_seal xs) (sym (ap attributes_in text ∙ attributes_in-text s.after)) ∙ rw take_rest at (sym found) ∙ is

-- what the comparison says
said : (octets a value with_zeros secret : List ℕ) (p : PacketParts) (place count : ℕ) (s : SealAt octets p place) (b : Bool) → list_any is_seal s.after ≡ false → length s.value ≡ 16
    → count ≡ 16 → value ≡ with_zeros
    → with_zeros ≡ hmac_of secret (take 4 octets ++ a ++ octets_at octets 20 (place + 2 - 20) ++ replicate 16 0 ++ drop (place + 2 + 16) octets)
    → b ≡ pointwise nat_eq (take count (drop (place + 2) octets)) value → cond b Right Wrong ≡ seal_of secret (with_authenticator a p)
said octets a value with_zeros secret p place count s b none size e same is found =
    ap (λ (r : Bool). cond r Right Wrong) (found ∙ ap (λ (n : ℕ). pointwise nat_eq (take n (drop (place + 2) octets)) value) e
    ∙ ap (λ (xs : List ℕ). pointwise nat_eq (octets_at octets (place + 2) 16) xs) (same ∙ is))
    ∙ alone secret octets a p place s none size

pub returns-then-are_equal : goal.returns-then-are_equal
returns-then-are_equal c = λ p s.
    let octet = size_at _ _ _ s in
    ap (λ (b : Bool). cond b Right Wrong) (sym c.if-are_equal.true)
    ∙ said c.args.octets.now c.args.authenticator.now c.seal_with_zeros.result c.seal_with_zeros.result c.args.secret.now p c.args.place _ s c.are_equal.result (none_after _ p _ _ s octet c.has_seal.result c.if-has_seal.false c.has_seal.ensures)
    (sixteen c.args.place _ _ octet c.if-end-place.false) (omega arith) refl c.seal_with_zeros.ensures c.are_equal.ensures

pub returns-else-are_equal : goal.returns-else-are_equal
returns-else-are_equal c = λ p s.
    let octet = size_at _ _ _ s in
    ap (λ (b : Bool). cond b Right Wrong) (sym c.if-are_equal.false)
    ∙ said c.args.octets.now c.args.authenticator.now c.seal_with_zeros.result c.seal_with_zeros.result c.args.secret.now p c.args.place _ s c.are_equal.result (none_after _ p _ _ s octet c.has_seal.result c.if-has_seal.false c.has_seal.ensures)
    (sixteen c.args.place _ _ octet c.if-end-place.false) (omega arith) refl c.seal_with_zeros.ensures c.are_equal.ensures
