-- What the attributes of an Accounting-Request give in one pass: the pieces by place, and how long they are.
use Rattle.std.proofs.Common.{◌≡◌, ℕ, ◌+◌, ◌*◌, ◌≤◌, Bool, true, false, cond, eqb, inl, inr, List, [], ◌∷◌, ◌++◌, length, take, None, refl, ap, ◌∙◌, arith}
use Rattle.std.specs.List.{list_any, list_all}
use Rattle.std.proofs.lemmas.Bool.{cases_Bool, eqb-true}
use Rattle.wire_core.specs.Numbers.{u32, u64}
use Rattle.radius_packet.specs.Packet.{AttributeParts, attribute_text, attributes_text}
use Rattle.diameter_avp.proofs.CallerLemmas.{length-avp_text}
use Rattle.diameter_message.specs.PlainAvps.{plain_avp}
use Rattle.tunnel_map.specs.Tagged.{reading}
use Rattle.translation.specs.declared.direction.Direction.TheVariants.{Accounting}
use Rattle.translation.proofs.PlaceLemmas.{Places, any-here, any-before, take-before, first-alone, pieces_after-places}
use Rattle.translation.proofs.SeenLemmas as common
use Rattle.translation.proofs.SizeLemmas.{size, size-cons, size-nil, pieces-size, HasTags, owed_after, common-pays, common-keeps, nothing-keeps, owed_after-most}
use Rattle.accounting_map.specs.declared.requests.Passed.{Passed}
use Rattle.accounting_map.specs.Numbers.{number_in}
use Rattle.accounting_map.specs.Requests.{is_input, is_output, volume, packets_avp, termination_cause, cause_avp, piece, pieces}
use Rattle.accounting_map.specs.Passing.{volume_after, piece_after, noted, nothing, pieces_after}

-- ---- the types of the numbers

-- neither a Class nor tagged
abbrev IsPlain : AttributeParts → Type 0
IsPlain a = (eqb a.code 25 ≡ false) × (reading a.code a.value ≡ None)

input-types : (a : AttributeParts) → is_input a ≡ true → IsPlain a × (is_output a ≡ false)
input-types a e =
    elim (cases_Bool (eqb a.code 42)) [
      | inl low ↦ (let code = eqb-true a.code 42 low in ((rw code refl, rw code refl), rw code refl))
      | inr other ↦ (let high : eqb a.code 52 ≡ true = rw other at e in
          let code = eqb-true a.code 52 high in
          ((rw code refl, rw code refl), rw code refl))
    ]

output-types : (a : AttributeParts) → is_output a ≡ true → IsPlain a
output-types a e =
    elim (cases_Bool (eqb a.code 43)) [
      | inl low ↦ (let code = eqb-true a.code 43 low in (rw code refl, rw code refl))
      | inr other ↦ (let high : eqb a.code 53 ≡ true = rw other at e in
          let code = eqb-true a.code 53 high in
          (rw code refl, rw code refl))
    ]

-- ---- by place

-- What stood before is what was passed.
record Saw (passed : Passed) (before : List AttributeParts) : Type 0 where
  seen : common.Saw Accounting passed.seen before
  input : passed.input ≡ list_any is_input before
  output : passed.output ≡ list_any is_output before

Saw-nothing : Saw nothing []
Saw-nothing = record { seen = common.Saw-nothing Accounting; input = refl; output = refl }

-- a number that stands for itself
Saw-number : (passed : Passed) (before : List AttributeParts) (a : AttributeParts) → IsPlain a → is_input a ≡ false → is_output a ≡ false → Saw passed before → Saw passed (before ++ a ∷ [])
Saw-number passed before a plain not_input not_output saw = record {
  seen = common.Saw-passed Accounting passed.seen before a plain.0 plain.1 saw.seen;
  input = any-before is_input before a passed.input saw.input not_input;
  output = any-before is_output before a passed.output saw.output not_output;
}

next : (passed : Passed) (before : List AttributeParts) (a : AttributeParts) → Saw passed before → Saw (noted passed a) (before ++ a ∷ [])
unfolding noted
next passed before a saw =
    elim (cases_Bool (is_input a)) [
      | inl input ↦ (let types = input-types a input in
          rw input (record {
            seen = common.Saw-passed Accounting passed.seen before a types.0.0 types.0.1 saw.seen;
            input = any-here is_input before a input;
            output = any-before is_output before a passed.output saw.output types.1;
          }))
      | inr not_input ↦ elim (cases_Bool (is_output a)) [
        | inl output ↦ (let types = output-types a output in
            rw (not_input, output) (record {
              seen = common.Saw-passed Accounting passed.seen before a types.0 types.1 saw.seen;
              input = any-before is_input before a passed.input saw.input not_input;
              output = any-here is_output before a output;
            }))
        | inr not_output ↦ elim (cases_Bool (eqb a.code 47)) [
          | inl is ↦ (let code = eqb-true a.code 47 is in
              rw (not_input, not_output, is) (Saw-number passed before a (rw code refl, rw code refl) not_input not_output saw))
          | inr not_47 ↦ elim (cases_Bool (eqb a.code 48)) [
            | inl is ↦ (let code = eqb-true a.code 48 is in
                rw (not_input, not_output, not_47, is) (Saw-number passed before a (rw code refl, rw code refl) not_input not_output saw))
            | inr not_48 ↦ elim (cases_Bool (eqb a.code 49)) [
              | inl is ↦ (let code = eqb-true a.code 49 is in
                  rw (not_input, not_output, not_47, not_48, is) (Saw-number passed before a (rw code refl, rw code refl) not_input not_output saw))
              | inr not_49 ↦ rw (not_input, not_output, not_47, not_48, not_49) (record {
                seen = common.Saw-next Accounting passed.seen before a saw.seen;
                input = any-before is_input before a passed.input saw.input not_input;
                output = any-before is_output before a passed.output saw.output not_output;
              })
            ]
          ]
        ]
      ]
    ]

same : (all : List AttributeParts) (passed : Passed) (before rest : List AttributeParts) (a : AttributeParts) → Saw passed before → before ++ a ∷ rest ≡ all
    → piece_after all passed a ≡ piece all (length before) a
unfolding piece_after piece
same all passed before rest a saw e =
    let stood : before ≡ take (length before) all = take-before all before rest a e in
    elim (cases_Bool (is_input a)) [
      | inl input ↦ rw input (first-alone _ _ (plain_avp 363 (u64 (volume 42 52 all)) ∷ []) (saw.input ∙ ap (list_any is_input) stood))
      | inr not_input ↦ elim (cases_Bool (is_output a)) [
        | inl output ↦ rw (not_input, output) (first-alone _ _ (plain_avp 364 (u64 (volume 43 53 all)) ∷ []) (saw.output ∙ ap (list_any is_output) stood))
        | inr not_output ↦
            rw (not_input, not_output)
            (ap (λ avps. cond (eqb a.code 47) (packets_avp 365 a.value ∷ []) (cond (eqb a.code 48) (packets_avp 366 a.value ∷ []) (cond (eqb a.code 49) (cause_avp a.value ∷ []) avps)))
            (common.Saw-same Accounting all passed.seen before rest a saw.seen e))
      ]
    ]

places : (all : List AttributeParts) → Places (piece_after all) noted (piece all) Saw all
places all = record { next = next; same = same all }

-- the pass gives the pieces
pub pieces-are : (all : List AttributeParts) → pieces_after all nothing all ≡ pieces all
pieces-are all = pieces_after-places (piece_after all) noted (piece all) Saw all [] all nothing (places all) Saw-nothing refl

-- ---- how long the pieces are

length-u64 : (n : ℕ) → length (u64 n) ≡ 8
unfolding u64
length-u64 n = refl

length-u32 : (n : ℕ) → length (u32 n) ≡ 4
unfolding u32
length-u32 n = refl

eight-size : (code n : ℕ) → size (plain_avp code (u64 n) ∷ []) ≡ 16
eight-size code n = omega (arith, size-cons (plain_avp code (u64 n)) [], size-nil, length-avp_text (plain_avp code (u64 n)), length-u64 n)

four-size : (code n : ℕ) → size (plain_avp code (u32 n) ∷ []) ≡ 12
four-size code n = omega (arith, size-cons (plain_avp code (u32 n)) [], size-nil, length-avp_text (plain_avp code (u32 n)), length-u32 n)

volume-size : (before : Bool) (code n : ℕ) → size (volume_after before code n) ≤ 16
volume-size true code n = omega (arith, size-nil)
volume-size false code n = omega (arith, eight-size code n)

pays : (all : List AttributeParts) (passed : Passed) (a : AttributeParts) → HasTags passed.seen → true ≡ true
    → size (piece_after all passed a) + owed_after all (noted passed a).seen ≤ owed_after all passed.seen + 8 * length (attribute_text a)
unfolding piece_after noted
pays all passed a kept fits =
    elim (cases_Bool (is_input a)) [
      | inl input ↦ rw input (omega (arith, volume-size passed.input 363 (volume 42 52 all)))
      | inr not_input ↦ elim (cases_Bool (is_output a)) [
        | inl output ↦ rw (not_input, output) (omega (arith, volume-size passed.output 364 (volume 43 53 all)))
        | inr not_output ↦ elim (cases_Bool (eqb a.code 47)) [
          | inl is ↦ rw (not_input, not_output, is) (omega (arith, eight-size 365 (number_in a.value)))
          | inr not_47 ↦ elim (cases_Bool (eqb a.code 48)) [
            | inl is ↦ rw (not_input, not_output, not_47, is) (omega (arith, eight-size 366 (number_in a.value)))
            | inr not_48 ↦ elim (cases_Bool (eqb a.code 49)) [
              | inl is ↦ rw (not_input, not_output, not_47, not_48, is) (omega (arith, four-size 295 (termination_cause (number_in a.value))))
              | inr not_49 ↦ rw (not_input, not_output, not_47, not_48, not_49) (common-pays Accounting all passed.seen a kept)
            ]
          ]
        ]
      ]
    ]

keeps : (passed : Passed) (a : AttributeParts) → HasTags passed.seen → HasTags (noted passed a).seen
unfolding noted
keeps passed a kept =
    elim (cases_Bool (is_input a)) [
      | inl input ↦ rw input kept
      | inr not_input ↦ elim (cases_Bool (is_output a)) [
        | inl output ↦ rw (not_input, output) kept
        | inr not_output ↦ elim (cases_Bool (eqb a.code 47)) [
          | inl is ↦ rw (not_input, not_output, is) kept
          | inr not_47 ↦ elim (cases_Bool (eqb a.code 48)) [
            | inl is ↦ rw (not_input, not_output, not_47, is) kept
            | inr not_48 ↦ elim (cases_Bool (eqb a.code 49)) [
              | inl is ↦ rw (not_input, not_output, not_47, not_48, is) kept
              | inr not_49 ↦ rw (not_input, not_output, not_47, not_48, not_49) (common-keeps Accounting passed.seen a kept)
            ]
          ]
        ]
      ]
    ]

all-fit : (attributes : List AttributeParts) → list_all (λ (a : AttributeParts). true) attributes ≡ true
all-fit [] = refl
all-fit (a ∷ rest) = all-fit rest

-- all pieces of a packet have at most fourteen octets for each of its attributes'
pub pieces_after-size : (all : List AttributeParts) → size (pieces_after all nothing all) ≤ 14 * length (attributes_text all)
pieces_after-size all =
    omega (
      arith,
      pieces-size (piece_after all) noted (λ (a : AttributeParts). true) (λ (passed : Passed). HasTags passed.seen) (λ (passed : Passed). owed_after all passed.seen) 8
          (record { keeps = keeps; pays = pays all }) nothing all nothing-keeps (all-fit all),
      owed_after-most all nothing.seen,
    )
