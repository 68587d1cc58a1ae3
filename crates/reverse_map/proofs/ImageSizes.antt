-- How long the images of a reply are.
use Rattle.std.proofs.Common.{◌≡◌, ℕ, ◌+◌, ◌*◌, ◌≤◌, Bool, true, false, cond, eqb, ◌&&◌, inl, inr, List, [], ◌∷◌, length, Option, Some, None, Result, Ok, Err, refl, arith}
use Rattle.std.proofs.lemmas.Bool.{cases_Bool}
use Rattle.std.proofs.lemmas.List.{length-append}
use Rattle.radius_packet.specs.Packet.{AttributeParts, attribute_text, attributes_text}
use Rattle.diameter_message.specs.PlainAvps.{plain_avp}
use Rattle.attribute_table.specs.declared.row.Row.{Row}
use Rattle.attribute_table.specs.declared.image.RowFault.{RowFault}
use Rattle.attribute_table.specs.Rows.{row_of}
use Rattle.attribute_table.specs.Images.{forward_image}
use Rattle.attribute_table.specs.Vendors.{vendor_parts}
use Rattle.attribute_table.proofs.Table.{images_keep_length}
use Rattle.translation.specs.declared.class.Class.{Class}
use Rattle.translation.specs.declared.direction.Direction.TheVariants.{Access}
use Rattle.translation.specs.Images.{image_avps, vendor_avps}
use Rattle.translation.specs.Passing.{common_after, nothing}
use Rattle.translation.specs.Reading.{goes_back, is_challenge}
use Rattle.translation.specs.Replies.{takes_vendors}
use Rattle.translation.proofs.SizeLemmas.{size, size-append, size-nil, size-plain, common-pays, nothing-keeps}
use Rattle.reverse_map.specs.Answers.{row_avps, vendor_images, image, images}

image_avps-size : (row : Row) (r : Result (List ℕ) RowFault) (value : List ℕ) → forward_image row value ≡ r → size (image_avps row r) ≤ length value + 11
image_avps-size row (Ok octets) value e = omega (arith, size-plain row.avp octets, images_keep_length row value octets e)
image_avps-size row (Err fault) value e = omega (arith, size-nil)

row-size : (class : Class) (r : Option Row) (value : List ℕ) → size (row_avps class r value) ≤ length value + 11
row-size class None value = omega (arith, size-nil)
row-size class (Some row) value =
    elim (cases_Bool (goes_back class row)) [
      | inl there ↦ rw there (image_avps-size row (forward_image row value) value refl)
      | inr not ↦ rw not (omega (arith, size-nil))
    ]

-- a request gives the same of a Vendor-Specific attribute
vendors-size : (value : List ℕ) → size (vendor_avps (vendor_parts value)) ≤ 8 * (length value + 2)
unfolding common_after
vendors-size value =
    let a : AttributeParts = record { code = 26; value = value } in
    omega (arith, common-pays Access [] nothing a nothing-keeps)

vendor_images-size : (class : Class) (value : List ℕ) → size (vendor_images class value) ≤ 8 * (length value + 2)
vendor_images-size class value =
    elim (cases_Bool (takes_vendors class)) [
      | inl taken ↦ rw taken (vendors-size value)
      | inr not ↦ rw not (omega (arith, size-nil))
    ]

taken-size : (taken : Bool) (code : ℕ) (value : List ℕ) → size (cond taken (plain_avp code value ∷ []) []) ≤ length value + 11
taken-size true code value = size-plain code value
taken-size false code value = omega (arith, size-nil)

image-size : (class : Class) (a : AttributeParts) → size (image class a) ≤ 8 * length (attribute_text a)
image-size class a =
    elim (cases_Bool (eqb a.code 26)) [
      | inl vendor ↦ rw vendor (omega (arith, vendor_images-size class a.value))
      | inr plain ↦
          elim (cases_Bool (eqb a.code 27)) [
            | inl timeout ↦ rw (plain, timeout) (omega (arith, taken-size (takes_vendors class && eqb (length a.value) 4) 27 a.value))
            | inr other ↦
                elim (cases_Bool (eqb a.code 24)) [
                  | inl state ↦ rw (plain, other, state) (omega (arith, taken-size (is_challenge class) 24 a.value))
                  | inr row ↦ rw (plain, other, row) (omega (arith, row-size class (row_of a.code) a.value))
                ]
          ]
    ]

pub images-size : (class : Class) (attributes : List AttributeParts) → size (images class attributes) ≤ 8 * length (attributes_text attributes)
images-size class [] = omega (arith, size-nil)
images-size class (a ∷ attributes) =
    omega (
      arith,
      size-append (image class a) (images class attributes),
      image-size class a,
      images-size class attributes,
      length-append (attribute_text a) (attributes_text attributes),
    )
