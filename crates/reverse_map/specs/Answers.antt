-- What a Diameter request is answered (RFC 4005, sections 3.2 and 9.2; RFC 6733, sections 6.2, 7.1 and 9.7.2; the order of the
-- AVPs is profile).
use Rattle.std.specs.Prelude.{ℕ, Bool, ◌==◌, nat_le, nat_lt, ◌&&◌, ◌||◌, bit_and, bit_or, List, [], ◌∷◌, ◌++◌, length, Option, Some, None, if◌then◌else◌}
use Rattle.std.specs.List.{list_any, flat_map}
use Rattle.wire_core.specs.Numbers.{u32}
use Rattle.radius_packet.specs.Packet.{AttributeParts, PacketParts}
use Rattle.diameter_avp.specs.Avps.{AvpParts, avps_text}
use Rattle.diameter_message.specs.declared.header.Header.{Header}
use Rattle.diameter_message.specs.Message.{message_text}
use Rattle.diameter_message.specs.Finding.{first_number}
use Rattle.diameter_message.specs.PlainAvps.{origin_avps, plain_avp}
use Rattle.attribute_table.specs.declared.row.Row.{Row}
use Rattle.attribute_table.specs.Rows.{row_of}
use Rattle.attribute_table.specs.Images.{forward_image}
use Rattle.attribute_table.specs.Vendors.{vendor_parts}
use Rattle.translation.specs.declared.class.Class.{Class}
use Rattle.translation.specs.declared.class.Class.TheVariants.{Bad, Refusal, Challenge, Success}
use Rattle.translation.specs.Images.{image_avps, vendor_avps}
use Rattle.translation.specs.Judging.{is_key_attribute}
use Rattle.translation.specs.Reading.{goes_back, is_challenge}
use Rattle.translation.specs.Replies.{takes_vendors}
use Rattle.reverse_map.specs.declared.own.Reverse.{Reverse}
use Rattle.reverse_map.specs.Asked.{AskedParts}

-- ---- what a reply says

-- the codes of the replies to an Access-Request, and of that to an Accounting-Request (RFC 2865, section 3; RFC 2866, section 4)
abbrev pub is_reply_code : Header → ℕ → Bool
is_reply_code h code = if h.command == 265 then code == 2 || code == 3 || code == 11 else code == 5

-- an Access-Accept, an Access-Challenge, an Access-Reject; an Accounting-Response has no images
abbrev pub class_of : ℕ → Class
class_of code = if code == 2 then Success else if code == 11 then Challenge else if code == 3 then Refusal else Bad

-- a reply with a key isn't handed on
abbrev pub has_key : PacketParts → Bool
has_key reply = list_any is_key_attribute reply.attributes

-- DIAMETER_MULTI_ROUND_AUTH, DIAMETER_AUTHENTICATION_REJECTED, DIAMETER_SUCCESS (RFC 6733, section 7.1)
abbrev pub result_of : ℕ → ℕ
result_of code = if code == 11 then 1001 else if code == 3 then 4001 else 2001

-- or DIAMETER_UNABLE_TO_COMPLY
abbrev pub reply_result : PacketParts → ℕ
reply_result reply = if has_key reply then 5012 else result_of reply.code

-- ---- images

-- an attribute of a row that the answer takes up, where its value is good
abbrev pub row_avps : Class → Option Row → List ℕ → List AvpParts
row_avps class None value = []
row_avps class (Some row) value = if goes_back class row then image_avps row (forward_image row value) else []

abbrev pub vendor_images : Class → List ℕ → List AvpParts
vendor_images class value = if takes_vendors class then vendor_avps (vendor_parts value) else []

-- what one attribute gives: parts of a vendor, Session-Timeout, State, or the image by its row
abbrev pub image : Class → AttributeParts → List AvpParts
image class a =
    if a.code == 26 then vendor_images class a.value
    else if a.code == 27 then (if takes_vendors class && length a.value == 4 then plain_avp 27 a.value ∷ [] else [])
    else if a.code == 24 then (if is_challenge class then plain_avp 24 a.value ∷ [] else [])
    else row_avps class (row_of a.code) a.value

abbrev pub images : Class → List AttributeParts → List AvpParts
images class attributes = flat_map (image class) attributes

abbrev pub reply_images : PacketParts → List AvpParts
reply_images reply = if has_key reply then [] else images (class_of reply.code) reply.attributes

-- ---- what an answer repeats

abbrev pub number_avps : ℕ → Option ℕ → List AvpParts
number_avps code None = []
number_avps code (Some n) = plain_avp code (u32 n) ∷ []

-- an AA-Answer has Auth-Application-Id and the request's Auth-Request-Type, an Accounting-Answer its Accounting-Record-Type and
-- its Accounting-Record-Number
abbrev pub repeated : Header → List AvpParts → List AvpParts
repeated header avps =
    if header.command == 265
    then plain_avp 258 (u32 1) ∷ number_avps 274 (first_number 274 avps)
    else number_avps 480 (first_number 480 avps) ++ number_avps 485 (first_number 485 avps)

-- ---- answers

-- 3000 to 3999: flag E is set (RFC 6733, section 7.1.3)
abbrev pub is_protocol_error : ℕ → Bool
is_protocol_error code = nat_le 3000 code && nat_lt code 4000

abbrev pub error_flag : ℕ → ℕ
error_flag code = if is_protocol_error code then 32 else 0

-- the request's header, with its flag P alone
abbrev pub answer_header : Header → ℕ → Header
answer_header h code = record h { flags = bit_or (bit_and h.flags 64) (error_flag code) }

-- Session-Id, Result-Code, Origin-Host, Origin-Realm
abbrev pub names : Reverse → List ℕ → ℕ → List AvpParts
names own session code = plain_avp 263 session ∷ plain_avp 268 (u32 code) ∷ origin_avps own.host own.realm

-- and what is repeated
abbrev pub answer_head : Reverse → AskedParts → ℕ → List AvpParts
answer_head own q code = names own q.session code ++ repeated q.header q.avps

-- an answer without images
unfoldable pub refusal : Reverse → AskedParts → ℕ → List ℕ
refusal own q code = message_text (answer_header q.header code) (avps_text (answer_head own q code))

-- with the images of the reply
abbrev pub answer_avps : Reverse → AskedParts → PacketParts → List AvpParts
answer_avps own q reply = answer_head own q (reply_result reply) ++ reply_images reply

unfoldable pub answer_of : Reverse → AskedParts → PacketParts → List ℕ
answer_of own q reply =
    message_text (answer_header q.header (reply_result reply)) (avps_text (answer_avps own q reply))
