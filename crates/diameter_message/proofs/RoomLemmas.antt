-- How many octets the AVPs of a message take.
use Rattle.std.proofs.Common.{◌≡◌, ℕ, Bool, ◌+◌, ◌≤◌, List, [], ◌∷◌, ◌++◌, length, None, refl, ap, ◌∙◌, arith}
use Rattle.std.proofs.lemmas.List.{length-append}
use Rattle.wire_core.specs.Numbers.{u32}
use Rattle.diameter_avp.specs.Avps.{AvpParts, avp_text, avps_text, made}
use Rattle.diameter_avp.proofs.CallerLemmas.{avps_text-push, length-avp_text}
use Rattle.diameter_message.specs.declared.header.Header.{Header}
use Rattle.diameter_message.specs.PlainAvps.{plain_avp}
use Rattle.diameter_message.specs.Writer.{MessageWriterParts, begun, list_length, with_avps, Puts}

-- a header of eight octets, and up to three of padding
pub length-made : (list : List AvpParts) (code : ℕ) (mandatory : Bool) (body : List ℕ) → length (avps_text (list ++ made code None mandatory body ∷ [])) ≤ length (avps_text list) + (length body + 11)
length-made list code mandatory body =
    let a = made code None mandatory body in
    rw avps_text-push (omega (arith, length-append (avps_text list) (avp_text a), length-avp_text a))

pub Puts-made : (old new : MessageWriterParts) (code : ℕ) (mandatory : Bool) (body : List ℕ) → new ≡ with_avps old (made code None mandatory body ∷ []) → Puts old new (made code None mandatory body ∷ []) (length body + 11)
Puts-made old new code mandatory body e = record { list = e; length = rw e (length-made old.avps.list code mandatory body) }

pub Puts-number : (old new : MessageWriterParts) (code value : ℕ) (octets : List ℕ) → octets ≡ u32 value → Puts old new (plain_avp code octets ∷ []) (length octets + 11) → Puts old new (plain_avp code (u32 value) ∷ []) 15
unfolding u32
Puts-number old new code value octets e puts =
    record { list = puts.list ∙ ap (λ (body : List ℕ). with_avps old (plain_avp code body ∷ [])) e; length = omega (arith, puts.length, ap length e) }

-- a message that was begun has no AVPs
pub list_length-begun : (w : MessageWriterParts) (h : Header) → w ≡ begun h [] → list_length w ≡ 0
unfolding avps_text
list_length-begun w h e = rw e refl
