-- The image, one test after the other.
use Rattle.std.proofs.Common.{◌≡◌, ℕ, true, false, List, Err, refl}
use Rattle.std.specs.List.{list_any}
use Rattle.diameter_avp.specs.Avps.{AvpParts}
use Rattle.translation.specs.declared.direction.Direction.{Direction}
use Rattle.translation.specs.Reading.{is_key_avp}
use Rattle.reverse_map.specs.declared.fault.ReverseFault.TheVariants.{Unsupported, Unable}
use Rattle.reverse_map.specs.Attempts.{keyless_image}
use Rattle.reverse_map.specs.Requests.{is_unsupported, request_image}

pub unsupported_image : (direction : Direction) (id : ℕ) (random secret : List ℕ) (avps : List AvpParts) → list_any is_unsupported avps ≡ true
    → request_image direction id random secret avps ≡ Err Unsupported
unfolding request_image
unsupported_image direction id random secret avps found = rw found refl

pub key_image : (direction : Direction) (id : ℕ) (random secret : List ℕ) (avps : List AvpParts) → list_any is_unsupported avps ≡ false → list_any is_key_avp avps ≡ true
    → request_image direction id random secret avps ≡ Err Unable
unfolding request_image
key_image direction id random secret avps none found = rw (none, found) refl

pub image-keyless : (direction : Direction) (id : ℕ) (random secret : List ℕ) (avps : List AvpParts) → list_any is_unsupported avps ≡ false → list_any is_key_avp avps ≡ false
    → keyless_image direction id random secret avps ≡ request_image direction id random secret avps
unfolding request_image
image-keyless direction id random secret avps none keyless = rw (none, keyless) refl
